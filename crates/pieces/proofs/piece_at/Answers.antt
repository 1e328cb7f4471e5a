use mathlib.Core.Path.{sym, ap, ◌∙◌}
use Rattle.pieces.specs.Found.{class_of}
use Rattle.pieces.proofs.Shown.{shows-opening, shows-name, shows-variable, shows_space, shows-comment, shows-closing, shows-comma, shows-stop, shows-arrow, shows_nothing}
use Rattle.pieces.proofs.piece_at.Goals as goal

pub returns-in-Bracket : goal.returns-in-Bracket
returns-in-Bracket c = shows-opening _ _ c.requires (sym c.class_of.ensures ∙ ap class_of c.in-Bracket.is)

pub returns-in-Small : goal.returns-in-Small
returns-in-Small c = shows-name _ _ c.requires _ (sym c.class_of.ensures ∙ ap class_of c.in-Small.is) c.word_end.ensures

pub returns-in-Capital : goal.returns-in-Capital
returns-in-Capital c = shows-variable _ _ c.requires _ (sym c.class_of.ensures ∙ ap class_of c.in-Capital.is) c.word_end-in-Capital.ensures

pub returns-in-Blank : goal.returns-in-Blank
returns-in-Blank c = shows_space _ _ c.requires (sym c.class_of.ensures ∙ ap class_of c.in-Blank.is)

pub returns-in-Percent : goal.returns-in-Percent
returns-in-Percent c = shows-comment _ _ c.requires _ (sym c.class_of.ensures ∙ ap class_of c.in-Percent.is) c.comment_end.ensures

pub returns-in-Closing : goal.returns-in-Closing
returns-in-Closing c = shows-closing _ _ c.requires (sym c.class_of.ensures ∙ ap class_of c.in-Closing.is)

pub returns-in-Comma : goal.returns-in-Comma
returns-in-Comma c = shows-comma _ _ c.requires (sym c.class_of.ensures ∙ ap class_of c.in-Comma.is)

pub returns-in-Stop : goal.returns-in-Stop
returns-in-Stop c = shows-stop _ _ c.requires _ (sym c.class_of.ensures ∙ ap class_of c.in-Stop.is) c.stop_at.ensures

pub returns-in-Colon : goal.returns-in-Colon
returns-in-Colon c = shows-arrow _ _ c.requires _ (sym c.class_of.ensures ∙ ap class_of c.in-Colon.is) c.arrow_at.ensures

pub returns-in-Other : goal.returns-in-Other
returns-in-Other c = shows_nothing _ _ c.requires (sym c.class_of.ensures ∙ ap class_of c.in-Other.is)
