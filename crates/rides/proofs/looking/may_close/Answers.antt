use Rattle.rides.proofs.Rides.{kept-valid, some_first, apart-short, apart_other, not-false}
use mathlib.Core.Path.{sym as inv}
use mathlib.Core.Bool.{true≢false}
use lib.Seq.{length-take-le}
use borrow.Author.Rules.{rules}
use Rattle.rides.proofs.looking.may_close.Goals as goal

pub returns-then-s-eq0 : goal.returns-then-s-eq0
returns-then-s-eq0 c = record { apart = λ e. absurd (true≢false e); held = λ g a h. h }

pub returns-then-detector-x : goal.returns-then-detector-x
returns-then-detector-x c = record { apart = λ e. absurd (true≢false e); held = λ g a h. h }

pub returns-then-s-detector : goal.returns-then-s-detector
returns-then-s-detector c = record { apart = λ e. apart-short _ _ _ _ _ _ (search rules) (search rules) (search rules); held = λ g a h. h }

pub slice_bounds-is_other-end : goal.slice_bounds-is_other-end
slice_bounds-is_other-end c = inv (length-take-le c.args.x.kept c.args.saved.now (kept-valid _ _ c.requires.0).1)

pub is_other-requires : goal.is_other-requires
is_other-requires c = record { holds = some_first _ _ _ _ (search rules) c.requires.1; valids = (kept-valid _ _ c.requires.0).0 }

pub returns : goal.returns
returns c = record { apart = λ e. apart_other _ _ _ _ _ _ (search rules) (search rules) (c.is_other.ensures.other (not-false _ e)); held = c.is_other.ensures.held }
