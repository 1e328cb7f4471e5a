use Rattle.rides.proofs.Rides.{open_first, foreseen}
use borrow.Author.Rules.{rules}
use Rattle.rides.proofs.looking.look_ahead.Goals as goal

pub returns-then-may_close : goal.returns-then-may_close
returns-then-may_close c = record { foreseen = tt; held = c.may_close.ensures.held }

pub draw-requires : goal.draw-requires
draw-requires c = open_first _ _ _ _ _ _ c.args.x (c.may_close.ensures.apart (search rules)) c.may_close.ensures.held c.requires.1

pub returns : goal.returns
returns c = record { foreseen = let y = c.in_ok-kept.ensures.drawn in (y.0, foreseen _ _ _ _ _ _ c.args.x (c.may_close.ensures.apart (search rules)) c.may_close.ensures.held _ _ _ c.due-due.ensures y.1); held = λ g a h. c.draw.ensures.held g a (c.may_close.ensures.held g a h) }
