use Rattle.known.proofs.Along.{turning-start, turning, turning-said}
use Rattle.known.proofs.in_turn.Goals.{then-n-own-via-then-n-own, then-n-own-via-else-n-own+then-n-ge-MOST_NAMES}
use Rattle.known.proofs.in_turn.Goals as goal

pub loop-at-init : goal.loop-at-init
loop-at-init c = let h = c.default-c.ensures in turning-start _ _ h.0 h.1.0 h.1.1 c.requires

pub number-n-requires : goal.number-n-requires
number-n-requires c = search turning

pub returns-then-n-own : goal.returns-then-n-own
returns-then-n-own c = λ l h. elim c.then-n-own.branch [ then-n-own-via-then-n-own w ↦ search turning-said | then-n-own-via-else-n-own+then-n-ge-MOST_NAMES w ↦ search turning-said ]

pub past-at-requires : goal.past-at-requires
past-at-requires c = (search turning, search turning)

pub loop-at-preserved : goal.loop-at-preserved
loop-at-preserved c = search turning

pub returns : goal.returns
returns c = λ l h. search turning-said
