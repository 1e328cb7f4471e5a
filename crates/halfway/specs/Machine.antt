-- What may stand next in a query's text, by few modes and the open brackets alone.
use Rattle.std.specs.Prelude.{ℕ, zero, suc, ◌+◌, Bool, true, false, List, [], ◌∷◌, length}
use Rattle.grammar.specs.Token.{Token, name, variable, opening, closing, comma, arrow, stop, token, blank, comment, spelt}
use Rattle.grammar.specs.Front.{Front, front, broken, unexpected, front_of}
use Rattle.reading.specs.Reader.{long}
use Rattle.asking.specs.Asking.{Tally, counted, limit, Outcome, read, refused}
use Rattle.halfway.specs.declared.Mode.{Mode}
use Rattle.halfway.specs.declared.Mode.TheVariants.{Begin, Expects, Named, Complete, Over, Wrong}

abbrev pub settled : Mode → Mode
settled Begin = Begin
settled Expects = Expects
settled Named = Complete
settled Complete = Complete
settled Over = Over
settled Wrong = Wrong

abbrev pub when : Bool → Mode → Mode
when true m = m
when false m = Wrong

abbrev pub unless : Bool → Mode → Mode
unless true m = Wrong
unless false m = m

abbrev pub on_name : Mode → Mode
on_name Begin = Named
on_name Expects = Named
on_name Named = Wrong
on_name Complete = Wrong
on_name Over = Wrong
on_name Wrong = Wrong

abbrev pub on_variable : Mode → Bool → Mode
on_variable Begin deep = Wrong
on_variable Expects deep = when deep Complete
on_variable Named deep = Wrong
on_variable Complete deep = Wrong
on_variable Over deep = Wrong
on_variable Wrong deep = Wrong

abbrev pub on_opening : Mode → Mode
on_opening Begin = Wrong
on_opening Expects = Wrong
on_opening Named = Expects
on_opening Complete = Wrong
on_opening Over = Wrong
on_opening Wrong = Wrong

-- behind a formula or an argument
abbrev pub behind : Mode → Mode → Mode
behind Begin n = Wrong
behind Expects n = Wrong
behind Named n = n
behind Complete n = n
behind Over n = Wrong
behind Wrong n = Wrong

abbrev pub after : Mode → Bool → Token → Mode
after m deep (name w) = on_name m
after m deep (variable w) = on_variable m deep
after m deep opening = on_opening m
after m deep closing = behind m (when deep Complete)
after m deep comma = behind m Expects
after m deep arrow = Wrong
after m deep stop = behind m (unless deep Over)

-- some bracket is open
abbrev pub deep : List ℕ → Bool
deep [] = false
deep (b ∷ bs) = true

-- the text may end
abbrev pub may_end : Mode → Bool → Bool
may_end Begin deep = true
may_end Expects deep = false
may_end Named true = false
may_end Named false = true
may_end Complete true = false
may_end Complete false = true
may_end Over deep = true
may_end Wrong deep = false

-- Answers: a query's text, or a refusal with its place

pub data Answer : Type 0 where
  fine : Answer
  bad : ℕ → ℕ → Answer

abbrev pub told : Outcome → Answer
told (read fs) = fine
told (refused c i) = bad c i

abbrev pub sized : ℕ → Bool → ℕ → Answer → Answer
sized zero false at more = more
sized zero true at more = bad 42 (at + 32)
sized (suc c) l at more = bad (suc c) at

abbrev pub judged : Mode → ℕ → Bool → ℕ → (Mode → Answer) → Answer
judged Wrong c l at more = bad 41 at
judged Begin c l at more = sized c l at (more Begin)
judged Expects c l at more = sized c l at (more Expects)
judged Named c l at more = sized c l at (more Named)
judged Complete c l at more = sized c l at (more Complete)
judged Over c l at more = sized c l at (more Over)

abbrev pub half : Mode → ℕ → Answer
half Wrong at = bad 41 at
half Begin at = bad 41 (at + 1)
half Expects at = bad 41 (at + 1)
half Named at = bad 41 (at + 1)
half Complete at = bad 41 (at + 1)
half Over at = bad 41 (at + 1)

abbrev pub from : Mode → Tally → ℕ → Front → (Mode → Tally → ℕ → List ℕ → Answer) → Answer
from m y at (front (token t) rest) more = judged (after m (deep y.brackets) t) (limit y t) (long t) at (λ n. more n (counted y t) (at + length (spelt (token t))) rest)
from m y at (front (blank b) rest) more = more (settled m) y (at + 1) rest
from m y at (front (comment c) rest) more = more (settled m) y (at + length (spelt (comment c))) rest
from m y at (broken t) more = half (after m (deep y.brackets) t) at
from m y at unexpected more = bad 41 at

abbrev pub ended : Bool → ℕ → Answer
ended true at = fine
ended false at = bad 41 at

abbrev pub pass : ℕ → Mode → Tally → ℕ → List ℕ → Answer
pass zero m y at rest = ended (may_end m (deep y.brackets)) at
pass (suc k) m y at [] = ended (may_end m (deep y.brackets)) at
pass (suc k) m y at (b ∷ rest) = from m y at (front_of (b ∷ rest)) (pass k)
