-- One pass over a text, piece by piece.
use Rattle.std.specs.Prelude.{ℕ, suc, ◌-◌, ◌≤◌, ◌<◌, ◌≡◌, List, [], length, drop, Result, Ok, Err}
use Rattle.grammar.specs.Syntax.{Rule}
use Rattle.reading.specs.Part.{formulas, between, State, state, start, rules_of}
use Rattle.reading.specs.Reader as Reader
use Rattle.reading.proofs.Whole.{Healthy}
use Rattle.reading.specs.Reader.{Outcome, walk}
use Rattle.pieces.specs.declared.Code.TheVariants.{Unexpected}
use Rattle.pieces.specs.declared.Refusal.{Refusal}
use Rattle.pieces.specs.Refusal.{number, refusal}
use Rattle.stages.specs.declared.Mode.{Mode}
use Rattle.stages.specs.declared.Mode.TheVariants.{Between, Expects, Named, Complete}
use Rattle.stages.specs.declared.Stage.{Stage}
use Rattle.stages.specs.Stage.{Held}
use Rattle.drafts.specs.declared.Draft.{Draft}
use Rattle.reader.specs.Kept.{Kept, Sofar, Turning}
use Rattle.reader.specs.declared.Turn.{Turn}

abbrev pub starting : Stage
starting = record { mode = Between; at = 0; len = 0; depth = 0; formulas = 0; nodes = 0; variables = 0; rules = 0 }

abbrev pub blank : Draft
blank = record { from = 2; len = 0; constants = 0; compounds = 0; predicates = 0 }

abbrev pub ends : Mode → Draft → ℕ → Result Draft Refusal
ends Between b at = Ok b
ends Expects b at = Err (refusal Unexpected at)
ends Named b at = Err (refusal Unexpected at)
ends Complete b at = Err (refusal Unexpected at)

-- storage in which nothing is held yet
pub record Empty (text out opens starts lens heads nexts : List ℕ) : Type 0 where
  pub nothing : Kept text out opens starts lens heads nexts blank start

-- what the definition reads the text as, its size apart
abbrev pub whole : List ℕ → Outcome
whole text = walk (suc (length text)) start 0 text

pub record Rules (text out opens starts lens heads nexts : List ℕ) (b : Draft) : Type 0 where
  pub rules : List Rule
  pub reads : whole text ≡ Reader.read (rules_of rules [])
  pub sofar : Sofar text out opens starts lens heads nexts b (state rules (formulas []) between)

abbrev pub EndsWith : List ℕ → List ℕ → List ℕ → List ℕ → List ℕ → List ℕ → List ℕ → Result Draft Refusal → Type 0
EndsWith text out opens starts lens heads nexts (Err r) = whole text ≡ Reader.refused (number r.code) r.place
EndsWith text out opens starts lens heads nexts (Ok b) = Rules text out opens starts lens heads nexts b

pub record Ends (text out opens starts lens heads nexts : List ℕ) (r : Result Draft Refusal) : Type 0 where
  pub ends_with : EndsWith text out opens starts lens heads nexts r

-- a piece, while the book can still be of 32,768 bytes or is already longer
pub record Grows (text out opens starts lens heads nexts : List ℕ) (w : Turn) : Type 0 where
  pub at : ℕ
  pub before : State
  pub after : State
  pub sofar : Sofar text out opens starts lens heads nexts w.draft before
  pub turning : Turning text at w before after

pub record Grown (text out out' opens opens' starts lens heads nexts starts' lens' heads' nexts' : List ℕ) (w : Turn) (r : Draft) : Type 0 where
  pub sofar : (at : ℕ) (s s' : State) → Sofar text out opens starts lens heads nexts w.draft s → Turning text at w s s' → Sofar text out' opens' starts' lens' heads' nexts' r s'

-- where the pass stands
pub record Going (text counts vars out opens starts lens heads nexts : List ℕ) (c : Stage) (b : Draft) (at : ℕ) : Type 0 where
  pub now : State
  pub held : Held text counts vars c now
  pub sofar : Sofar text out opens starts lens heads nexts b now
  pub fuel : ℕ
  pub enough : length text - at < fuel
  pub left : walk fuel now at (drop at text) ≡ whole text
  pub healthy : Healthy now.part now.mode
  pub inside : at ≤ length text
  pub short : length text ≤ 65536
