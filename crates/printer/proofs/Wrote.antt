-- What each record adds to the text.
use Prim.Native.Nat.{ℕ, zero, suc}
use mathlib.Core.Path.{◌≡◌, refl, sym as inv, ap, ◌∙◌, subst}
use mathlib.Core.List.{List, [], ◌∷◌, ◌++◌, append-nil}
use native.Mathlib.Omega.{arith}
use lib.ListN.{length, drop, drop_of_length-le}
use Rattle.format.specs.declared.Record.TheVariants.{Variable, Constant, Compound, Formula}
use Rattle.grammar.specs.Names as Names
use Rattle.grammar.specs.Names.{Sort}
use Rattle.printing.specs.Named.{Naming, variable_name}
use Rattle.namelist.specs.List.{Entry, naming}
use Rattle.namelist.specs.ListLaws.{Stands}
use Rattle.printouts.specs.declared.Turn.{Turn}
use Rattle.printouts.specs.Walk.{sign, next_turn, begun, deeper, opened, bracket, closings}
use Rattle.printouts.specs.Laying.{Lays, lays-then}
use Rattle.pen.specs.declared.Pen.{Pen}
use Rattle.pen.specs.Parts.{Room, Ended}
use Rattle.printer.specs.Parts.{Wrote}

abbrev moved : Pen → ℕ → Pen
moved pen end = record { at = end; top = pen.top; turn = pen.turn }

-- what the list calls a symbol, laid
abbrev Laid : List ℕ → Sort → ℕ → List ℕ → List ℕ → ℕ → ℕ → Type 0
Laid s k n a b at end = (l : List Entry) → Stands s 0 l → Lays a b at end (naming l k n)

pub wrote-variable : (a b c stack stack' : List ℕ) (pen out : Pen) (end v : ℕ) → Lays a b pen.at end (variable_name v) → Ended b c stack stack' (moved pen end) out →
    (name : Naming) → Wrote name a c stack stack' pen out (Variable v)
wrote-variable a b c stack stack' pen out end v p q name =
    record { text = lays-then a b c pen.at end out.at (variable_name v) (closings (begun (drop pen.top stack))) p q.text; owed = q.owed; turn = q.turn; room = q.room }

pub wrote-constant : (s a b c stack stack' : List ℕ) (pen out : Pen) (end n : ℕ) → Laid s Names.Constant n a b pen.at end → Ended b c stack stack' (moved pen end) out →
    (l : List Entry) → Stands s 0 l → Wrote (naming l) a c stack stack' pen out (Constant n)
wrote-constant s a b c stack stack' pen out end n p q l h =
    record {
      text = lays-then a b c pen.at end out.at (naming l Names.Constant n) (closings (begun (drop pen.top stack))) (p l h) q.text;
      owed = q.owed;
      turn = q.turn;
      room = q.room;
    }

pub wrote-compound : (s a b c stack mid stack' : List ℕ) (pen out : Pen) (name end top f n : ℕ) → Laid s Names.Compound f a b pen.at name → Lays b c name end (40 ∷ []) →
    drop pen.top mid ≡ begun (drop pen.top stack) → drop top stack' ≡ deeper n (drop pen.top mid) → Room stack' top → out ≡ record { at = end; top = top; turn = pen.turn } →
    (l : List Entry) → Stands s 0 l → Wrote (naming l) a c stack stack' pen out (Compound f n)
wrote-compound s a b c stack mid stack' pen out name end top f n p q e d r o l h =
    subst (λ (x : Pen). Wrote (naming l) a c stack stack' pen x (Compound f n)) (inv o)
    (record {
      text = lays-then a b c pen.at name end (naming l Names.Compound f) (40 ∷ []) (p l h) q;
      owed = d ∙ ap (deeper n) e;
      turn = refl;
      room = r;
    })

none-owed : (stack : List ℕ) → length stack ≡ 4096 → drop 4096 stack ≡ []
none-owed stack h = drop_of_length-le stack {i = 4096} (omega (arith, h))

opened_some : (n : ℕ) → (n ≡ 0 → ⊥) → deeper n [] ≡ opened n
opened_some zero d = absurd (d refl)
opened_some (suc n) d = refl

bracket-some : (n : ℕ) → (n ≡ 0 → ⊥) → 40 ∷ [] ≡ bracket n
bracket-some zero d = absurd (d refl)
bracket-some (suc n) d = refl

pub wrote-formula_0 : (s a b c stack : List ℕ) (pen out : Pen) (i name p n : ℕ) (turn : Turn) → Lays a b pen.at i (sign pen.turn) → Laid s Names.Predicate p b c i name →
    turn ≡ next_turn pen.turn → n ≡ 0 → Room stack pen.top → out ≡ record { at = name; top = 4096; turn = turn } →
    (l : List Entry) → Stands s 0 l → Wrote (naming l) a c stack stack pen out (Formula p n)
wrote-formula_0 s a b c stack pen out i name p n turn f g t z r o l h =
    subst (λ (m : ℕ). Wrote (naming l) a c stack stack pen out (Formula p m)) (inv z)
    (subst (λ (x : Pen). Wrote (naming l) a c stack stack pen x (Formula p 0)) (inv o)
    (record {
      text =
          subst (λ (w : List ℕ). Lays a c pen.at name (sign pen.turn ++ w)) (inv (append-nil (naming l Names.Predicate p)))
          (lays-then a b c pen.at i name (sign pen.turn) (naming l Names.Predicate p) f (g l h));
      owed = none-owed stack r.size;
      turn = t;
      room = record { size = r.size; inside = omega arith };
    }))

pub wrote-formula : (s a b c d stack stack' : List ℕ) (pen out : Pen) (i name end top p n : ℕ) (turn : Turn) → Lays a b pen.at i (sign pen.turn) → Laid s Names.Predicate p b c i name →
    turn ≡ next_turn pen.turn → (n ≡ 0 → ⊥) → Lays c d name end (40 ∷ []) → drop top stack' ≡ deeper n (drop 4096 stack) → Room stack' top → Room stack pen.top →
    out ≡ record { at = end; top = top; turn = turn } → (l : List Entry) → Stands s 0 l → Wrote (naming l) a d stack stack' pen out (Formula p n)
wrote-formula s a b c d stack stack' pen out i name end top p n turn f g t z q e r m o l h =
    subst (λ (x : Pen). Wrote (naming l) a d stack stack' pen x (Formula p n)) (inv o)
    (record {
      text =
          subst (λ (w : List ℕ). Lays a d pen.at end (sign pen.turn ++ (naming l Names.Predicate p ++ w))) (bracket-some n z)
          (lays-then a b d pen.at i end (sign pen.turn) (naming l Names.Predicate p ++ (40 ∷ [])) f
          (lays-then b c d i name end (naming l Names.Predicate p) (40 ∷ []) (g l h) q));
      owed = e ∙ ap (deeper n) (none-owed stack m.size) ∙ opened_some n z;
      turn = t;
      room = r;
    })
