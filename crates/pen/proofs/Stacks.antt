-- What is owed, on the stack.
use Prim.Native.Nat.{ℕ, zero, suc, ◌+◌, ◌≤◌, ◌<◌}
use mathlib.Core.Path.{◌≡◌, refl, sym as inv, ap, ◌∙◌, subst}
use mathlib.Core.Bool.{Bool, true, false, not}
use mathlib.Core.List.{List, [], ◌∷◌, ◌++◌, append_assoc}
use native.Mathlib.Omega.{arith}
use native.Mathlib.Decide.{dec_lt}
use borrow.Author.Tests.{not-false}
use lib.ListN.{length, get_or, drop, drop_of_length-le}
use lib.Seq.{drop-cons}
use Rattle.printouts.specs.Walk.{begun, closings, left}
use Rattle.printouts.specs.Laying.{Lays, lays-then}
use Rattle.pen.specs.declared.Pen.{Pen}
use Rattle.pen.specs.Parts.{brackets, comma, closings-are, full, Room, Closed, Ended}

-- A comma behind a term

module _ (stack : List ℕ) (top : ℕ) where
  here : top < length stack → drop top stack ≡ get_or stack top 0 ∷ drop (suc top) stack
  here h = drop-cons stack top 0 h

  pub comma-here : (area area' : List ℕ) (at r : ℕ) → top < length stack → Lays area area' at r (44 ∷ []) → Lays area area' at r (comma (drop top stack))
  comma-here area area' at r h p = subst (Lays area area' at r) (inv (ap comma (here h))) p

-- Full symbols close

pub record Closing (area₀ area stack : List ℕ) (at end top i : ℕ) : Type 0 where
  pub inside : i ≤ 4096
  pub written : List ℕ
  pub laid : Lays area₀ area at end written
  pub rest : written ++ brackets (drop i stack) ≡ brackets (drop top stack)
  pub owed : left (drop i stack) ≡ left (drop top stack)

module _ (area₀ stack : List ℕ) (at top : ℕ) where
  -- a full one stands on the stack
  record Full (i : ℕ) : Type 0 where
    below : i < length stack
    zero_is : drop i stack ≡ 0 ∷ drop (suc i) stack

  full-means : (i : ℕ) → full (drop i stack) ≡ true → Full i
  full-means i f =
      elim (dec_lt i (length stack)) [
        | yes h ↦ record { below = h; zero_is = drop-cons stack i 0 h ∙ ap (λ (x : ℕ). x ∷ drop (suc i) stack) (none (get_or stack i 0) (drop (suc i) stack) (inv (ap full (drop-cons stack i 0 h)) ∙ f)) }
        | no h ↦ let z : ◌≡◌ {A = ℕ} 0 1 = cc (inv (ap full (drop_of_length-le stack {i = i} (omega arith))) ∙ f) in absurd (omega arith)
      ]
    where
      none : (x : ℕ) (o : List ℕ) → full (x ∷ o) ≡ true → x ≡ 0
      none zero o e = refl
      none (suc x) o e = let z : ◌≡◌ {A = ℕ} 0 1 = cc in absurd (omega arith)

  pub closing-step : (area area' : List ℕ) (end r i : ℕ) (t : Bool) → Room stack top → Closing area₀ area stack at end top i → t ≡ full (drop i stack) → not t ≡ false → Lays area area' end r (41 ∷ []) →
      Closing area₀ area' stack at r top (i + 1)
  closing-step area area' end r i t m g e f p =
      let w = full-means i (inv e ∙ not-false t f) in
      let q : suc i ≡ i + 1 = omega arith in
      let o : drop i stack ≡ 0 ∷ drop (i + 1) stack = w.zero_is ∙ ap (λ (k : ℕ). 0 ∷ drop k stack) q in
      record {
        inside = omega (arith, w.below, m.size);
        written = g.written ++ (41 ∷ []);
        laid = lays-then area₀ area area' at end r g.written (41 ∷ []) g.laid p;
        rest = append_assoc g.written (41 ∷ []) (brackets (drop (i + 1) stack)) ∙ ap (λ (x : List ℕ). g.written ++ x) (inv (ap brackets o)) ∙ g.rest;
        owed = inv (ap left o) ∙ g.owed;
      }

-- A term ends

pub ended : (a b c stack stack' : List ℕ) (pen shut out : Pen) (end : ℕ) → drop pen.top stack' ≡ begun (drop pen.top stack) → Room stack' pen.top →
    Closed a b stack' pen shut → Lays b c shut.at end (comma (drop shut.top stack')) → out ≡ record { at = end; top = shut.top; turn = shut.turn } → Ended a c stack stack' pen out
ended a b c stack stack' pen shut out end e r p q f =
    subst (Ended a c stack stack' pen) (inv f)
    (record {
      text =
          subst (Lays a c pen.at end)
          (ap (λ (x : List ℕ). brackets (drop pen.top stack') ++ comma x) p.owed ∙ inv (closings-are (drop pen.top stack')) ∙ ap closings e)
          (lays-then a b c pen.at shut.at end (brackets (drop pen.top stack')) (comma (drop shut.top stack')) p.text q);
      owed = p.owed ∙ ap left e;
      turn = p.turn;
      room = record { size = r.size; inside = p.inside };
    })
