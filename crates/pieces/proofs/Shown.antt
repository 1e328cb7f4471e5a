-- What is answered of the piece at a place stands there.
use Prim.Native.Nat.{ℕ, suc, ◌+◌, ◌-◌, ◌≤◌, ◌<◌}
use mathlib.Core.Path.{◌≡◌, refl, sym as inv, ap, ap₂, ◌∙◌}
use mathlib.Core.List.{List, [], ◌∷◌}
use native.Mathlib.Omega.{arith}
use lib.Dec.{eqb}
use lib.ListN.{length, get_or, take, drop, length-drop}
use lib.Seq.{drop-cons, drop-drop}
use Rattle.terms.specs.Cases.{cases}
use Rattle.grammar.specs.Byte.{goes_on}
use Rattle.grammar.specs.Token.{name, variable, comment, token, arrow, stop, after_stop}
use Rattle.grammar.specs.Front as Front
use Rattle.grammar.specs.Front.{front, a_bracket, a_name, a_variable, a_blank, a_comment, a_closing, a_comma, a_stop, an_arrow, nothing, class, cut, front_of, in_comment, stop_at, arrow_at, run}
use Rattle.pieces.specs.declared.Found.{Found}
use Rattle.pieces.specs.declared.Found.TheVariants as F
use Rattle.pieces.specs.Found.{part, Ends, front_at, Inside, Shows, stop_found, arrow_found}

module _ (s : List ℕ) (at : ℕ) (l : at < length s) where
  behind : drop at s ≡ get_or s at 0 ∷ drop (at + 1) s
  behind = drop-cons s at 0 l ∙ ap (λ (k : ℕ). get_or s at 0 ∷ drop k s) (let q : suc at ≡ at + 1 = omega arith in q)

  seen : (k : Front.Class) → class (get_or s at 0) ≡ k → cut k (get_or s at 0) (drop (at + 1) s) ≡ front_of (drop at s)
  seen k e = inv (ap front_of behind ∙ ap (λ (c : Front.Class). cut c (get_or s at 0) (drop (at + 1) s)) e)

  part-first : (end : ℕ) → at + 1 ≤ end → part s at end ≡ get_or s at 0 ∷ part s (at + 1) end
  part-first end h =
      ap (take (end - at)) behind
      ∙ ap (λ (k : ℕ). take k (get_or s at 0 ∷ drop (at + 1) s)) (let q : end - at ≡ suc (end - (at + 1)) = omega arith in q)

  pub shows-opening : class (get_or s at 0) ≡ a_bracket → Shows s at F.Opening
  shows-opening e = record { says = seen a_bracket e; inside = omega arith }

  pub shows-closing : class (get_or s at 0) ≡ a_closing → Shows s at F.Closing
  shows-closing e = record { says = seen a_closing e; inside = omega arith }

  pub shows-comma : class (get_or s at 0) ≡ a_comma → Shows s at F.Comma
  shows-comma e = record { says = seen a_comma e; inside = omega arith }

  pub shows_space : class (get_or s at 0) ≡ a_blank → Shows s at F.Space
  shows_space e = record { says = seen a_blank e; inside = omega arith }

  pub shows_nothing : class (get_or s at 0) ≡ nothing → Shows s at F.Nothing
  shows_nothing e = record { says = seen nothing e; inside = omega arith }

  pub shows-name : (end : ℕ) → class (get_or s at 0) ≡ a_name → Ends goes_on s (at + 1) end → Shows s at (F.Name end)
  shows-name end e h =
      let w : part s at end ≡ get_or s at 0 ∷ run goes_on (drop (at + 1) s) = part-first end h.onward ∙ ap (λ (x : List ℕ). get_or s at 0 ∷ x) (inv h.passes) in
      record { says = ap₂ (λ (x y : List ℕ). front (token (name x)) y) w (inv h.left) ∙ seen a_name e; inside = (omega (arith, h.onward), h.inside) }

  pub shows-variable : (end : ℕ) → class (get_or s at 0) ≡ a_variable → Ends goes_on s (at + 1) end → Shows s at (F.Variable end)
  shows-variable end e h =
      let w : part s at end ≡ get_or s at 0 ∷ run goes_on (drop (at + 1) s) = part-first end h.onward ∙ ap (λ (x : List ℕ). get_or s at 0 ∷ x) (inv h.passes) in
      record { says = ap₂ (λ (x y : List ℕ). front (token (variable x)) y) w (inv h.left) ∙ seen a_variable e; inside = (omega (arith, h.onward), h.inside) }

  pub shows-comment : (end : ℕ) → class (get_or s at 0) ≡ a_comment → Ends in_comment s (at + 1) end → Shows s at (F.Comment end)
  shows-comment end e h =
      record { says = ap₂ (λ (x y : List ℕ). front (comment x) y) (inv h.passes) (inv h.left) ∙ seen a_comment e; inside = (omega (arith, h.onward), h.inside) }

  stop-says : (x : List ℕ) → drop (at + 1) s ≡ x → front_at s at (stop_found x) ≡ stop_at x
  stop-says [] e = ap (front (token stop)) e
  stop-says (b ∷ x) e = cases (after_stop b) (λ h. rw h (ap (front (token stop)) e)) (λ h. rw h)

  stop-inside : (x : List ℕ) → Inside s at (stop_found x)
  stop-inside [] = omega arith
  stop-inside (b ∷ x) = cases (after_stop b) (λ h. rw h (omega arith)) (λ h. rw h (omega arith))

  pub shows-stop : (r : Found) → class (get_or s at 0) ≡ a_stop → r ≡ stop_found (drop (at + 1) s) → Shows s at r
  shows-stop r e q =
      rw q (let z : Shows s at (stop_found (drop (at + 1) s)) = record { says = stop-says (drop (at + 1) s) refl ∙ seen a_stop e; inside = stop-inside (drop (at + 1) s) } in z)

  after-arrow : (b : ℕ) (x : List ℕ) → drop (at + 1) s ≡ b ∷ x → drop (at + 2) s ≡ x
  after-arrow b x e = ap (λ (k : ℕ). drop k s) (let q : at + 2 ≡ (at + 1) + 1 = omega arith in q) ∙ inv (drop-drop 1 (at + 1) s) ∙ ap (drop 1) e

  arrow-says : (x : List ℕ) → drop (at + 1) s ≡ x → front_at s at (arrow_found x) ≡ arrow_at x
  arrow-says [] e = refl
  arrow-says (b ∷ x) e = cases (eqb b 45) (λ h. rw h (ap (front (token arrow)) (after-arrow b x e))) (λ h. rw h)

  arrow-inside : (x : List ℕ) → drop (at + 1) s ≡ x → Inside s at (arrow_found x)
  arrow-inside [] e = omega arith
  arrow-inside (b ∷ x) e = cases (eqb b 45) (λ h. rw h (omega (arith, ap length e, length-drop (at + 1) s))) (λ h. rw h (omega arith))

  pub shows-arrow : (r : Found) → class (get_or s at 0) ≡ an_arrow → r ≡ arrow_found (drop (at + 1) s) → Shows s at r
  shows-arrow r e q =
      rw q (let z : Shows s at (arrow_found (drop (at + 1) s)) = record { says = arrow-says (drop (at + 1) s) refl ∙ seen an_arrow e; inside = arrow-inside (drop (at + 1) s) refl } in z)
