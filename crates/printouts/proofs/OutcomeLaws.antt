-- What is computed is what the document says, and there is no other outcome.
use Rattle.std.specs.Prelude.{ℕ, ◌≤◌, ◌<◌, ◌≡◌, ◌⊎◌, true, false, List, ◌++◌, length, drop, eqb, ltb}
use Rattle.std.proofs.Math.Path.{refl}
use Rattle.std.proofs.Common.{sym as inv, ap, ◌∙◌, subst, inl, inr, arith}
use borrow.Author.Tests.{ltb-true, ltb-false, lt-ltb, le-ltb, eqb-true, eqb-false, eq-eqb, ne_eqb}
use Rattle.terms.specs.Cases.{cases}
use Rattle.terms.specs.Node.{Expr}
use Rattle.format.specs.declared.Check.{Check}
use Rattle.format.specs.Format.{Bytes}
use Rattle.printing.specs.Named.{Naming}
use Rattle.namelist.specs.List.{Entry, IsList, naming}
use Rattle.namelist.specs.Bytes.{entries_of, is_list}
use Rattle.namelist.specs.Meaning.{list-means, list_is, entries-are, no-list-means, no-list-is}
use Rattle.namelist.specs.NamingLaws.{AllNamed, Unnamed, all_named, all-named-means, all-named-is, unnamed, unnamed-is}
use Rattle.printouts.specs.declared.Printout.{Printout}
use Rattle.printouts.specs.Outcome.{refusal, done, Prints, not_good, no_list, no_name, no_room, prints, text_by, too_long, outcome, outcome_area}
use Rattle.printouts.specs.Is.{Is}

module _ (found : Check) (e : Expr) (text : Naming → List ℕ) (names area : List ℕ) where
  abbrev t : List ℕ
  t = text_by found e text names area

  -- The answer, case by case

  pub is-not-good : (found.code ≡ 0 → ⊥) → Is found e text names area (refusal found.code found.place) area
  unfolding outcome outcome_area
  is-not-good n = let z = ne_eqb found.code 0 n in record { answer = rw z refl; area_is = rw (z, z) refl }

  module _ (good : found.code ≡ 0) where
    zero-code : eqb found.code 0 ≡ true
    zero-code = eq-eqb found.code 0 good

    pub is-no-list : is_list names ≡ false → Is found e text names area (refusal 45 0) area
    unfolding outcome outcome_area
    is-no-list n = record { answer = rw (zero-code, n) refl; area_is = rw (zero-code, n) refl }

    pub is-no-name : is_list names ≡ true → all_named (entries_of names) e ≡ false → Is found e text names area (refusal 44 0) area
    unfolding outcome outcome_area
    is-no-name l n = record { answer = rw (zero-code, l, n) refl; area_is = rw (zero-code, l, n) refl }

    pub is-no-room : is_list names ≡ true → all_named (entries_of names) e ≡ true → too_long found e text names area ≡ true → Is found e text names area (refusal 46 0) area
    unfolding outcome outcome_area
    is-no-room l n w = record { answer = rw (zero-code, l, n, w) refl; area_is = rw (zero-code, l, n, w) refl }

    pub is-printed : is_list names ≡ true → all_named (entries_of names) e ≡ true → too_long found e text names area ≡ false → Is found e text names area (done (length t)) (t ++ drop (length t) area)
    unfolding outcome outcome_area
    is-printed l n w = record { answer = rw (zero-code, l, n, w) refl; area_is = rw (zero-code, l, n, w) refl }

  long-means : too_long found e text names area ≡ true → (65536 < length t) ⊎ (length area < length t)
  long-means w =
      cases (ltb 65536 (length t)) (λ a. inl (ltb-true 65536 (length t) a)) (λ a. inr (ltb-true (length area) (length t) (rw a at w)))

  pub short-means : too_long found e text names area ≡ false → (length t ≤ 65536) × (length t ≤ length area)
  short-means w =
      cases (ltb 65536 (length t)) (λ a. let z : true ≡ false = rw a at w in let y : ◌≡◌ {A = ℕ} 0 1 = cc in absurd (omega arith))
      (λ a. (ltb-false 65536 (length t) a, ltb-false (length area) (length t) (rw a at w)))

  pub long-is : (65536 < length t) ⊎ (length area < length t) → too_long found e text names area ≡ true
  long-is (inl l) = rw (lt-ltb 65536 (length t) l) refl
  long-is (inr l) = cases (ltb 65536 (length t)) (λ a. rw a refl) (λ a. rw (a, lt-ltb (length area) (length t) l) refl)

  pub short-is : length t ≤ 65536 → length t ≤ length area → too_long found e text names area ≡ false
  short-is p q = rw (le-ltb 65536 (length t) p, le-ltb (length area) (length t) q) refl

  given : {p : Printout} {s : List ℕ} → Is found e text names area p s → Prints found e text names area p s → Prints found e text names area (outcome found e text names area) (outcome_area found e text names area)
  given {p} i h = subst (λ (q : Printout). Prints found e text names area q (outcome_area found e text names area)) i.answer (subst (λ (r : List ℕ). Prints found e text names area p r) i.area_is h)

  -- "in this order": it is an outcome as told
  pub outcome-prints : Bytes names → Prints found e text names area (outcome found e text names area) (outcome_area found e text names area)
  outcome-prints bytes =
      cases (eqb found.code 0)
      (λ z.
      let good = eqb-true found.code 0 z in
      cases (is_list names)
      (λ l.
      let list = list-means names bytes l in
      cases (all_named (entries_of names) e)
      (λ n.
      let all = all-named-means (entries_of names) e n in
      cases (too_long found e text names area) (λ w. given (is-no-room good l n w) (no_room good list all (long-means w)))
      (λ w. given (is-printed good l n w) (prints good list all (short-means w).0 (short-means w).1)))
      (λ n. given (is-no-name good l n) (no_name good list (unnamed (entries_of names) e list.proper n))))
      (λ l. given (is-no-list good l) (no_list good (no-list-means names l))))
      (λ z. given (is-not-good (eqb-false found.code 0 z)) (not_good (eqb-false found.code 0 z)))

  named : {l : List Entry} → IsList names l → AllNamed l e → all_named (entries_of names) e ≡ true
  named {l} list all = ap (λ (m : List Entry). all_named m e) (entries-are names l list) ∙ all-named-is l e list.proper all

  -- and the only one
  pub print_once : Bytes names → {p : Printout} {s : List ℕ} → Prints found e text names area p s → Is found e text names area p s
  print_once bytes (not_good n) = is-not-good n
  print_once bytes (no_list good n) = is-no-list good (no-list-is names bytes n)
  print_once bytes (no_name {l} good list u) = is-no-name good (list_is names l list) (unnamed-is (entries_of names) e (subst (λ (m : List Entry). Unnamed m e) (inv (entries-are names l list)) u))
  print_once bytes (no_room {l} good list all w) =
      let same = inv (entries-are names l list) in
      is-no-room good (list_is names l list) (named list all) (long-is (subst (λ (m : List Entry). (65536 < length (text (naming m))) ⊎ (length area < length (text (naming m)))) same w))
  print_once bytes (prints {l} good list all a b) =
      let same = inv (entries-are names l list) in
      let r = is-printed good (list_is names l list) (named list all) (short-is (subst (λ (m : List Entry). length (text (naming m)) ≤ 65536) same a) (subst (λ (m : List Entry). length (text (naming m)) ≤ length area) same b)) in
      record {
        answer = ap (λ (m : List Entry). done (length (text (naming m)))) same ∙ r.answer;
        area_is = ap (λ (m : List Entry). text (naming m) ++ drop (length (text (naming m))) area) same ∙ r.area_is;
      }
