-- The image of formulas within a goal's sizes, which keep one arity with the book, is a good answer, whatever numbers their variables have.
use Rattle.std.specs.Prelude.{ℕ, zero, suc, ◌+◌, ◌/◌, ◌%◌, ◌≤◌, ◌<◌, ◌≡◌, refl, length, get_or}
use Rattle.std.proofs.Math.Path.{sym as inv}
use Rattle.std.proofs.Common.{ap, ap₂, ◌∙◌, subst, arith, eq-eqb}
use mathlib.Core.List.{List, [], ◌∷◌, ◌++◌, map, append_assoc}
use Rattle.std.proofs.Math.ListN.{set, length-append}
use Rattle.std.proofs.lemmas.List.{length-map}
use Rattle.std.proofs.Math.Seq.{set_at, drop-append_seam}
use Rattle.terms.specs.Node.{constant, compound, predicate, var, sym, Expr}
use Rattle.terms.specs.Rename.{rename}
use Rattle.search.specs.Next as Next
use Rattle.search.specs.Room.{nodes}
use Rattle.words.specs.Flat.{flat, flat-size, flat-rename}
use Rattle.format.specs.declared.Form.TheVariants.{Query}
use Rattle.format.specs.declared.Record.{Record}
use Rattle.format.specs.declared.Record.TheVariants.{Variable, Constant, Compound, Formula, Clause, Goal, End}
use Rattle.format.specs.Reading.{body_length, book_verdict, query_verdict, verdict, next_unused}
use Rattle.format.specs.Format as Format
use Rattle.format.specs.Format.{record_kind, encode_record, encode, node_records, goal_records, encode_goal, Bytes, terms_none, terms_var, terms_constant, terms_compound, formula, IsFormula, AreFormulas, Below, GoodGoal}
use Rattle.format.specs.Arities.{Use, node_uses, goal_uses, book_uses, OneArity, Suits, Memory}
use Rattle.format.specs.Decode.{book_of}
use Rattle.format.proofs.Numbering.{Ordered, numbered}
use Rattle.format.proofs.Encoded.{encoded}
use Rattle.format.proofs.Failing.{record_length}
use Rattle.format.proofs.Meaning.{query-verdict, goal-written}
use Rattle.format.proofs.Decoding.{met-is}
use Rattle.printouts.specs.Answer.{clear_at, cleared, unnumbered, answer_verdict}
use Rattle.printouts.proofs.ClearLaws.{clear_none, cleared-next, cleared-last}

-- Each number 0

abbrev zeros : Expr → Expr
zeros = rename (λ (v : ℕ). 0)

abbrev zero_record : Record → Record
zero_record (Variable v) = Variable 0
zero_record (Constant c) = Constant c
zero_record (Compound f n) = Compound f n
zero_record (Formula p n) = Formula p n
zero_record (Clause n) = Clause n
zero_record (Goal n) = Goal n
zero_record End = End

abbrev zeroed : List Record → List Record
zeroed [] = []
zeroed (r ∷ rs) = zero_record r ∷ zeroed rs

same_kind : (r : Record) → record_kind (zero_record r) ≡ record_kind r
same_kind (Variable v) = refl
same_kind (Constant c) = refl
same_kind (Compound f n) = refl
same_kind (Formula p n) = refl
same_kind (Clause n) = refl
same_kind (Goal n) = refl
same_kind End = refl

nodes-zeroed : (e : Expr) → zeroed (node_records e) ≡ node_records (zeros e)
nodes-zeroed [] = refl
nodes-zeroed (var v ∷ e) = ap (λ (l : List Record). Variable 0 ∷ l) (nodes-zeroed e)
nodes-zeroed (sym (constant c) ∷ e) = ap (λ (l : List Record). Constant c ∷ l) (nodes-zeroed e)
nodes-zeroed (sym (compound f n) ∷ e) = ap (λ (l : List Record). Compound f n ∷ l) (nodes-zeroed e)
nodes-zeroed (sym (predicate p n) ∷ e) = ap (λ (l : List Record). Formula p n ∷ l) (nodes-zeroed e)

-- One record is cleared, behind others

module _ (pre l : List ℕ) where
  other : (r : Record) → get_or (pre ++ (encode_record r ++ l)) (length pre) 0 ≡ record_kind r → (record_kind r ≡ 1 → ⊥) → zero_record r ≡ r →
      clear_at (pre ++ (encode_record r ++ l)) (length pre) ≡ pre ++ (encode_record (zero_record r) ++ l)
  other r k n e = clear_none (pre ++ (encode_record r ++ l)) (length pre) (λ z. n (inv k ∙ z)) ∙ (ap (λ (x : Record). pre ++ (encode_record x ++ l)) (inv e))

  number : (a b : ℕ) → get_or (pre ++ (1 ∷ a ∷ b ∷ l)) (length pre) 0 ≡ 1 → clear_at (pre ++ (1 ∷ a ∷ b ∷ l)) (length pre) ≡ pre ++ (1 ∷ 0 ∷ 0 ∷ l)
  unfolding clear_at
  number a b k =
      rw (eq-eqb _ 1 k)
      (ap (λ (x : List ℕ). set x (length pre + 2) 0)
      (ap (λ (x : List ℕ). set x (length pre + 1) 0) (inv (append_assoc pre (1 ∷ []) (a ∷ b ∷ l))) ∙ set_at (pre ++ (1 ∷ [])) a (b ∷ l) 0 (length pre + 1) (omega (arith, length-append pre (1 ∷ [])))
      ∙ append_assoc pre (1 ∷ []) (0 ∷ b ∷ l) ∙ inv (append_assoc pre (1 ∷ 0 ∷ []) (b ∷ l)))
      ∙ set_at (pre ++ (1 ∷ 0 ∷ [])) b l 0 (length pre + 2) (omega (arith, length-append pre (1 ∷ 0 ∷ []))) ∙ append_assoc pre (1 ∷ 0 ∷ []) (0 ∷ l))

  clear_record : (r : Record) → get_or (pre ++ (encode_record r ++ l)) (length pre) 0 ≡ record_kind r → clear_at (pre ++ (encode_record r ++ l)) (length pre) ≡ pre ++ (encode_record (zero_record r) ++ l)
  clear_record (Variable v) k = number (v / 256) (v % 256) k
  clear_record (Constant c) k = other (Constant c) k (λ z. omega (arith, z)) refl
  clear_record (Compound f n) k = other (Compound f n) k (λ z. omega (arith, z)) refl
  clear_record (Formula p n) k = other (Formula p n) k (λ z. omega (arith, z)) refl
  clear_record (Clause n) k = other (Clause n) k (λ z. omega (arith, z)) refl
  clear_record (Goal n) k = other (Goal n) k (λ z. omega (arith, z)) refl
  clear_record End k = other End k (λ z. omega (arith, z)) refl

-- All of them

cleared-encode : (rs : List Record) (k : ℕ) (pre : List ℕ) → length (encode rs) ≤ k → cleared k (pre ++ encode rs) (length pre) ≡ pre ++ encode (zeroed rs)
cleared-encode [] k pre f = cleared-last k (pre ++ []) (length pre) (omega (arith, length-append pre []))
cleared-encode (r ∷ rs) zero pre f = absurd (omega (arith, f, length-append (encode_record r) (encode rs), record_length r))
cleared-encode (r ∷ rs) (suc k) pre f =
    let s = pre ++ (encode_record r ++ encode rs) in
    let o = zero_record r in
    let c = encoded s (length pre) r (encode rs) (drop-append_seam pre (encode_record r ++ encode rs)) in
    let whole : length pre + body_length (get_or s (length pre) 0) < length s = subst (λ (n : ℕ). length pre + body_length n < length s) (inv c.kind) (omega (arith, c.body)) in
    let q : body_length (get_or s (length pre) 0) ≡ body_length (record_kind o) = ap body_length (c.kind ∙ inv (same_kind r)) in
    let n : length pre + 1 + body_length (get_or s (length pre) 0) ≡ length (pre ++ encode_record o) = omega (arith, q, length-append pre (encode_record o), record_length o) in
    cleared-next k s (length pre) whole
    ∙ ap₂ (cleared k) (clear_record pre (encode rs) r c.kind ∙ inv (append_assoc pre (encode_record o) (encode rs))) n
    ∙ cleared-encode rs k (pre ++ encode_record o) (omega (arith, f, length-append (encode_record r) (encode rs), record_length r))
    ∙ append_assoc pre (encode_record o) (encode (zeroed rs))

abbrev zero_goal : Next.Goal → Next.Goal
zero_goal g = map zeros g

unnumbered-image : (g : Next.Goal) → unnumbered (encode_goal g) ≡ encode_goal (zero_goal g)
unnumbered-image g =
    cleared-encode (goal_records g) (length (encode_goal g)) [] (omega arith)
    ∙ ap₂ (λ (n : ℕ) (rs : List Record). encode_record (Goal n) ++ encode rs) (inv (length-map g zeros)) (nodes-zeroed (flat g) ∙ ap node_records (inv (flat-rename (λ (v : ℕ). 0) g)))

-- With each number 0 they are numbered from 0

terms-zero : {n : ℕ} {e : Expr} → Format.Terms n e → Format.Terms n (zeros e)
terms-zero terms_none = terms_none
terms-zero (terms_var h t) = terms_var {v = 0} (omega arith) (terms-zero t)
terms-zero (terms_constant h t) = terms_constant h (terms-zero t)
terms-zero (terms_compound h p q t) = terms_compound h p q (terms-zero t)

formula-zero : {e : Expr} → IsFormula e → IsFormula (zeros e)
formula-zero (formula h l t) = formula h l (terms-zero t)

formulas-zero : (g : Next.Goal) → AreFormulas g → AreFormulas (zero_goal g)
formulas-zero [] h = tt
formulas-zero (f ∷ g) h = (formula-zero h.0, formulas-zero g h.1)

below-zero : (e : Expr) → Below 65536 (zeros e)
below-zero [] = tt
below-zero (var v ∷ e) = (omega arith, below-zero e)
below-zero (sym s ∷ e) = below-zero e

ordered-zero : (m : ℕ) (e : Expr) → Ordered m (zeros e)
ordered-zero m [] = tt
ordered-zero m (var v ∷ e) = (omega arith, ordered-zero (next_unused m 0) e)
ordered-zero m (sym s ∷ e) = ordered-zero m e

length-zero : (e : Expr) → length (zeros e) ≡ length e
length-zero [] = refl
length-zero (var v ∷ e) = ap suc (length-zero e)
length-zero (sym s ∷ e) = ap suc (length-zero e)

uses-zero : (e : Expr) → node_uses (zeros e) ≡ node_uses e
uses-zero [] = refl
uses-zero (var v ∷ e) = uses-zero e
uses-zero (sym (constant c) ∷ e) = uses-zero e
uses-zero (sym (compound f n) ∷ e) = uses-zero e
uses-zero (sym (predicate p n) ∷ e) = rw (uses-zero e)

module _ (g : Next.Goal) (formulas : AreFormulas g) (few : length g ≤ 512) (size : nodes g ≤ 4096) where
  flat-zero : flat (zero_goal g) ≡ zeros (flat g)
  flat-zero = flat-rename (λ (v : ℕ). 0) g

  nodes-zero : nodes (zero_goal g) ≡ nodes g
  nodes-zero = omega (arith, flat-size (zero_goal g), flat-size g, ap length flat-zero, length-zero (flat g))

  zero-good : GoodGoal (zero_goal g)
  zero-good =
      record {
        few = omega (arith, length-map g zeros, few);
        formulas = formulas-zero g formulas;
        fitting = record {
          size = omega (arith, nodes-zero, size);
          below = subst (Below 65536) (inv flat-zero) (below-zero (flat g));
          numbered = numbered (zero_goal g) (subst (Ordered 0) (inv flat-zero) (ordered-zero 0 (flat g)));
        };
      }

  pub found-image : (book : List ℕ) → Bytes book → (book_verdict book).code ≡ 0 → Suits (book_of book) g → answer_verdict book (encode_goal g) ≡ record { code = 0; place = 0; count = nodes g }
  found-image book bytes z one =
      let us = book_uses (book_of book) in
      let same : goal_uses (zero_goal g) ≡ goal_uses g = ap node_uses flat-zero ∙ uses-zero (flat g) in
      ap (query_verdict book) (unnumbered-image g) ∙ query-verdict book (encode_goal (zero_goal g)) z
      ∙ ap (λ (m : Memory). verdict Query m (encode_goal (zero_goal g))) (met-is book bytes z)
      ∙ goal-written us (zero_goal g) zero-good (subst (λ (l : List Use). OneArity (us ++ l)) (inv same) one)
      ∙ ap (λ (n : ℕ). record { code = 0; place = 0; count = n }) nodes-zero
