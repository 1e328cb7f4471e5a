-- An answer that its check finds good is the image of formulas within a goal's sizes, and these are read back from it.
use Rattle.std.specs.Prelude.{ℕ, zero, suc, ◌+◌, ◌-◌, ◌≤◌, ◌<◌, ◌≡◌, refl, List, [], ◌∷◌, ◌++◌, length, drop}
use Rattle.std.proofs.Common.{sym as inv, ap, ap₂, ◌∙◌, subst, arith, length-drop, length-append, drop_of_length-le}
use Rattle.terms.specs.Node.{Symbol, constant, compound, predicate, var, sym, Expr}
use Rattle.terms.specs.RowLaws.{first-row, rest-row}
use Rattle.search.specs.Next as Next
use Rattle.search.specs.Room.{nodes}
use Rattle.words.specs.Flat.{flat, flat-size}
use Rattle.format.specs.declared.Record.{Record}
use Rattle.format.specs.declared.Record.TheVariants.{Variable, Goal}
use Rattle.format.specs.Reading.{body_length, number_at, record_at}
use Rattle.format.specs.Format as Format
use Rattle.format.specs.Format.{record_kind, encode_record, encode, node_record, node_records, goal_records, encode_goal, Bytes, terms_none, terms_var, terms_constant, terms_compound, formula, IsFormula, AreFormulas, GoodGoal}
use Rattle.format.specs.Arities.{Use, use_of, node_uses, book_uses, OneArity, Suits}
use Rattle.format.specs.Decode.{book_of, nodes_of, formulas_of, formulas_after, goal_of}
use Rattle.format.proofs.Decoding.{records-back, goal_of-good, goal_of-suits}
use Rattle.format.proofs.Failing.{record_length}
use Rattle.format.proofs.Premises.{formula-row}
use Rattle.printouts.specs.Answer.{clear_at, cleared, unnumbered, answer_verdict}
use Rattle.printouts.proofs.ClearLaws.{clear-length, clear-bytes, cleared-length, cleared-bytes, stood}

-- the same but for the numbers of variables
pub data Like : Expr → Expr → Type 0 where
  like_none : Like [] []
  like_var : {v w : ℕ} {d e : Expr} → v < 65536 → Like d e → Like (var v ∷ d) (var w ∷ e)
  like_sym : {y : Symbol} {d e : Expr} → Like d e → Like (sym y ∷ d) (sym y ∷ e)

pub like-uses : {d e : Expr} → Like d e → node_uses d ≡ node_uses e
like-uses like_none = refl
like-uses (like_var h l) = like-uses l
like-uses (like_sym {y = constant c} l) = like-uses l
like-uses (like_sym {y = compound f n} l) = like-uses l
like-uses (like_sym {y = predicate p n} l) = ap (λ (us : List Use). use_of p n ∷ us) (like-uses l)

like-length : {d e : Expr} → Like d e → length d ≡ length e
like-length like_none = refl
like-length (like_var h l) = ap suc (like-length l)
like-length (like_sym l) = ap suc (like-length l)

terms-like : {d e : Expr} → Like d e → {n : ℕ} → Format.Terms n e → Format.Terms n d
terms-like like_none terms_none = terms_none
terms-like (like_var h l) (terms_var g t) = terms_var h (terms-like l t)
terms-like (like_sym l) (terms_constant g t) = terms_constant g (terms-like l t)
terms-like (like_sym l) (terms_compound g p q t) = terms_compound g p q (terms-like l t)

formula-like : {d e : Expr} → Like d e → IsFormula e → IsFormula d
formula-like (like_sym l) (formula g h t) = formula g h (terms-like l t)
formula-like like_none x4 = elim x4 [ ]
formula-like (like_var {v = v} {w = w} {d = d} {e = e} _ _) x11 = elim x11 [ ]

pub record Split (d e f : Expr) : Type 0 where
  pub front : Expr
  pub rest : Expr
  pub is : d ≡ front ++ rest
  pub front_like : Like front e
  pub rest_like : Like rest f

like-split : (d e f : Expr) → Like d (e ++ f) → Split d e f
like-split d [] f l = record { front = []; rest = d; is = refl; front_like = like_none; rest_like = l }
like-split (var v ∷ d) (var w ∷ e) f (like_var h l) =
    let s = like-split d e f l in record { front = var v ∷ s.front; rest = s.rest; is = ap (λ (x : Expr). var v ∷ x) s.is; front_like = like_var h s.front_like; rest_like = s.rest_like }
like-split (sym x ∷ d) (sym y ∷ e) f (like_sym l) =
    let s = like-split d e f l in record { front = sym x ∷ s.front; rest = s.rest; is = ap (λ (a : Expr). sym x ∷ a) s.is; front_like = like_sym s.front_like; rest_like = s.rest_like }
like-split [] (_ ∷ e) f l = elim l [ ]
like-split (var v ∷ d) (sym y ∷ e) f l = elim l [ ]
like-split (sym x ∷ d) (var w ∷ e) f l = elim l [ ]

pub record FormulasOf (d : Expr) (n : ℕ) : Type 0 where
  pub goal : Next.Goal
  pub is : d ≡ flat goal
  pub formulas : AreFormulas goal
  pub many : length goal ≡ n

formulas-like : (g : Next.Goal) (d : Expr) → AreFormulas g → Like d (flat g) → FormulasOf d (length g)
formulas-like [] [] h like_none = record { goal = []; is = refl; formulas = tt; many = refl }
formulas-like (f ∷ g) d h l =
    let s = like-split d f (flat g) l in
    let r = formulas-like g s.rest h.1 s.rest_like in
    record { goal = s.front ∷ r.goal; is = s.is ∙ ap (λ (x : Expr). s.front ++ x) r.is; formulas = (formula-like s.front_like h.0, r.formulas); many = ap suc r.many }
formulas-like [] (_ ∷ _) h l = elim l [ ]

-- The nodes that stood there

record Nodes (s : List ℕ) (at : ℕ) (e : Expr) : Type 0 where
  these : Expr
  image : drop at s ≡ encode (node_records these)
  like : Like these e

some_bytes : (r : Record) (l : List ℕ) → 0 < length (encode_record r ++ l)
some_bytes r l = omega (arith, length-append (encode_record r) l, record_length r)

no-variable : (y : Symbol) → record_kind (node_record (sym y)) ≡ 1 → ⊥
no-variable (constant c) z = omega (arith, z)
no-variable (compound f n) z = omega (arith, z)
no-variable (predicate p n) z = omega (arith, z)

nodes-stood : (e : Expr) (k : ℕ) (s : List ℕ) (at : ℕ) → Bytes s → length s - at ≤ k → drop at (cleared k s at) ≡ encode (node_records e) → Nodes s at e
unfolding record_at
nodes-stood [] k s at bytes f e =
    record { these = []; image = drop_of_length-le s {i = at} (omega (arith, ap length e, length-drop at (cleared k s at), cleared-length k s at)); like = like_none }
nodes-stood (x ∷ d) zero s at bytes f e =
    absurd (omega (arith, ap length e, length-drop at (cleared 0 s at), cleared-length 0 s at, some_bytes (node_record x) (encode (node_records d))))
nodes-stood (var v ∷ d) (suc k) s at bytes f e =
    let b = stood k s at bytes (Variable v) (encode (node_records d)) e in
    let n = nodes-stood d k (clear_at s at) (at + 1 + body_length 1) (clear-bytes s at bytes) (omega (arith, clear-length s at, b.fits)) b.later in
    record { these = var (number_at s (at + 1)) ∷ n.these; image = b.image ∙ ap (λ (x : List ℕ). encode_record (record_at s at 1) ++ x) n.image; like = like_var b.narrow n.like }
nodes-stood (sym y ∷ d) (suc k) s at bytes f e =
    let b = stood k s at bytes (node_record (sym y)) (encode (node_records d)) e in
    let n = nodes-stood d k (clear_at s at) (at + 1 + body_length (record_kind (node_record (sym y)))) (clear-bytes s at bytes) (omega (arith, clear-length s at, b.fits)) b.later in
    record { these = sym y ∷ n.these; image = b.image ∙ ap₂ (λ (r : Record) (x : List ℕ). encode_record r ++ x) (b.item (no-variable y)) n.image; like = like_sym n.like }

-- The formulas of an image are read back from it, whatever numbers their variables have

nodes-back : (e : Expr) → nodes_of (node_records e) ≡ e
nodes-back [] = refl
nodes-back (var v ∷ e) = ap (λ (l : Expr). var v ∷ l) (nodes-back e)
nodes-back (sym (constant c) ∷ e) = ap (λ (l : Expr). sym (constant c) ∷ l) (nodes-back e)
nodes-back (sym (compound f n) ∷ e) = ap (λ (l : Expr). sym (compound f n) ∷ l) (nodes-back e)
nodes-back (sym (predicate p n) ∷ e) = ap (λ (l : Expr). sym (predicate p n) ∷ l) (nodes-back e)

formulas-back : (g : Next.Goal) → AreFormulas g → formulas_of (length g) (flat g) ≡ g
formulas-back [] p = refl
formulas-back (f ∷ g) p =
    let r = formula-row p.0 in
    ap₂ ◌∷◌ (first-row r (flat g)) (ap (formulas_of (length g)) (rest-row r (flat g)) ∙ formulas-back g p.1)

read_back : (s : List ℕ) (g : Next.Goal) → AreFormulas g → s ≡ encode_goal g → goal_of s ≡ g
unfolding goal_of
read_back s g h e =
    ap formulas_after (records-back s (goal_records g) (length s) 0 (omega arith) e) ∙ ap (formulas_of (length g)) (nodes-back (flat g)) ∙ formulas-back g h

-- so it is with an answer
pub record GoodFound (s : List ℕ) : Type 0 where
  pub few : length (goal_of s) ≤ 512
  pub formulas : AreFormulas (goal_of s)
  pub size : nodes (goal_of s) ≤ 4096
  pub image : encode_goal (goal_of s) ≡ s

made : (s : List ℕ) (g : Next.Goal) → AreFormulas g → length g ≤ 512 → nodes g ≤ 4096 → s ≡ encode_goal g → GoodFound s
made s g h few size e =
    let q = inv (read_back s g h e) in
    record { few = subst (λ (x : Next.Goal). length x ≤ 512) q few; formulas = subst AreFormulas q h; size = subst (λ (x : Next.Goal). nodes x ≤ 4096) q size; image = ap encode_goal (inv q) ∙ inv e }

module _ (book s : List ℕ) (bytes : Bytes s) (z : (answer_verdict book s).code ≡ 0) where
  abbrev g : Next.Goal
  g = goal_of (unnumbered s)

  good : GoodGoal g × (encode_goal g ≡ unnumbered s)
  good = goal_of-good book (unnumbered s) (cleared-bytes (length s) s 0 bytes) z

  record Found : Type 0 where
    good_found : GoodFound s
    like : Like (flat (goal_of s)) (flat g)

  found-by : (k : ℕ) → length s ≡ k → Found
  found-by zero n = absurd (omega (arith, ap length good.1, cleared-length (length s) s 0, some_bytes (Goal (length g)) (encode (node_records (flat g)))))
  found-by (suc k) n =
      let b = stood k s 0 bytes (Goal (length g)) (encode (node_records (flat g))) (ap (λ (m : ℕ). cleared m s 0) (inv n) ∙ inv good.1) in
      let d = nodes-stood (flat g) k (clear_at s 0) (0 + 1 + body_length 6) (clear-bytes s 0 bytes) (omega (arith, clear-length s 0, n)) b.later in
      let f = formulas-like g d.these good.0.formulas d.like in
      let e : s ≡ encode_goal f.goal =
      b.image
      ∙ ap₂ (λ (r : Record) (x : List ℕ). encode_record r ++ x) (b.item (λ y. let z : ⊥ = omega (arith, y) in z) ∙ ap Goal (inv f.many)) (d.image ∙ ap (λ (x : Expr). encode (node_records x)) f.is) in
      record {
        good_found = made s f.goal f.formulas (omega (arith, f.many, good.0.few)) (omega (arith, flat-size f.goal, ap length f.is, like-length d.like, flat-size g, good.0.fitting.size)) e;
        like = subst (λ (x : Expr). Like x (flat g)) (f.is ∙ ap flat (inv (read_back s f.goal f.formulas e))) d.like;
      }

  pub found-good : GoodFound s
  found-good = (found-by (length s) refl).good_found

  -- it keeps one arity with the book, as its check found
  pub found-suits : Bytes book → Suits (book_of book) (goal_of s)
  found-suits book-bytes =
      subst (λ (us : List Use). OneArity (book_uses (book_of book) ++ us)) (inv (like-uses (found-by (length s) refl).like)) (goal_of-suits book (unnumbered s) book-bytes (cleared-bytes (length s) s 0 bytes) z)
