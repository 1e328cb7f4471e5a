-- The bytes of a goal's words are its image.
use Prim.Native.Nat.{ℕ, ◌*◌, ◌/◌, ◌%◌, ◌≤◌, ◌<◌, zero-le}
use native.Mathlib.Omega.{arith}
use borrow.Author.Tests.{lt-ltb, le-ltb}
use mathlib.Core.Path.{◌≡◌, refl, sym as inv, ap, ap₂, ◌∙◌}
use mathlib.Core.Bool.{Bool, true, false}
use mathlib.Core.List.{List, [], ◌∷◌, ◌++◌}
use lib.ListN.{length, take, length-append}
use lib.Dec.{ltb, lit≤}
use Rattle.terms.specs.Node.{constant, compound, predicate, Node, var, sym, Expr}
use Rattle.terms.specs.Row.{Formulas}
use Rattle.terms.specs.When.{◌⇒◌∣◌}
use Rattle.search.specs.Next as Next
use Rattle.words.specs.Flat.{flat, flat-size}
use Rattle.words.specs.Word.{packed, word, words_of, Narrow, AllNarrow, Valids, nodes as nodes_of}
use Rattle.words.specs.PackLaws.{packed-kind, packed-arity, words-length, words-nodes, nodes-narrow, narrow-append}
use Rattle.format.specs.Reading.{Askable}
use Rattle.format.specs.Decode.{goal_of}
use Rattle.format.specs.Format.{encode_record, encode, node_record, node_records, encode_goal, Terms, terms_none, terms_var, terms_constant, terms_compound, IsFormula, formula, AreFormulas, GoodGoal, Bytes}
use Rattle.format.specs.Words.{goal_words, first_with_arity, word_bytes, words_bytes}
use Rattle.storage.specs.Storage.{Written, Writable}
use Rattle.format.proofs.Premises.{formulas-row}
use Rattle.format.proofs.Decoding.{goal_of-good}
use Rattle.storage.proofs.Filling.{written-front}

-- Word by word

bytes-three : (k v : ℕ) → k < 3 → v < 65536 → word_bytes (packed k 0 v) ≡ k ∷ v / 256 ∷ v % 256 ∷ []
unfolding word_bytes
bytes-three k v h n =
    let w = packed k 0 v in
    let a : w / 0x100_0000 ≡ k = omega arith in
    let b : w / 256 % 256 ≡ v / 256 = omega arith in
    let c : w % 256 ≡ v % 256 = omega arith in
    simp (lt-ltb w first_with_arity (omega arith)) (λ i. a i ∷ b i ∷ c i ∷ [])

bytes-four : (k v a : ℕ) → 3 ≤ k → v < 65536 → a < 256 → word_bytes (packed k a v) ≡ k ∷ v / 256 ∷ v % 256 ∷ a ∷ []
unfolding word_bytes
bytes-four k v a h n m =
    let w = packed k a v in
    let p = packed-kind k a v m n in
    let q : w / 256 % 256 ≡ v / 256 = omega arith in
    let r : w % 256 ≡ v % 256 = omega arith in
    let s = packed-arity k a v m n in
    simp (le-ltb w first_with_arity (omega arith)) (λ i. p i ∷ q i ∷ r i ∷ s i ∷ [])

word-bytes : (x : Node) → Narrow x → word_bytes (word x) ≡ encode_record (node_record x)
unfolding word
word-bytes (var v) h = bytes-three 1 v (lit≤ tt) h
word-bytes (sym (constant c)) h = bytes-three 2 c (lit≤ tt) h
word-bytes (sym (compound f n)) h = bytes-four 3 f n (lit≤ tt) h.0 h.1
word-bytes (sym (predicate p n)) h = bytes-four 4 p n (lit≤ tt) h.0 h.1

nodes-bytes : (e : Expr) → AllNarrow e → words_bytes (words_of e) ≡ encode (node_records e)
nodes-bytes [] h = refl
nodes-bytes (x ∷ e) h = ap₂ ◌++◌ (word-bytes x h.0) (nodes-bytes e h.1)

-- How long they are

pub bytes-short : (w : ℕ) → length (word_bytes w) ≤ 4
unfolding word_bytes
bytes-short w = go (ltb w first_with_arity)
  where
    go : (t : Bool) → length (t ⇒ w / 0x100_0000 ∷ w / 256 % 256 ∷ w % 256 ∷ [] ∣ w / 0x100_0000 ∷ w / 256 % 256 ∷ w % 256 ∷ w / 0x1_0000 % 256 ∷ []) ≤ 4
    go true = lit≤ tt
    go false = lit≤ tt

pub words-short : (ws : List ℕ) → length (words_bytes ws) ≤ 4 * length ws
words-short [] = zero-le
words-short (w ∷ ws) = omega (arith, length-append (word_bytes w) (words_bytes ws), bytes-short w, words-short ws)

-- A goal

abbrev pub image : List ℕ → ℕ → List ℕ
image words formulas = 6 ∷ formulas / 256 ∷ formulas % 256 ∷ words_bytes words

module _ {words : List ℕ} {formulas : ℕ} {g : Next.Goal} (w : Writable words formulas g) where
  pub writable-image : image words formulas ≡ encode_goal g
  writable-image = ap₂ image (inv w.is) (inv w.count) ∙ ap (λ l. 6 ∷ length g / 256 ∷ length g % 256 ∷ l) (nodes-bytes (flat g) w.narrow)

  pub writable-words : length words ≤ 4096
  writable-words = omega (arith, ap length w.is, words-length (flat g), flat-size g, w.size)

  pub writable-formulas : formulas ≤ 512
  writable-formulas = omega (arith, w.count, w.few)

  -- "Goal: 512 formulas, 4,096 nodes, so at most 16,387 bytes."
  pub writable-bytes : length (encode_goal g) ≤ 16387
  writable-bytes = omega (arith, ap length writable-image, words-short words, writable-words)

-- What can be written: what an engine has made of words that are nodes', and a good goal.

pub made-writable : (w : List ℕ) (g : Next.Goal) → Valids w → nodes_of w ≡ flat g → Formulas g → length g ≤ 512 → length w ≤ 4096 → Writable w (length g) g
made-writable w g a e r few size = record {
  rows = r;
  narrow = rw e at (nodes-narrow w);
  is = ap words_of (inv e) ∙ words-nodes w a;
  count = refl;
  few = few;
  size = omega (arith, flat-size g, ap length (inv e), words-length (nodes_of w), ap length (words-nodes w a));
}

terms-narrow : {n : ℕ} {e : Expr} → Terms n e → AllNarrow e
terms-narrow terms_none = tt
terms-narrow (terms_var w t) = (w, terms-narrow t)
terms-narrow (terms_constant w t) = (w, terms-narrow t)
terms-narrow (terms_compound w p q t) = ((w, omega arith), terms-narrow t)

pub formula-narrow : {f : Expr} → IsFormula f → AllNarrow f
formula-narrow (formula w q t) = ((w, omega arith), terms-narrow t)

pub formulas-narrow : (g : Next.Goal) → AreFormulas g → AllNarrow (flat g)
formulas-narrow [] p = tt
formulas-narrow (f ∷ g) p = narrow-append f (flat g) (formula-narrow p.0) (formulas-narrow g p.1)

pub good-writable : (g : Next.Goal) → GoodGoal g → Writable (goal_words g) (length g) g
good-writable g good = record {
  rows = formulas-row g good.formulas;
  narrow = formulas-narrow g good.formulas;
  is = refl;
  count = refl;
  few = good.few;
  size = good.fitting.size;
}

-- what `load_goal` writes of a good query
pub loaded-writable : (query : List ℕ) {before after : List ℕ} {n formulas : ℕ} → Bytes query → Askable query → Written (goal_words (goal_of query)) before after n →
    formulas ≡ length (goal_of query) → Writable (take n after) formulas (goal_of query)
loaded-writable query bytes z w k = rw (written-front w, k) (good-writable (goal_of query) (goal_of-good z.book query bytes z.good).0)
