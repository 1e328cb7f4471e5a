-- A word sought among the query's own, and in the list.
use Prim.Native.Nat.{ℕ, suc, ◌+◌, ◌≤◌, ◌<◌}
use mathlib.Core.Path.{◌≡◌, refl, sym as inv, ap, ap₂, subst, ◌∙◌}
use mathlib.Core.Bool.{Bool, true, false, true≢false}
use mathlib.Core.List.{List, [], ◌∷◌, ◌++◌}
use native.Mathlib.Omega.{arith}
use lib.ListN.{length, get_or, take, drop}
use Rattle.std.specs.declared.option.Option.{Option}
use Rattle.std.specs.declared.option.Option.TheVariants.{Some, None}
use Rattle.terms.specs.Cases.{cases}
use Rattle.format.specs.Format.{Bytes}
use Rattle.grammar.specs.Names as Names
use Rattle.grammar.specs.Names.{Sort, Spot, same_name, place, within, kind, lone, variable_number, variables_after}
use Rattle.grammar.specs.NameLaws.{place-within}
use Rattle.grammar.specs.Query.{Given}
use Rattle.nametable.specs.Table.{word}
use Rattle.stages.proofs.Kept.{place-first, place_none, found-more, word-long, other-long, same-there, lone-other, lone-at}
use Rattle.namelist.specs.List.{Entry}
use Rattle.namelist.specs.Bytes.{entries_of, is_list}
use Rattle.namelist.specs.ListLaws.{Stands}
use Rattle.namelist.specs.Meaning.{list-means, list-stands}
use Rattle.questions.specs.Given.{given_from, gives}
use Rattle.known.specs.declared.Known.{Known}
use Rattle.known.specs.Known.{sought}
use Rattle.known.specs.TurnLaws.{not-list, known-number}
use Rattle.laying.specs.declared.Kind.{Kind}
use Rattle.laying.specs.declared.Kind.TheVariants.{Variable, Constant, Compound, Predicate}
use Rattle.laying.specs.declared.Draft.{Draft}
use Rattle.laying.specs.declared.Word.{Word}
use Rattle.laying.specs.Words.{base_of, code_of, own_of, given_of, list_of, words_of, number_of, word_of, Words, Kept, Numbering, VariableNumber, Symbol, Naming, NamedNumber}
use Rattle.laying.proofs.Sorts.{base-low}

-- Lone

pub lone-no : (text : List ℕ) (at len : ℕ) → at + len ≤ length text → (len ≡ 1 → ⊥) → false ≡ lone (word text at len)
lone-no text at len l n = lone-other (word text at len) (λ (e : length (word text at len) ≡ 1). n (inv (word-long text at len l) ∙ e))

pub ruleset loneness = (lone-no, lone-at)

-- One word

module _ (text table : List ℕ) (i at len : ℕ) (fit : at + len ≤ length text) (there : get_or table i 0 + (get_or table (16384 + i) 0 + 1) ≤ length text) where
  abbrev Held : Bool
  Held = same_name (word text at len) (word text (get_or table i 0) (get_or table (16384 + i) 0 + 1))

  pub word-other : (m : ℕ) → m ≡ get_or table (16384 + i) 0 → (m + 1 ≡ len → ⊥) → false ≡ Held
  word-other m e n =
      other-long (word text at len) (word text (get_or table i 0) (get_or table (16384 + i) 0 + 1)) len (get_or table (16384 + i) 0 + 1) (word-long text at len fit) (word-long text (get_or table i 0) (get_or table (16384 + i) 0 + 1) there)
      (λ (q : len ≡ get_or table (16384 + i) 0 + 1). n (omega arith))

  pub word_fits : (m s : ℕ) → m ≡ get_or table (16384 + i) 0 → m + 1 ≡ len → s ≡ get_or table i 0 → s + len ≤ length text
  word_fits m s e f q = omega (arith, there)

  pub word_same : (m s : ℕ) (t : Bool) → m ≡ get_or table (16384 + i) 0 → m + 1 ≡ len → s ≡ get_or table i 0 → t ≡ same_name (word text at len) (word text s len) → t ≡ Held
  word_same m s t e f q h = h ∙ ap₂ (λ (a b : ℕ). same_name (word text at len) (word text a b)) q (let z : len ≡ get_or table (16384 + i) 0 + 1 = omega arith in z)

pub ruleset wordly = (word-other, word_fits, word_same)

-- Among several

module _ (text table : List ℕ) (from n at len : ℕ) where
  abbrev SomeNames : Type 0
  SomeNames = (names : List (List ℕ)) × Words text table from names n

  pub record Finding (i : ℕ) : Type 0 where
    pub below : i ≤ n
    pub base : SomeNames
    pub passed : (names : List (List ℕ)) → Words text table from names n → (j : ℕ) → j < i → same_name (word text at len) (get_or names j []) ≡ false

  pub finding-start : SomeNames → Finding 0
  finding-start s = record { below = omega arith; base = s; passed = λ names h j (l : j < 0). absurd (omega arith) }

  pub finding-inside : (i : ℕ) → Finding i → i < n → get_or table (from + i) 0 + (get_or table (16384 + (from + i)) 0 + 1) ≤ length text
  finding-inside i g l = g.base.1.inside i l

  module _ (i : ℕ) (g : Finding i) (l : i < n) (t : Bool) (e : t ≡ same_name (word text at len) (word text (get_or table (from + i) 0) (get_or table (16384 + (from + i)) 0 + 1))) where
    told : (names : List (List ℕ)) → Words text table from names n → same_name (word text at len) (get_or names i []) ≡ t
    told names h = ap (same_name (word text at len)) (inv (h.spelt i l)) ∙ inv e

    pub finding_hit : t ≡ true → (names : List (List ℕ)) → Words text table from names n → i ≡ place (word text at len) names
    finding_hit y names h = place-first (word text at len) names i (omega (arith, h.count)) (g.passed names h) (told names h ∙ y)

    pub finding-step : t ≡ false → Finding (i + 1)
    finding-step y = record { below = omega arith; base = g.base; passed = λ names h. found-more (word text at len) names i (g.passed names h) (told names h ∙ y) }

  pub finding-end : (i : ℕ) → Finding i → n ≤ i → (names : List (List ℕ)) → Words text table from names n → n ≡ place (word text at len) names
  finding-end i g l names h = inv h.count ∙ place_none (word text at len) names (λ j (k : j < length names). g.passed names h j (omega (arith, h.count, g.below)))

pub ruleset finding = (finding-start, finding-inside, finding-step)

pub ruleset finding-said = (finding_hit, finding-end)

-- Variables

module _ (text table : List ℕ) (d : Draft) (w : List ℕ) (t : Bool) (e : t ≡ lone w) where
  pub variable-lone : t ≡ true → VariableNumber text table d w d.variables
  variable-lone y = record { answers = λ g s h. inv (h.words Variable).count ∙ ap length (h.whole Variable) ∙ inv (alone g s); low = omega arith }
    where
      alone : (g : Given) (s : List Spot) → variable_number (variables_after [] s) w ≡ length (variables_after [] s)
      alone g s = rw (inv e ∙ y) refl

  pub variable-found : t ≡ false → (r : ℕ) → ((names : List (List ℕ)) → Words text table 0 names d.variables → r ≡ place w names) → r ≤ d.variables → VariableNumber text table d w r
  variable-found y r f l = record { answers = λ g s h. f (h.own Variable) (h.words Variable) ∙ ap (place w) (h.whole Variable) ∙ inv (placed g s); low = l }
    where
      placed : (g : Given) (s : List Spot) → variable_number (variables_after [] s) w ≡ place w (variables_after [] s)
      placed g s = rw (inv e ∙ y) refl

pub numbering-words : (text table : List ℕ) (d : Draft) → Numbering text table d → (k : Kind) → (names : List (List ℕ)) × Words text table (base_of k) names (own_of d k)
numbering-words text table d h k = (h.kept.own k, h.kept.words k)

-- Names

listed-stands : (names : List ℕ) → Bytes names → gives names ≡ true → Stands names 0 (entries_of names)
listed-stands names bytes g =
    let is : is_list names ≡ true = cases (is_list names) (λ t. t) (λ t. absurd (true≢false (inv g ∙ not-list names t))) in
    list-stands names (entries_of names) (list-means names bytes is)

pub known-stands : (names : List ℕ) → Bytes names → gives names ≡ true → (l : List Entry) × Stands names 0 l
known-stands names bytes g = (entries_of names, listed-stands names bytes g)

place_in : (w : List ℕ) (l m : List (List ℕ)) → within w l ≡ true → place w (l ++ m) ≡ place w l
place_in w [] m h = absurd (true≢false (inv h))
place_in w (v ∷ l) m h = cases (same_name w v) (λ t. rw t) (λ t. rw t (ap suc (place_in w l m (rw t at h))))

place_out : (w : List ℕ) (l m : List (List ℕ)) → within w l ≡ false → place w (l ++ m) ≡ length l + place w m
place_out w [] m h = omega arith
place_out w (v ∷ l) m h = cases (same_name w v) (λ t. absurd (true≢false (rw t at h))) (λ t. rw t (let z = place_out w l m (rw t at h) in omega arith))

module _ (names : List ℕ) (bytes : Bytes names) (g : gives names ≡ true) (k : Sort) (w : List ℕ) (own all : List (List ℕ)) (whole : given_from names k ++ own ≡ all) (few : length (given_from names k) ≤ 61439) where
  stood : Stands names 0 (entries_of names)
  stood = listed-stands names bytes g

  number_in : (n : ℕ) → ((l : List Entry) (j : Sort) → Stands names 0 l → kind k ≡ kind j → Some n ≡ sought l j w) → (n ≡ place w all) × (n ≤ 61439)
  number_in n f =
      let s = f (entries_of names) k stood refl ∙ known-number names bytes g k w in
      cases (within w (given_from names k))
      (λ t. let r : Some n ≡ Some (place w (given_from names k)) = s ∙ rw t in let q : n ≡ place w (given_from names k) = cc in (q ∙ inv (place_in w (given_from names k) own t) ∙ ap (place w) whole, omega (arith, place-within w (given_from names k) t)))
      (λ t. let r : Some n ≡ None = s ∙ rw t in let z : ◌≡◌ {A = ℕ} 0 1 = cc in absurd (omega arith))

  number-out : (c r : ℕ) → ((l : List Entry) (j : Sort) → Stands names 0 l → kind k ≡ kind j → None ≡ sought l j w) → c ≡ length (given_from names k) → r ≡ place w own → c + r ≡ place w all
  number-out c r f e p =
      let s = f (entries_of names) k stood refl ∙ known-number names bytes g k w in
      cases (within w (given_from names k))
      (λ t. let r : None ≡ Some (place w (given_from names k)) = s ∙ rw t in let z : ◌≡◌ {A = ℕ} 0 1 = cc in absurd (omega arith))
      (λ t. let q = place_out w (given_from names k) own t in let z : place w (given_from names k ++ own) ≡ place w all = ap (place w) whole in omega arith)

module _ (text names table : List ℕ) (bytes : Bytes names) (g : Known) (d : Draft) (w : Word) (pre : Naming text names table g d w) where
  abbrev Sought : Kind → Option ℕ → Type 0
  Sought k o = (l : List Entry) (j : Sort) → Stands names 0 l → code_of k ≡ kind j → o ≡ sought l j (word_of text w)

  given-few : (k : Kind) → length (list_of (given_from names) k) ≤ 61439
  given-few k = omega (arith, pre.knowing.counts k, pre.knowing.few k)

  listed_in : (k : Kind) → Symbol k → (n : ℕ) → Sought k (Some n) →
      (e : List Spot) → Kept (given_from names) text table d e → (n ≡ number_of (given_from names) e k (word_of text w)) × (n ≤ 61439)
  listed_in Variable s n f e h = absurd s
  listed_in Constant s n f e h = number_in names bytes pre.knowing.is Names.Constant (word_of text w) (h.own Constant) (words_of (given_from names) e Constant) (h.whole Constant) (given-few Constant) n f
  listed_in Compound s n f e h = number_in names bytes pre.knowing.is Names.Compound (word_of text w) (h.own Compound) (words_of (given_from names) e Compound) (h.whole Compound) (given-few Compound) n f
  listed_in Predicate s n f e h = number_in names bytes pre.knowing.is Names.Predicate (word_of text w) (h.own Predicate) (words_of (given_from names) e Predicate) (h.whole Predicate) (given-few Predicate) n f

  listed-out : (k : Kind) → Symbol k → (r : ℕ) → Sought k None →
      (e : List Spot) (h : Kept (given_from names) text table d e) → r ≡ place (word_of text w) (h.own k) → given_of g k + r ≡ number_of (given_from names) e k (word_of text w)
  listed-out Variable s r f e h q = absurd s
  listed-out Constant s r f e h q = number-out names bytes pre.knowing.is Names.Constant (word_of text w) (h.own Constant) (words_of (given_from names) e Constant) (h.whole Constant) (given-few Constant) g.constants r f (pre.knowing.counts Constant) q
  listed-out Compound s r f e h q = number-out names bytes pre.knowing.is Names.Compound (word_of text w) (h.own Compound) (words_of (given_from names) e Compound) (h.whole Compound) (given-few Compound) g.compounds r f (pre.knowing.counts Compound) q
  listed-out Predicate s r f e h q = number-out names bytes pre.knowing.is Names.Predicate (word_of text w) (h.own Predicate) (words_of (given_from names) e Predicate) (h.whole Predicate) (given-few Predicate) g.predicates r f (pre.knowing.counts Predicate) q

  -- what the code asks of the list: the name's bytes are a part of the text
  abbrev Asked : ℕ → List ℕ → Option ℕ → Type 0
  Asked c v o = (l : List Entry) (j : Sort) → Stands names 0 l → c ≡ kind j → o ≡ sought l j v

  module _ (c m : ℕ) (q : c ≡ code_of w.kind) (me : m ≡ w.len) (o : Option ℕ) (f : Asked c (take m (drop w.at text)) o) where
    asked : (p : Option ℕ) → o ≡ p → Sought w.kind p
    asked p e l j s i = inv e ∙ f l j s (q ∙ i) ∙ ap (λ (x : ℕ). sought l j (take x (drop w.at text))) me

    pub name-listed : (n : ℕ) → o ≡ Some n → NamedNumber text names table d w n
    name-listed n e =
        record { answers = λ i h. (listed_in w.kind pre.symbol n (asked (Some n) e) i h).0; low = omega (arith, (listed_in w.kind pre.symbol n (asked (Some n) e) pre.spots pre.kept).1) }

    pub name-own : (b u p r : ℕ) → o ≡ None → p ≡ given_of g w.kind → b ≡ base_of w.kind →
        u ≡ own_of d w.kind → ((own : List (List ℕ)) → Words text table b own u → r ≡ place (word_of text w) own) → r ≤ u → NamedNumber text names table d w (p + r)
    name-own b u p r e pe be oe h y =
        record {
          answers =
              λ i k.
              ap (λ (x : ℕ). x + r) pe
              ∙ listed-out w.kind pre.symbol r (asked None e) i k (h (k.own w.kind) (subst (λ (x : ℕ). Words text table x (k.own w.kind) u) (inv be) (subst (Words text table (base_of w.kind) (k.own w.kind)) (inv oe) (k.words w.kind))));
          low = omega (arith, pre.knowing.few w.kind);
        }

  pub name-words : (b o : ℕ) → b ≡ base_of w.kind → o ≡ own_of d w.kind → (own : List (List ℕ)) × Words text table b own o
  name-words b o be oe =
      (pre.kept.own w.kind, subst (λ (x : ℕ). Words text table x (pre.kept.own w.kind) o) (inv be) (subst (Words text table (base_of w.kind) (pre.kept.own w.kind)) (inv oe) (pre.kept.words w.kind)))

  pub name-room : (b o : ℕ) → b ≡ base_of w.kind → o ≡ own_of d w.kind → b + o ≤ 16384
  name-room b o be oe = let z = base-low w.kind in omega (arith, pre.kept.few w.kind)

pub ruleset variabled = (variable-lone, variable-found)

pub ruleset nameable = (name-listed, name-own, name-words, name-room)
