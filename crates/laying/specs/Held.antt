-- A page as the code holds it.
use Rattle.std.specs.Prelude.{ℕ, zero, suc, ◌+◌, ◌-◌, ◌*◌, ◌/◌, ◌%◌, ◌≤◌, ◌<◌, ◌≡◌, Bool, true, false, List, [], ◌∷◌, ◌++◌, length, get_or, take, drop, eqb}
use Rattle.terms.specs.When.{◌⇒◌∣◌}
use Rattle.grammar.specs.Query.{Given}
use Rattle.known.specs.declared.Known.{Known}
use Rattle.laying.specs.declared.Kind.{Kind}
use Rattle.laying.specs.declared.Kind.TheVariants.{Variable, Constant, Compound, Predicate}
use Rattle.laying.specs.declared.Draft.{Draft}
use Rattle.laying.specs.declared.Word.{Word}
use Rattle.laying.specs.Page.{Page, page, bumped}
use Rattle.laying.specs.Words.{own_of, given_of, draft, list_of, spot_of, number_of, word_of, Kept}

-- the record of a node that has no argument yet
abbrev pub node_bytes : Kind → ℕ → List ℕ
node_bytes Variable n = 1 ∷ n / 256 ∷ n % 256 ∷ []
node_bytes Constant n = 2 ∷ n / 256 ∷ n % 256 ∷ []
node_bytes Compound n = 3 ∷ n / 256 ∷ n % 256 ∷ 0 ∷ []
node_bytes Predicate n = 4 ∷ n / 256 ∷ n % 256 ∷ 0 ∷ []

abbrev pub kind_of : ℕ → Bool → Kind
kind_of zero b = Predicate
kind_of (suc d) true = Compound
kind_of (suc d) false = Constant

-- the positions of the open symbols, the innermost first
abbrev pub stack_of : List ℕ → ℕ → List ℕ
stack_of opens zero = []
stack_of opens (suc n) = get_or opens n 0 ∷ stack_of opens n

abbrev pub Below : List ℕ → ℕ → Type 0
Below [] n = Unit {0}
Below (p ∷ ps) n = (p < n) × Below ps n

-- a bracket stands there
abbrev pub first_opens : List ℕ → Bool
first_opens [] = false
first_opens (b ∷ s) = eqb b 40

abbrev pub opens_at : List ℕ → ℕ → Bool
opens_at text at = first_opens (drop at text)

abbrev pub blank_draft : Draft
blank_draft = draft 0 0 0 0 0 0 0

abbrev pub rooted_draft : Draft → Draft
rooted_draft d = eqb d.depth 0 ⇒ draft d.len d.depth (d.formulas + 1) d.variables d.constants d.compounds d.predicates ∣ d

abbrev pub shut_draft : Draft → Draft
shut_draft d = draft d.len (d.depth - 1) d.formulas d.variables d.constants d.compounds d.predicates

abbrev pub pushed_draft : Draft → Draft
pushed_draft d = draft d.len (d.depth + 1) d.formulas d.variables d.constants d.compounds d.predicates

abbrev pub longer_draft : Draft → ℕ → Draft
longer_draft d n = draft (d.len + n) d.depth d.formulas d.variables d.constants d.compounds d.predicates

-- the page is held, and there is room for so many words more
pub record Held (g : Given) (text table out opens : List ℕ) (d : Draft) (s : Page) (left : ℕ) : Type 0 where
  pub kept : Kept g text table d s.spots
  pub bytes_are : take d.len out ≡ s.bytes
  pub out_long : length out ≡ 16384
  pub stack_is : stack_of opens d.depth ≡ s.stack
  pub opens_long : length opens ≡ 4096
  pub below : Below s.stack d.len
  pub formulas_are : d.formulas ≡ s.formulas
  pub room_formulas : d.formulas + left ≤ 4096
  pub room_bytes : d.len + 4 * left ≤ 16384
  pub room_depth : d.depth + left ≤ 4096
  pub room_words : (k : Kind) → own_of d k + left ≤ 4096

-- a word with its number may be laid
pub record Ready (g : Given) (text table out opens : List ℕ) (k : Known) (d : Draft) (w : Word) (n : ℕ) (s : Page) (left : ℕ) : Type 0 where
  pub held : Held g text table out opens d s (left + 1)
  pub gave : given_of k w.kind ≡ length (list_of g w.kind)
  pub few : given_of k w.kind ≤ 61439
  pub number_is : n ≡ number_of g s.spots w.kind (word_of text w)
  pub number_low : n < 65536
  pub inside : w.at + w.len ≤ length text
  pub low : w.at < 65536
  pub some : 0 < w.len
  pub short : w.len ≤ 65536

pub record Somewhere (table out opens : List ℕ) (k : Known) (d : Draft) (w : Word) (n : ℕ) : Type 0 where
  pub base : Given
  pub text : List ℕ
  pub page_now : Page
  pub left : ℕ
  pub ready : Ready base text table out opens k d w n page_now left

-- with the word laid, whatever brackets it has
abbrev pub with_word : Page → Kind → ℕ → List ℕ → Page
with_word s k n w = page (bumped s.bytes s.stack ++ node_bytes k n) s.stack (s.spots ++ (spot_of k w ∷ [])) s.formulas

pub record LaysWord (table table' out out' opens : List ℕ) (k : Known) (d : Draft) (w : Word) (n : ℕ) (r : Draft) : Type 0 where
  pub holds : (g : Given) (text : List ℕ) (s : Page) (left : ℕ) → Ready g text table out opens k d w n s left → Held g text table' out' opens r (with_word s w.kind n (word_of text w)) left
  pub depth_stays : r.depth ≡ d.depth
  pub formulas_stay : r.formulas ≡ d.formulas
  pub len_is : r.len ≡ d.len + length (node_bytes w.kind n)
