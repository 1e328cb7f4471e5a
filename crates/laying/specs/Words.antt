-- The query's own words as the code holds them, and the numbers that they have.
use Rattle.std.specs.Prelude.{ℕ, ◌+◌, ◌≤◌, ◌<◌, ◌≡◌, true, List, [], ◌∷◌, ◌++◌, length, get_or}
use Rattle.grammar.specs.Names as Names
use Rattle.grammar.specs.Names.{Sort, Spot, variable_spot, symbol_spot, place, names_after, variable_number, variables_after}
use Rattle.grammar.specs.Query.{Given}
use Rattle.nametable.specs.Table.{word}
use Rattle.questions.specs.Given.{given_from, gives}
use Rattle.known.specs.declared.Known.{Known}
use Rattle.laying.specs.declared.Kind.{Kind}
use Rattle.laying.specs.declared.Kind.TheVariants.{Variable, Constant, Compound, Predicate}
use Rattle.laying.specs.declared.Draft.{Draft}
use Rattle.laying.specs.declared.Word.{Word}

abbrev pub base_of : Kind → ℕ
base_of Variable = 0
base_of Constant = 4096
base_of Compound = 8192
base_of Predicate = 12288

abbrev pub code_of : Kind → ℕ
code_of Variable = 1
code_of Constant = 2
code_of Compound = 3
code_of Predicate = 4

abbrev pub own_of : Draft → Kind → ℕ
own_of d Variable = d.variables
own_of d Constant = d.constants
own_of d Compound = d.compounds
own_of d Predicate = d.predicates

abbrev pub given_of : Known → Kind → ℕ
given_of g Variable = 0
given_of g Constant = g.constants
given_of g Compound = g.compounds
given_of g Predicate = g.predicates

abbrev pub draft : ℕ → ℕ → ℕ → ℕ → ℕ → ℕ → ℕ → Draft
draft len depth formulas v c f p = record { len = len; depth = depth; formulas = formulas; variables = v; constants = c; compounds = f; predicates = p }

abbrev pub with_one : Draft → Kind → Draft
with_one d Variable = draft d.len d.depth d.formulas (d.variables + 1) d.constants d.compounds d.predicates
with_one d Constant = draft d.len d.depth d.formulas d.variables (d.constants + 1) d.compounds d.predicates
with_one d Compound = draft d.len d.depth d.formulas d.variables d.constants (d.compounds + 1) d.predicates
with_one d Predicate = draft d.len d.depth d.formulas d.variables d.constants d.compounds (d.predicates + 1)

-- Words

-- the names that are given, and those with the query's own
abbrev pub list_of : Given → Kind → List (List ℕ)
list_of g Variable = []
list_of g Constant = g Names.Constant
list_of g Compound = g Names.Compound
list_of g Predicate = g Names.Predicate

abbrev pub words_of : Given → List Spot → Kind → List (List ℕ)
words_of g e Variable = variables_after [] e
words_of g e Constant = names_after Names.Constant (g Names.Constant) e
words_of g e Compound = names_after Names.Compound (g Names.Compound) e
words_of g e Predicate = names_after Names.Predicate (g Names.Predicate) e

abbrev pub spot_of : Kind → List ℕ → Spot
spot_of Variable w = variable_spot w
spot_of Constant w = symbol_spot Names.Constant w 0
spot_of Compound w = symbol_spot Names.Compound w 0
spot_of Predicate w = symbol_spot Names.Predicate w 0

abbrev pub number_of : Given → List Spot → Kind → List ℕ → ℕ
number_of g e Variable w = variable_number (variables_after [] e) w
number_of g e Constant w = place w (names_after Names.Constant (g Names.Constant) e)
number_of g e Compound w = place w (names_after Names.Compound (g Names.Compound) e)
number_of g e Predicate w = place w (names_after Names.Predicate (g Names.Predicate) e)

-- n words stand in the table from a place on; a length is held less one
pub record Words (text table : List ℕ) (from : ℕ) (names : List (List ℕ)) (n : ℕ) : Type 0 where
  pub count : length names ≡ n
  pub inside : (i : ℕ) → i < n → get_or table (from + i) 0 + (get_or table (16384 + (from + i)) 0 + 1) ≤ length text
  pub spelt : (i : ℕ) → i < n → word text (get_or table (from + i) 0) (get_or table (16384 + (from + i)) 0 + 1) ≡ get_or names i []

-- the words of each kind, behind those that are given
pub record Kept (g : Given) (text table : List ℕ) (d : Draft) (e : List Spot) : Type 0 where
  pub long : length table ≡ 32768
  pub few : (k : Kind) → own_of d k ≤ 4096
  pub own : Kind → List (List ℕ)
  pub words : (k : Kind) → Words text table (base_of k) (own k) (own_of d k)
  pub whole : (k : Kind) → list_of g k ++ own k ≡ words_of g e k

pub record Numbering (text table : List ℕ) (d : Draft) : Type 0 where
  pub base : Given
  pub spots : List Spot
  pub kept : Kept base text table d spots

-- what the code answers for a variable
pub record VariableNumber (text table : List ℕ) (d : Draft) (w : List ℕ) (r : ℕ) : Type 0 where
  pub answers : (g : Given) (e : List Spot) → Kept g text table d e → r ≡ number_of g e Variable w
  pub low : r ≤ d.variables

-- and for a name, by a list that is given

abbrev pub Symbol : Kind → Type 0
Symbol Variable = ⊥
Symbol Constant = Unit {0}
Symbol Compound = Unit {0}
Symbol Predicate = Unit {0}

pub record Knowing (names : List ℕ) (g : Known) : Type 0 where
  pub is : gives names ≡ true
  pub counts : (k : Kind) → given_of g k ≡ length (list_of (given_from names) k)
  pub few : (k : Kind) → given_of g k ≤ 61439

abbrev pub word_of : List ℕ → Word → List ℕ
word_of text w = word text w.at w.len

pub record Naming (text names table : List ℕ) (g : Known) (d : Draft) (w : Word) : Type 0 where
  pub knowing : Knowing names g
  pub spots : List Spot
  pub kept : Kept (given_from names) text table d spots
  pub inside : w.at + w.len ≤ length text
  pub symbol : Symbol w.kind

pub record NamedNumber (text names table : List ℕ) (d : Draft) (w : Word) (r : ℕ) : Type 0 where
  pub answers : (e : List Spot) → Kept (given_from names) text table d e → r ≡ number_of (given_from names) e w.kind (word_of text w)
  pub low : r ≤ 61439 + own_of d w.kind

-- One word more

pub record Modest (d : Draft) : Type 0 where
  pub variables : d.variables ≤ 4096
  pub constants : d.constants ≤ 4096
  pub compounds : d.compounds ≤ 4096
  pub predicates : d.predicates ≤ 4096

pub record Notes (table : List ℕ) (g : Known) (d : Draft) (w : Word) : Type 0 where
  pub long : length table ≡ 32768
  pub modest : Modest d
  pub room : own_of d w.kind < 4096
  pub few : given_of g w.kind ≤ 61439
  pub low : w.at < 65536
  pub some : 0 < w.len
  pub short : w.len ≤ 65536

pub record Noted (table table' : List ℕ) (g : Known) (d : Draft) (w : Word) (n : ℕ) (r : Draft) : Type 0 where
  pub keeps : (base : Given) (text : List ℕ) (e : List Spot) → Kept base text table d e → w.at + w.len ≤ length text → given_of g w.kind ≡ length (list_of base w.kind) →
      n ≡ number_of base e w.kind (word_of text w) → Kept base text table' r (e ++ (spot_of w.kind (word_of text w) ∷ []))
  pub len_stays : r.len ≡ d.len
  pub depth_stays : r.depth ≡ d.depth
  pub formulas_stay : r.formulas ≡ d.formulas
  pub grows : (k : Kind) → own_of r k ≤ own_of d k + 1
