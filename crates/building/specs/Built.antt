-- The bytes of the rule that is read in part (reading, Part and Draft), and where the records of its open symbols stand.
use Rattle.std.specs.Prelude.{ℕ, zero, suc, ◌+◌, ◌-◌, ◌≤◌, ◌<◌, ◌≡◌, true, List, [], length, get_or, set, take}
use Rattle.grammar.specs.Syntax.{Formula, none}
use Rattle.grammar.specs.Names.{variable_number}
use Rattle.reading.specs.Part.{Done, none_yet, and_variable, Part, formulas, inside, filled, terms_of, put}
use Rattle.reading.specs.Reader.{nodes, variables}
use Rattle.reading.specs.Limits.{SmallPart}
use Rattle.reading.specs.Draft.{drafts}
use Rattle.nametable.specs.Table.{word}
use Rattle.drafts.specs.declared.Kind.{Kind}
use Rattle.drafts.specs.declared.Kind.TheVariants.{Compound, Predicate}
use Rattle.drafts.specs.declared.Draft.{Draft}
use Rattle.drafts.specs.Drafted.{Tables, weight, Drafted}
use Rattle.building.specs.declared.Work.{Work}

abbrev pub kind_at : ℕ → Kind
kind_at zero = Predicate
kind_at (suc k) = Compound

abbrev pub bumped : List ℕ → ℕ → List ℕ
bumped out at = set out at (get_or out at 0 + 1)

-- how many bytes stand before the record of each open symbol, the outermost first
pub data Opens (opens : List ℕ) : Part → ℕ → Type 0 where
  shut : {fs : List Formula} → Opens opens (formulas fs) 0
  open_at : {p : Part} {v : List ℕ} {d : Done} {k : ℕ} → Opens opens p k → get_or opens k 0 ≡ weight (drafts p []) → Opens opens (inside p v d) (suc k)

pub record Built (text out opens starts lens heads nexts : List ℕ) (b : Draft) (T : Tables) (p : Part) (depth : ℕ) : Type 0 where
  pub drafted : Drafted text out starts lens heads nexts b T (drafts p [])
  pub opened : Opens opens p depth
  pub opens_long : length opens ≡ 256
  pub weighed : b.len ≡ weight (drafts p [])

-- a name may be added
pub record Ready (text out opens starts lens heads nexts : List ℕ) (w : Work) : Type 0 where
  pub base : Tables
  pub part : Part
  pub built : Built text out opens starts lens heads nexts w.draft base part w.depth
  pub small : SmallPart part
  pub count : nodes part ≤ 255
  pub name_inside : w.at + w.len ≤ length text
  pub name_low : w.at < 65536
  pub name_short : w.len < 256

-- behind a bracket
pub record Opened (text out out' opens opens' starts lens heads nexts starts' lens' heads' nexts' : List ℕ) (w : Work) (r : Draft) : Type 0 where
  pub builds : (T : Tables) (p : Part) → Built text out opens starts lens heads nexts w.draft T p w.depth → nodes p ≤ 255 →
      Built text out' opens' starts' lens' heads' nexts' r T (inside p (word text w.at w.len) none_yet) (w.depth + 1)
  pub from_stays : r.from ≡ w.draft.from
  pub kept : (n : ℕ) → n ≤ w.draft.from → take n out' ≡ take n out

-- behind a name that stands alone
pub record Alone (text out out' opens starts lens heads nexts starts' lens' heads' nexts' : List ℕ) (w : Work) (r : Draft) : Type 0 where
  pub builds : (T : Tables) (p : Part) → Built text out opens starts lens heads nexts w.draft T p w.depth → nodes p ≤ 255 →
      Built text out' opens starts' lens' heads' nexts' r T (put p (word text w.at w.len) none) w.depth
  pub from_stays : r.from ≡ w.draft.from
  pub kept : (n : ℕ) → n ≤ w.draft.from → take n out' ≡ take n out

-- a bracket is open, and there are at most so many nodes
pub record Nested (out opens : List ℕ) (b : Draft) (depth most : ℕ) : Type 0 where
  pub text : List ℕ
  pub starts : List ℕ
  pub lens : List ℕ
  pub heads : List ℕ
  pub nexts : List ℕ
  pub base : Tables
  pub part : Part
  pub built : Built text out opens starts lens heads nexts b base part depth
  pub small : SmallPart part
  pub count : nodes part ≤ most
  pub deep : 0 < depth

-- behind an argument that is a variable
pub record Argued (out out' opens : List ℕ) (b : Draft) (depth v : ℕ) (r : Draft) : Type 0 where
  pub builds : (text starts lens heads nexts : List ℕ) (T : Tables) (q : Part) (u w : List ℕ) (d : Done) → Built text out opens starts lens heads nexts b T (inside q u d) depth → nodes (inside q u d) ≤ 255 →
      v ≡ variable_number (variables (inside q u d)) w → Built text out' opens starts lens heads nexts r T (inside q u (and_variable d w)) depth
  pub from_stays : r.from ≡ b.from
  pub kept : (n : ℕ) → n ≤ b.from → take n out' ≡ take n out

-- behind a closing bracket
pub record Closed (out out' opens : List ℕ) (b : Draft) (depth : ℕ) : Type 0 where
  pub builds : (text starts lens heads nexts : List ℕ) (T : Tables) (q : Part) (u : List ℕ) (d : Done) → Built text out opens starts lens heads nexts b T (inside q u d) depth → nodes (inside q u d) ≤ 256 →
      filled d ≡ true → Built text out' opens starts lens heads nexts b T (put q u (terms_of d none)) (depth - 1)
  pub kept : (n : ℕ) → n ≤ b.from → take n out' ≡ take n out

-- with the clause record in front
abbrev pub headed : List ℕ → ℕ → ℕ → List ℕ
headed out from n = set (set out (from - 2) 5) (from - 1) (n - 1)
