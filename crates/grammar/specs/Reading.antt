-- What a text says: the book and the names that it is read as (document 02, C-13).
use Rattle.std.specs.Prelude.{ℕ, ◌≤◌, ◌≡◌, List, [], ◌∷◌, length}
use Rattle.std.proofs.Common.{sym as inv, ap, ◌∙◌}
use Rattle.search.specs.Next as Next
use Rattle.format.specs.Format.{encode_book}
use Rattle.grammar.specs.Token.{Spells}
use Rattle.grammar.specs.TokenLaws.{spells_one}
use Rattle.grammar.specs.Syntax.{Terms, none, variable_then, name_then, Formula, Rule, written}
use Rattle.grammar.specs.SyntaxLaws.{written_one}
use Rattle.grammar.specs.Names.{count, rule_spots, variables_after, book, name_list}

-- Sizes (document 01, "Records" and "Sizes"; "names at most 32 bytes")

abbrev pub Small : Terms → Type 0
Small none = Unit {0}
Small (variable_then w ts) = Small ts
Small (name_then w own ts) = (length w ≤ 32) × (count own ≤ 8) × Small own × Small ts

pub record SmallFormula (f : Formula) : Type 0 where
  pub short : length f.symbol ≤ 32
  pub few : count f.arguments ≤ 8
  pub small : Small f.arguments

abbrev pub SmallFormulas : List Formula → Type 0
SmallFormulas [] = Unit {0}
SmallFormulas (f ∷ fs) = SmallFormula f × SmallFormulas fs

-- "0 to 16" formulas in a body; "Clause: 256 nodes, variables 0 to 63."
pub record SmallRule (c : Rule) : Type 0 where
  pub few : length c.body ≤ 16
  pub formulas : SmallFormulas (c.head ∷ c.body)
  pub nodes : length (rule_spots c) ≤ 256
  pub variables : length (variables_after [] (rule_spots c)) ≤ 64

abbrev pub SmallRules : List Rule → Type 0
SmallRules [] = Unit {0}
SmallRules (c ∷ cs) = SmallRule c × SmallRules cs

-- "Book: 32,768 bytes, 512 clauses."
pub record Sized (cs : List Rule) : Type 0 where
  pub few : length cs ≤ 512
  pub rules : SmallRules cs
  pub bytes : length (encode_book (book cs)) ≤ 32768

-- The text is written as these rules are, whatever their sizes.
abbrev pub Writes : List ℕ → List Rule → Type 0
Writes text cs = Spells text (written cs)

pub record Reading (text : List ℕ) (b : Next.Book) (list : List ℕ) : Type 0 where
  pub rules : List Rule
  pub writes : Writes text rules
  pub sized : Sized rules
  pub short : length text ≤ 65536
  pub book_is : b ≡ book rules
  pub list_is : list ≡ name_list rules

pub rules-one : {text : List ℕ} (cs ds : List Rule) → Writes text cs → Writes text ds → cs ≡ ds
rules-one cs ds p q = written_one cs ds (spells_one p q)

-- "each with one reading"
pub reading-one : {text list list' : List ℕ} {b b' : Next.Book} → Reading text b list → Reading text b' list' → (b ≡ b') × (list ≡ list')
reading-one p q =
    let same = rules-one p.rules q.rules p.writes q.writes in (
      p.book_is ∙ ap book same ∙ inv q.book_is,
      p.list_is ∙ ap name_list same ∙ inv q.list_is,
    )
