-- The words of records, of goals and of books; and the bytes of words.
use Rattle.std.specs.Prelude.{ℕ, ◌+◌, ◌/◌, ◌%◌, ◌≡◌, refl, List, [], ◌∷◌, ◌++◌, length, ltb}
use Rattle.terms.specs.Node.{constant, compound, predicate, Node, var, sym}
use Rattle.terms.specs.When.{◌⇒◌∣◌}
use Rattle.search.specs.Next as Next
use Rattle.search.specs.Room.{nodes}
use Rattle.words.specs.Word.{word, words_of}
use Rattle.words.specs.Flat.{flat}
use Rattle.format.specs.declared.Record.{Record}
use Rattle.format.specs.declared.Record.TheVariants.{Variable, Constant, Compound, Formula, Clause, Goal, End}
use Rattle.format.specs.Format.{node_record}

-- the word of a node's record; other records have none
unfoldable pub word_of : Record → ℕ
word_of (Variable v) = word (var v)
word_of (Constant c) = word (sym (constant c))
word_of (Compound f n) = word (sym (compound f n))
word_of (Formula p n) = word (sym (predicate p n))
word_of (Clause n) = 0
word_of (Goal n) = 0
word_of End = 0

pub record_word : (x : Node) → word_of (node_record x) ≡ word x
unfolding word_of
record_word (var v) = refl
record_word (sym (constant c)) = refl
record_word (sym (compound f n)) = refl
record_word (sym (predicate p n)) = refl

-- Goals and books

abbrev pub goal_words : Next.Goal → List ℕ
goal_words g = words_of (flat g)

-- clause by clause, each head first
abbrev pub book_words : Next.Book → List ℕ
book_words [] = []
book_words (c ∷ b) = goal_words (c.head ∷ c.body) ++ book_words b

-- where each clause's words start, the first at n, and where the last one's end
abbrev pub book_starts : ℕ → Next.Book → List ℕ
book_starts n [] = n ∷ []
book_starts n (c ∷ b) = n ∷ book_starts (n + nodes (c.head ∷ c.body)) b

-- where each clause's head ends, and its body starts
abbrev pub book_heads : ℕ → Next.Book → List ℕ
book_heads n [] = []
book_heads n (c ∷ b) = (n + length c.head) ∷ book_heads (n + nodes (c.head ∷ c.body)) b

-- how many formulas each clause's body has
abbrev pub book_bodies : Next.Book → List ℕ
book_bodies [] = []
book_bodies (c ∷ b) = length c.body ∷ book_bodies b

-- The bytes of words, which are those of the nodes that they are the words of.

-- words from here on are those of compound terms and formulas, which have an arity
abbrev pub first_with_arity : ℕ
first_with_arity = 0x300_0000

unfoldable pub word_bytes : ℕ → List ℕ
word_bytes w =
    ltb w first_with_arity ⇒ w / 0x100_0000 ∷ w / 256 % 256 ∷ w % 256 ∷ []
    ∣ w / 0x100_0000 ∷ w / 256 % 256 ∷ w % 256 ∷ w / 0x1_0000 % 256 ∷ []

abbrev pub words_bytes : List ℕ → List ℕ
words_bytes [] = []
words_bytes (w ∷ ws) = word_bytes w ++ words_bytes ws
