-- How long images and words are: a node takes three or four bytes and one word.
use Prim.Native.Nat.{ℕ, suc, ◌+◌, ◌*◌, ◌≤◌, zero-le}
use native.Mathlib.Omega.{arith}
use mathlib.Core.Path.{◌≡◌, refl, ap}
use mathlib.Core.List.{List, [], ◌∷◌, ◌++◌}
use lib.ListN.{length, length-append}
use lib.Dec.{lit≤}
use Rattle.terms.specs.Node.{constant, compound, predicate, Node, var, sym, Expr}
use Rattle.search.specs.Next as Next
use Rattle.search.specs.Room.{nodes}
use Rattle.words.specs.Word.{words_of}
use Rattle.words.specs.Flat.{flat}
use Rattle.format.specs.declared.Record.{Record}
use Rattle.format.specs.Format.{encode_record, encode, node_record, node_records, book_records, encode_book}
use Rattle.format.specs.Words.{goal_words, book_words, book_starts, book_bodies}

node-short : (x : Node) → length (encode_record (node_record x)) ≤ 4
node-short (var v) = lit≤ tt
node-short (sym (constant c)) = lit≤ tt
node-short (sym (compound f n)) = lit≤ tt
node-short (sym (predicate p n)) = lit≤ tt

pub nodes-short : (e : Expr) → length (encode (node_records e)) ≤ 4 * length e
nodes-short [] = zero-le
nodes-short (x ∷ e) = omega (arith, length-append (encode_record (node_record x)) (encode (node_records e)), node-short x, nodes-short e)

pub starts-length : (n : ℕ) (b : Next.Book) → length (book_starts n b) ≡ suc (length b)
starts-length n [] = refl
starts-length n (c ∷ b) = ap suc (starts-length (n + nodes (c.head ∷ c.body)) b)

pub bodies-length : (b : Next.Book) → length (book_bodies b) ≡ length b
bodies-length [] = refl
bodies-length (c ∷ b) = ap suc (bodies-length b)

-- a node takes three bytes at least, so a book has 10,922 nodes at most
node-long : (x : Node) → 3 ≤ length (encode_record (node_record x))
node-long (var v) = lit≤ tt
node-long (sym (constant c)) = lit≤ tt
node-long (sym (compound f n)) = lit≤ tt
node-long (sym (predicate p n)) = lit≤ tt

nodes-long : (e : Expr) (rs : List Record) → 3 * length (words_of e) + length (encode rs) ≤ length (encode (node_records e ++ rs))
nodes-long [] rs = omega arith
nodes-long (x ∷ e) rs = omega (arith, length-append (encode_record (node_record x)) (encode (node_records e ++ rs)), node-long x, nodes-long e rs)

pub words-few : (b : Next.Book) → 3 * length (book_words b) ≤ length (encode_book b)
words-few [] = lit≤ tt
words-few (c ∷ b) =
    omega (arith, length-append (goal_words (c.head ∷ c.body)) (book_words b), nodes-long (flat (c.head ∷ c.body)) (book_records b), words-few b)
