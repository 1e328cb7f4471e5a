-- The records of a good book and of a good goal, with their numbers in range.
use Prim.Native.Nat.{ℕ, ◌≤◌}
use mathlib.Core.Path.{◌≡◌, refl, sym as inv, subst}
use mathlib.Core.List.{List, [], ◌∷◌, append-nil}
use lib.ListN.{length}
use Rattle.search.specs.Next as Next
use Rattle.words.specs.Flat.{flat}
use Rattle.format.specs.declared.State.{State}
use Rattle.format.specs.declared.Form.{Form}
use Rattle.format.specs.declared.Form.TheVariants.{Book, Query}
use Rattle.format.specs.declared.Record.{Record}
use Rattle.format.specs.Format.{encode_book, node_records, goal_records, book_records, GoodBook, GoodGoal}
use Rattle.format.specs.Reading.{after, start}
use Rattle.format.specs.Decode.{book_of}
use Rattle.format.specs.Faulty.{Complete}
use Rattle.format.proofs.Beginnings.{Reads, beginning-reads}
use Rattle.format.proofs.GoodSizes.{clauses-formed, goal_iff}
use Rattle.scanning.specs.Meeting.{AllRange, MeetsAll}

reads-range : (form : Form) (s : State) (rs : List Record) → Reads form s rs → AllRange rs
reads-range form s [] h = tt
reads-range form s (r ∷ rs) h = (h.0.within_range, reads-range form (after s r) rs h.1)

complete-range : (form : Form) (rs : List Record) → Complete form rs → AllRange rs
complete-range form rs c = reads-range form start rs ((beginning-reads form rs).0 ([], subst (Complete form) (inv (append-nil rs)) c))

pub goal-range : (g : Next.Goal) → GoodGoal g → AllRange (node_records (flat g))
goal-range g good = (complete-range Query (goal_records g) (g, ((goal_iff g).0 good).0, refl)).1

module _ (image : List ℕ) (good : GoodBook (book_of image)) (e : encode_book (book_of image) ≡ image) where
  abbrev rs : List Record
  rs = book_records (book_of image)

  pub book-range : AllRange rs
  book-range = complete-range Book rs (book_of image, clauses-formed (book_of image) good.clauses, refl)

  pub book-meets : MeetsAll image
  book-meets = record { records = rs; is = inv e; ranged = book-range; short = subst (λ (s : List ℕ). length s ≤ 32768) e good.short }
