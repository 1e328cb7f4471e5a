-- The bytes of nodes that are numbered as they come.
use Prim.Native.Nat.{ℕ, suc}
use mathlib.Core.Path.{◌≡◌, refl, sym as inv, ap, ◌∙◌}
use mathlib.Core.Bool.{false}
use mathlib.Core.List.{List, [], ◌∷◌, ◌++◌, append_assoc}
use native.Mathlib.Omega.{arith}
use lib.ListN.{length}
use Rattle.terms.specs.Node.{Expr, var, sym}
use Rattle.terms.specs.When.{◌⇒◌∣◌}
use Rattle.terms.specs.Cases.{cases}
use Rattle.format.specs.Format.{encode_record, encode, node_record, node_records}
use Rattle.grammar.specs.Names as Names
use Rattle.grammar.specs.Names.{Sort, Spot, variable_spot, symbol_spot, place, within, grow, is_sort, names_after, variable_number, with_variable, variables_after, symbol_for}
use Rattle.grammar.specs.NameLaws.{place-outside, same_refl}
use Rattle.grammar.specs.GrowLaws.{with_symbol, numbered_on}
use Rattle.drafts.specs.declared.Kind.{Kind}
use Rattle.drafts.specs.declared.Kind.TheVariants.{Constant, Compound, Predicate}
use Rattle.drafts.specs.Writing.{symbol_bytes}
use Rattle.drafts.specs.Drafted.{sort_of_kind, Tables, after, bytes_of}

pub encode-append : (a b : List _) → encode (a ++ b) ≡ encode a ++ encode b
encode-append [] b = refl
encode-append (r ∷ a) b = ap (λ (l : List ℕ). encode_record r ++ l) (encode-append a b) ∙ inv (append_assoc (encode_record r) (encode a) (encode b))

records-append : (a b : Expr) → node_records (a ++ b) ≡ node_records a ++ node_records b
records-append [] b = refl
records-append (x ∷ a) b = ap (λ (l : List _). node_record x ∷ l) (records-append a b)

pub on-append : (T : Tables) (seen : List (List ℕ)) (a b : List Spot) → numbered_on T seen (a ++ b) ≡ numbered_on T seen a ++ numbered_on (after T a) (variables_after seen a) b
on-append T seen [] b = refl
on-append T seen (variable_spot w ∷ a) b = ap (λ (x : Expr). var (variable_number seen w) ∷ x) (on-append T (with_variable seen w) a b)
on-append T seen (symbol_spot k w n ∷ a) b = ap (λ (x : Expr). sym (symbol_for k (place w (grow (T k) w)) n) ∷ x) (on-append (with_symbol T k w) seen a b)

pub bytes-append : (T : Tables) (seen : List (List ℕ)) (a b : List Spot) → bytes_of T seen (a ++ b) ≡ bytes_of T seen a ++ bytes_of (after T a) (variables_after seen a) b
bytes-append T seen a b =
    ap (λ (e : Expr). encode (node_records e)) (on-append T seen a b)
    ∙ ap encode (records-append (numbered_on T seen a) (numbered_on (after T a) (variables_after seen a) b))
    ∙ encode-append (node_records (numbered_on T seen a)) (node_records (numbered_on (after T a) (variables_after seen a) b))

pub symbol-bytes : (T : Tables) (seen : List (List ℕ)) (k : Kind) (w : List ℕ) → bytes_of T seen (symbol_spot (sort_of_kind k) w 0 ∷ []) ≡ symbol_bytes k (place w (grow (T (sort_of_kind k)) w))
symbol-bytes T seen Constant w = refl
symbol-bytes T seen Compound w = refl
symbol-bytes T seen Predicate w = refl

place-last : (w : List ℕ) (l : List (List ℕ)) → within w l ≡ false → place w (l ++ (w ∷ [])) ≡ length l
place-last w [] h = rw (same_refl w) refl
place-last w (v ∷ l) h = cases (Names.same_name w v) (λ t. let z : ◌≡◌ {A = ℕ} 0 1 = cc (rw t at h) in absurd (omega arith)) (λ t. rw t (ap suc (place-last w l (rw t at h))))

pub place-grown : (w : List ℕ) (l : List (List ℕ)) → place w (grow l w) ≡ place w l
place-grown w l = cases (within w l) (λ t. rw t refl) (λ t. rw t (place-last w l t ∙ inv (place-outside w l t)))

pub names-append : (k : Sort) (seen : List (List ℕ)) (a b : List Spot) → names_after k seen (a ++ b) ≡ names_after k (names_after k seen a) b
names-append k seen [] b = refl
names-append k seen (variable_spot w ∷ a) b = names-append k seen a b
names-append k seen (symbol_spot j w n ∷ a) b = names-append k (is_sort k j ⇒ grow seen w ∣ seen) a b

pub after-append : (T : Tables) (k : Sort) (a b : List Spot) → after T (a ++ b) k ≡ after (after T a) b k
after-append T k a b = names-append k (T k) a b
