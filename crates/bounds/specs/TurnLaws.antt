-- Words counted, and counts taken, word by word.
use Rattle.std.specs.Prelude.{ℕ, zero, suc, ◌+◌, ◌<◌, ◌≤◌, ◌≡◌, refl, List, [], ◌∷◌, ◌++◌, length, get_or, take, replicate}
use Rattle.std.proofs.Common.{arith, sym as inv, ap, ◌∙◌, subst, append_assoc, append-nil, length-append, take-suc, take_all}
use Rattle.std.proofs.Math.Decide.{ℕ_discrete}
use Rattle.std.proofs.lemmas.List.{length-map}
use Rattle.terms.specs.Node.{var, sym, Expr}
use Rattle.words.specs.Word.{node, nodes}
use Rattle.bounds.specs.Places.{weigh, times}
use Rattle.bounds.specs.Tally.{Noting, NotedOn, Taking, Took}
use Rattle.bounds.specs.ThriftLaws.{mark, mark-most}
use Rattle.bounds.specs.declared.clauses.Noted.{Noted}
use Rattle.bounds.specs.declared.clauses.Taken.{Taken}

weigh-long : (q : ℕ → ℕ) → ((v : ℕ) → q v ≤ 1) → (e : Expr) → weigh q e ≤ length e
weigh-long q one [] = omega arith
weigh-long q one (var v ∷ e) = omega (arith, one v, weigh-long q one e)
weigh-long q one (sym s ∷ e) = omega (arith, weigh-long q one e)

pub note_none : {counts : List ℕ} → ((x : ℕ) → get_or counts x 0 ≡ 0) → Noting [] counts (record { places = 0; names = 0 })
note_none free = record {
  tally = record { none = λ x z. free x; some = λ x n. absurd (n refl); left = λ x n. absurd (n refl) };
  places = refl;
  names = λ x l. absurd (omega arith);
  few = omega arith;
}

-- counts are small
pub note_small : {w counts : List ℕ} {n : Noted} → Noting w counts n → length w ≤ 256 → (n.places ≤ 256) × ((x : ℕ) → get_or counts x 0 ≤ 257)
note_small {w} {counts} y l = (
  omega (arith, y.places, weigh-long (λ v. 1) (λ v. omega arith) (nodes w), length-map w node, l),
  λ x. elim (ℕ_discrete (times x (nodes w)) 0) [
    | yes z ↦ omega (arith, y.tally.none x z)
    | no n ↦ omega (arith, y.tally.left x n, weigh-long (λ v. mark x v) (λ v. mark-most x v) (nodes w), length-map w node, l)
  ],
)

pub take_none : (counts : List ℕ) (t : Taken) → Took [] counts t counts t
take_none counts t = record {
  more = omega arith;
  taken = λ a b w y. subst (λ l. Taking a b l counts t) (inv (append-nil w)) y;
}

pub take-append : {on on' counts counts' counts'' : List ℕ} {t t' r : Taken} → Took on counts t counts' t' → Took on' counts' t' counts'' r → Took (on ++ on') counts t counts'' r
take-append {on} {on'} {counts'' = counts''} {r = r} p q = record {
  more = omega (arith, p.more, q.more, length-append on on');
  taken = λ a b w y. subst (λ l. Taking a b l counts'' r) (append_assoc w on on') (q.taken a b (w ++ on) (p.taken a b w y));
}

-- the word number i
module _ (words : List ℕ) (i : ℕ) {j u : ℕ} (is : u ≡ get_or words i 0) (l : i < length words) (ej : j ≡ i + 1) where
  one_more : take i words ++ (u ∷ []) ≡ take j words
  one_more = let e : suc i ≡ j = omega (arith, ej) in ap (λ v. take i words ++ (v ∷ [])) is ∙ inv (take-suc words i 0 l) ∙ ap (λ k. take k words) e

  pub note_next : {counts counts' : List ℕ} {n r : Noted} → Noting (take i words) counts n → NotedOn u counts n counts' r → Noting (take j words) counts' r
  note_next {counts' = counts'} {r = r} y on = subst (λ w. Noting w counts' r) one_more (on (take i words) y)

  pub take_next : {counts₀ counts counts' : List ℕ} {t₀ t r : Taken} → Took (take i words) counts₀ t₀ counts t → Took (u ∷ []) counts t counts' r → Took (take j words) counts₀ t₀ counts' r
  take_next {counts₀} {counts' = counts'} {t₀} {r = r} y on = subst (λ w. Took w counts₀ t₀ counts' r) one_more (take-append y on)

-- all words
pub note_end : {words counts : List ℕ} {n : Noted} (i : ℕ) → length words ≤ i → Noting (take i words) counts n → Noting words counts n
note_end {words} {counts} {n} i l y = subst (λ w. Noting w counts n) (take_all i words l) y

pub take-end : {words counts counts' : List ℕ} {t r : Taken} (i : ℕ) → length words ≤ i → Took (take i words) counts t counts' r → Took words counts t counts' r
take-end {words} {counts} {counts'} {t} {r} i l y = subst (λ w. Took w counts t counts' r) (take_all i words l) y

pub zeros : (k p : ℕ) → get_or (replicate {A = ℕ} k 0) p 0 ≡ 0
zeros zero p = refl
zeros (suc k) zero = refl
zeros (suc k) (suc p) = zeros k p
