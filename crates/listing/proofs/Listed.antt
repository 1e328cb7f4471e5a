-- Names one behind the other.
use Prim.Native.Nat.{ℕ, zero, suc, ◌+◌, ◌-◌, ◌/◌, ◌%◌, ◌≤◌, ◌<◌}
use mathlib.Core.Path.{◌≡◌, refl, sym as inv, ap, ap₂, ◌∙◌, subst}
use mathlib.Core.List.{List, [], ◌∷◌, ◌++◌}
use native.Mathlib.Omega.{arith}
use lib.ListN.{length, get_or, take, drop, length-drop, length-append}
use lib.Seq.{length-take-le, drop-cons}
use borrow.Rule.Slice.PartMut.{put_mid}
use Rattle.nametable.specs.Table.{word}
use Rattle.storage.specs.Storage.{Written}
use Rattle.storage.proofs.Filling.{Filling, filling-start, filling-left, filling-length, filling-done, filling-part}
use Rattle.listing.specs.Lists.{heard, noted, sizes, Within}
use Rattle.listing.proofs.Filled.{word-long}

-- the list is as long as its sizes say
pub noted-long : (kind n : ℕ) (text starts lens : List ℕ) → Within text starts lens → length (noted kind n (heard text starts lens)) ≡ sizes lens
noted-long kind n text [] [] w = refl
noted-long kind n text [] (m ∷ lens) w = absurd w
noted-long kind n text (s ∷ starts) [] w = absurd w
noted-long kind n text (s ∷ starts) (m ∷ lens) w =
    omega (arith, length-append (word text s m) (noted kind (suc n) (heard text starts lens)), word-long text s m w.0, noted-long kind (suc n) text starts lens w.1)

within-at : (text starts lens : List ℕ) (i : ℕ) → Within text starts lens → i < length starts → get_or starts i 0 + get_or lens i 0 ≤ length text
within-at text [] lens i w h = absurd (omega arith)
within-at text (s ∷ starts) [] i w h = absurd w
within-at text (s ∷ starts) (n ∷ lens) zero w h = w.0
within-at text (s ∷ starts) (n ∷ lens) (suc i) w h = within-at text starts lens i w.1 (omega arith)

heard-at : (kind n : ℕ) (text starts lens : List ℕ) (i : ℕ) → i < length starts → i < length lens →
    noted kind n (heard text (drop i starts) (drop i lens))
    ≡ (kind ∷ n / 256 ∷ n % 256 ∷ length (word text (get_or starts i 0) (get_or lens i 0)) ∷ word text (get_or starts i 0) (get_or lens i 0)) ++ noted kind (suc n) (heard text (drop (suc i) starts) (drop (suc i) lens))
heard-at kind n text starts lens i h k = ap₂ (λ (x y : List ℕ). noted kind n (heard text x y)) (drop-cons starts i 0 h) (drop-cons lens i 0 k)

none_here : (kind n : ℕ) (text starts : List ℕ) (i : ℕ) → length starts ≤ i → noted kind n (heard text (drop i starts) []) ≡ []
none_here kind n text [] zero h = refl
none_here kind n text [] (suc i) h = refl
none_here kind n text (s ∷ starts) zero h = absurd (omega arith)
none_here kind n text (s ∷ starts) (suc i) h = none_here kind n text starts i (omega arith)

none_left : (kind n : ℕ) (text starts lens : List ℕ) (i : ℕ) → length starts ≤ i → noted kind n (heard text (drop i starts) (drop i lens)) ≡ []
none_left kind n text [] lens zero h = refl
none_left kind n text [] lens (suc i) h = refl
none_left kind n text (s ∷ starts) lens zero h = absurd (omega arith)
none_left kind n text (s ∷ starts) [] (suc i) h = none_here kind n text starts i (omega arith)
none_left kind n text (s ∷ starts) (m ∷ lens) (suc i) h = none_left kind n text starts lens i (omega arith)

within-long : (text starts lens : List ℕ) → Within text starts lens → length lens ≡ length starts
within-long text [] [] w = refl
within-long text [] (n ∷ lens) w = absurd w
within-long text (s ∷ starts) [] w = absurd w
within-long text (s ∷ starts) (n ∷ lens) w = ap suc (within-long text starts lens w.1)

module _ (area₀ text starts lens : List ℕ) (kind : ℕ) where
  pub record Listing (area : List ℕ) (at i : ℕ) : Type 0 where
    pub below : i ≤ length starts
    pub few : length starts ≤ 65536
    pub within : Within text starts lens
    pub fill : Filling (noted kind 0 (heard text starts lens)) area₀ area at (noted kind i (heard text (drop i starts) (drop i lens)))

  pub listing_start : length starts ≤ 65536 → Within text starts lens → sizes lens ≤ length area₀ → Listing area₀ 0 0
  listing_start f w h = record { below = omega arith; few = f; within = w; fill = filling-start (omega (arith, noted-long kind 0 text starts lens w)) }

  module _ {area : List ℕ} {at i : ℕ} (g : Listing area at i) where
    lens-long : length lens ≡ length starts
    lens-long = within-long text starts lens g.within

    pub listing-length : length area ≡ length area₀
    listing-length = filling-length g.fill

    pub listing-inside : at ≤ length area
    listing-inside = omega (arith, filling-left g.fill, filling-length g.fill, g.fill.room)

    pub lens-inside : i < length starts → i < length lens
    lens-inside l = omega (arith, lens-long)

    module _ (l : i < length starts) (s n : ℕ) (es : s ≡ get_or starts i 0) (en : n ≡ get_or lens i 0) where
      pub entry-inside : s + n ≤ length text
      entry-inside = omega (arith, within-at text starts lens i g.within l, es, en)

      next-fill : Filling (noted kind 0 (heard text starts lens)) area₀ area at ((kind ∷ i / 256 ∷ i % 256 ∷ n ∷ word text s n) ++ noted kind (i + 1) (heard text (drop (i + 1) starts) (drop (i + 1) lens)))
      next-fill =
          subst (Filling (noted kind 0 (heard text starts lens)) area₀ area at)
          (heard-at kind i text starts lens i l (omega (arith, lens-long))
          ∙ ap₂ (λ (x y : ℕ). (kind ∷ i / 256 ∷ i % 256 ∷ length (word text x y) ∷ word text x y) ++ noted kind (suc i) (heard text (drop (suc i) starts) (drop (suc i) lens))) (inv es) (inv en)
          ∙ ap₂ (λ (m k : ℕ). (kind ∷ i / 256 ∷ i % 256 ∷ m ∷ word text s n) ++ noted kind k (heard text (drop k starts) (drop k lens))) (word-long text s n entry-inside) (let q : suc i ≡ i + 1 = omega arith in q))
          g.fill

      pub entry-room : n + 4 ≤ length (take (length area - at) (drop at area))
      entry-room =
          let rest = noted kind (i + 1) (heard text (drop (i + 1) starts) (drop (i + 1) lens)) in
          omega (arith, length-take-le (length area - at) (drop at area) (omega (arith, length-drop at area)), filling-left next-fill, filling-length g.fill, g.fill.room, length-append (word text s n) rest, word-long text s n entry-inside)

      pub entry-counted : (part : List ℕ) (r : ℕ) → Written (kind ∷ i / 256 ∷ i % 256 ∷ n ∷ word text s n) (take (length area - at) (drop at area)) part r → at + r ≤ length area
      entry-counted part r w =
          omega (arith, w.count, word-long text s n entry-inside, entry-room, length-take-le (length area - at) (drop at area) (omega (arith, length-drop at area)), listing-inside)

      pub listing-next : (part : List ℕ) (r : ℕ) → Written (kind ∷ i / 256 ∷ i % 256 ∷ n ∷ word text s n) (take (length area - at) (drop at area)) part r →
          Listing (put_mid at (length area - at) area part) (at + r) (i + 1)
      listing-next part r w = record { below = omega arith; few = g.few; within = g.within; fill = filling-part next-fill w }

    pub listing-end : length starts ≤ i → Written (noted kind 0 (heard text starts lens)) area₀ area at
    listing-end h = filling-done (subst (Filling (noted kind 0 (heard text starts lens)) area₀ area at) (none_left kind i text starts lens i h) g.fill)
