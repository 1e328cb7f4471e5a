-- The saved formula put aside at the end of the words.
use Prim.Native.Nat.{ℕ, ◌+◌, ◌-◌, ◌≤◌}
use native.Mathlib.Omega.{arith}
use mathlib.Core.Path.{◌≡◌, refl, sym as inv, ap, ◌∙◌, subst}
use mathlib.Core.List.{List, ◌++◌}
use lib.ListN.{length, take, drop, length-drop}
use lib.Seq.{length-take-le, take-take, take_at, drop_at}
use borrow.Rule.Slice.PartMut.{put_mid, post_of, same_len_mid, take_put}
use Rattle.search.specs.Next.{Book, Goal}
use Rattle.states.proofs.Copies.{copied-length, copied-front}
use Rattle.states.proofs.Fronts.{kept-within}
use Rattle.states.proofs.Visits.{reopened}
use Rattle.rides.specs.Riding.{Starts, Arrived, Went}
use Rattle.rides.specs.declared.Start.{Start}
use Rattle.rides.specs.declared.Come.{Come}
use Rattle.std.specs.declared.option.Option.{Option}
use Rattle.std.specs.declared.option.Option.TheVariants.{Some}

pub start-kept : {P : Book} {q : Goal} {words saved : List ℕ} {x : Start} → Starts P q words saved x → x.place.kept ≤ length saved
start-kept {P} {q} {words} {saved} {x} y = kept-within saved x.place.kept y.opens.here.state.saved y.opens.here.keeps

pub came : {P : Book} {q : Goal} {budget since : ℕ} {saved out : List ℕ} (r : Option Come) (c : Come) → r ≡ Some c → Went P q budget since saved out r → Arrived P q budget since saved out c
came {P} {q} {budget} {since} {saved} {out} r c e w = subst (Went P q budget since saved out) e w

module _ (words saved : List ℕ) (kept : ℕ) (room : kept ≤ length words) (fits : kept ≤ length saved) (end limit : ℕ) (is-end : end ≡ length words) (is-limit : limit ≡ end - kept) where
  mid_long : length (take (end - limit) (drop limit words)) ≡ kept
  mid_long = omega (arith, room, is-end, is-limit, length-take-le (end - limit) (drop limit words) (omega (arith, is-end, length-drop limit words)))

  pub aside_room : kept ≤ length (take (end - limit) (drop limit words))
  aside_room = omega (arith, mid_long)

  module _ (part : List ℕ) (written : part ≡ take kept saved ++ drop kept (take (end - limit) (drop limit words))) where
    part-long : length part ≡ length (take (end - limit) (drop limit words))
    part-long = copied-length saved (take (end - limit) (drop limit words)) part kept fits aside_room written

    abbrev words' : List ℕ
    words' = put_mid limit (end - limit) words part

    pub aside_long : length words' ≡ length words
    aside_long = same_len_mid limit (end - limit) words part part-long

    within : limit ≤ length words
    within = omega (arith, is-end, is-limit)

    module _ (j : ℕ) (is : j ≡ limit) where
      pub front_long : length (take j words') ≡ j
      front_long = length-take-le j words' (omega (arith, is, aside_long, within))

      front_same : (n : ℕ) → n ≤ limit → take n words ≡ take n (take j words')
      front_same n l = inv (take-take n limit words l) ∙ ap (take n) (inv (take_put limit (end - limit) words part within)) ∙ ap (λ i. take n (take i words')) (inv is)

      -- the row is still at the front
      pub front-starts : {P : Book} {q : Goal} (x : Start) → x.place.words + x.place.answer ≤ limit → Starts P q words saved x → Starts P q (take j words') saved x
      front-starts {P} {q} x l y =
          let n = x.place.words + x.place.answer in
          record { opens = reopened (take j words') saved (inv (front_same n l)) (omega (arith, front_long, is, l)) refl refl y.opens; answers = y.answers; numbered = y.numbered }

      -- and the formula at the end, whatever the ride has made of the front
      module _ (front : List ℕ) (long : length front ≡ length (take j words')) where
        abbrev words'' : List ℕ
        words'' = front ++ post_of 0 j words'

        behind : drop limit words'' ≡ part ++ post_of limit (end - limit) words
        behind =
            drop_at front (drop j words') limit (omega (arith, long, front_long, is)) ∙ ap (λ i. drop i words') is
            ∙ drop_at (take limit words) (part ++ post_of limit (end - limit) words) limit (length-take-le limit words within)

        there : take (end - limit) (drop limit words'') ≡ part
        there = ap (take (end - limit)) behind ∙ take_at part (post_of limit (end - limit) words) (end - limit) (omega (arith, part-long, mid_long, is-limit, is-end, room))

        pub back-room : kept ≤ length (take (end - limit) (drop limit words''))
        back-room = omega (arith, ap length there, part-long, mid_long)

        -- the row too, where the ride has left it there
        pub row_stays : (n : ℕ) → n ≤ limit → take n front ≡ take n (take j words') → take n words'' ≡ take n words
        row_stays n l e = inv (take-take n limit words'' l) ∙ ap (take n) (take_at front (post_of 0 j words') limit (omega (arith, long, front_long, is))) ∙ e ∙ inv (front_same n l)

        pub all-long : length words'' ≡ length words
        all-long = same_len_mid 0 j words' front long ∙ aside_long

        pub back-again : (saved' saved'' : List ℕ) → saved'' ≡ take kept (take (end - limit) (drop limit words'')) ++ drop kept saved' → take kept saved'' ≡ take kept saved
        back-again saved' saved'' e =
            copied-front (take (end - limit) (drop limit words'')) saved' saved'' kept back-room e ∙ ap (take kept) there
            ∙ copied-front saved (take (end - limit) (drop limit words)) part kept fits written
