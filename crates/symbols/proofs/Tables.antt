-- A section lent as a table of its own, and put back.
use Prim.Native.Nat.{ℕ, ◌+◌, ◌-◌, ◌≤◌, ◌<◌}
use mathlib.Core.Path.{◌≡◌, refl, ap, ◌∙◌}
use mathlib.Core.List.{List}
use native.Mathlib.Omega.{arith}
use lib.ListN.{length}
use lib.Dec.{ltb}
use borrow.Rule.Slice.PartMut.{mid_of, put_mid}
use Rattle.terms.specs.When.{◌⇒◌∣◌}
use Rattle.terms.specs.Cases.{cases}
use Rattle.grammar.specs.Names.{grow}
use Rattle.nametable.specs.Table.{Table, Room, Numbered}
use Rattle.symbols.specs.declared.Section.{Section}
use Rattle.symbols.specs.Sections.{part, Holds, next, Apart, Numbers}
use Rattle.symbols.proofs.Parts.{put-part, put_other, part_length, put-length}

module _ {text starts lens heads nexts : List ℕ} {c : Section} {names : List (List ℕ)} (h : Holds text starts lens heads nexts c names) (e l : ℕ) (p : c.from + c.room ≡ e) (q : c.heads + 4096 ≡ l) where
  same-room : e - c.from ≡ c.room
  same-room = omega (arith, p)

  same-heads : l - c.heads ≡ 4096
  same-heads = omega (arith, q)

  pub lent-table : Table text (mid_of c.from (e - c.from) starts) (mid_of c.from (e - c.from) lens) (mid_of c.heads (l - c.heads) heads) (mid_of c.from (e - c.from) nexts) names c.count
  lent-table = rw (same-room, same-heads) h.table

  pub lent-room : c.count < c.room → Room (mid_of c.from (e - c.from) starts) (mid_of c.from (e - c.from) lens) (mid_of c.heads (l - c.heads) heads) (mid_of c.from (e - c.from) nexts) (c.count + 1)
  lent-room k =
      rw (same-room, same-heads)
      (record {
        starts_room = omega (arith, k, part_length c.from c.room starts h.starts_room);
        lens_room = omega (arith, k, part_length c.from c.room lens h.lens_room);
        heads_room = part_length c.heads 4096 heads h.heads_room;
        nexts_room = omega (arith, k, part_length c.from c.room nexts h.nexts_room);
        few = omega (arith, k, h.few);
      })

-- Put back

module _ (text starts lens heads nexts a b d f w : List ℕ) (c : Section) (e l r : ℕ) (p : c.from + c.room ≡ e) (q : c.heads + 4096 ≡ l)
    (a-long : length a ≡ c.room) (b-long : length b ≡ c.room) (d-long : length d ≡ 4096) (f-long : length f ≡ c.room)
    (numbered : (names : List (List ℕ)) → Table text (mid_of c.from (e - c.from) starts) (mid_of c.from (e - c.from) lens) (mid_of c.heads (l - c.heads) heads) (mid_of c.from (e - c.from) nexts) names c.count →
    Numbered text a b d f names c.count w r) where
  abbrev starts' : List ℕ
  starts' = put_mid c.from (e - c.from) starts a

  abbrev lens' : List ℕ
  lens' = put_mid c.from (e - c.from) lens b

  abbrev heads' : List ℕ
  heads' = put_mid c.heads (l - c.heads) heads d

  abbrev nexts' : List ℕ
  nexts' = put_mid c.from (e - c.from) nexts f

  own-table : (names : List (List ℕ)) → Holds text starts lens heads nexts c names →
      Table text (part c.from c.room starts') (part c.from c.room lens') (part c.heads 4096 heads') (part c.from c.room nexts') (grow names w) (ltb r c.count ⇒ c.count ∣ c.count + 1)
  own-table names h =
      rw (
        put-part c.from e c.room starts a p (omega (arith, p, h.starts_room)) a-long,
        put-part c.from e c.room lens b p (omega (arith, p, h.lens_room)) b-long,
        put-part c.heads l 4096 heads d q (omega (arith, q, h.heads_room)) d-long,
        put-part c.from e c.room nexts f p (omega (arith, p, h.nexts_room)) f-long,
      )
      (numbered names (lent-table h e l p q)).table

  held : (m : Section) (names new : List (List ℕ)) → m.from ≡ c.from → m.room ≡ c.room → m.heads ≡ c.heads → Holds text starts lens heads nexts c names →
      Table text (part m.from m.room starts') (part m.from m.room lens') (part m.heads 4096 heads') (part m.from m.room nexts') new m.count → Holds text starts' lens' heads' nexts' m new
  held m names new x y z h t =
      record {
        table = t;
        starts_room = omega (arith, x, y, h.starts_room, put-length c.from e c.room starts a p (omega (arith, p, h.starts_room)) a-long);
        lens_room = omega (arith, x, y, h.lens_room, put-length c.from e c.room lens b p (omega (arith, p, h.lens_room)) b-long);
        heads_room = omega (arith, z, h.heads_room, put-length c.heads l 4096 heads d q (omega (arith, q, h.heads_room)) d-long);
        nexts_room = omega (arith, x, y, h.nexts_room, put-length c.from e c.room nexts f p (omega (arith, p, h.nexts_room)) f-long);
        few = omega (arith, y, h.few);
        short = omega (arith, h.short, put-length c.from e c.room starts a p (omega (arith, p, h.starts_room)) a-long);
      }

  held_next : (names : List (List ℕ)) → Holds text starts lens heads nexts c names → Holds text starts' lens' heads' nexts' (next c r) (grow names w)
  held_next names h =
      cases (ltb r c.count) (λ t. rw t (held c names (grow names w) refl refl refl h (rw t at (own-table names h))))
      (λ t. rw t (held (record { from = c.from; room = c.room; heads = c.heads; count = c.count + 1 }) names (grow names w) refl refl refl h (rw t at (own-table names h))))

  held-other : (names₀ : List (List ℕ)) → Holds text starts lens heads nexts c names₀ → (m : Section) (names : List (List ℕ)) → Apart c.from c.room m.from m.room → Apart c.heads 4096 m.heads 4096 →
      Holds text starts lens heads nexts m names → Holds text starts' lens' heads' nexts' m names
  held-other names₀ k m names u v h =
      record {
        table =
            rw (
              put_other c.from e c.room m.from m.room starts a p (omega (arith, p, k.starts_room)) a-long u,
              put_other c.from e c.room m.from m.room lens b p (omega (arith, p, k.lens_room)) b-long u,
              put_other c.heads l 4096 m.heads 4096 heads d q (omega (arith, q, k.heads_room)) d-long v,
              put_other c.from e c.room m.from m.room nexts f p (omega (arith, p, k.nexts_room)) f-long u,
            )
            h.table;
        starts_room = omega (arith, h.starts_room, put-length c.from e c.room starts a p (omega (arith, p, k.starts_room)) a-long);
        lens_room = omega (arith, h.lens_room, put-length c.from e c.room lens b p (omega (arith, p, k.lens_room)) b-long);
        heads_room = omega (arith, h.heads_room, put-length c.heads l 4096 heads d q (omega (arith, q, k.heads_room)) d-long);
        nexts_room = omega (arith, h.nexts_room, put-length c.from e c.room nexts f p (omega (arith, p, k.nexts_room)) f-long);
        few = h.few;
        short = omega (arith, h.short, put-length c.from e c.room starts a p (omega (arith, p, k.starts_room)) a-long);
      }

  pub put_back : (names : List (List ℕ)) → Holds text starts lens heads nexts c names → Numbers text starts lens heads nexts starts' lens' heads' nexts' c w r
  put_back names k =
      record {
        answers = λ new h. (numbered new (lent-table h e l p q)).answers;
        table = λ new h. held_next new h;
        others = λ m new u v h. held-other names k m new u v h;
      }

pub kept-long : (a k e : ℕ) (xs ys : List ℕ) → length ys ≡ length (mid_of a (e - a) xs) → a + k ≡ e → e ≤ length xs → length ys ≡ k
kept-long a k e xs ys h p l = let z : e - a ≡ k = omega (arith, p) in h ∙ ap (λ (n : ℕ). length (part a n xs)) z ∙ part_length a k xs (omega (arith, p, l))
