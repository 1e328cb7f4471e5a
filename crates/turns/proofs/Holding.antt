-- What is held of a stage is held of the next.
use Prim.Native.Nat.{ℕ, zero, suc, ◌+◌, ◌-◌, ◌≤◌, ◌<◌}
use mathlib.Core.Path.{◌≡◌, refl, sym as inv, ◌∙◌, subst}
use mathlib.Core.Bool.{Bool, true, false, true≢false}
use mathlib.Core.List.{List}
use native.Mathlib.Omega.{arith}
use lib.ListN.{length, get_or, set, length-set}
use lib.Dec.{eqb, leb, ltb}
use borrow.Author.Tests.{eqb-true, eqb-false, leb-false}
use Rattle.terms.specs.Cases.{cases}
use Rattle.pieces.specs.declared.Found.{Found}
use Rattle.pieces.specs.declared.Found.TheVariants as F
use Rattle.pieces.specs.Found.{Inside}
use Rattle.halfway.specs.declared.Mode.{Mode}
use Rattle.halfway.specs.declared.Mode.TheVariants.{Begin, Expects, Named, Complete, Over, Wrong}
use Rattle.halfway.specs.declared.Stage.{Stage}
use Rattle.halfway.specs.Machine.{settled, behind, when, unless, on_opening}
use Rattle.pieces.specs.Found.{end_of}
use Rattle.halfway.specs.Stage.{is_wrong, is_half, full_at, code_at, name_size, size_at, stage_after, counts_after, next, stack, Low, Roomy, Held}
use Rattle.turns.proofs.Turning.{roomy-depth, stack_top, low-more, ready}

roomy_le : (m : Mode) (d n : ℕ) → (m ≡ Named → ⊥) → d ≤ n → Roomy m d n
roomy_le Begin d n e h = h
roomy_le Expects d n e h = h
roomy_le Named d n e h = absurd (e refl)
roomy_le Complete d n e h = h
roomy_le Over d n e h = h
roomy_le Wrong d n e h = h

roomy_lt : (m : Mode) (d n : ℕ) → d < n → Roomy m d n
roomy_lt Begin d n h = omega arith
roomy_lt Expects d n h = omega arith
roomy_lt Named d n h = h
roomy_lt Complete d n h = omega arith
roomy_lt Over d n h = omega arith
roomy_lt Wrong d n h = omega arith

settled-not : (m : Mode) → settled m ≡ Named → ⊥
settled-not Begin e = let z : ◌≡◌ {A = ℕ} 0 1 = cc in omega arith
settled-not Expects e = let z : ◌≡◌ {A = ℕ} 0 1 = cc in omega arith
settled-not Named e = let z : ◌≡◌ {A = ℕ} 0 1 = cc in omega arith
settled-not Complete e = let z : ◌≡◌ {A = ℕ} 0 1 = cc in omega arith
settled-not Over e = let z : ◌≡◌ {A = ℕ} 0 1 = cc in omega arith
settled-not Wrong e = let z : ◌≡◌ {A = ℕ} 0 1 = cc in omega arith

behind-not : (m n : Mode) → (n ≡ Named → ⊥) → behind m n ≡ Named → ⊥
behind-not Begin n h e = let z : ◌≡◌ {A = ℕ} 0 1 = cc in omega arith
behind-not Expects n h e = let z : ◌≡◌ {A = ℕ} 0 1 = cc in omega arith
behind-not Named n h e = h e
behind-not Complete n h e = h e
behind-not Over n h e = let z : ◌≡◌ {A = ℕ} 0 1 = cc in omega arith
behind-not Wrong n h e = let z : ◌≡◌ {A = ℕ} 0 1 = cc in omega arith

when-not : (b : Bool) → when b Complete ≡ Named → ⊥
when-not true e = let z : ◌≡◌ {A = ℕ} 0 1 = cc in omega arith
when-not false e = let z : ◌≡◌ {A = ℕ} 0 1 = cc in omega arith

unless_not : (b : Bool) → unless b Over ≡ Named → ⊥
unless_not true e = let z : ◌≡◌ {A = ℕ} 0 1 = cc in omega arith
unless_not false e = let z : ◌≡◌ {A = ℕ} 0 1 = cc in omega arith

expects-not : Expects ≡ Named → ⊥
expects-not e = let z : ◌≡◌ {A = ℕ} 0 1 = cc in omega arith

-- a bracket behind a name
opening-roomy : (m : Mode) (d n : ℕ) → Roomy m d n → is_wrong (on_opening m) ≡ false → Roomy (on_opening m) (d + 1) n
opening-roomy Begin d n h e = absurd (true≢false e)
opening-roomy Expects d n h e = absurd (true≢false e)
opening-roomy Named d n h e = omega arith
opening-roomy Complete d n h e = absurd (true≢false e)
opening-roomy Over d n h e = absurd (true≢false e)
opening-roomy Wrong d n h e = absurd (true≢false e)

code-few : (counts : List ℕ) (c : Stage) → code_at counts c ≡ 0 → c.words < 4096
code-few counts c e =
    cases (full_at counts c.depth c.outside) (λ h. let z : 14 ≡ 0 = rw h at e in absurd (omega arith))
    (λ h. cases (leb 4096 c.words) (λ k. let z : 15 ≡ 0 = rw (h, k) at e in absurd (omega arith)) (λ k. leb-false 4096 c.words k))

name-few : (k at end : ℕ) → name_size k at end ≡ 0 → k ≡ 0
name-few k at end e = cases (eqb k 0) (λ h. eqb-true k 0 h) (λ h. let z : k ≡ 0 = rw h at e in z)

low-tail : (counts : List ℕ) (d at : ℕ) → Low at (stack counts d) → Low at (stack counts (d - 1))
low-tail counts zero at l = l
low-tail counts (suc d) at l = rw (let q : suc d - 1 ≡ d = omega arith in q) l.1

comma-low : (counts : List ℕ) (d at : ℕ) → (d ≡ 0 → ⊥) → d ≤ length counts → Low at (stack counts d) → Low (at + 1) (stack (set counts (d - 1) (get_or counts (d - 1) 0 + 1)) d)
comma-low counts zero at n h l = absurd (n refl)
comma-low counts (suc d) at n h l =
    let q : suc d - 1 ≡ d = omega arith in
    subst (λ (k : ℕ). Low (at + 1) (stack (set counts k (get_or counts k 0 + 1)) (suc d))) (inv q) (subst (Low (at + 1)) (inv (stack_top counts d (get_or counts d 0 + 1) (omega arith))) (omega (arith, l.0), low-more at (at + 1) (stack counts d) (omega arith) l.1))

open_low : (counts : List ℕ) (d at : ℕ) → d < length counts → Low at (stack counts d) → Low (at + 1) (stack (set counts d 0) (d + 1))
open_low counts d at h l =
    rw (let q : d + 1 ≡ suc d = omega arith in q) (subst (Low (at + 1)) (inv (stack_top counts d 0 h)) (let q : 0 < at + 1 = omega arith in q, low-more at (at + 1) (stack counts d) (omega arith) l))

module _ {counts : List ℕ} {c : Stage} {at : ℕ} (h : Held counts c at) (l : at < 65536) where
  fits : c.depth ≤ c.words
  fits = roomy-depth c.mode c.depth c.words h.roomy

  word_held : (m : Mode) (end : ℕ) → is_wrong m ≡ false → at < end → c.words < 4096 → Held counts (record { mode = m; outside = c.outside; depth = c.depth; words = c.words + 1 }) end
  word_held m end r k w =
      record {
        right = r;
        long = h.long;
        roomy = roomy_lt m c.depth (c.words + 1) (omega (arith, fits));
        few = omega (arith, w);
        outside = omega (arith, h.outside);
        low = low-more at end (stack counts c.depth) (omega arith) h.low;
      }

  kept-held : (m : Mode) (end : ℕ) → is_wrong m ≡ false → at < end → (m ≡ Named → ⊥) → Held counts (record { mode = m; outside = c.outside; depth = c.depth; words = c.words }) end
  kept-held m end r k n =
      record {
        right = r;
        long = h.long;
        roomy = roomy_le m c.depth c.words n fits;
        few = h.few;
        outside = omega (arith, h.outside);
        low = low-more at end (stack counts c.depth) (omega arith) h.low;
      }

  comma-held : (m : Mode) → is_wrong m ≡ false → (m ≡ Named → ⊥) → Held (counts_after counts c F.Comma) (stage_after c m F.Comma) (at + 1)
  comma-held m r n =
      cases (eqb c.depth 0)
      (λ e.
      rw e
      (record {
        right = r;
        long = h.long;
        roomy = roomy_le m c.depth c.words n fits;
        few = h.few;
        outside = omega (arith, h.outside);
        low = low-more at (at + 1) (stack counts c.depth) (omega arith) h.low;
      }))
      (λ e.
      rw e
      (record {
        right = r;
        long = length-set counts (c.depth - 1) (get_or counts (c.depth - 1) 0 + 1) ∙ h.long;
        roomy = roomy_le m c.depth c.words n fits;
        few = h.few;
        outside = omega (arith, h.outside);
        low = comma-low counts c.depth at (eqb-false c.depth 0 e) (omega (arith, h.long, h.few, fits)) h.low;
      }))

  pub held_next : (text : List ℕ) (found : Found) → is_wrong (next c found) ≡ false → is_half found ≡ false → size_at counts c at found ≡ 0 → Inside text at found →
      Held (counts_after counts c found) (stage_after c (next c found) found) (end_of at found)
  held_next text (F.Name end) r w s i = word_held (next c (F.Name end)) end r i.0 (code-few counts c (name-few (code_at counts c) at end s))
  held_next text (F.Variable end) r w s i = word_held (next c (F.Variable end)) end r i.0 (code-few counts c s)
  held_next text F.Space r w s i = kept-held (next c F.Space) (at + 1) r (omega arith) (settled-not c.mode)
  held_next text (F.Comment end) r w s i = kept-held (next c (F.Comment end)) end r i.0 (settled-not c.mode)
  held_next text F.Opening r w s i =
      record {
        right = r;
        long = length-set counts c.depth 0 ∙ h.long;
        roomy = opening-roomy c.mode c.depth c.words h.roomy r;
        few = h.few;
        outside = omega (arith, h.outside);
        low = open_low counts c.depth at (ready h l).depth h.low;
      }
  held_next text F.Closing r w s i =
      record {
        right = r;
        long = h.long;
        roomy = roomy_le (next c F.Closing) (c.depth - 1) c.words (behind-not c.mode (when (ltb 0 c.depth) Complete) (when-not (ltb 0 c.depth))) (omega (arith, fits));
        few = h.few;
        outside = omega (arith, h.outside);
        low = low-more at (at + 1) (stack counts (c.depth - 1)) (omega arith) (low-tail counts c.depth at h.low);
      }
  held_next text F.Comma r w s i = comma-held (next c F.Comma) r (behind-not c.mode Expects expects-not)
  held_next text F.Arrow r w s i = absurd (true≢false r)
  held_next text F.Stop r w s i = kept-held (next c F.Stop) (at + 1) r (omega arith) (behind-not c.mode (unless (ltb 0 c.depth) Over) (unless_not (ltb 0 c.depth)))
  held_next text F.HalfArrow r w s i = absurd (true≢false r)
  held_next text F.HalfStop r w s i = absurd (true≢false w)
  held_next text F.Nothing r w s i = absurd (true≢false r)
