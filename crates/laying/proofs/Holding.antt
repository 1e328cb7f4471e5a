-- A word laid on a page that is held.
use Prim.Native.Nat.{ℕ, zero, suc, ◌+◌, ◌-◌, ◌≤◌, ◌<◌}
use mathlib.Core.Path.{◌≡◌, refl, sym as inv, ap, subst, ◌∙◌}
use mathlib.Core.List.{List, [], ◌∷◌, ◌++◌}
use native.Mathlib.Omega.{arith}
use borrow.Author.Tests.{lt-ltb, le-ltb}
use lib.ListN.{length, get_or, set, take, length-set}
use lib.Seq.{take-set-lt, get_or-take}
use Rattle.grammar.specs.Names.{Spot}
use Rattle.grammar.specs.Query.{Given}
use Rattle.drafts.specs.Writing.{Wrote}
use Rattle.known.specs.declared.Known.{Known}
use Rattle.laying.specs.declared.Kind.{Kind}
use Rattle.laying.specs.declared.Kind.TheVariants.{Variable, Constant, Compound, Predicate}
use Rattle.laying.specs.declared.Draft.{Draft}
use Rattle.laying.specs.declared.Word.{Word}
use Rattle.laying.specs.Page.{Page, raised, bumped}
use Rattle.laying.specs.Words.{base_of, own_of, word_of, Words, Kept, Notes, Noted}
use Rattle.laying.specs.Held.{node_bytes, stack_of, Below, longer_draft, Held, Ready, Somewhere, with_word, LaysWord}

-- Arities

pub raised-more : (x : ℕ) → x < 255 → x + 1 ≡ raised x
raised-more x h = rw (lt-ltb x 255 h) refl

pub raised-last : (x : ℕ) → 255 ≤ x → x ≡ raised x
raised-last x h = rw (le-ltb x 255 h) refl

pub ruleset raising = (raised-more, raised-last)

top : (opens : List ℕ) (d : ℕ) → (d ≡ 0 → ⊥) → stack_of opens d ≡ get_or opens (d - 1) 0 ∷ stack_of opens (d - 1)
top opens zero n = absurd (n refl)
top opens (suc d) n = let z : d ≡ suc d - 1 = omega arith in ap (λ (i : ℕ). get_or opens i 0 ∷ stack_of opens i) z

pub bump_none : (out opens : List ℕ) (d : ℕ) → d ≡ 0 → out ≡ bumped out (stack_of opens d)
bump_none out opens d e = rw e refl

pub bump_inside : (out opens : List ℕ) (d p : ℕ) → (d ≡ 0 → ⊥) → p ≡ get_or opens (d - 1) 0 → Below (stack_of opens d) (length out) → p < length out
bump_inside out opens d p n e h = let z : Below (get_or opens (d - 1) 0 ∷ stack_of opens (d - 1)) (length out) = subst (λ (l : List ℕ). Below l (length out)) (top opens d n) h in omega (arith, z.0)

pub bump_top : (out opens : List ℕ) (d p x : ℕ) → (d ≡ 0 → ⊥) → p ≡ get_or opens (d - 1) 0 → x ≡ raised (get_or out p 0) → set out p x ≡ bumped out (stack_of opens d)
bump_top out opens d p x n e q = ap (set out p) q ∙ ap (λ (i : ℕ). set out i (raised (get_or out i 0))) e ∙ inv (ap (bumped out) (top opens d n))

pub ruleset bumping = (bump_none, bump_inside, bump_top)

-- Records

pub node-put : (out out' : List ℕ) (at n r : ℕ) (k j : Kind) → k ≡ j → Wrote out out' at (node_bytes j n) → r ≡ length (node_bytes j n) → Wrote out out' at (node_bytes k n) × (r ≡ length (node_bytes k n))
node-put out out' at n r k j e w l = rw e (w, l)

node-length : (k : Kind) (n : ℕ) → length (node_bytes k n) ≤ 4
node-length Variable n = omega arith
node-length Constant n = omega arith
node-length Compound n = omega arith
node-length Predicate n = omega arith

-- Below

below_more : (ps : List ℕ) (m n : ℕ) → m ≤ n → Below ps m → Below ps n
below_more [] m n l h = tt
below_more (p ∷ ps) m n l h = (omega (arith, h.0), below_more ps m n l h.1)

pub bumped-length : (b ps : List ℕ) → length (bumped b ps) ≡ length b
bumped-length b [] = refl
bumped-length b (p ∷ ps) = length-set b p (raised (get_or b p 0))

bumped-front : (n : ℕ) (out ps : List ℕ) → Below ps n → take n (bumped out ps) ≡ bumped (take n out) ps
bumped-front n out [] h = refl
bumped-front n out (p ∷ ps) h =
    take-set-lt n out p (raised (get_or out p 0)) h.0 ∙ ap (λ (x : ℕ). set (take n out) p (raised x)) (inv (get_or-take n out p 0 h.0))

-- words are held by their counts alone
pub kept_same : {g : Given} {text table : List ℕ} {d : Draft} {e : List Spot} (r : Draft) → ((k : Kind) → own_of d k ≡ own_of r k) → Kept g text table d e → Kept g text table r e
kept_same {g} {text} {table} {d} {e} r q h =
    record {
      long = h.long;
      few = λ k. subst (λ (n : ℕ). n ≤ 4096) (q k) (h.few k);
      own = h.own;
      words = λ k. subst (Words text table (base_of k) (h.own k)) (q k) (h.words k);
      whole = h.whole;
    }

longer-same : (d : Draft) (m : ℕ) (k : Kind) → own_of d k ≡ own_of (longer_draft d m) k
longer-same d m Variable = refl
longer-same d m Constant = refl
longer-same d m Compound = refl
longer-same d m Predicate = refl

-- A word

module _ (table out opens : List ℕ) (k : Known) (d : Draft) (w : Word) (n : ℕ) (s : Somewhere table out opens k d w n) where
  abbrev H : Ready s.base s.text table out opens k d w n s.page_now s.left
  H = s.ready

  pub lay-depth : d.depth ≤ length opens
  lay-depth = omega (arith, H.held.room_depth, H.held.opens_long)

  pub lay-below : Below (stack_of opens d.depth) (length out)
  lay-below =
      subst (λ (l : List ℕ). Below l (length out)) (inv H.held.stack_is) (below_more s.page_now.stack d.len (length out) (omega (arith, H.held.room_bytes, H.held.out_long)) H.held.below)

  pub lay-room : (out₁ : List ℕ) → out₁ ≡ bumped out (stack_of opens d.depth) → d.len + 4 ≤ length out₁
  lay-room out₁ e = omega (arith, ap length e, bumped-length out (stack_of opens d.depth), H.held.out_long, H.held.room_bytes)

  pub lay-low : n < 65536
  lay-low = H.number_low

  pub lay-notes : Notes table k d w
  lay-notes =
      record {
        long = H.held.kept.long;
        modest = record { variables = omega (arith, H.held.kept.few Variable); constants = omega (arith, H.held.kept.few Constant); compounds = omega (arith, H.held.kept.few Compound); predicates = omega (arith, H.held.kept.few Predicate) };
        room = omega (arith, H.held.room_words w.kind);
        few = H.few;
        low = H.low;
        some = H.some;
        short = H.short;
      }

  module _ (out₁ out₂ table' : List ℕ) (m : ℕ) (e : Draft) (b : out₁ ≡ bumped out (stack_of opens d.depth)) (p : Wrote out₁ out₂ d.len (node_bytes w.kind n) × (m ≡ length (node_bytes w.kind n))) (q : Noted table table' k d w n e) where
    pub lay-longer : e.len + m ≤ 16384
    lay-longer = omega (arith, q.len_stays, p.1, node-length w.kind n, H.held.room_bytes)

    pub lay-said : (r : Draft) → r ≡ longer_draft e m → LaysWord table table' out out₂ opens k d w n r
    lay-said r t =
        rw t
        (record {
          holds = λ g text x left z. held g text x left z;
          depth_stays = q.depth_stays;
          formulas_stay = q.formulas_stay;
          len_is = omega (arith, q.len_stays, p.1);
        })
      where
        held : (g : Given) (text : List ℕ) (x : Page) (left : ℕ) → Ready g text table out opens k d w n x left → Held g text table' out₂ opens (longer_draft e m) (with_word x w.kind n (word_of text w)) left
        held g text x left z =
            let h = z.held in
            let j = q.keeps g text x.spots h.kept z.inside z.gave z.number_is in
            record {
              kept = kept_same (longer_draft e m) (longer-same e m) j;
              bytes_are =
                  ap (λ (i : ℕ). take i out₂) (let y : e.len + m ≡ d.len + length (node_bytes w.kind n) = omega (arith, q.len_stays, p.1) in y)
                  ∙ p.0.pushed 0 d.len (omega arith)
                  ∙ ap (λ (l : List ℕ). l ++ node_bytes w.kind n)
                  (ap (take d.len) (b ∙ ap (bumped out) h.stack_is) ∙ bumped-front d.len out x.stack h.below ∙ ap (λ (l : List ℕ). bumped l x.stack) h.bytes_are);
              out_long = p.0.same ∙ ap length b ∙ bumped-length out (stack_of opens d.depth) ∙ h.out_long;
              stack_is = ap (stack_of opens) q.depth_stays ∙ h.stack_is;
              opens_long = h.opens_long;
              below = below_more x.stack d.len (e.len + m) (omega (arith, q.len_stays)) h.below;
              formulas_are = q.formulas_stay ∙ h.formulas_are;
              room_formulas = omega (arith, q.formulas_stay, h.room_formulas);
              room_bytes = omega (arith, q.len_stays, p.1, node-length w.kind n, h.room_bytes);
              room_depth = omega (arith, q.depth_stays, h.room_depth);
              room_words = λ i. own_room i (q.grows i) (h.room_words i);
            }
          where
            own_room : (i : Kind) → own_of e i ≤ own_of d i + 1 → own_of d i + (left + 1) ≤ 4096 → own_of (longer_draft e m) i + left ≤ 4096
            own_room Variable a c = omega arith
            own_room Constant a c = omega arith
            own_room Compound a c = omega arith
            own_room Predicate a c = omega arith

pub ruleset laying = (lay-depth, lay-below, lay-room, lay-low, lay-notes, lay-longer, lay-said)
