-- What a stage says of the state that it holds.
use Prim.Native.Nat.{ℕ, zero, suc, ◌+◌, ◌-◌, ◌≤◌, ◌<◌}
use mathlib.Core.Path.{◌≡◌, refl, sym as inv, ap, subst, ◌∙◌}
use mathlib.Core.Bool.{Bool, true, false, true≢false, ◌||◌}
use mathlib.Core.List.{List}
use native.Mathlib.Omega.{arith}
use lib.ListN.{length, get_or, set, length-set}
use borrow.Author.Tests.{le-leb, lt-leb}
use Rattle.grammar.specs.Token.{Token}
use Rattle.grammar.specs.Syntax.{none, Rule}
use Rattle.reading.specs.Part.{Part, formulas, inside, Mode, between, expects, named, complete, State, state, Taken, taken, wrong, on_word, put, next, settle, behind}
use Rattle.reading.specs.Reader.{full, nodes, limit, long, Judged, going, bad, judge_taken, judge_token}
use Rattle.reading.specs.SizeLaws.{put-nodes, put-variables}
use Rattle.reading.proofs.LimitLaws.{next_small, settle-small}
use Rattle.reading.specs.Limits.{SmallPart, SmallMode, SmallState, SmallTaken}
use Rattle.nametable.specs.Table.{word}
use Rattle.stages.specs.declared.Mode as M
use Rattle.stages.specs.declared.Mode.TheVariants.{Between, Expects, Named, Complete}
use Rattle.stages.specs.declared.Stage.{Stage}
use Rattle.std.specs.Prelude.{Option, Some, None, Ok}
use Rattle.pieces.specs.declared.Code.{Code}
use Rattle.pieces.specs.declared.Code.TheVariants.{Range, Size, QueryRange, QuerySize, Unexpected, LongName}
use Rattle.pieces.specs.declared.Refusal.{Refusal}
use Rattle.pieces.specs.Refusal.{number, refusal}
use Rattle.stages.specs.Stage.{mode_of, is_complete, Settled, Deep, root, level, root_count, raised, grown, Held, with_argument, code, limit_number, After}
use Rattle.stages.specs.Variables.{Variables}
use Rattle.stages.proofs.Depths.{depth-nodes, top-is, below-is, put-deep, put_count}

-- Bounds

pub depth_low : {text counts vars : List ℕ} {c : Stage} {s : State} → Held text counts vars c s → c.depth ≤ 256
depth_low {c = c} {s} h = omega (arith, depth-nodes s.part c.depth h.deep, h.small.count)

pub depth-inside : {text counts vars : List ℕ} {c : Stage} {s : State} → Held text counts vars c s → c.depth ≤ length counts
depth-inside h = omega (arith, depth_low h, h.counts_long)

root-few : (p : Part) → SmallPart p → root_count p ≤ 17
root-few (formulas fs) s = s.1
root-few (inside p v d) s = root-few p s.0

pub formulas-low : {text counts vars : List ℕ} {c : Stage} {s : State} → Held text counts vars c s → c.formulas ≤ 17
formulas-low {s = s} h = omega (arith, h.formulas_are, root-few s.part h.small.part)

top-few : {counts : List ℕ} (p : Part) (k : ℕ) → Deep counts p k → SmallPart p → (k ≡ 0 → ⊥) → get_or counts (k - 1) 0 ≤ 8
top-few (formulas fs) k root s z = absurd (z refl)
top-few (inside p v d) k (level h t) s z = omega (arith, top-is p v d k (level h t), s.4)

pub top-low : {text counts vars : List ℕ} {c : Stage} {s : State} → Held text counts vars c s → (c.depth ≡ 0 → ⊥) → get_or counts (c.depth - 1) 0 ≤ 8
top-low {c = c} {s} h z = top-few s.part c.depth h.deep h.small.part z

pub rules-low : {text counts vars : List ℕ} {c : Stage} {s : State} → Held text counts vars c s → c.rules ≤ 512
rules-low {s = s} h = omega (arith, h.rules_are, few s.rules s.part s.mode h.small.mode)
  where
    few : (cs : List Rule) (p : Part) (m : Mode) → SmallMode cs p m → length cs ≤ 512
    few cs p between l = l
    few cs p expects l = omega (arith, l)
    few cs p (named w) l = omega (arith, l.0)
    few cs p complete l = omega (arith, l)

pub nodes-low : {text counts vars : List ℕ} {c : Stage} {s : State} → Held text counts vars c s → c.nodes ≤ 256
nodes-low h = omega (arith, h.nodes_are, h.small.count)

named-room : (cs : List Rule) (p : Part) (m : Mode) (w : List ℕ) → SmallState (state cs p m) → m ≡ named w → nodes p ≤ 255
named-room cs p m w s e = let t : SmallState (state cs p (named w)) = subst (λ (x : Mode). SmallState (state cs p x)) e s in t.mode.3

pub named-nodes : {text counts vars : List ℕ} (c : Stage) {s : State} → Held text counts vars c s → c.mode ≡ Named → c.nodes < 256
named-nodes {text} c {s} h e =
    omega (arith, h.nodes_are, named-room s.rules s.part s.mode _ h.small (h.mode_is ∙ ap (λ (m : M.Mode). mode_of text m c.at c.len) e))

pub raised_long : (k : ℕ) (counts : List ℕ) → length (raised k counts) ≡ length counts
raised_long zero counts = refl
raised_long (suc k) counts = length-set counts k (get_or counts k 0 + 1)

-- Codes

either : (a b : Bool) → a ≡ true → (a || b) ≡ true
either a b e = rw e

or_else : (a b : Bool) → a ≡ false → (a || b) ≡ b
or_else a b e = rw e

pub code-full : {text counts vars : List ℕ} {c : Stage} {s : State} → Held text counts vars c s → full s.part ≡ true → 4 ≡ code s
code-full h e = rw e refl

pub code-nodes : {text counts vars : List ℕ} {c : Stage} {s : State} → Held text counts vars c s → full s.part ≡ false → 256 ≤ c.nodes → 5 ≡ code s
code-nodes {c = c} {s} h e l = rw (e, le-leb 256 (nodes s.part) (omega (arith, h.nodes_are))) refl

pub code-rules : {text counts vars : List ℕ} {c : Stage} {s : State} → Held text counts vars c s → full s.part ≡ false → c.nodes < 256 → 512 ≤ c.rules → 5 ≡ code s
code-rules {c = c} {s} h e l r = rw (e, lt-leb 256 (nodes s.part) (omega (arith, h.nodes_are)), le-leb 512 (length s.rules) (omega (arith, h.rules_are))) refl

pub code-none : {text counts vars : List ℕ} {c : Stage} {s : State} → Held text counts vars c s → full s.part ≡ false → c.nodes < 256 → c.rules < 512 → 0 ≡ code s
code-none {c = c} {s} h e l r = rw (e, lt-leb 256 (nodes s.part) (omega (arith, h.nodes_are)), lt-leb 512 (length s.rules) (omega (arith, h.rules_are))) refl

-- a code that is given is none but its number
pub limit-some : {r : Option Code} {k : Code} {n : ℕ} → r ≡ Some k → limit_number r ≡ n → number k ≡ n
limit-some e q = ap limit_number (inv e) ∙ q

pub limit_none : {r : Option Code} {n : ℕ} → r ≡ None → limit_number r ≡ n → 0 ≡ n
limit_none e q = ap limit_number (inv e) ∙ q

pub number-some : (k : Code) → number k ≡ 0 → ⊥
number-some Range e = omega arith
number-some Size e = omega arith
number-some QueryRange e = omega arith
number-some QuerySize e = omega arith
number-some Unexpected e = omega arith
number-some LongName e = omega arith

-- a refusal of an unexpected byte
pub unexpected-at : {j : Judged} {at : ℕ} {r : Refusal} → r ≡ refusal Unexpected at → j ≡ bad 41 at → j ≡ bad (number r.code) r.place
unexpected-at e q = rw e q

-- Modes

pub mode-complete : (text : List ℕ) (m : M.Mode) (a l : ℕ) → is_complete m ≡ true → mode_of text m a l ≡ complete
mode-complete text Between a l e = absurd (true≢false (inv e))
mode-complete text Expects a l e = absurd (true≢false (inv e))
mode-complete text Named a l e = absurd (true≢false (inv e))
mode-complete text Complete a l e = refl

-- a sign where none may stand
pub sign-wrong : {text counts vars : List ℕ} (c : Stage) {s : State} (at : ℕ) (t : Token) → Held text counts vars c s → Settled c.mode → is_complete c.mode ≡ false →
    ((f g : List ℕ → Taken) → on_word t f g ≡ wrong) → judge_token s at t ≡ bad 41 at
sign-wrong {text} c {s} at t h z i f = there c.mode h.mode_is z i
  where
    there : (m : M.Mode) → s.mode ≡ mode_of text m c.at c.len → Settled m → is_complete m ≡ false → judge_token s at t ≡ bad 41 at
    there Between e z i = ap (λ (x : Mode). judge_taken (next s.rules s.part x t) (limit s.rules s.part t) (long t) at) e ∙ ap (λ (x : Taken). judge_taken x (limit s.rules s.part t) (long t) at) (f _ _)
    there Expects e z i = ap (λ (x : Mode). judge_taken (next s.rules s.part x t) (limit s.rules s.part t) (long t) at) e ∙ ap (λ (x : Taken). judge_taken x (limit s.rules s.part t) (long t) at) (f _ _)
    there Named e z i = absurd z
    there Complete e z i = absurd (true≢false i)

pub judge-complete : {text counts vars : List ℕ} (c : Stage) {s : State} (at : ℕ) (t : Token) → Held text counts vars c s → is_complete c.mode ≡ true →
    judge_token s at t ≡ judge_taken (behind s.rules s.part t) (limit s.rules s.part t) (long t) at
judge-complete {text} c {s} at t h i =
    ap (λ (x : Mode). judge_taken (next s.rules s.part x t) (limit s.rules s.part t) (long t) at) (h.mode_is ∙ mode-complete text c.mode c.at c.len i)

-- Sizes are kept

taken-small : (x : Taken) (k : ℕ) (l : Bool) (at : ℕ) (n : State) → (k ≡ 0 → l ≡ false → SmallTaken x) → judge_taken x k l at ≡ going n → SmallState n
taken-small wrong k l at n f e = let z : ◌≡◌ {A = ℕ} 0 1 = cc in absurd (omega arith)
taken-small (taken s) zero false at n f e = let q : s ≡ n = cc in subst SmallState q (f refl refl)
taken-small (taken s) zero true at n f e = let z : ◌≡◌ {A = ℕ} 0 1 = cc in absurd (omega arith)
taken-small (taken s) (suc k) l at n f e = let z : ◌≡◌ {A = ℕ} 0 1 = cc in absurd (omega arith)

pub judge-small : (s n : State) (t : Token) (at : ℕ) → SmallState s → judge_token s at t ≡ going n → SmallState n
judge-small s n t at h e =
    taken-small (next s.rules s.part s.mode t) (limit s.rules s.part t) (long t) at n (λ k l. next_small s.rules s.part s.mode t h k l) e

-- A name that stands alone

settled-named : (cs : List Rule) (p : Part) (m : Mode) (w : List ℕ) → m ≡ named w → settle (state cs p m) ≡ state cs (put p w none) complete
settled-named cs p m w e = ap (λ (x : Mode). settle (state cs p x)) e

pub held-alone : {text counts vars : List ℕ} (c : Stage) {s : State} → Held text counts vars c s → c.mode ≡ Named → Held text (raised c.depth counts) vars (with_argument c c.variables) (settle s)
held-alone {text} {counts} {vars} c {s} h e =
    let w = word text c.at c.len in
    let m : s.mode ≡ named w = h.mode_is ∙ ap (λ (x : M.Mode). mode_of text x c.at c.len) e in
    let q = settled-named s.rules s.part s.mode w m in
    let k : SmallState (state s.rules (put s.part w none) complete) = subst SmallState q (settle-small s.rules s.part s.mode h.small) in
    subst (Held text (raised c.depth counts) vars (with_argument c c.variables)) (inv q)
    (record {
      mode_is = refl;
      deep = put-deep s.part c.depth w none h.deep (depth-inside h);
      formulas_are = put_count s.part c.depth c.formulas w none h.deep h.formulas_are;
      nodes_are = omega (arith, put-nodes s.part w none, h.nodes_are);
      rules_are = h.rules_are;
      variables_are = subst (λ (l : List (List ℕ)). Variables text vars l c.variables) (inv (put-variables s.part w none)) h.variables_are;
      small = k;
      counts_long = raised_long c.depth counts ∙ h.counts_long;
      vars_long = h.vars_long;
      name_inside = tt;
    })

pub held-settled : {text counts vars : List ℕ} (c : Stage) {s : State} → Held text counts vars c s → Settled c.mode → settle s ≡ s
held-settled {text} c {s} h z = there c.mode s.mode h.mode_is z
  where
    there : (m : M.Mode) (x : Mode) → x ≡ mode_of text m c.at c.len → Settled m → settle (state s.rules s.part x) ≡ state s.rules s.part x
    there Between x e z = ap (λ (y : Mode). settle (state s.rules s.part y)) e ∙ ap (λ (y : Mode). state s.rules s.part y) (inv e)
    there Expects x e z = ap (λ (y : Mode). settle (state s.rules s.part y)) e ∙ ap (λ (y : Mode). state s.rules s.part y) (inv e)
    there Named x e z = absurd z
    there Complete x e z = ap (λ (y : Mode). settle (state s.rules s.part y)) e ∙ ap (λ (y : Mode). state s.rules s.part y) (inv e)

pub settle-stays : {counts : List ℕ} (c : Stage) (m : M.Mode) → c.mode ≡ m → Settled m → ((text vars : List ℕ) (s : State) → Held text counts vars c s → Held text counts vars c (settle s)) × Settled c.mode
settle-stays {counts} c m e z =
    let k : Settled c.mode = subst Settled (inv e) z in (
      λ text vars s h. subst (Held text counts vars c) (inv (held-settled c h k)) h,
      k,
    )

pub settle-alone : {counts counts' : List ℕ} (c r : Stage) → r ≡ with_argument c c.variables → counts' ≡ raised c.depth counts → c.mode ≡ Named →
    ((text vars : List ℕ) (s : State) → Held text counts vars c s → Held text counts' vars r (settle s)) × Settled r.mode
settle-alone {counts} {counts'} c r e q n = (
  λ text vars s h. subst (λ (x : Stage). Held text counts' vars x (settle s)) (inv e) (subst (λ (l : List ℕ). Held text l vars (with_argument c c.variables) (settle s)) (inv q) (held-alone c h n)),
  subst (λ (x : Stage). Settled x.mode) (inv e) tt,
)

-- A stage that the program made

pub moved : {text counts counts' vars : List ℕ} {j : Judged} {c r : Stage} → r ≡ c → counts' ≡ counts → After text counts vars j (Ok c) → After text counts' vars j (Ok r)
moved {text} {counts} {counts'} {vars} {j} {c} {r} e q a =
    subst (λ (x : Stage). After text counts' vars j (Ok x)) (inv e) (subst (λ (l : List ℕ). After text l vars j (Ok c)) (inv q) a)

pub named-depth : {text counts vars : List ℕ} (c : Stage) {s : State} → Held text counts vars c s → c.mode ≡ Named → c.depth < 256
named-depth c {s} h e = omega (arith, depth-nodes s.part c.depth h.deep, named-nodes c h e, h.nodes_are)

below-few : {counts : List ℕ} (p : Part) (k : ℕ) → Deep counts p k → SmallPart p → (k - 1 ≡ 0 → ⊥) → get_or counts (k - 1 - 1) 0 ≤ 8
below-few (formulas fs) k root s z = absurd (z refl)
below-few (inside p v d) k (level h t) s z = top-few p (k - 1) (below-is p v d k (level h t)) s.0 z

pub below-low : {text counts vars : List ℕ} {c : Stage} {s : State} → Held text counts vars c s → (c.depth - 1 ≡ 0 → ⊥) → get_or counts (c.depth - 1 - 1) 0 ≤ 8
below-low {c = c} {s} h z = below-few s.part c.depth h.deep h.small.part z

-- One more formula, or one more argument

pub raise-root : (k n : ℕ) (counts : List ℕ) → k ≡ 0 → (counts ≡ raised k counts) × (n + 1 ≡ grown k n)
raise-root zero n counts z = (refl, refl)
raise-root (suc k) n counts z = absurd (omega arith)

pub raise-top : (k n : ℕ) (counts : List ℕ) → (k ≡ 0 → ⊥) → (set counts (k - 1) (get_or counts (k - 1) 0 + 1) ≡ raised k counts) × (n ≡ grown k n)
raise-top zero n counts z = absurd (z refl)
raise-top (suc k) n counts z = let e : suc k - 1 ≡ k = omega arith in (ap (λ (i : ℕ). set counts i (get_or counts i 0 + 1)) e, refl)
