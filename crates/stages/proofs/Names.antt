-- What names and variables lead to.
use Prim.Native.Nat.{ℕ, zero, suc, ◌+◌, ◌≤◌, ◌<◌}
use mathlib.Core.Path.{◌≡◌, refl, sym as inv, ap, ◌∙◌}
use mathlib.Core.Bool.{Bool, true, false, true≢false, ◌||◌}
use mathlib.Core.List.{List, []}
use native.Mathlib.Omega.{arith}
use lib.ListN.{length}
use lib.Dec.{leb, ltb}
use borrow.Author.Tests.{le-leb, lt-leb, lt-ltb}
use Rattle.terms.specs.When.{◌⇒◌∣◌}
use Rattle.grammar.specs.Token.{name, variable}
use Rattle.grammar.specs.Syntax.{Formula, Rule}
use Rattle.grammar.specs.Names.{variable_number, with_variable}
use Rattle.grammar.specs.NameLaws.{Numbers, fresh, known, numbers, variable-low}
use Rattle.reading.specs.Part.{and_variable, Part, formulas, inside, Mode, named, complete, State, state, Taken, wrong, variable_in, next}
use Rattle.reading.specs.Reader.{full, crowded, variables, limit, long, going, bad, sized, judge_taken, judge_token}
use Rattle.reading.proofs.LimitLaws.{name-passes}
use Rattle.stages.specs.declared.Mode as M
use Rattle.stages.specs.declared.Mode.TheVariants.{Between, Expects, Named, Complete}
use Rattle.stages.specs.declared.Stage.{Stage}
use Rattle.std.specs.Prelude.{Ok}
use Rattle.stages.specs.Stage as Stage
use Rattle.stages.specs.Stage.{mode_of, awaits, Settled, Deep, root, level, root_count, raised, Held, with_argument, in_brackets, code, After}
use Rattle.stages.specs.Variables.{Variables}
use Rattle.stages.proofs.Depths.{variable-deep, variable-count}
use Rattle.stages.proofs.Holding.{depth-inside, raised_long, judge-small}
use Rattle.nametable.specs.Table.{word}
use Rattle.stages.proofs.Kept.{word-long}

-- Names

pub name-wrong : {text counts vars : List ℕ} (c : Stage) {s : State} (at : ℕ) (w : List ℕ) → Held text counts vars c s → Settled c.mode → awaits c.mode ≡ false → judge_token s at (name w) ≡ bad 41 at
name-wrong {text} c {s} at w h z i = there c.mode h.mode_is z i
  where
    there : (m : M.Mode) → s.mode ≡ mode_of text m c.at c.len → Settled m → awaits m ≡ false → judge_token s at (name w) ≡ bad 41 at
    there Between e z i = absurd (true≢false i)
    there Expects e z i = absurd (true≢false i)
    there Named e z i = absurd z
    there Complete e z i = ap (λ (x : Mode). judge_taken (next s.rules s.part x (name w)) (code s) (long (name w)) at) e

name-taken : {text counts vars : List ℕ} (c : Stage) {s : State} (at : ℕ) (w : List ℕ) → Held text counts vars c s → awaits c.mode ≡ true →
    judge_token s at (name w) ≡ sized (code s) (leb 33 (length w)) at (state s.rules s.part (named w))
name-taken {text} c {s} at w h i = there c.mode h.mode_is i
  where
    there : (m : M.Mode) → s.mode ≡ mode_of text m c.at c.len → awaits m ≡ true → judge_token s at (name w) ≡ sized (code s) (leb 33 (length w)) at (state s.rules s.part (named w))
    there Between e i = ap (λ (x : Mode). judge_taken (next s.rules s.part x (name w)) (code s) (long (name w)) at) e
    there Expects e i = ap (λ (x : Mode). judge_taken (next s.rules s.part x (name w)) (code s) (long (name w)) at) e
    there Named e i = absurd (true≢false (inv i))
    there Complete e i = absurd (true≢false (inv i))

sized-bad : (k r : ℕ) (b : Bool) (at : ℕ) (s : State) → r ≡ k → (r ≡ 0 → ⊥) → sized k b at s ≡ bad r at
sized-bad zero r b at s e z = absurd (z e)
sized-bad (suc k) r b at s e z = ap (λ (x : ℕ). bad x at) (inv e)

sized-long : (k : ℕ) (b : Bool) (at : ℕ) (s : State) → k ≡ 0 → b ≡ true → sized k b at s ≡ bad 42 (at + 32)
sized-long zero true at s e f = refl
sized-long zero false at s e f = absurd (true≢false (inv f))
sized-long (suc k) b at s e f = absurd (omega arith)

sized-going : (k : ℕ) (b : Bool) (at : ℕ) (s : State) → k ≡ 0 → b ≡ false → sized k b at s ≡ going s
sized-going zero true at s e f = absurd (true≢false f)
sized-going zero false at s e f = refl
sized-going (suc k) b at s e f = absurd (omega arith)

pub name_limited : {text counts vars : List ℕ} (c : Stage) {s : State} (at r : ℕ) (w : List ℕ) → Held text counts vars c s → awaits c.mode ≡ true → r ≡ code s → (r ≡ 0 → ⊥) → judge_token s at (name w) ≡ bad r at
name_limited c {s} at r w h i e z = name-taken c at w h i ∙ sized-bad (code s) r (leb 33 (length w)) at (state s.rules s.part (named w)) e z

pub name-long : {text counts vars : List ℕ} (c : Stage) {s : State} (at r len : ℕ) → Held text counts vars c s → awaits c.mode ≡ true → r ≡ code s → r ≡ 0 → at + len ≤ length text → 33 ≤ len →
    judge_token s at (name (word text at len)) ≡ bad 42 (at + 32)
name-long {text} c {s} at r len h i e z l k =
    let w = word text at len in
    name-taken c at w h i ∙ sized-long (code s) (leb 33 (length w)) at (state s.rules s.part (named w)) (inv e ∙ z) (le-leb 33 (length w) (omega (arith, word-long text at len l)))

pub name-goes : {text counts vars : List ℕ} (c : Stage) {s : State} (at r len : ℕ) → Held text counts vars c s → awaits c.mode ≡ true → r ≡ code s → r ≡ 0 → at + len ≤ length text → at < 65536 → len < 33 →
    After text counts vars (judge_token s at (name (word text at len))) (Ok (Stage.named c at len))
name-goes {text} c {s} at r len h i e z l low k =
    let w = word text at len in
    let after = state s.rules s.part (named w) in
    let j : judge_token s at (name w) ≡ going after =
    name-taken c at w h i ∙ sized-going (code s) (leb 33 (length w)) at after (inv e ∙ z) (lt-leb 33 (length w) (omega (arith, word-long text at len l))) in (
      after,
      j,
      record {
        mode_is = refl;
        deep = h.deep;
        formulas_are = h.formulas_are;
        nodes_are = h.nodes_are;
        rules_are = h.rules_are;
        variables_are = h.variables_are;
        small = judge-small s after (name w) at h.small j;
        counts_long = h.counts_long;
        vars_long = h.vars_long;
        name_inside = (l, low);
      },
    )

-- Variables

root-wrong : {counts : List ℕ} (cs : List Rule) (p : Part) (k : ℕ) (w : List ℕ) → Deep counts p k → in_brackets k ≡ false → variable_in cs p w ≡ wrong
root-wrong cs (formulas fs) k w root i = refl
root-wrong cs (inside p v d) k w (level h t) i = absurd (true≢false i)

pub variable-wrong : {text counts vars : List ℕ} (c : Stage) {s : State} (at : ℕ) (w : List ℕ) → Held text counts vars c s → Settled c.mode → Stage.expects c.mode c.depth ≡ false →
    judge_token s at (variable w) ≡ bad 41 at
variable-wrong {text} c {s} at w h z i = there c.mode h.mode_is z i
  where
    there : (m : M.Mode) → s.mode ≡ mode_of text m c.at c.len → Settled m → Stage.expects m c.depth ≡ false → judge_token s at (variable w) ≡ bad 41 at
    there Between e z i = ap (λ (x : Mode). judge_taken (next s.rules s.part x (variable w)) (limit s.rules s.part (variable w)) false at) e
    there Expects e z i =
        ap (λ (x : Mode). judge_taken (next s.rules s.part x (variable w)) (limit s.rules s.part (variable w)) false at) e
        ∙ ap (λ (x : Taken). judge_taken x (limit s.rules s.part (variable w)) false at) (root-wrong s.rules s.part c.depth w h.deep i)
    there Named e z i = absurd z
    there Complete e z i = ap (λ (x : Mode). judge_taken (next s.rules s.part x (variable w)) (limit s.rules s.part (variable w)) false at) e

variable-taken : {text counts vars : List ℕ} (c : Stage) {s : State} (at : ℕ) (w : List ℕ) → Held text counts vars c s → Stage.expects c.mode c.depth ≡ true →
    judge_token s at (variable w) ≡ judge_taken (variable_in s.rules s.part w) (limit s.rules s.part (variable w)) false at
variable-taken {text} c {s} at w h i = there c.mode h.mode_is i
  where
    there : (m : M.Mode) → s.mode ≡ mode_of text m c.at c.len → Stage.expects m c.depth ≡ true →
        judge_token s at (variable w) ≡ judge_taken (variable_in s.rules s.part w) (limit s.rules s.part (variable w)) false at
    there Between e i = absurd (true≢false (inv i))
    there Expects e i = ap (λ (x : Mode). judge_taken (next s.rules s.part x (variable w)) (limit s.rules s.part (variable w)) false at) e
    there Named e i = absurd (true≢false (inv i))
    there Complete e i = absurd (true≢false (inv i))

bracketed : (m : M.Mode) (k : ℕ) → Stage.expects m k ≡ true → k ≡ 0 → ⊥
bracketed Between k i z = true≢false (inv i)
bracketed Expects zero i z = true≢false (inv i)
bracketed Expects (suc k) i z = omega arith
bracketed Named k i z = true≢false (inv i)
bracketed Complete k i z = true≢false (inv i)

inside-bad : {counts : List ℕ} (cs : List Rule) (p : Part) (k : ℕ) (w : List ℕ) (x r at : ℕ) → Deep counts p k → (k ≡ 0 → ⊥) → r ≡ x → (r ≡ 0 → ⊥) → judge_taken (variable_in cs p w) x false at ≡ bad r at
inside-bad cs (formulas fs) k w x r at root z e n = absurd (z refl)
inside-bad cs (inside p v d) k w x r at (level h t) z e n = sized-bad x r false at (state cs (inside p v (and_variable d w)) complete) e n

-- the codes of a variable are those of a name, and 5 for one that is the 65th
code-first : (f a b : Bool) (r : ℕ) → r ≡ (f ⇒ 4 ∣ a ⇒ 5 ∣ 0) → (r ≡ 0 → ⊥) → r ≡ (f ⇒ 4 ∣ a || b ⇒ 5 ∣ 0)
code-first true a b r e z = e
code-first false true b r e z = e
code-first false false b r e z = absurd (z e)

code-last : (f a b : Bool) (r : ℕ) → r ≡ (f ⇒ 4 ∣ a ⇒ 5 ∣ 0) → r ≡ 0 → b ≡ true → ◌≡◌ {A = ℕ} 5 (f ⇒ 4 ∣ a || b ⇒ 5 ∣ 0)
code-last true a b r e z t = absurd (omega arith)
code-last false true b r e z t = refl
code-last false false b r e z t = rw t refl

code-clear : (f a b : Bool) (r : ℕ) → r ≡ (f ⇒ 4 ∣ a ⇒ 5 ∣ 0) → r ≡ 0 → b ≡ false → ◌≡◌ {A = ℕ} (f ⇒ 4 ∣ a || b ⇒ 5 ∣ 0) 0
code-clear true a b r e z t = absurd (omega arith)
code-clear false true b r e z t = absurd (omega arith)
code-clear false false b r e z t = rw t refl

pub variable_limited : {text counts vars : List ℕ} (c : Stage) {s : State} (at r : ℕ) (w : List ℕ) → Held text counts vars c s → Stage.expects c.mode c.depth ≡ true → r ≡ code s → (r ≡ 0 → ⊥) →
    judge_token s at (variable w) ≡ bad r at
variable_limited c {s} at r w h i e z =
    variable-taken c at w h i
    ∙ inside-bad s.rules s.part c.depth w (limit s.rules s.part (variable w)) r at h.deep (bracketed c.mode c.depth i)
    (code-first (full s.part) (crowded s.rules s.part) (leb 65 (length (with_variable (variables s.part) w))) r e z) z

pub variable-crowded : {text counts vars : List ℕ} (c : Stage) {s : State} (at r v : ℕ) (w : List ℕ) → Held text counts vars c s → Stage.expects c.mode c.depth ≡ true → r ≡ code s → r ≡ 0 →
    v ≡ variable_number (variables s.part) w → 64 ≤ v → judge_token s at (variable w) ≡ bad 5 at
variable-crowded c {s} at r v w h i e z q l =
    variable-taken c at w h i
    ∙ inside-bad s.rules s.part c.depth w (limit s.rules s.part (variable w)) 5 at h.deep (bracketed c.mode c.depth i)
    (code-last (full s.part) (crowded s.rules s.part) (leb 65 (length (with_variable (variables s.part) w))) r e z
    (le-leb 65 (length (with_variable (variables s.part) w)) (omega (arith, variable-low (variables s.part) w, q)))) (λ (y : 5 ≡ 0). omega arith)

few-variables : (seen : List (List ℕ)) (w : List ℕ) (v : ℕ) → length seen ≤ 64 → v ≡ variable_number seen w → v < 64 → length (with_variable seen w) ≤ 64
few-variables seen w v l q k = few (numbers seen w)
  where
    few : Numbers seen w → length (with_variable seen w) ≤ 64
    few (fresh a b) = omega (arith, q)
    few (known a b) = omega arith

variable-part : {text counts vars : List ℕ} (c : Stage) (cs : List Rule) (p : Part) (m : Mode) (at r n : ℕ) (w vars' : List ℕ) → Held text counts vars c (state cs p m) →
    Stage.expects c.mode c.depth ≡ true → r ≡ code (state cs p m) → r ≡ 0 → length (with_variable (variables p) w) ≤ 64 → Variables text vars' (with_variable (variables p) w) n → length vars' ≡ 128 →
    After text (raised c.depth counts) vars' (judge_token (state cs p m) at (variable w)) (Ok (with_argument c n))
variable-part {counts = counts} c cs (formulas fs) m at r n w vars' h i e z l y k = absurd (rooted-zero c.depth h.deep (bracketed c.mode c.depth i))
  where
    rooted-zero : {counts : List ℕ} {fs : List Formula} (k : ℕ) → Deep counts (formulas fs) k → (k ≡ 0 → ⊥) → ⊥
    rooted-zero k root z = z refl
variable-part {text} {counts} {vars} c cs (inside p v d) m at r n w vars' h i e z l y k =
    let after = state cs (inside p v (and_variable d w)) complete in
    let q = inside p v d in
    let j : judge_token (state cs q m) at (variable w) ≡ going after =
    variable-taken c at w h i
    ∙ sized-going (limit cs q (variable w)) false at after
    (code-clear (full q) (crowded cs q) (leb 65 (length (with_variable (variables q) w))) r e z (lt-leb 65 (length (with_variable (variables q) w)) (omega (arith, l)))) refl in (
      after,
      j,
      record {
        mode_is = refl;
        deep = variable-deep p v w d c.depth h.deep (depth-inside h);
        formulas_are = variable-count p v d c.depth c.formulas h.deep ∙ h.formulas_are;
        nodes_are = omega (arith, h.nodes_are);
        rules_are = h.rules_are;
        variables_are = y;
        small = judge-small (state cs q m) after (variable w) at h.small j;
        counts_long = raised_long c.depth counts ∙ h.counts_long;
        vars_long = k;
        name_inside = tt;
      },
    )

pub variable-goes : {text counts vars : List ℕ} (c : Stage) {s : State} (at r v n : ℕ) (w vars' : List ℕ) → Held text counts vars c s → Stage.expects c.mode c.depth ≡ true → r ≡ code s → r ≡ 0 →
    v ≡ variable_number (variables s.part) w → v < 64 → Variables text vars' (with_variable (variables s.part) w) n → length vars' ≡ 128 →
    After text (raised c.depth counts) vars' (judge_token s at (variable w)) (Ok (with_argument c n))
variable-goes c {s} at r v n w vars' h i e z q b y k =
    variable-part c s.rules s.part s.mode at r n w vars' h i e z (few-variables (variables s.part) w v h.small.named q b) y k

pub argument_expected : (m : M.Mode) (k : ℕ) → m ≡ Expects → ltb 0 k ≡ Stage.expects m k
argument_expected m k e = rw e (positive k)
  where
    positive : (k : ℕ) → ltb 0 k ≡ in_brackets k
    positive zero = refl
    positive (suc k) = lt-ltb 0 (suc k) (omega arith)

pub number-within : {text counts vars : List ℕ} (c : Stage) {s : State} (v : ℕ) (w : List ℕ) → Held text counts vars c s → v ≡ variable_number (variables s.part) w → v ≤ c.variables
number-within c {s} v w h e = low (numbers (variables s.part) w)
  where
    low : Numbers (variables s.part) w → v ≤ c.variables
    low (fresh a b) = omega (arith, e, h.variables_are.count)
    low (known a b) = omega (arith, e, h.variables_are.count)

pub passed-nodes : {text counts vars : List ℕ} (c : Stage) {s : State} (r : ℕ) → Held text counts vars c s → r ≡ code s → r ≡ 0 → c.nodes < 256
passed-nodes c {s} r h e z = omega (arith, h.nodes_are, (name-passes s.rules s.part [] (inv e ∙ z)).nodes)
