-- What brackets, commas, `:-` and full stops lead to.
use Prim.Native.Nat.{ℕ, ◌-◌, ◌<◌}
use mathlib.Core.Path.{◌≡◌, refl, sym as inv, ap, subst, ◌∙◌}
use mathlib.Core.Bool.{Bool, true, false}
use mathlib.Core.List.{List, [], ◌∷◌}
use native.Mathlib.Omega.{arith}
use lib.ListN.{get_or, set, length-set}
use Rattle.terms.specs.When.{◌⇒◌∣◌}
use Rattle.grammar.specs.Token.{Token, opening, closing, comma, arrow, stop}
use Rattle.grammar.specs.Syntax.{none, Formula, Rule}
use Rattle.reading.specs.Part.{Done, none_yet, and_variable, and_name, Part, formulas, inside, Mode, between, expects, named, complete, State, state, taken, wrong, filled, comma_may, arrow_may, closed, stopped, rule_of, terms_of, put, next}
use Rattle.reading.specs.Reader.{size, variables, going, bad, judge_taken, judge_token}
use Rattle.reading.specs.SizeLaws.{put-nodes, put-variables, done-nodes-of, done-variables-of}
use Rattle.stages.specs.declared.Mode as M
use Rattle.stages.specs.declared.Mode.TheVariants.{Between, Expects, Named, Complete}
use Rattle.stages.specs.declared.Stage.{Stage}
use Rattle.std.specs.Prelude.{Ok}
use Rattle.stages.specs.Stage.{mode_of, is_complete, Settled, Deep, root, level, root_count, raised, Held, expecting, finished, closed_to, opened, After}
use Rattle.stages.specs.Variables.{Variables}
use Rattle.stages.proofs.Depths.{top-is, below-is, put-deep, put_count, opened-deep}
use Rattle.stages.proofs.Holding.{depth_low, raised_long, judge-complete, judge-small}
use Rattle.nametable.specs.Table.{word}

-- A closing bracket

no-bracket : {counts : List ℕ} (cs : List Rule) (p : Part) (k at : ℕ) → Deep counts p k → k ≡ 0 → judge_taken (closed cs p) 0 false at ≡ bad 41 at
no-bracket cs (formulas fs) k at root z = refl
no-bracket cs (inside p v d) k at (level h t) z = absurd (omega arith)

pub closing-root : {text counts vars : List ℕ} (c : Stage) {s : State} (at : ℕ) → Held text counts vars c s → is_complete c.mode ≡ true → c.depth ≡ 0 → judge_token s at closing ≡ bad 41 at
closing-root c {s} at h i z = judge-complete c at closing h i ∙ no-bracket s.rules s.part c.depth at h.deep z

unfilled : (d : Done) → size d ≡ 0 → filled d ≡ false
unfilled none_yet e = refl
unfilled (and_variable d w) e = absurd (omega arith)
unfilled (and_name d w own) e = absurd (omega arith)

has_filled : (d : Done) → (size d ≡ 0 → ⊥) → filled d ≡ true
has_filled none_yet e = absurd (e refl)
has_filled (and_variable d w) e = refl
has_filled (and_name d w own) e = refl

empty-bracket : {counts : List ℕ} (cs : List Rule) (p : Part) (k at : ℕ) → Deep counts p k → get_or counts (k - 1) 0 ≡ 0 → judge_taken (closed cs p) 0 false at ≡ bad 41 at
empty-bracket cs (formulas fs) k at root z = refl
empty-bracket cs (inside p v d) k at (level h t) z = rw (unfilled d (inv (top-is p v d k (level h t)) ∙ z)) refl

pub closing-empty : {text counts vars : List ℕ} (c : Stage) {s : State} (at : ℕ) → Held text counts vars c s → is_complete c.mode ≡ true → get_or counts (c.depth - 1) 0 ≡ 0 → judge_token s at closing ≡ bad 41 at
closing-empty c {s} at h i z = judge-complete c at closing h i ∙ empty-bracket s.rules s.part c.depth at h.deep z

closing-part : {text counts vars : List ℕ} (c : Stage) (cs : List Rule) (p : Part) (m : Mode) (at : ℕ) → Held text counts vars c (state cs p m) → is_complete c.mode ≡ true → (c.depth ≡ 0 → ⊥) →
    (get_or counts (c.depth - 1) 0 ≡ 0 → ⊥) → After text (raised (c.depth - 1) counts) vars (judge_token (state cs p m) at closing) (Ok (closed_to c (c.depth - 1)))
closing-part c cs (formulas fs) m at h i z n = absurd (rooted-zero c.depth h.deep z)
  where
    rooted-zero : {counts : List ℕ} {fs : List Formula} (k : ℕ) → Deep counts (formulas fs) k → (k ≡ 0 → ⊥) → ⊥
    rooted-zero k root z = z refl
closing-part {text} {counts} {vars} c cs (inside p v d) m at h i z n =
    let f : filled d ≡ true = has_filled d (λ (e : size d ≡ 0). n (top-is p v d c.depth h.deep ∙ e)) in
    let own = terms_of d none in
    let after = state cs (put p v own) complete in
    let e : judge_token (state cs (inside p v d) m) at closing ≡ going after =
    judge-complete c at closing h i ∙ ap (λ (b : Bool). judge_taken (b ⇒ taken after ∣ wrong) 0 false at) f in
    let b = below-is p v d c.depth h.deep in (
      after,
      e,
      record {
        mode_is = refl;
        deep = put-deep p (c.depth - 1) v own b (omega (arith, depth_low h, h.counts_long));
        formulas_are = put_count p (c.depth - 1) c.formulas v own b h.formulas_are;
        nodes_are = omega (arith, put-nodes p v own, done-nodes-of d none, h.nodes_are);
        rules_are = h.rules_are;
        variables_are = subst (λ (l : List (List ℕ)). Variables text vars l c.variables) (inv (put-variables p v own ∙ done-variables-of d none (variables p))) h.variables_are;
        small = judge-small (state cs (inside p v d) m) after closing at h.small e;
        counts_long = raised_long (c.depth - 1) counts ∙ h.counts_long;
        vars_long = h.vars_long;
        name_inside = tt;
      },
    )

pub closing-goes : {text counts vars : List ℕ} (c : Stage) {s : State} (at : ℕ) → Held text counts vars c s → is_complete c.mode ≡ true → (c.depth ≡ 0 → ⊥) →
    (get_or counts (c.depth - 1) 0 ≡ 0 → ⊥) → After text (raised (c.depth - 1) counts) vars (judge_token s at closing) (Ok (closed_to c (c.depth - 1)))
closing-goes c {s} at h i z n = closing-part c s.rules s.part s.mode at h i z n

-- A comma, and `:-`

pub sign-refused : {text counts vars : List ℕ} (c : Stage) {s : State} (at : ℕ) → Held text counts vars c s → is_complete c.mode ≡ true → comma_may s.part ≡ false → judge_token s at comma ≡ bad 41 at
sign-refused c {s} at h i f = judge-complete c at comma h i ∙ ap (λ (b : Bool). judge_taken (b ⇒ taken (state s.rules s.part expects) ∣ wrong) 0 false at) f

held-expecting : {text counts vars : List ℕ} (c : Stage) {s : State} (at : ℕ) (t : Token) → Held text counts vars c s → judge_token s at t ≡ going (state s.rules s.part expects) →
    After text counts vars (judge_token s at t) (Ok (expecting c))
held-expecting c {s} at t h e = (
  state s.rules s.part expects,
  e,
  record {
    mode_is = refl;
    deep = h.deep;
    formulas_are = h.formulas_are;
    nodes_are = h.nodes_are;
    rules_are = h.rules_are;
    variables_are = h.variables_are;
    small = judge-small s (state s.rules s.part expects) t at h.small e;
    counts_long = h.counts_long;
    vars_long = h.vars_long;
    name_inside = tt;
  },
)

pub comma-goes : {text counts vars : List ℕ} (c : Stage) {s : State} (at : ℕ) → Held text counts vars c s → is_complete c.mode ≡ true → comma_may s.part ≡ true → After text counts vars (judge_token s at comma) (Ok (expecting c))
comma-goes c {s} at h i f =
    held-expecting c at comma h (judge-complete c at comma h i ∙ ap (λ (b : Bool). judge_taken (b ⇒ taken (state s.rules s.part expects) ∣ wrong) 0 false at) f)

arrow-inside : {counts : List ℕ} (p : Part) (k : ℕ) → Deep counts p k → (k ≡ 0 → ⊥) → arrow_may p ≡ false
arrow-inside (formulas fs) k root z = absurd (z refl)
arrow-inside (inside p v d) k (level h t) z = refl

arrow-others : {counts : List ℕ} (p : Part) (k n : ℕ) → Deep counts p k → n ≡ root_count p → k ≡ 0 → (n ≡ 1 → ⊥) → arrow_may p ≡ false
arrow-others (formulas []) k n root e z x = refl
arrow-others (formulas (f ∷ [])) k n root e z x = absurd (x e)
arrow-others (formulas (f ∷ g ∷ fs)) k n root e z x = refl
arrow-others (inside p v d) k n (level h t) e z x = refl

arrow-head : {counts : List ℕ} (p : Part) (k n : ℕ) → Deep counts p k → n ≡ root_count p → k ≡ 0 → n ≡ 1 → arrow_may p ≡ true
arrow-head (formulas []) k n root e z x = absurd (omega arith)
arrow-head (formulas (f ∷ [])) k n root e z x = refl
arrow-head (formulas (f ∷ g ∷ fs)) k n root e z x = absurd (omega arith)
arrow-head (inside p v d) k n (level h t) e z x = absurd (omega arith)

arrow-refused : {text counts vars : List ℕ} (c : Stage) {s : State} (at : ℕ) → Held text counts vars c s → is_complete c.mode ≡ true → arrow_may s.part ≡ false → judge_token s at arrow ≡ bad 41 at
arrow-refused c {s} at h i f = judge-complete c at arrow h i ∙ ap (λ (b : Bool). judge_taken (b ⇒ taken (state s.rules s.part expects) ∣ wrong) 0 false at) f

pub arrow-nested : {text counts vars : List ℕ} (c : Stage) {s : State} (at : ℕ) → Held text counts vars c s → is_complete c.mode ≡ true → (c.depth ≡ 0 → ⊥) → judge_token s at arrow ≡ bad 41 at
arrow-nested c {s} at h i z = arrow-refused c at h i (arrow-inside s.part c.depth h.deep z)

pub arrow-later : {text counts vars : List ℕ} (c : Stage) {s : State} (at : ℕ) → Held text counts vars c s → is_complete c.mode ≡ true → c.depth ≡ 0 → (c.formulas ≡ 1 → ⊥) → judge_token s at arrow ≡ bad 41 at
arrow-later c {s} at h i z x = arrow-refused c at h i (arrow-others s.part c.depth c.formulas h.deep h.formulas_are z x)

pub arrow-goes : {text counts vars : List ℕ} (c : Stage) {s : State} (at : ℕ) → Held text counts vars c s → is_complete c.mode ≡ true → c.depth ≡ 0 → c.formulas ≡ 1 →
    After text counts vars (judge_token s at arrow) (Ok (expecting c))
arrow-goes c {s} at h i z x =
    held-expecting c at arrow h
    (judge-complete c at arrow h i
    ∙ ap (λ (b : Bool). judge_taken (b ⇒ taken (state s.rules s.part expects) ∣ wrong) 0 false at) (arrow-head s.part c.depth c.formulas h.deep h.formulas_are z x))

-- A full stop

stop-inside : {counts : List ℕ} (cs : List Rule) (p : Part) (k at : ℕ) → Deep counts p k → (k ≡ 0 → ⊥) → judge_taken (stopped cs p) 0 false at ≡ bad 41 at
stop-inside cs (formulas fs) k at root z = absurd (z refl)
stop-inside cs (inside p v d) k at (level h t) z = refl

pub stop-nested : {text counts vars : List ℕ} (c : Stage) {s : State} (at : ℕ) → Held text counts vars c s → is_complete c.mode ≡ true → (c.depth ≡ 0 → ⊥) → judge_token s at stop ≡ bad 41 at
stop-nested c {s} at h i z = judge-complete c at stop h i ∙ stop-inside s.rules s.part c.depth at h.deep z

stop-none : {counts : List ℕ} (cs : List Rule) (p : Part) (k n at : ℕ) → Deep counts p k → k ≡ 0 → n ≡ root_count p → n ≡ 0 → judge_taken (stopped cs p) 0 false at ≡ bad 41 at
stop-none cs (formulas []) k n at root z e x = refl
stop-none cs (formulas (f ∷ fs)) k n at root z e x = absurd (omega arith)
stop-none cs (inside p v d) k n at (level h t) z e x = refl

pub stop-empty : {text counts vars : List ℕ} (c : Stage) {s : State} (at : ℕ) → Held text counts vars c s → is_complete c.mode ≡ true → c.depth ≡ 0 → c.formulas ≡ 0 → judge_token s at stop ≡ bad 41 at
stop-empty c {s} at h i z x = judge-complete c at stop h i ∙ stop-none s.rules s.part c.depth c.formulas at h.deep z h.formulas_are x

no-variables : (text vars : List ℕ) → Variables text vars [] 0
no-variables text vars = record { count = refl; few = omega arith; inside = λ i (l : i < 0). absurd (omega arith); named = λ i (l : i < 0). absurd (omega arith) }

stop-part : {text counts vars : List ℕ} (c : Stage) (cs : List Rule) (p : Part) (m : Mode) (at : ℕ) → Held text counts vars c (state cs p m) → is_complete c.mode ≡ true → c.depth ≡ 0 →
    (c.formulas ≡ 0 → ⊥) → After text counts vars (judge_token (state cs p m) at stop) (Ok (finished c))
stop-part c cs (formulas []) m at h i z x = absurd (x h.formulas_are)
stop-part c cs (inside p v d) m at h i z x = absurd (inside-deep c.depth h.deep z)
  where
    inside-deep : {counts : List ℕ} (k : ℕ) → Deep counts (inside p v d) k → k ≡ 0 → ⊥
    inside-deep k (level g t) z = omega arith
stop-part {text} {counts} {vars} c cs (formulas (f ∷ fs)) m at h i z x =
    let after = state (rule_of f fs [] ∷ cs) (formulas []) between in
    let e : judge_token (state cs (formulas (f ∷ fs)) m) at stop ≡ going after = judge-complete c at stop h i in (
      after,
      e,
      record {
        mode_is = refl;
        deep = root;
        formulas_are = refl;
        nodes_are = refl;
        rules_are = omega (arith, h.rules_are);
        variables_are = no-variables text vars;
        small = judge-small (state cs (formulas (f ∷ fs)) m) after stop at h.small e;
        counts_long = h.counts_long;
        vars_long = h.vars_long;
        name_inside = tt;
      },
    )

pub stop_goes : {text counts vars : List ℕ} (c : Stage) {s : State} (at : ℕ) → Held text counts vars c s → is_complete c.mode ≡ true → c.depth ≡ 0 → (c.formulas ≡ 0 → ⊥) →
    After text counts vars (judge_token s at stop) (Ok (finished c))
stop_goes c {s} at h i z x = stop-part c s.rules s.part s.mode at h i z x

-- An opening bracket

opening-judged : (cs : List Rule) (p : Part) (m : Mode) (w : List ℕ) (at : ℕ) → m ≡ named w → judge_token (state cs p m) at opening ≡ going (state cs (inside p w none_yet) expects)
opening-judged cs p m w at e = ap (λ (x : Mode). judge_taken (next cs p x opening) 0 false at) e

pub opening-goes : {text counts vars : List ℕ} (c : Stage) {s : State} (at : ℕ) → Held text counts vars c s → c.mode ≡ Named → c.depth < 256 →
    After text (set counts c.depth 0) vars (judge_token s at opening) (Ok (opened c))
opening-goes {text} {counts} c {s} at h e l =
    let w = word text c.at c.len in
    let after = state s.rules (inside s.part w none_yet) expects in
    let j = opening-judged s.rules s.part s.mode w at (h.mode_is ∙ ap (λ (x : M.Mode). mode_of text x c.at c.len) e) in (
      after,
      j,
      record {
        mode_is = refl;
        deep = opened-deep s.part w c.depth h.deep (omega (arith, l, h.counts_long));
        formulas_are = h.formulas_are;
        nodes_are = omega (arith, h.nodes_are);
        rules_are = h.rules_are;
        variables_are = h.variables_are;
        small = judge-small s after opening at h.small j;
        counts_long = length-set counts c.depth 0 ∙ h.counts_long;
        vars_long = h.vars_long;
        name_inside = tt;
      },
    )

pub opening-wrong : {text counts vars : List ℕ} (c : Stage) {s : State} (at : ℕ) (m : M.Mode) → Held text counts vars c s → c.mode ≡ m → Settled m → judge_token s at opening ≡ bad 41 at
opening-wrong {text} c {s} at m h e z = there m (h.mode_is ∙ ap (λ (x : M.Mode). mode_of text x c.at c.len) e) z
  where
    there : (m : M.Mode) → s.mode ≡ mode_of text m c.at c.len → Settled m → judge_token s at opening ≡ bad 41 at
    there Between e z = ap (λ (x : Mode). judge_taken (next s.rules s.part x opening) 0 false at) e
    there Expects e z = ap (λ (x : Mode). judge_taken (next s.rules s.part x opening) 0 false at) e
    there Named e z = absurd z
    there Complete e z = ap (λ (x : Mode). judge_taken (next s.rules s.part x opening) 0 false at) e
