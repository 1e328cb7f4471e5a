-- A node that passed the few tests made of it is one that the definition takes: each kind of node, and a pass of several.
use Prim.Native.Nat.{ℕ, ◌+◌, ◌-◌, ◌≤◌, ◌<◌}
use native.Mathlib.Omega.{arith}
use borrow.Author.Tests.{lt-ltb, lt-leb, le-leb}
use mathlib.Core.Path.{◌≡◌, refl, sym as inv, ap, ◌∙◌}
use mathlib.Core.Bool.{Bool, true, false, ◌||◌}
use mathlib.Core.List.{List}
use lib.ListN.{length, get_or, set}
use lib.Dec.{eqb}
use Rattle.format.specs.declared.State.{State}
use Rattle.format.specs.declared.Form.{Form}
use Rattle.std.specs.Prelude.{Ok}
use Rattle.format.specs.Reading.{body_length, number_at, record_at, allowed, in_range, is_in_size, is_in_order, next_unused, after_node, after, judge_record, judge, node_limit, variable_limit}
use Rattle.format.specs.Arities.{Memory, meets, keeps, recalled}
use Rattle.format.proofs.Taken.{Within, taken, within-later, after-within}
use Rattle.format.proofs.Going.{Going, going_next}
use Rattle.records.specs.declared.passing.Open.{Open}
use Rattle.records.specs.Passing.{Leads, there, taking, standing, Passes, PassesBelow, Ready, Counted}
use Rattle.records.proofs.Tables.{other_at, entry-written}

-- One node

module _ (form : Form) (state : State) (m : Memory) (s : List ℕ) (at : ℕ) (few : state.nodes < node_limit form) (four : at + 3 < length s) where
  cut_2 : 2 < length s - at
  cut_2 = omega arith

  cut_3 : 3 < length s - at
  cut_3 = omega arith

  pub constant-taken : 0 < state.terms → get_or s at 0 ≡ 2 → judge form state m s at ≡ Ok (after_node state (state.terms - 1) state.formulas state.variables)
  unfolding judge judge_record allowed body_length record_at in_range is_in_size is_in_order keeps after
  constant-taken t e = simp (e, lt-ltb _ _ t, lt-leb _ _ cut_2, lt-ltb _ _ few)

  pub variable-taken : (v : ℕ) → 0 < state.terms → get_or s at 0 ≡ 1 → v ≡ number_at s (at + 1) → v < variable_limit form → v ≤ state.variables →
      judge form state m s at ≡ Ok (after_node state (state.terms - 1) state.formulas (next_unused state.variables v))
  unfolding judge judge_record allowed body_length record_at in_range is_in_size is_in_order keeps after
  variable-taken v t e p l q = simp (e, lt-ltb _ _ t, lt-leb _ _ cut_2, lt-ltb _ _ few, inv p, lt-ltb _ _ l, le-leb _ _ q)

  pub compound-taken : 0 < state.terms → get_or s at 0 ≡ 3 → (get_or s (at + 3) 0 ≡ 0 → ⊥) → get_or s (at + 3) 0 ≤ 8 →
      judge form state m s at ≡ Ok (after_node state (state.terms - 1 + get_or s (at + 3) 0) state.formulas state.variables)
  unfolding judge judge_record allowed body_length record_at in_range is_in_size is_in_order keeps after
  compound-taken t e z q =
      let one : 1 ≤ get_or s (at + 3) 0 = omega arith in
      simp (e, lt-ltb _ _ t, lt-leb _ _ cut_3, lt-ltb _ _ few, le-leb _ _ one, le-leb _ _ q)

  pub formula-taken : (p : ℕ) → state.terms ≡ 0 → 0 < state.formulas → get_or s at 0 ≡ 4 → p ≡ number_at s (at + 1) → get_or s (at + 3) 0 ≤ 8 →
      (eqb (m p) 0 || eqb (m p) (get_or s (at + 3) 0 + 1)) ≡ true → judge form state m s at ≡ Ok (after_node state (get_or s (at + 3) 0) (state.formulas - 1) state.variables)
  unfolding judge judge_record allowed body_length record_at in_range is_in_size is_in_order keeps after
  formula-taken p z f e i q k = simp (e, z, lt-ltb _ _ f, lt-leb _ _ cut_3, lt-ltb _ _ few, inv i, le-leb _ _ q, k)

module _ (form : Form) (s : List ℕ) where
  one : {state next : State} {at end : ℕ} {m left : Memory} → at < length s → judge form state m s at ≡ Ok next → at + 1 + body_length (get_or s at 0) ≡ end →
      meets m (record_at s at (get_or s at 0)) ≡ left → Leads form s next end left state at m
  one l j e f = taking l j (rw (e, f) there)

  past_2 : (at : ℕ) → body_length (get_or s at 0) ≡ 2 → at + 1 + body_length (get_or s at 0) ≡ at + 3
  past_2 at e = omega arith

  past_3 : (at : ℕ) → body_length (get_or s at 0) ≡ 3 → at + 1 + body_length (get_or s at 0) ≡ at + 4
  past_3 at e = omega arith

body_1 : {k : ℕ} → k ≡ 1 → body_length k ≡ 2
unfolding body_length
body_1 e = rw e refl

body_2 : {k : ℕ} → k ≡ 2 → body_length k ≡ 2
unfolding body_length
body_2 e = rw e refl

body_3 : {k : ℕ} → k ≡ 3 → body_length k ≡ 3
unfolding body_length
body_3 e = rw e refl

body_4 : {k : ℕ} → k ≡ 4 → body_length k ≡ 3
unfolding body_length
body_4 e = rw e refl

-- a node more, of so many bytes, with what is owed then and the next unused variable
abbrev pub onward : Open → ℕ → ℕ → ℕ → ℕ → Open
onward x bytes terms formulas variables = record { at = x.at + bytes; terms = terms; formulas = formulas; nodes = x.nodes + 1; variables = variables }

pub stays : {form : Form} {s : List ℕ} {x : Open} {m : Memory} → Passes form s x m x m
stays = record { leads = λ clauses closed. there }

module _ (s : List ℕ) (x : Open) (ready : Ready s x) where
  inside : x.at < length s
  inside = omega (arith, ready.four)

  module _ (terms : 0 < x.terms) (m : Memory) (form : Form) (few : x.nodes < node_limit form) where
    pub passes-constant : get_or s x.at 0 ≡ 2 → Passes form s x m (onward x 3 (x.terms - 1) x.formulas x.variables) m
    passes-constant e = record {
      leads = λ clauses closed.
          one form s inside (constant-taken form (standing x clauses closed) m s x.at few ready.four terms e) (past_2 form s x.at (body_2 e)) (other_at s x.at m (λ z. omega arith));
    }

    pub passes-variable : (v most unused : ℕ) → most ≡ variable_limit form → get_or s x.at 0 ≡ 1 → v ≡ number_at s (x.at + 1) → v < most → v ≤ x.variables → unused ≡ next_unused x.variables v →
        Passes form s x m (onward x 3 (x.terms - 1) x.formulas unused) m
    passes-variable v most unused b e i l q u = rw u (record {
      leads = λ clauses closed.
          one form s inside (variable-taken form (standing x clauses closed) m s x.at few ready.four v terms e i (omega (arith, b, l)) q) (past_2 form s x.at (body_1 e)) (other_at s x.at m (λ z. omega arith));
    })

    pub passes-compound : get_or s x.at 0 ≡ 3 → (get_or s (x.at + 3) 0 ≡ 0 → ⊥) → get_or s (x.at + 3) 0 ≤ 8 →
        Passes form s x m (onward x 4 (x.terms - 1 + get_or s (x.at + 3) 0) x.formulas x.variables) m
    passes-compound e z q = record {
      leads = λ clauses closed.
          one form s inside (compound-taken form (standing x clauses closed) m s x.at few ready.four terms e z q) (past_3 form s x.at (body_3 e)) (other_at s x.at m (λ z. omega arith));
    }

  pub passes-formula : (table : List ℕ) (p : ℕ) (kept : Bool) (form : Form) → x.nodes < node_limit form → x.terms ≡ 0 → 0 < x.formulas → get_or s x.at 0 ≡ 4 → p ≡ number_at s (x.at + 1) →
      get_or s (x.at + 3) 0 ≤ 8 → p < length table → kept ≡ (eqb (get_or table p 0) 0 || eqb (get_or table p 0) (get_or s (x.at + 3) 0 + 1)) → kept ≡ true →
      Passes form s x (recalled table) (onward x 4 (get_or s (x.at + 3) 0) (x.formulas - 1) x.variables) (recalled (set table p (get_or s (x.at + 3) 0 + 1)))
  passes-formula table p kept form few z f e i q l k t = record {
    leads = λ clauses closed.
        one form s inside (formula-taken form (standing x clauses closed) (recalled table) s x.at few ready.four p z f e i q (inv k ∙ t)) (past_3 form s x.at (body_4 e))
        (inv (entry-written s x.at table p e i l));
  }

pub ruleset passed = (stays, passes-constant, passes-variable, passes-compound, passes-formula)

-- Several

leads-on : {form : Form} {s : List ℕ} {last mid : State} {end at : ℕ} {left m : Memory} {first : State} {begin : ℕ} {before : Memory} →
    Leads form s mid at m first begin before → Leads form s last end left mid at m → Leads form s last end left first begin before
leads-on there more = more
leads-on (taking l j rest) more = taking l j (leads-on rest more)

pub passes_on : {form : Form} {s : List ℕ} {x y z : Open} {m m' m'' : Memory} → Passes form s x m y m' → Passes form s y m' z m'' → Passes form s x m z m''
passes_on p q = record { leads = λ clauses closed. leads-on (p.leads clauses closed) (q.leads clauses closed) }

-- in a form that has these limits
abbrev pub PassesIn : ℕ → ℕ → List ℕ → Open → Memory → Open → Memory → Type 0
PassesIn most limit s x m y m' = (form : Form) → most ≡ variable_limit form → limit ≡ node_limit form → Passes form s x m y m'

pub passes-below : {most limit : ℕ} {s : List ℕ} {x y : Open} {m m' : Memory} → PassesBelow most s x m y m' → x.nodes < limit → PassesIn most limit s x m y m'
passes-below q l = λ form e f. q form e (omega (arith, l, f))

pub passes-again : {most limit : ℕ} {s : List ℕ} {x y z : Open} {m m' m'' : Memory} → PassesIn most limit s x m y m' → PassesIn most limit s y m' z m'' →
    PassesIn most limit s x m z m''
passes-again p q = λ form e f. passes_on (p form e f) (q form e f)

record Later (s : List ℕ) (at end : ℕ) (last : State) : Type 0 where
  pub bound : end ≤ length s
  pub within : Within end last
  pub later : at ≤ end

leads-later : {form : Form} {s : List ℕ} {last : State} {end : ℕ} {left : Memory} {state : State} {at : ℕ} {m : Memory} → Leads form s last end left state at m → at ≤ length s → Within at state →
    Later s at end last
leads-later there b w = record { bound = b; within = w; later = omega arith }
leads-later {form} {s} (taking {state} {next} {at} {m} l j rest) b w =
    let t = taken form state m s at next j in
    let body = t.body in
    let r = leads-later rest (omega arith) (within-later (at + 1) _ next (omega arith) (rw t.item.then (after-within at state _ t.item.within_range w))) in
    record { bound = r.bound; within = r.within; later = omega (arith, r.later) }

counted-within : {s : List ℕ} {x : Open} → Counted s x → Within x.at (standing x 0 false)
counted-within c = record { terms = c.terms; nodes = c.nodes; variables = c.variables; clauses = omega arith }

module _ {form : Form} {s : List ℕ} {x y : Open} {m m' : Memory} (p : Passes form s x m y m') (c : Counted s x) where
  moved : Later s x.at y.at (standing y 0 false)
  moved = leads-later (p.leads 0 false) c.bound (counted-within c)

  pub counted-on : Counted s y
  counted-on = let w = moved.within in record { short = c.short; bound = moved.bound; terms = w.terms; nodes = w.nodes; variables = w.variables }

  pub passes-later : x.at ≤ y.at
  passes-later = moved.later

  pub nearer : (y.at ≡ x.at → ⊥) → length s - y.at < length s - x.at
  nearer n = omega (arith, moved.later, moved.bound, n)

leads-going : {form : Form} {s : List ℕ} {before : Memory} {last : State} {end : ℕ} {left : Memory} {state : State} {at : ℕ} {m : Memory} → Leads form s last end left state at m → Going form s before state at m →
    Going form s before last end left
leads-going there g = g
leads-going {form} {s} {before} (taking {state} {next} {at} {m} l j rest) g = leads-going rest (going_next form s before state at m next g l j)

-- In the walk: from the state that a record led to

module _ {form : Form} {s : List ℕ} {before m : Memory} {next : State} {at : ℕ} {x : Open} (g : Going form s before next at m) (o : (x.at ≡ at) × (standing x next.clauses next.closed ≡ next)) where
  pub counted-there : length s ≤ 32768 → Counted s x
  counted-there l =
      let terms = ap (λ (z : State). z.terms) o.1 in
      let nodes = ap (λ (z : State). z.nodes) o.1 in
      let variables = ap (λ (z : State). z.variables) o.1 in
      let w = g.counted in
      let b = g.bound in
      omega (arith, o.0)

  pub going-passed : {y : Open} {m' : Memory} {state : State} → Passes form s x m y m' → state ≡ standing y next.clauses next.closed → Going form s before state y.at m'
  going-passed p e = rw e (leads-going (p.leads next.clauses next.closed) (rw (o.0, o.1) g))

  pub further : length s ≤ 32768 → {y : Open} {m' : Memory} {from : ℕ} → Passes form s x m y m' → at ≡ from + 1 + body_length (get_or s from 0) → from < length s → length s - y.at < length s - from
  further l p e b = omega (arith, passes-later p (counted-there l), o.0, e, b)
