-- A full stop: the rule is put behind those that are read.
use Prim.Native.Nat.{ℕ, zero, suc, ◌+◌, ◌-◌, ◌≤◌, ◌<◌}
use mathlib.Core.Path.{◌≡◌, refl, sym as inv, ap, ap₂, subst, ◌∙◌}
use mathlib.Core.List.{List, [], ◌∷◌, ◌++◌}
use native.Mathlib.Omega.{arith}
use lib.ListN.{length, set, take, drop, length-set}
use lib.Seq.{length-take-le}
use Rattle.grammar.specs.Token.{stop, token}
use Rattle.grammar.specs.Syntax.{Formula, Rule}
use Rattle.grammar.specs.Names.{Spot, rule_spots}
use Rattle.reading.specs.Part.{formulas, Mode, State, state, rule_of}
use Rattle.reading.specs.Limits.{SmallState}
use Rattle.reading.specs.Draft.{stop-drafts}
use Rattle.stages.specs.Stage.{root_count}
use Rattle.pieces.specs.declared.Found.{Found}
use Rattle.pieces.specs.declared.Found.TheVariants as F
use Rattle.symbols.specs.declared.Section.{Section}
use Rattle.symbols.specs.Sections.{part, Holds}
use Rattle.drafts.specs.declared.Kind.{Kind}
use Rattle.drafts.specs.declared.Kind.TheVariants.{Constant, Compound, Predicate}
use Rattle.drafts.specs.declared.Draft.{Draft}
use Rattle.drafts.specs.Drafted.{sort_of_kind, after, bytes_of, section_of}
use Rattle.building.specs.Built.{shut, headed}
use Rattle.building.proofs.Arguments.{len_most}
use Rattle.reader.specs.Effect.{Effect, stays, stops, effect}
use Rattle.reader.specs.Kept.{tables_of, done_bytes, Kept, Sofar, Step, ended}
use Rattle.reader.proofs.Stepping.{step-piece}

-- The clause record

headed-front : (start len x : ℕ) (out : List ℕ) (i j m : ℕ) → i ≡ start → j ≡ start + 1 → m ≡ start + 2 + len → start + 2 ≤ length out →
    take m (set (set out i 5) j x) ≡ take start out ++ (5 ∷ x ∷ part (start + 2) len out)
headed-front zero len x (a ∷ b ∷ out) zero (suc zero) (suc (suc m)) e f g l = let q : m ≡ len = omega (arith, g) in ap (λ (n : ℕ). 5 ∷ x ∷ take n out) q
headed-front zero len x [] i j m e f g l = absurd (omega arith)
headed-front zero len x (a ∷ []) i j m e f g l = absurd (omega arith)
headed-front zero len x (a ∷ b ∷ out) zero (suc zero) zero e f g l = absurd (omega arith)
headed-front zero len x (a ∷ b ∷ out) zero (suc zero) (suc zero) e f g l = absurd (omega arith)
headed-front zero len x (a ∷ b ∷ out) zero zero m e f g l = absurd (omega arith)
headed-front zero len x (a ∷ b ∷ out) zero (suc (suc j)) m e f g l = absurd (omega arith)
headed-front zero len x (a ∷ b ∷ out) (suc i) j m e f g l = absurd (omega arith)
headed-front (suc start) len x [] i j m e f g l = absurd (omega arith)
headed-front (suc start) len x (y ∷ out) zero j m e f g l = absurd (omega arith)
headed-front (suc start) len x (y ∷ out) (suc i) zero m e f g l = absurd (omega arith)
headed-front (suc start) len x (y ∷ out) (suc i) (suc j) zero e f g l = absurd (omega arith)
headed-front (suc start) len x (y ∷ out) (suc i) (suc j) (suc m) e f g l =
    ap (λ (t : List ℕ). y ∷ t) (headed-front start len x out i j m (omega (arith, e)) (omega (arith, f)) (omega (arith, g)) (omega (arith, l)))
    ∙ ap (λ (t : List ℕ). y ∷ (take start out ++ (5 ∷ x ∷ t))) (shifted start len y out)
  where
    shifted : (start len y : ℕ) (out : List ℕ) → part (start + 2) len out ≡ part (suc start + 2) len (y ∷ out)
    shifted start len y out = let z : suc (start + 2) ≡ suc start + 2 = omega arith in ap (λ (n : ℕ). part n len (y ∷ out)) z

body-count : (f : Formula) (fs gs : List Formula) → length (rule_of f fs gs).body ≡ length fs + length gs
body-count f [] gs = omega arith
body-count f (h ∷ fs) gs = omega (arith, body-count h fs (f ∷ gs))

same_sections : (b : Draft) (k : Kind) → section_of b k ≡ section_of (ended b) k
same_sections b Constant = refl
same_sections b Compound = refl
same_sections b Predicate = refl

module _ {text out opens starts lens heads nexts : List ℕ} {b : Draft} {cs : List Rule} {f : Formula} {fs : List Formula} {m : Mode} (m' : Mode) (n : ℕ) (count : n ≡ suc (length fs)) (c : SmallState (state cs (formulas (f ∷ fs)) m))
    (k : Kept text out opens starts lens heads nexts b (state cs (formulas (f ∷ fs)) m)) where
  abbrev rule : Rule
  rule = rule_of f fs []

  abbrev out' : List ℕ
  out' = headed out b.from n

  len_low : b.len ≤ 1024
  len_low = omega (arith, len_most 256 k.built c.count)

  front_bytes : take (b.from + b.len) out' ≡ done_bytes (rule ∷ cs)
  front_bytes =
      headed-front k.start b.len (n - 1) out (b.from - 2) (b.from - 1) (b.from + b.len) (omega (arith, k.behind)) (omega (arith, k.behind)) (omega (arith, k.behind))
      (omega (arith, k.behind, k.built.drafted.low, k.built.drafted.long))
      ∙ ap₂ (λ (x y : List ℕ). x ++ (5 ∷ (n - 1) ∷ y)) k.done
      (ap (λ (i : ℕ). part i b.len out) k.behind ∙ k.built.drafted.bytes ∙ ap (bytes_of (tables_of cs) []) (stop-drafts f fs))
      ∙ ap (λ (x : ℕ). done_bytes cs ++ (5 ∷ x ∷ bytes_of (tables_of cs) [] (rule_spots rule))) (let z : n - 1 ≡ length rule.body = omega (arith, count, body-count f fs []) in z)

  out_long : length out' ≡ length out
  out_long = length-set (set out (b.from - 2) 5) (b.from - 1) (n - 1) ∙ length-set out (b.from - 2) 5

  rule-kept : (ended b).from ≤ 32769 → Kept text out' opens starts lens heads nexts (ended b) (state (rule ∷ cs) (formulas []) m')
  rule-kept l =
      record {
        built =
            record {
              drafted =
                  record {
                    bytes = refl;
                    tables =
                        λ j.
                        subst (λ (x : Section). Holds text starts lens heads nexts x (after (tables_of cs) (rule_spots rule) (sort_of_kind j))) (same_sections b j)
                        (subst (λ (e : List Spot). Holds text starts lens heads nexts (section_of b j) (after (tables_of cs) e (sort_of_kind j))) (stop-drafts f fs) (k.built.drafted.tables j));
                    constants_few = omega (arith, k.built.drafted.constants_few);
                    compounds_few = omega (arith, k.built.drafted.compounds_few);
                    predicates_few = omega (arith, k.built.drafted.predicates_few);
                    low = l;
                    long = out_long ∙ k.built.drafted.long;
                  };
              opened = shut;
              opens_long = k.built.opens_long;
              weighed = refl;
            };
        start = b.from + b.len;
        behind = refl;
        done = front_bytes;
      }

  stopped : Sofar text out' opens starts lens heads nexts (ended b) (state (rule ∷ cs) (formulas []) m')
  stopped =
      record {
        kept = rule-kept;
        grown =
            omega (arith, inv (ap length front_bytes) ∙ length-take-le (b.from + b.len) out' (omega (arith, out_long, k.built.drafted.low, k.built.drafted.long, len_low)));
      }

pub record Room (out : List ℕ) (b : Draft) (n : ℕ) : Type 0 where
  pub two : 2 ≤ b.from
  pub within : b.from ≤ length out
  pub some : 0 < n
  pub few : n ≤ 17
  pub low : b.from ≤ 32769
  pub short : b.len ≤ 1024

stop-room : {text out opens starts lens heads nexts : List ℕ} {b : Draft} {s s' : State} (n : ℕ) → Effect stop s s' → n ≡ root_count s.part → SmallState s → Kept text out opens starts lens heads nexts b s → Room out b n
stop-room n (stays h) e c k = absurd h
stop-room n (stops {f = f} {fs}) e c k =
    record {
      two = omega (arith, k.behind);
      within = omega (arith, k.built.drafted.low, k.built.drafted.long);
      some = omega (arith, e);
      few = omega (arith, e, c.part.1);
      low = k.built.drafted.low;
      short = omega (arith, len_most 256 k.built c.count);
    }

stop-kept : {text out opens starts lens heads nexts : List ℕ} {b : Draft} {s s' : State} (n : ℕ) → Effect stop s s' → n ≡ root_count s.part → SmallState s → Kept text out opens starts lens heads nexts b s →
    Sofar text (headed out b.from n) opens starts lens heads nexts (ended b) s'
stop-kept n (stays h) e c k = absurd h
stop-kept n (stops {m' = m'}) e c k = stopped m' n e c k

module _ {text : List ℕ} {at depth n v : ℕ} {found : Found} {s s' : State} (x : Step text at depth n v found s s') (e : found ≡ F.Stop) where
  stop-effect : Effect stop s s'
  stop-effect = effect s s' stop at x.settled (step-piece F.Stop (token stop) (drop (at + 1) text) x e refl)

  pub finish-room : {out opens starts lens heads nexts : List ℕ} {b : Draft} → Kept text out opens starts lens heads nexts b s → Room out b n
  finish-room k = stop-room n stop-effect x.count_is x.small k

  pub finish-sofar : {out out₁ opens starts lens heads nexts : List ℕ} {b r : Draft} → out₁ ≡ headed out b.from n → r ≡ ended b → Kept text out opens starts lens heads nexts b s → Sofar text out₁ opens starts lens heads nexts r s'
  finish-sofar {out} {out₁} {opens} {starts} {lens} {heads} {nexts} {b} {r} p q k =
      subst (λ (d : Draft). Sofar text out₁ opens starts lens heads nexts d s') (inv q)
      (subst (λ (o : List ℕ). Sofar text o opens starts lens heads nexts (ended b) s') (inv p) (stop-kept n stop-effect x.count_is x.small k))
