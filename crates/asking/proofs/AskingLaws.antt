-- The texts that are read are exactly the grammar's within the sizes; each other text is refused in one way, at one place.
use Rattle.std.specs.Prelude.{ℕ, suc, ◌≤◌, ◌<◌, ◌≡◌, refl, ◌↔◌, List, length, ltb, eqb}
use Rattle.std.proofs.Common.{sym as inv, ap, ◌∙◌, inl, inr, arith, ltb-true, ltb-false, eqb-true}
use Rattle.terms.specs.Cases.{cases}
use Rattle.grammar.specs.Syntax.{Formula}
use Rattle.grammar.specs.Query.{asks-one}
use Rattle.asking.specs.Asking.{begin, none_yet, Outcome, read, refused, walk, asking}
use Rattle.asking.proofs.Gone.{Gone}
use Rattle.asking.proofs.GoneLaws.{gone}
use Rattle.asking.proofs.Refusal.{Fault, unexpected_byte, longest_name, out_of_range, nodes_passed, rank, Ahead, Refusal, long_text, first_fault}
use Rattle.asking.proofs.FaultLaws.{no_fault, read-accepted}
use Rattle.asking.specs.Accepted.{Accepted}
use Rattle.asking.proofs.AheadLaws.{refused-first}

-- what each outcome says
abbrev Said : List ℕ → Outcome → Type 0
Said text (read fs) = Accepted text fs
Said text (refused c i) = Refusal text c i

gone-said : (text : List ℕ) (o : Outcome) → length text ≤ 65536 → Gone begin none_yet 0 text o → Said text o
gone-said text (read fs) l g = read-accepted text fs l g
gone-said text (refused c i) l g = first_fault l (refused-first text c i g)

said : (text : List ℕ) → Said text (asking text)
unfolding asking
said text =
    cases (ltb 65536 (length text)) (λ t. rw t (let z : Refusal text 40 0 = long_text (ltb-true 65536 (length text) t) in z))
    (λ t. rw t (gone-said text (walk (suc (length text)) begin none_yet 0 text) (ltb-false 65536 (length text) t) (gone (suc (length text)) begin none_yet 0 text (omega arith))))

asking-sound : (text : List ℕ) (fs : List Formula) → asking text ≡ read fs → Accepted text fs
asking-sound text fs e = rw e at (said text)

refusal : (text : List ℕ) (c i : ℕ) → asking text ≡ refused c i → Refusal text c i
refusal text c i e = rw e at (said text)

-- One refusal

fault-code : {text : List ℕ} {c i : ℕ} → Fault text c i → 0 < c
fault-code (unexpected_byte u) = omega arith
fault-code (longest_name s l) = omega arith
fault-code (out_of_range s b h) = omega arith
fault-code (nodes_passed s b h) = omega arith

pub refusal-code : {text : List ℕ} {c i : ℕ} → Refusal text c i → 0 < c
refusal-code (long_text h) = omega arith
refusal-code (first_fault l f) = fault-code f.there

rank-one : (c d : ℕ) → 0 < c → 0 < d → rank c ≡ rank d → c ≡ d
rank-one c d p q e =
    cases (eqb c 41)
    (λ h. cases (eqb d 41) (λ k. eqb-true c 41 h ∙ inv (eqb-true d 41 k)) (λ k. let z : 0 ≡ d = rw (h, k) at e in absurd (omega (arith, z, q))))
    (λ h. cases (eqb d 41) (λ k. let z : c ≡ 0 = rw (h, k) at e in absurd (omega (arith, z, p))) (λ k. rw (h, k) at e))

both-ahead : (c i d j : ℕ) → 0 < c → 0 < d → Ahead c i d j → Ahead d j c i → (c ≡ d) × (i ≡ j)
both-ahead c i d j p q (inl h) (inl k) = absurd (omega arith)
both-ahead c i d j p q (inl h) (inr k) = absurd (omega (arith, k.0))
both-ahead c i d j p q (inr h) (inl k) = absurd (omega (arith, h.0))
both-ahead c i d j p q (inr h) (inr k) = (rank-one c d p q (omega (arith, h.1, k.1)), h.0)

pub refusal-one : {text : List ℕ} (c i d j : ℕ) → Refusal text c i → Refusal text d j → (c ≡ d) × (i ≡ j)
refusal-one c i d j (long_text h) (long_text k) = (refl, refl)
refusal-one c i d j (long_text h) (first_fault l f) = absurd (omega arith)
refusal-one c i d j (first_fault l f) (long_text k) = absurd (omega arith)
refusal-one c i d j (first_fault l f) (first_fault m g) =
    both-ahead c i d j (fault-code f.there) (fault-code g.there) (f.ahead d j g.there) (g.ahead c i f.there)

accepted-not : {text : List ℕ} (fs : List Formula) (c i : ℕ) → Accepted text fs → Refusal text c i → ⊥
accepted-not fs c i a (long_text h) = omega (arith, h, a.short)
accepted-not fs c i a (first_fault l f) = no_fault fs a.asks a.sized c i f.there

-- The other way round

asking-complete : (text : List ℕ) (fs : List Formula) → Accepted text fs → asking text ≡ read fs
asking-complete text fs a = by (asking text) (said text) refl
  where
    by : (o : Outcome) → Said text o → asking text ≡ o → asking text ≡ read fs
    by (read gs) h e = e ∙ ap read (asks-one gs fs h.asks a.asks)
    by (refused c i) h e = absurd (accepted-not fs c i a h)

refusal-said : (text : List ℕ) (c i : ℕ) → Refusal text c i → asking text ≡ refused c i
refusal-said text c i r = by (asking text) (said text) refl
  where
    by : (o : Outcome) → Said text o → asking text ≡ o → asking text ≡ refused c i
    by (read gs) h e = absurd (accepted-not gs c i h r)
    by (refused d j) h e = let q = refusal-one d j c i h r in e ∙ ap (λ (k : ℕ). refused k j) q.0 ∙ ap (refused c) q.1

-- a text is read as these formulas just where it asks them, within the sizes
pub asking_iff : (text : List ℕ) (fs : List Formula) → (asking text ≡ read fs) ↔ Accepted text fs
asking_iff text fs = (asking-sound text fs, asking-complete text fs)

-- and refused so just where the relation says it
pub refusal_iff : (text : List ℕ) (c i : ℕ) → (asking text ≡ refused c i) ↔ Refusal text c i
refusal_iff text c i = (refusal text c i, refusal-said text c i)
