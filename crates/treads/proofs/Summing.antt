-- What a clause's body adds, and laws of the sums.
use Prim.Native.Nat.{ℕ, ◌+◌, ◌*◌, ◌-◌, ◌<◌, ◌≤◌, min}
use native.Mathlib.Omega.{arith}
use native.Mathlib.Nat.{mul-le-mul_right}
use mathlib.Core.Path.{◌≡◌, refl, ap, ◌∙◌, subst}
use native.Mathlib.Decide.{dec_lt}
use mathlib.Core.Logic.{◌⊎◌, inl, inr}
use mathlib.Core.List.{List}
use lib.ListN.{length, take, drop}
use Rattle.terms.specs.Node.{Expr}
use Rattle.search.specs.Next.{Clause, Goal}
use Rattle.words.specs.Word.{nodes}
use Rattle.bounds.specs.Thrift.{Kept}
use Rattle.std.specs.Prelude.{Some, IfSome}
use Rattle.bounds.specs.Sizing.{Sized}
use Rattle.bounds.specs.Tally.{Thrifts}
use Rattle.bounds.specs.declared.clauses.Thrift.{Thrift}
use Rattle.bounds.specs.declared.Size.{Size}
use Rattle.figures.specs.Figures.{first_of, FigureOf}
use Rattle.heapgoals.specs.declared.Standing.{Standing}
use Rattle.treads.specs.Stepping.{IsUnderWay, body_at, body_rows}
use Rattle.treads.specs.Adding.{span_words, head_long, Led, ThriftyAdds, Adds, Charged}
use Rattle.treads.specs.declared.sizing.Span.{Span}
use Rattle.treads.proofs.Going.{span-few}
use Rattle.treads.proofs.UnderWay.{first-is}

-- the smaller of two is one of them
pub smaller : (a b : ℕ) {r : ℕ} → r ≡ min a b → ((r ≡ a) ⊎ (r ≡ b)) × (r ≤ b)
smaller a b e = elim (dec_lt a b) [ yes l ↦ (inl (omega (arith, e, l)), omega (arith, e)) | no n ↦ (inr (omega (arith, e, n)), omega (arith, e)) ]

pub few_product : (a b m : ℕ) → a ≤ 8192 → b ≤ m → a * b ≤ 8192 * m
few_product a b m l h = omega (arith, mul-le-mul_right {m = a} {n = 8192} b l, h)

-- where nothing is bound
pub nothing-charged : (s : Standing) (count : ℕ) → Charged s (record { nodes = 1; variables = 1; times = 1 }) count 0 s.variables 1
nothing-charged s count = record {
  for = s.most * count;
  for_is = inl refl;
  extra_is = omega arith;
  places_are = omega arith;
  times_are = refl;
}

pub thrifty-adds : (clause : List ℕ) (s : Standing) (c : Span) (first r : ℕ) (t : Thrift) → Thrifts clause (head_long c) (head_long c + c.figure.first) t → Led s.least t.whole (head_long c) c.figure.first r → c.figure.first ≡ first
    → ThriftyAdds clause s c first (record { nodes = c.end - c.head; less = head_long c; variables = t.fresh; least = r; names = t.names })
thrifty-adds clause s c first r t x led e = record {
  thrifty = x.thrifty;
  nodes_are = refl;
  less_is = refl;
  fresh_is = x.fresh;
  leads = elim led [
    | inl z ↦ inl (z ∙ e)
    | inr (w, l, z) ↦ inr (subst (λ m. Kept (nodes (take (head_long c) clause)) (nodes (take m (drop (head_long c) clause)))) (back (head_long c) c.figure.first ∙ e) (x.kept w), l, z ∙ ap (λ m. s.least - head_long c + m) e)
  ];
}
  where
    back : (h n : ℕ) → h + n - h ≡ n
    back h n = omega arith

-- what is under way
module _ {book words before levels : List ℕ} {s : Standing} {c : Span} {heap cells tables : List ℕ} {count : ℕ} {f : Expr} {g a : Goal} {d : Clause} (u : IsUnderWay book words before levels s c heap cells tables count f g a d) where
  pub adds-thrifty : (t : Thrift) → c.figure.thrift ≡ Some t → (r : ℕ) → Led s.least t.whole (head_long c) c.figure.first r
      → Adds (span_words book c) heap cells s c (length (first_of (body_rows heap s c))) (record { nodes = c.end - c.head; less = head_long c; variables = t.fresh; least = r; names = t.names })
  adds-thrifty t e r led = record {
    how = inl (thrifty-adds (span_words book c) s c (length (first_of (body_rows heap s c))) r t x led (first-is u));
    names = x.names;
    few = x.few;
    small = omega (arith, span-few u, u.placed.begins, u.placed.ends);
    spread = omega (arith, x.small);
  }
    where
      x : Thrifts (span_words book c) (head_long c) (head_long c + c.figure.first) t
      x = subst (λ o. IfSome o (Thrifts (span_words book c) (head_long c) (head_long c + c.figure.first))) e u.figure.thrift

  pub adds-counted : (y : Size) → Sized heap cells (body_at s c) c.bodies 256 y
      → Adds (span_words book c) heap cells s c (length (first_of (body_rows heap s c))) (record { nodes = y.nodes; less = 0; variables = y.variables; least = c.figure.first; names = 64 })
  adds-counted y z = record {
    how = inr (record { less_is = refl; nodes_are = z.long; places_are = z.places; leads = first-is u });
    names = u.placed.clause.fit;
    few = omega arith;
    small = z.low;
    spread = omega (arith, z.few, z.low);
  }
