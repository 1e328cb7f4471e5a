-- What is written of the next goal and of the next answer, and numbered as one, is held.
use Prim.Native.Nat.{ℕ, ◌+◌, ◌≤◌, ◌<◌}
use native.Mathlib.Omega.{arith}
use mathlib.Core.Path.{◌≡◌, refl, sym as inv, ap, ap₂, ◌∙◌, subst}
use mathlib.Core.List.{List, [], ◌++◌, map-append}
use lib.ListN.{length, get_or, take, drop, length-drop, length-map}
use lib.Seq.{length-take-le, get_or-take, get_or-drop, take-add, take_at, drop_at}
use Rattle.terms.specs.Node.{Expr}
use Rattle.terms.specs.Number.{number, seen_after}
use Rattle.terms.proofs.NumberLaws.{number_append, number-length}
use Rattle.terms.specs.Row.{Formulas, Atoms}
use Rattle.search.specs.Next.{Goal}
use Rattle.words.specs.Word.{node, nodes, Fit, Fits}
use Rattle.words.specs.WordLaws.{each_append, nodes-take, nodes-drop}
use Rattle.words.specs.Flat.{flat}
use Rattle.words.specs.Held.{RowIn}
use Rattle.numbering.specs.Naming.{Fitting, Numbering}
use Rattle.applying.specs.Applying.{Wrote}

-- what is written has as many words as it says
pub wrote-length : {k : ℕ} {out : List ℕ} {at : ℕ} {t : Expr} {z : List ℕ} {r : ℕ} → Wrote k out at t z r → length z ≡ 8192 → at ≤ 4096 → (r ≡ 65535 → ⊥) → r ≡ length t
wrote-length {at = at} {z = z} {r = r} w lz h n =
    inv (length-take-le r (drop at z) (omega (arith, w.within n, length-drop at z))) ∙ inv (length-map (take r (drop at z)) node) ∙ ap length (w.done n)

-- two writings, one behind the other
module _ (out y z : List ℕ) (t u : Expr) (r s : ℕ) (first : Wrote 8256 out 0 t y r) (second : Wrote 8256 y r u z s) (nr : r ≡ 65535 → ⊥) (ns : s ≡ 65535 → ⊥) (ly : length y ≡ 8192) (lz : length z ≡ 8192) where
  r-is : r ≡ length t
  r-is = wrote-length first ly (omega arith) nr

  s-is : s ≡ length u
  s-is = wrote-length second lz (first.within nr) ns

  pub both-within : r + s ≤ 8192
  both-within = omega (arith, first.within nr, second.within ns)

  both-are : take (r + s) z ≡ take r y ++ take s (drop r z)
  both-are = take-add r s z ∙ ap (λ l. l ++ take s (drop r z)) second.kept

  both-nodes : nodes (take (r + s) z) ≡ t ++ u
  both-nodes = ap nodes both-are ∙ map-append node (take r y) (take s (drop r z)) ∙ ap₂ ◌++◌ (first.done nr) (second.done ns)

  both-fit : Fits 8256 (take (r + s) z)
  both-fit = subst (Fits 8256) (inv both-are) (each_append (Fit 8256) (take r y) (take s (drop r z)) (first.fit nr) (second.fit ns))

  pub fill-ready : (r + s ≤ length z) × (r + s ≤ 8256) × Fitting z (r + s) 8256
  fill-ready = (omega (arith, both-within), omega (arith, both-within), λ x l. subst (Fit 8256) (get_or-take (r + s) z x 0 l) (both-fit x (omega (arith, length-take-le (r + s) z (omega (arith, both-within))))))

  -- numbered
  module _ (x : List ℕ) (lx : length x ≡ length z) (g : Numbering z (r + s) x) where
    abbrev row : List ℕ
    row = take (r + s) x

    row-length : length row ≡ r + s
    row-length = length-take-le (r + s) x (omega (arith, both-within))

    row-nodes : nodes row ≡ number [] t ++ number (seen_after [] t) u
    row-nodes = g.same ∙ ap (number []) both-nodes ∙ number_append [] t u

    goal_nodes : nodes (take r row) ≡ number [] t
    goal_nodes = nodes-take r row ∙ ap (take r) row-nodes ∙ take_at (number [] t) (number (seen_after [] t) u) r (number-length [] t ∙ inv r-is)

    answer_nodes : nodes (drop r row) ≡ number (seen_after [] t) u
    answer_nodes = nodes-drop r row ∙ ap (drop r) row-nodes ∙ drop_at (number [] t) (number (seen_after [] t) u) r (number-length [] t ∙ inv r-is)

    low : (k i : ℕ) → i < r + s → i < k → Fit k (get_or row i 0)
    low k i l m = subst (Fit k) (inv (get_or-take (r + s) x i 0 l)) (let f = g.fit i l in record { valid = f.valid; below = λ q. omega (arith, f.below q) })

    pub row-held : (n : ℕ) (h b : Goal) → n ≡ length h → n ≤ 512 → length b ≤ 512 → flat h ≡ number [] t → flat b ≡ number (seen_after [] t) u → Formulas h → Atoms h → Formulas b → Atoms b → RowIn row r n h b
    row-held n h b count few many eh eb fh ah fb ab = record {
      goal = record {
        formulas = fh;
        atoms = ah;
        is = goal_nodes ∙ inv eh;
        count = count;
        few = few;
        fit = λ i l. let j : i < r = omega (arith, length-take-le r row (omega (arith, row-length))) in subst (Fit 4096) (inv (get_or-take r row i 0 j)) (low 4096 i (omega arith) (omega (arith, first.within nr)));
        size = omega (arith, length-take-le r row (omega (arith, row-length)), first.within nr);
      };
      answer = record {
        formulas = fb;
        atoms = ab;
        is = answer_nodes ∙ inv eb;
        count = refl;
        few = many;
        fit = λ i l. let j : r + i < r + s = omega (arith, length-drop r row, row-length) in subst (Fit 8192) (inv (get_or-drop r row i 0)) (low 8192 (r + i) j (omega (arith, both-within)));
        size = omega (arith, length-drop r row, row-length, second.within ns);
      };
      within = omega (arith, row-length);
    }
