-- Writing node by node.
use Rattle.std.specs.Prelude.{ℕ, suc, ◌<◌, ◌≤◌, ◌≡◌, refl, List, [], ◌∷◌, ◌++◌, length, get_or, take, set}
use Rattle.std.proofs.Common.{arith, sym as inv, ap, ◌∙◌, subst, append-nil, append_assoc, length-append, length-set, take-suc, length-take-le, get_or-take, get_or-set_same, get_or-set_other, ext_get_or}
use Rattle.std.proofs.lemmas.List.{map-append}
use Rattle.terms.specs.Node.{Expr}
use Rattle.terms.specs.Number.{seen_after, number}
use Rattle.terms.proofs.NumberLaws.{seen-append, number_append}
use Rattle.words.specs.Word.{Fit, Fits, node, nodes}
use Rattle.words.specs.WordLaws.{each_append, each_make}
use Rattle.numbering.specs.Naming.{table, back, Table, Named, NamedAt}
use Rattle.heap.specs.Writing.{Writes}
use Rattle.heap.specs.declared.writing.Pen.{Pen}

abbrev pen_at : ℕ → ℕ → Pen
pen_at at count = record { at = at; count = count }

-- Nothing is written.
pub writes-none : (names out : List ℕ) (pen : Pen) → Writes names out pen [] names out pen
writes-none names out pen = record {
  at = omega arith;
  long = refl;
  grows = omega arith;
  named = λ seen t. t;
  is = λ seen t. inv (append-nil (nodes (take pen.at out)));
  fits = λ k l f. f;
}

-- One thing after another.
pub writes-append : {names out names' out' names'' out'' : List ℕ} {pen pen' pen'' : Pen} {e e' : Expr} → Writes names out pen e names' out' pen' → Writes names' out' pen' e' names'' out'' pen''
    → Writes names out pen (e ++ e') names'' out'' pen''
writes-append {names} {out} {names'' = names''} {pen = pen} {pen'' = pen''} {e = e} {e'} x y = record {
  at = omega (arith, x.at, y.at, length-append e e');
  long = y.long ∙ x.long;
  grows = omega (arith, x.grows, y.grows);
  named = λ seen t. subst (λ s. Table s (table names'') (back names'') pen''.count) (inv (seen-append seen e e')) (y.named (seen_after seen e) (x.named seen t));
  is = λ seen t.
      y.is (seen_after seen e) (x.named seen t) ∙ ap (λ z. z ++ number (seen_after seen e) e') (x.is seen t)
      ∙ append_assoc (nodes (take pen.at out)) (number seen e) (number (seen_after seen e) e') ∙ ap (λ z. nodes (take pen.at out) ++ z) (inv (number_append seen e e'));
  fits = λ k l f. y.fits k l (x.fits k (omega (arith, l, y.grows)) f);
}

-- One node: the word u is put behind what is written, and numbered.
module _ (names out names' out' : List ℕ) (at count r u : ℕ) (room : at < length out) (long : length out' ≡ length (set out at u))
    (x : NamedAt (set out at u) (table names) (back names) count at out' (table names') (back names') r) where
  same-long : length out' ≡ length out
  same-long = long ∙ length-set out at u

  kept : take at out' ≡ take at out
  kept = ext_get_or 0 (take at out') (take at out) (length-take-le at out' (omega (arith, same-long, room)) ∙ inv (length-take-le at out (omega arith))) (λ i l.
      let h : i < at = omega (arith, l, length-take-le at out' (omega (arith, same-long, room))) in
      get_or-take at out' i 0 h ∙ x.kept i (λ e. omega arith) ∙ get_or-set_other out at i u 0 (λ e. omega arith) ∙ inv (get_or-take at out i 0 h))

  last : take (suc at) out' ≡ take at out ++ (get_or out' at 0 ∷ [])
  last = take-suc out' at 0 (omega (arith, same-long, room)) ∙ ap (λ l. l ++ (get_or out' at 0 ∷ [])) kept

  numbered : (seen : List ℕ) → Table seen (table names) (back names) count → Named seen u (get_or out' at 0) (table names') (back names') r
  numbered seen t = subst (λ w. Named seen w (get_or out' at 0) (table names') (back names') r) (get_or-set_same out at u 0 room) (x.named seen t)

  pub writes-node : ((seen : List ℕ) × Table seen (table names) (back names) count) → {next : ℕ} → next ≡ suc at → Writes names out (pen_at at count) (node u ∷ []) names' out' (pen_at next r)
  writes-node (before, there) e = rw e (record {
    at = omega arith;
    long = same-long;
    grows = x.grows;
    named = λ seen t. (numbered seen t).table;
    is = λ seen t. ap nodes last ∙ map-append node (take at out) (get_or out' at 0 ∷ []) ∙ ap (λ z. nodes (take at out) ++ z) (numbered seen t).same;
    fits = λ k l f. subst (Fits k) (inv last) (each_append (Fit k) (take at out) (get_or out' at 0 ∷ []) f (each_make (Fit k) (get_or out' at 0) [] (fit-more l (numbered before there).fit) (λ y h. absurd (omega arith))));
  })
    where
      fit-more : {j k z : ℕ} → j ≤ k → Fit j z → Fit k z
      fit-more l f = record { valid = f.valid; below = λ q. omega (arith, f.below q) }
