-- The pieces of a text laid one behind the other.
use Prim.Native.Nat.{ℕ, suc, ◌+◌, ◌-◌, ◌≤◌, ◌<◌}
use mathlib.Core.Path.{◌≡◌, refl, sym as inv, ap, subst, ◌∙◌}
use mathlib.Core.List.{List, ◌∷◌}
use native.Mathlib.Omega.{arith}
use lib.ListN.{length, get_or, drop}
use Rattle.grammar.specs.Token.{name, variable, opening, closing, comma, arrow, stop, Piece, token, blank, comment, bytes, tokens}
use Rattle.grammar.specs.Front.{front}
use Rattle.grammar.specs.Query.{Given}
use Rattle.pieces.specs.Found.{part, front_at, Inside}
use Rattle.pieces.specs.declared.Found.{Found}
use Rattle.pieces.specs.declared.Found.TheVariants as F
use Rattle.pieces.specs.Found.{end_of}
use Rattle.nametable.specs.Table.{word}
use Rattle.questions.specs.Given.{given_from}
use Rattle.laying.specs.declared.Draft.{Draft}
use Rattle.laying.specs.declared.Task.{Task}
use Rattle.laying.specs.Page.{Page}
use Rattle.laying.specs.PieceLaws.{word_count}
use Rattle.laying.specs.Held.{shut_draft, Held}
use Rattle.laying.specs.Adding.{WordHere, NameHere, SomeWord, NameLaid, SomeVariable, VariableLaid, after, PieceHere, SomePiece, PieceLaid}
use Rattle.laying.proofs.Bracketing.{held-shut}

-- What a piece is

record Reaches (text : List ℕ) (at end : ℕ) (ps : List Piece) : Type 0 where
  rest : drop end text ≡ bytes ps
  onward : at < end
  inside : end ≤ length text

module _ (text : List ℕ) (at end : ℕ) (p : Piece) (ps : List Piece) where
  name-there : (e : ℕ) → front_at text at (F.Name e) ≡ front p (bytes ps) → Inside text at (F.Name e) → end ≡ end_of at (F.Name e) → (p ≡ token (name (word text at (end - at)))) × Reaches text at end ps
  name-there e q i x = rw x (cc, record { rest = cc; onward = i.0; inside = i.1 })

  variable-there : (e : ℕ) → front_at text at (F.Variable e) ≡ front p (bytes ps) → Inside text at (F.Variable e) → end ≡ end_of at (F.Variable e) → (p ≡ token (variable (word text at (end - at)))) × Reaches text at end ps
  variable-there e q i x = rw x (cc, record { rest = cc; onward = i.0; inside = i.1 })

  closing-there : front_at text at F.Closing ≡ front p (bytes ps) → p ≡ token closing
  closing-there q = cc

  -- another piece adds nothing
  data Plain : Type 0 where
    plain : (x : Piece) → p ≡ x → ((g : Given) (s : Page) → after g s x ps ≡ s) → word_count (tokens (x ∷ ps)) ≡ word_count (tokens ps) → Plain

  plain-there : (f : Found) → ((e : ℕ) → f ≡ F.Name e → ⊥) → ((e : ℕ) → f ≡ F.Variable e → ⊥) → (f ≡ F.Closing → ⊥) → front_at text at f ≡ front p (bytes ps) → Plain
  plain-there (F.Name e) a b c q = absurd (a e refl)
  plain-there (F.Variable e) a b c q = absurd (b e refl)
  plain-there F.Space a b c q = plain (blank (get_or text at 0)) (cc) (λ g s. refl) refl
  plain-there (F.Comment e) a b c q = plain (comment (part text (at + 1) e)) (cc) (λ g s. refl) refl
  plain-there F.Opening a b c q = plain (token opening) (cc) (λ g s. refl) refl
  plain-there F.Closing a b c q = absurd (c refl)
  plain-there F.Comma a b c q = plain (token comma) (cc) (λ g s. refl) refl
  plain-there F.Arrow a b c q = plain (token arrow) (cc) (λ g s. refl) refl
  plain-there F.Stop a b c q = plain (token stop) (cc) (λ g s. refl) refl
  plain-there F.HalfArrow a b c q = let z : ◌≡◌ {A = ℕ} 0 1 = cc in absurd (omega arith)
  plain-there F.HalfStop a b c q = let z : ◌≡◌ {A = ℕ} 0 1 = cc in absurd (omega arith)
  plain-there F.Nothing a b c q = let z : ◌≡◌ {A = ℕ} 0 1 = cc in absurd (omega arith)

one_more : (n : ℕ) → suc n ≡ n + 1
one_more n = omega arith

module _ (text names table out opens : List ℕ) (t : Task) (end : ℕ) where
  abbrev G : Given
  G = given_from names

  abbrev Here : Page → Piece → List Piece → Type 0
  Here s p ps = PieceHere text names table out opens t end s p ps

  shown : {f : Found} (p : Piece) (ps : List Piece) → t.found ≡ f → front_at text t.at t.found ≡ front p (bytes ps) → front_at text t.at f ≡ front p (bytes ps)
  shown p ps e h = ap (front_at text t.at) (inv e) ∙ h

  left_one : (s : Page) (p q : Piece) (ps : List Piece) (n : ℕ) → p ≡ q → word_count (tokens (q ∷ ps)) ≡ n → Held G text table out opens t.draft s (word_count (tokens (p ∷ ps))) → Held G text table out opens t.draft s n
  left_one s p q ps n e f h = subst (Held G text table out opens t.draft s) (ap (λ (x : Piece). word_count (tokens (x ∷ ps))) e ∙ f) h

  named_here : (a : ℕ) → t.found ≡ F.Name a → (s : Page) (p : Piece) (ps : List Piece) → Here s p ps → (p ≡ token (name (word text t.at (end - t.at)))) × NameHere text names table out opens t.known t.draft t.at end s ps
  named_here a e s p ps h =
      let q = name-there text t.at end p ps a (shown p ps e h.stands) (subst (Inside text t.at) e h.inside) (h.ends ∙ ap (end_of t.at) e) in (
        q.0,
        record {
          knowing = h.knowing;
          here = record { held = left_one s p (token (name (word text t.at (end - t.at)))) ps (word_count (tokens ps) + 1) q.0 (one_more (word_count (tokens ps))) h.held; onward = q.1.onward; inside = q.1.inside; short = h.short };
          rest = q.1.rest;
          spaced = h.spaced;
        },
      )

  pub piece-word : (a : ℕ) → t.found ≡ F.Name a → SomePiece text names table out opens t end → SomeWord text names table out opens t.known t.draft t.at end
  piece-word a e x = record { page_now = x.page_now; behind = x.behind; there = (named_here a e x.page_now x.piece x.behind x.there).1 }

  pub piece-named : (a : ℕ) → t.found ≡ F.Name a → (table' out' opens' : List ℕ) (r : Draft) → NameLaid text names table table' out out' opens opens' t.known t.draft t.at end r → PieceLaid text names table table' out out' opens opens' t end r
  piece-named a e table' out' opens' r l =
      record {
        holds = λ s p ps h. let q = named_here a e s p ps h in subst (λ (x : Piece). Held G text table' out' opens' r (after G s x ps) (word_count (tokens ps))) (inv q.0) (l.holds s ps q.1);
      }

  argued-here : (a : ℕ) → t.found ≡ F.Variable a → (s : Page) (p : Piece) (ps : List Piece) → Here s p ps →
      (p ≡ token (variable (word text t.at (end - t.at)))) × WordHere G text table out opens t.draft t.at end s (word_count (tokens ps))
  argued-here a e s p ps h =
      let q = variable-there text t.at end p ps a (shown p ps e h.stands) (subst (Inside text t.at) e h.inside) (h.ends ∙ ap (end_of t.at) e) in (
        q.0,
        record { held = left_one s p (token (variable (word text t.at (end - t.at)))) ps (word_count (tokens ps) + 1) q.0 (one_more (word_count (tokens ps))) h.held; onward = q.1.onward; inside = q.1.inside; short = h.short },
      )

  pub piece-variable : (a : ℕ) → t.found ≡ F.Variable a → SomePiece text names table out opens t end → SomeVariable text table out opens t.known t.draft t.at end
  piece-variable a e x = record { base = G; page_now = x.page_now; left = word_count (tokens x.behind); there = (argued-here a e x.page_now x.piece x.behind x.there).1 }

  pub piece-argued : (a : ℕ) → t.found ≡ F.Variable a → (table' out' : List ℕ) (r : Draft) → VariableLaid text table table' out out' opens t.known t.draft t.at end r → PieceLaid text names table table' out out' opens opens t end r
  piece-argued a e table' out' r l =
      record {
        holds =
            λ s p ps h.
            let q = argued-here a e s p ps h in
            subst (λ (x : Piece). Held G text table' out' opens r (after G s x ps) (word_count (tokens ps))) (inv q.0) (l.holds G s (word_count (tokens ps)) q.1);
      }

  pub piece-shut : t.found ≡ F.Closing → (r : Draft) → r ≡ shut_draft t.draft → PieceLaid text names table table out out opens opens t end r
  piece-shut e r z =
      record {
        holds =
            λ s p ps h.
            let q = closing-there text t.at end p ps (shown p ps e h.stands) in
            rw z (subst (λ (x : Piece). Held G text table out opens (shut_draft t.draft) (after G s x ps) (word_count (tokens ps))) (inv q) (held-shut (left_one s p (token closing) ps (word_count (tokens ps)) q refl h.held)));
      }

  pub piece-plain : ((e : ℕ) → t.found ≡ F.Name e → ⊥) → ((e : ℕ) → t.found ≡ F.Variable e → ⊥) → (t.found ≡ F.Closing → ⊥) → PieceLaid text names table table out out opens opens t end t.draft
  piece-plain a b c = record { holds = λ s p ps h. by s p ps h (plain-there text t.at end p ps t.found a b c h.stands) }
    where
      by : (s : Page) (p : Piece) (ps : List Piece) → Here s p ps → Plain text t.at end p ps → Held G text table out opens t.draft (after G s p ps) (word_count (tokens ps))
      by s p ps h (plain x e f n) =
          subst (λ (y : Page). Held G text table out opens t.draft y (word_count (tokens ps))) (inv (ap (λ (y : Piece). after G s y ps) e ∙ f G s)) (left_one s p x ps (word_count (tokens ps)) e n h.held)

pub ruleset pieces-added = (piece-word, piece-named, piece-variable, piece-argued, piece-shut, piece-plain)
