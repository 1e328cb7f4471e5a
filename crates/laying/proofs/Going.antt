-- The pass over a text.
use Prim.Native.Nat.{ℕ, ◌-◌, ◌≤◌, ◌<◌}
use mathlib.Core.Path.{◌≡◌, refl, sym as inv, ap, subst, ◌∙◌}
use mathlib.Core.List.{List, [], ◌∷◌, ◌++◌, append-nil}
use native.Mathlib.Omega.{arith}
use lib.ListN.{length, drop, length-drop, length-append}
use Rattle.grammar.specs.Token.{Piece, token, blank, comment, bytes, spelt, Spaced, tokens}
use Rattle.grammar.specs.TokenLaws.{front-is, fits-stays, spelt-long}
use Rattle.grammar.specs.Front.{front, front_of}
use Rattle.grammar.specs.Syntax.{Formula}
use Rattle.grammar.specs.Query.{Given}
use Rattle.asking.specs.Accepted.{Accepted}
use Rattle.pieces.specs.Found.{front_at, Shows}
use Rattle.pieces.specs.declared.Found.{Found}
use Rattle.pieces.specs.Found.{end_of}
use Rattle.reader.proofs.Walks.{piece-end}
use Rattle.questions.specs.Given.{given_from}
use Rattle.known.specs.declared.Known.{Known}
use Rattle.laying.specs.declared.Kind.{Kind}
use Rattle.laying.specs.declared.Kind.TheVariants.{Variable, Constant, Compound, Predicate}
use Rattle.laying.specs.declared.Draft.{Draft}
use Rattle.laying.specs.declared.Task.{Task}
use Rattle.laying.specs.Page.{Page, page, blank_page, over}
use Rattle.laying.specs.PageLaws.{spots_all, formulas_bytes}
use Rattle.laying.specs.PieceLaws.{word_count, text-laid, asked-count}
use Rattle.laying.specs.Words.{base_of, own_of, draft, list_of, words_of, Words, Knowing}
use Rattle.laying.specs.Held.{blank_draft, Held}
use Rattle.laying.specs.Adding.{after, PieceHere, SomePiece, PieceLaid, Lays, Laid}

abbrev pub task : Draft → Known → ℕ → Found → Task
task d k at f = record { draft = d; known = k; at = at; found = f }

pub record Going (text names table out opens : List ℕ) (k : Known) (d : Draft) (at : ℕ) : Type 0 where
  pub knowing : Knowing names k
  pub formulas : List Formula
  pub accepted : Accepted text formulas
  pub left : List Piece
  pub spaced : Spaced left
  pub here : drop at text ≡ bytes left
  pub inside : at ≤ length text
  pub page_now : Page
  pub held : Held (given_from names) text table out opens d page_now (word_count (tokens left))
  pub rest : over (given_from names) page_now left ≡ page (formulas_bytes (given_from names) [] formulas) [] (spots_all [] formulas) (length formulas)

-- The start

pub blank-is : (d : Draft) → (d.len ≡ 0) × ((d.depth ≡ 0) × ((d.formulas ≡ 0) × ((d.variables ≡ 0) × ((d.constants ≡ 0) × ((d.compounds ≡ 0) × (d.predicates ≡ 0)))))) → d ≡ blank_draft
blank-is d (a, (b, (c, (v, (k, (f, p)))))) =
    ap (λ (x : ℕ). draft x d.depth d.formulas d.variables d.constants d.compounds d.predicates) a
    ∙ ap (λ (x : ℕ). draft 0 x d.formulas d.variables d.constants d.compounds d.predicates) b
    ∙ ap (λ (x : ℕ). draft 0 0 x d.variables d.constants d.compounds d.predicates) c
    ∙ ap (λ (x : ℕ). draft 0 0 0 x d.constants d.compounds d.predicates) v
    ∙ ap (λ (x : ℕ). draft 0 0 0 0 x d.compounds d.predicates) k
    ∙ ap (λ (x : ℕ). draft 0 0 0 0 0 x d.predicates) f
    ∙ ap (λ (x : ℕ). draft 0 0 0 0 0 0 x) p

own-none : (k : Kind) → own_of blank_draft k ≡ 0
own-none Variable = refl
own-none Constant = refl
own-none Compound = refl
own-none Predicate = refl

listed-none : (g : Given) (k : Kind) → list_of g k ++ [] ≡ words_of g [] k
listed-none g Variable = refl
listed-none g Constant = append-nil (list_of g Constant)
listed-none g Compound = append-nil (list_of g Compound)
listed-none g Predicate = append-nil (list_of g Predicate)

no_words : (text table : List ℕ) (from n : ℕ) → n ≡ 0 → Words text table from [] n
no_words text table from n e = rw e (record { count = refl; inside = λ i (l : i < 0). absurd (omega arith); spelt = λ i (l : i < 0). absurd (omega arith) })

module _ (text names table out opens : List ℕ) (k : Known) (x : Lays text names table out opens k) where
  few : word_count (tokens x.accepted.asks.spelt.pieces) ≤ 4096
  few = omega (arith, ap word_count x.accepted.asks.spelt.listed, asked-count x.formulas x.accepted.asks.ending, x.accepted.sized.nodes)

  blank-held : Held (given_from names) text table out opens blank_draft blank_page (word_count (tokens x.accepted.asks.spelt.pieces))
  blank-held =
      record {
        kept =
            record {
              long = x.table_long;
              few = λ j. omega (arith, own-none j);
              own = λ j. [];
              words = λ j. no_words text table (base_of j) (own_of blank_draft j) (own-none j);
              whole = listed-none (given_from names);
            };
        bytes_are = refl;
        out_long = x.out_long;
        stack_is = refl;
        opens_long = x.opens_long;
        below = tt;
        formulas_are = refl;
        room_formulas = omega (arith, few);
        room_bytes = omega (arith, few);
        room_depth = omega (arith, few);
        room_words = λ j. omega (arith, few, own-none j);
      }

  pub going_start : (d : Draft) → d ≡ blank_draft → Going text names table out opens k d 0
  going_start d e =
      rw e
      (record {
        knowing = x.knowing;
        formulas = x.formulas;
        accepted = x.accepted;
        left = x.accepted.asks.spelt.pieces;
        spaced = x.accepted.asks.spelt.spaced;
        here = x.accepted.asks.spelt.whole;
        inside = omega arith;
        page_now = blank_page;
        held = blank-held;
        rest = text-laid (given_from names) x.accepted;
      })

-- A piece

record Next (left : List Piece) : Type 0 where
  piece : Piece
  behind : List Piece
  is : left ≡ piece ∷ behind

next-piece : (left : List Piece) → 0 < length (bytes left) → Next left
next-piece [] h = absurd (omega arith)
next-piece (p ∷ ps) h = record { piece = p; behind = ps; is = refl }

over-after : (g : Given) (s : Page) (p : Piece) (ps : List Piece) → over g s (p ∷ ps) ≡ over g (after g s p ps) ps
over-after g s (token t) ps = refl
over-after g s (blank b) ps = refl
over-after g s (comment c) ps = refl

module _ (text names table out opens : List ℕ) (k : Known) (d : Draft) (at : ℕ) (g : Going text names table out opens k d at) (l : at < length text) (found : Found) (shows : Shows text at found) (end : ℕ) (ee : end ≡ end_of at found) where
  abbrev n : Next g.left
  n = next-piece g.left (omega (arith, ap length g.here, length-drop at text))

  spaced-here : Spaced (n.piece ∷ n.behind)
  spaced-here = subst Spaced n.is g.spaced

  stands : front_at text at found ≡ front n.piece (bytes n.behind)
  stands =
      shows.says ∙ ap front_of (g.here ∙ ap bytes n.is)
      ∙ front-is n.piece (bytes n.behind) (fits-stays n.piece (bytes n.behind) spaced-here.0)

  there : PieceHere text names table out opens (task d k at found) end g.page_now n.piece n.behind
  there =
      record {
        knowing = g.knowing;
        held = subst (λ (x : List Piece). Held (given_from names) text table out opens d g.page_now (word_count (tokens x))) n.is g.held;
        stands = stands;
        inside = shows.inside;
        ends = ee;
        short = g.accepted.short;
        spaced = spaced-here.1;
      }

  pub going-piece : SomePiece text names table out opens (task d k at found) end
  going-piece = record { page_now = g.page_now; piece = n.piece; behind = n.behind; there = there }

  pub going_nearer : length text - end < length text - at
  going_nearer = let a = piece-end text at found n.piece (bytes n.behind) shows.inside stands in omega (arith, ee, a.onward, a.inside)

  pub going_step : (table' out' opens' : List ℕ) (r : Draft) → PieceLaid text names table table' out out' opens opens' (task d k at found) end r → Going text names table' out' opens' k r end
  going_step table' out' opens' r p =
      let a = piece-end text at found n.piece (bytes n.behind) shows.inside stands in
      record {
        knowing = g.knowing;
        formulas = g.formulas;
        accepted = g.accepted;
        left = n.behind;
        spaced = spaced-here.1;
        here = ap (λ (i : ℕ). drop i text) ee ∙ inv a.rest_is;
        inside = omega (arith, ee, a.inside);
        page_now = after (given_from names) g.page_now n.piece n.behind;
        held = p.holds g.page_now n.piece n.behind there;
        rest = inv (over-after (given_from names) g.page_now n.piece n.behind) ∙ inv (ap (over (given_from names) g.page_now) n.is) ∙ g.rest;
      }

-- The end

none_left : (ps : List Piece) → Spaced ps → length (bytes ps) ≡ 0 → ps ≡ []
none_left [] s e = refl
none_left (p ∷ ps) s e = absurd (omega (arith, length-append (spelt p) (bytes ps), spelt-long p (bytes ps) (fits-stays p (bytes ps) s.0)))

pub going_end : (text names table out opens : List ℕ) (k : Known) (d : Draft) (at : ℕ) → Going text names table out opens k d at → length text ≤ at → Laid text names table out d
going_end text names table out opens k d at g l =
    let z = none_left g.left g.spaced (omega (arith, ap length g.here, length-drop at text)) in
    let q : g.page_now ≡ page (formulas_bytes (given_from names) [] g.formulas) [] (spots_all [] g.formulas) (length g.formulas) = inv (ap (over (given_from names) g.page_now) z) ∙ g.rest in
    let h : Held (given_from names) text table out opens d (page (formulas_bytes (given_from names) [] g.formulas) [] (spots_all [] g.formulas) (length g.formulas)) (word_count (tokens g.left)) =
    subst (λ (x : Page). Held (given_from names) text table out opens d x (word_count (tokens g.left))) q g.held in
    record { formulas = g.formulas; accepted = g.accepted; kept = h.kept; bytes_are = h.bytes_are; len_low = omega (arith, h.room_bytes); out_long = h.out_long; count = h.formulas_are }

pub ruleset going = (going_start, going-piece, going_nearer, going_step, going_end)
