-- A piece of the text laid.
use Prim.Native.Nat.{ℕ, zero, suc, ◌+◌, ◌-◌, ◌≤◌, ◌<◌}
use mathlib.Core.Path.{◌≡◌, refl, sym as inv, ap, subst, ◌∙◌}
use mathlib.Core.Bool.{Bool, true, false, true≢false}
use mathlib.Core.List.{List, [], ◌∷◌, ◌++◌}
use native.Mathlib.Omega.{arith}
use borrow.Author.Tests.{eq-eqb}
use lib.ListN.{length, set, drop}
use lib.Seq.{length-take-le}
use lib.Dec.{eqb}
use Rattle.terms.specs.When.{◌⇒◌∣◌}
use Rattle.terms.specs.Cases.{cases}
use Rattle.grammar.specs.Names.{Spot}
use Rattle.grammar.specs.Byte.{is_bracket}
use Rattle.grammar.specs.Token.{Token, name, variable, opening, closing, comma, arrow, stop, Piece, token, blank, comment, bytes, Spaced, tokens}
use Rattle.grammar.specs.TokenLaws.{front-is, fits-stays}
use Rattle.grammar.specs.Front.{front, class, front_of}
use Rattle.grammar.specs.Query.{Given}
use Rattle.nametable.specs.Table.{word}
use Rattle.questions.specs.Given.{given_from}
use Rattle.known.specs.declared.Known.{Known}
use Rattle.laying.specs.declared.Kind.{Kind}
use Rattle.laying.specs.declared.Kind.TheVariants.{Variable, Constant, Compound, Predicate}
use Rattle.laying.specs.declared.Draft.{Draft}
use Rattle.laying.specs.declared.Word.{Word}
use Rattle.laying.specs.Page.{Page, page, bumped, rooted, named, opens, bracketed}
use Rattle.laying.specs.PieceLaws.{word_count}
use Rattle.laying.specs.Words.{spot_of, number_of, word_of, Symbol, Naming, NamedNumber, VariableNumber}
use Rattle.laying.specs.Held.{node_bytes, kind_of, stack_of, first_opens, opens_at, rooted_draft, pushed_draft, Held, Ready, Somewhere, LaysWord}
use Rattle.laying.specs.Adding.{WordHere, NameHere, SomeWord, NameLaid, SomeVariable, VariableLaid}
use Rattle.laying.proofs.Holding.{bumped-length}
use Rattle.laying.proofs.Bracketing.{held-pushed, held-rooted, rooted-length, rooted-deep}

-- A variable

abbrev pub word_for : Kind → ℕ → ℕ → Word
word_for k at len = record { kind = k; at = at; len = len }

module _ (text table out opens : List ℕ) (k : Known) (d : Draft) (at end n : ℕ) (v : VariableNumber text table d (word text at (end - at)) n) where
  variable-ready : (g : Given) (s : Page) (left : ℕ) → WordHere g text table out opens d at end s left → Ready g text table out opens k d (word_for Variable at (end - at)) n s left
  variable-ready g s left h =
      record {
        held = h.held;
        gave = refl;
        few = omega arith;
        number_is = v.answers g s.spots h.held.kept;
        number_low = omega (arith, v.low, h.held.room_words Variable);
        inside = omega (arith, h.inside, h.onward);
        low = omega (arith, h.inside, h.onward, h.short);
        some = omega (arith, h.onward);
        short = omega (arith, h.inside, h.short);
      }

  pub variable-somewhere : SomeVariable text table out opens k d at end → Somewhere table out opens k d (word_for Variable at (end - at)) n
  variable-somewhere x = record { base = x.base; text = text; page_now = x.page_now; left = x.left; ready = variable-ready x.base x.page_now x.left x.there }

  pub variable-said : (table' out' : List ℕ) (r : Draft) → LaysWord table table' out out' opens k d (word_for Variable at (end - at)) n r → VariableLaid text table table' out out' opens k d at end r
  variable-said table' out' r l =
      record {
        holds =
            λ g s left h.
            subst (λ (i : ℕ). Held g text table' out' opens r (page (bumped s.bytes s.stack ++ node_bytes Variable i) s.stack (s.spots ++ (spot_of Variable (word text at (end - at)) ∷ [])) s.formulas) left)
            (v.answers g s.spots h.held.kept) (l.holds g text s left (variable-ready g s left h));
      }

-- A name

module _ (text names table out opens : List ℕ) (k : Known) (d : Draft) (at end : ℕ) (x : SomeWord text names table out opens k d at end) where
  pub name-sum : d.len + 3 < 65536
  name-sum = omega (arith, x.there.here.held.room_bytes)

  pub name-opens : length opens ≤ 65536
  name-opens = omega (arith, x.there.here.held.opens_long)

symbol-kind : (d : ℕ) (b : Bool) → Symbol (kind_of d b)
symbol-kind zero b = tt
symbol-kind (suc d) true = tt
symbol-kind (suc d) false = tt

named-page : (g : Given) (B : List ℕ) (opens : List ℕ) (depth : ℕ) (e : List Spot) (m : ℕ) (w : List ℕ) (b : Bool) (n : ℕ) → n ≡ number_of g e (kind_of depth b) w →
    named g (page B (stack_of opens depth) e m) w b
    ≡ page (bumped B (stack_of opens depth) ++ node_bytes (kind_of depth b) n) (b ⇒ (length (bumped B (stack_of opens depth)) + 3) ∷ stack_of opens depth ∣ stack_of opens depth) (e ++ (spot_of (kind_of depth b) w ∷ [])) (rooted (stack_of opens depth) m)
named-page g B opens zero e m w b n q =
    ap (λ (i : ℕ). page (B ++ node_bytes Predicate i) (b ⇒ (length B + 3) ∷ [] ∣ []) (e ++ (spot_of Predicate w ∷ [])) (m + 1)) (inv q)
named-page g B opens (suc d) e m w true n q =
    ap (λ (i : ℕ). page (bumped B (stack_of opens (suc d)) ++ node_bytes Compound i) ((length (bumped B (stack_of opens (suc d))) + 3) ∷ stack_of opens (suc d)) (e ++ (spot_of Compound w ∷ [])) m) (inv q)
named-page g B opens (suc d) e m w false n q =
    ap (λ (i : ℕ). page (bumped B (stack_of opens (suc d)) ++ node_bytes Constant i) (stack_of opens (suc d)) (e ++ (spot_of Constant w ∷ [])) m) (inv q)

-- the first byte of pieces is a bracket, or not
bracket_byte : (b : ℕ) (x : List ℕ) → eqb b 40 ≡ true → front_of (b ∷ x) ≡ front (token opening) x
unfolding class is_bracket
bracket_byte b x e = rw e refl

opens-piece : (p : Piece) → p ≡ token opening → (ps : List Piece) → bracketed (p ∷ ps) ≡ true
opens-piece p e ps = rw e refl

not_open : (t : Token) (ps : List Piece) (b : ℕ) (x : List ℕ) → bytes (token t ∷ ps) ≡ b ∷ x → eqb b 40 ≡ false → bracketed (token t ∷ ps) ≡ false
not_open (name w) ps b x e f = refl
not_open (variable w) ps b x e f = refl
not_open opening ps b x e f = let q : 40 ≡ b = cc in absurd (true≢false (inv (eq-eqb b 40 (inv q)) ∙ f))
not_open closing ps b x e f = refl
not_open comma ps b x e f = refl
not_open arrow ps b x e f = refl
not_open stop ps b x e f = refl

bracket-closed : (ps : List Piece) (b : ℕ) (x : List ℕ) → bytes ps ≡ b ∷ x → eqb b 40 ≡ false → bracketed ps ≡ false
bracket-closed [] b x e f = refl
bracket-closed (token t ∷ ps) b x e f = not_open t ps b x e f
bracket-closed (blank c ∷ ps) b x e f = refl
bracket-closed (comment c ∷ ps) b x e f = refl

bracket_open : (ps : List Piece) (b : ℕ) (x : List ℕ) → Spaced ps → bytes ps ≡ b ∷ x → eqb b 40 ≡ true → bracketed ps ≡ true
bracket_open [] b x s e f = let z : ◌≡◌ {A = ℕ} 0 1 = cc in absurd (omega arith)
bracket_open (p ∷ ps) b x s e f =
    let q : front p (bytes ps) ≡ front (token opening) x = inv (front-is p (bytes ps) (fits-stays p (bytes ps) s.0)) ∙ ap front_of e ∙ bracket_byte b x f in
    opens-piece p (cc q) ps

empty-bytes : (ps : List Piece) → Spaced ps → bytes ps ≡ [] → bracketed ps ≡ false
empty-bytes [] s e = refl
empty-bytes (token opening ∷ ps) s e = let z : ◌≡◌ {A = ℕ} 0 1 = cc in absurd (omega arith)
empty-bytes (token (name w) ∷ ps) s e = refl
empty-bytes (token (variable w) ∷ ps) s e = refl
empty-bytes (token closing ∷ ps) s e = refl
empty-bytes (token comma ∷ ps) s e = refl
empty-bytes (token arrow ∷ ps) s e = refl
empty-bytes (token stop ∷ ps) s e = refl
empty-bytes (blank b ∷ ps) s e = refl
empty-bytes (comment c ∷ ps) s e = refl

bracket-there : (s : List ℕ) (ps : List Piece) → Spaced ps → s ≡ bytes ps → first_opens s ≡ bracketed ps
bracket-there [] ps h e = inv (empty-bytes ps h (inv e))
bracket-there (b ∷ x) ps h e = cases (eqb b 40) (λ t. t ∙ inv (bracket_open ps b x h (inv e) t)) (λ t. t ∙ inv (bracket-closed ps b x (inv e) t))

module _ (text names table out opens : List ℕ) (k : Known) (d : Draft) (at end : ℕ) (b : Bool) (be : b ≡ opens_at text end) (K : Kind) (ke : K ≡ kind_of d.depth b) where
  abbrev w : Word
  w = word_for K at (end - at)

  pub name-naming : SomeWord text names table out opens k d at end → Naming text names table k d w
  name-naming x =
      record {
        knowing = x.there.knowing;
        spots = x.page_now.spots;
        kept = x.there.here.held.kept;
        inside = omega (arith, x.there.here.inside, x.there.here.onward);
        symbol = subst Symbol (inv ke) (symbol-kind d.depth b);
      }

  module _ (n : ℕ) (v : NamedNumber text names table d w n) where
    name-ready : (s : Page) (ps : List Piece) → NameHere text names table out opens k d at end s ps → Ready (given_from names) text table out opens k d w n s (word_count (tokens ps))
    name-ready s ps x =
        let h = x.here in
        record {
          held = h.held;
          gave = x.knowing.counts w.kind;
          few = x.knowing.few w.kind;
          number_is = v.answers s.spots h.held.kept;
          number_low = omega (arith, v.low, h.held.room_words w.kind);
          inside = omega (arith, h.inside, h.onward);
          low = omega (arith, h.inside, h.onward, h.short);
          some = omega (arith, h.onward);
          short = omega (arith, h.inside, h.short);
        }

    pub name-somewhere : SomeWord text names table out opens k d at end → Somewhere table out opens k d w n
    name-somewhere x = record { base = given_from names; text = text; page_now = x.page_now; left = word_count (tokens x.behind); ready = name-ready x.page_now x.behind x.there }

    module _ (table' out' : List ℕ) (e : Draft) (l : LaysWord table table' out out' opens k d w n e) where
      pub name-formulas : SomeWord text names table out opens k d at end → e.formulas < 65536
      name-formulas x = omega (arith, l.formulas_stay, x.there.here.held.room_formulas)

      pub name-deep : (f : Draft) → f ≡ rooted_draft e → SomeWord text names table out opens k d at end → f.depth < length opens
      name-deep f q x = omega (arith, ap (λ (y : Draft). y.depth) q, rooted-deep e, l.depth_stays, x.there.here.held.room_depth, x.there.here.held.opens_long)

      root : (s : Page) (ps : List Piece) → NameHere text names table out opens k d at end s ps → Held (given_from names) text table' out' opens (rooted_draft e)
          (page (bumped s.bytes s.stack ++ node_bytes w.kind n) s.stack (s.spots ++ (spot_of w.kind (word_of text w) ∷ [])) (rooted s.stack s.formulas)) (word_count (tokens ps))
      root s ps x = held-rooted (l.holds (given_from names) text s (word_count (tokens ps)) (name-ready s ps x)) (omega (arith, l.formulas_stay, x.here.held.room_formulas))

      same-page : (s : Page) (ps : List Piece) → NameHere text names table out opens k d at end s ps →
          page (bumped s.bytes s.stack ++ node_bytes w.kind n) (b ⇒ (length (bumped s.bytes s.stack) + 3) ∷ s.stack ∣ s.stack) (s.spots ++ (spot_of w.kind (word_of text w) ∷ [])) (rooted s.stack s.formulas)
          ≡ named (given_from names) s (word_of text w) (bracketed ps)
      same-page s ps x =
          let h = x.here.held in
          ap (λ (z : List ℕ). page (bumped s.bytes z ++ node_bytes w.kind n) (b ⇒ (length (bumped s.bytes z) + 3) ∷ z ∣ z) (s.spots ++ (spot_of w.kind (word_of text w) ∷ [])) (rooted z s.formulas)) (inv h.stack_is)
          ∙ ap (λ (c : Kind). page (bumped s.bytes (stack_of opens d.depth) ++ node_bytes c n) (b ⇒ (length (bumped s.bytes (stack_of opens d.depth)) + 3) ∷ stack_of opens d.depth ∣ stack_of opens d.depth) (s.spots ++ (spot_of c (word_of text w) ∷ [])) (rooted (stack_of opens d.depth) s.formulas)) ke
          ∙ inv (named-page (given_from names) s.bytes opens d.depth s.spots s.formulas (word_of text w) b n (v.answers s.spots h.kept ∙ ap (λ (c : Kind). number_of (given_from names) s.spots c (word_of text w)) ke))
          ∙ ap (λ (z : List ℕ). named (given_from names) (page s.bytes z s.spots s.formulas) (word_of text w) b) h.stack_is
          ∙ ap (named (given_from names) s (word_of text w)) (be ∙ bracket-there (drop end text) ps x.spaced x.rest)

      pub name-alone : b ≡ false → (f : Draft) → f ≡ rooted_draft e → NameLaid text names table table' out out' opens opens k d at end f
      name-alone y f q =
          record {
            holds =
                λ s ps x.
                rw q
                (subst (λ (z : Page). Held (given_from names) text table' out' opens (rooted_draft e) z (word_count (tokens ps)))
                (ap (λ (c : Bool). page (bumped s.bytes s.stack ++ node_bytes w.kind n) (c ⇒ (length (bumped s.bytes s.stack) + 3) ∷ s.stack ∣ s.stack) (s.spots ++ (spot_of w.kind (word_of text w) ∷ [])) (rooted s.stack s.formulas)) (inv y)
                ∙ same-page s ps x) (root s ps x));
          }

      four : (depth : ℕ) (c : Bool) (i : ℕ) → c ≡ true → length (node_bytes (kind_of depth c) i) ≡ 4
      four zero c i q = refl
      four (suc m) c i q = rw q refl

      pub name_open : b ≡ true → (f : Draft) → f ≡ rooted_draft e → (opens' : List ℕ) (r : Draft) → opens' ≡ set opens f.depth (d.len + 3) → r ≡ pushed_draft f → NameLaid text names table table' out out' opens opens' k d at end r
      name_open y f q opens' r o z =
          record {
            holds =
                λ s ps x.
                let h = x.here.held in
                let t : d.len + 3 ≡ length (bumped s.bytes s.stack) + 3 =
                omega (arith, bumped-length s.bytes s.stack, ap length h.bytes_are, length-take-le d.len out (omega (arith, h.out_long, h.room_bytes))) in
                rw (z, o, q)
                (subst (λ (u : Page). Held (given_from names) text table' out' (set opens (rooted_draft e).depth (d.len + 3)) (pushed_draft (rooted_draft e)) u (word_count (tokens ps)))
                (ap (λ (i : ℕ). page (bumped s.bytes s.stack ++ node_bytes w.kind n) (i ∷ s.stack) (s.spots ++ (spot_of w.kind (word_of text w) ∷ [])) (rooted s.stack s.formulas)) t
                ∙ ap (λ (c : Bool). page (bumped s.bytes s.stack ++ node_bytes w.kind n) (c ⇒ (length (bumped s.bytes s.stack) + 3) ∷ s.stack ∣ s.stack) (s.spots ++ (spot_of w.kind (word_of text w) ∷ [])) (rooted s.stack s.formulas)) (inv y)
                ∙ same-page s ps x)
                (held-pushed (root s ps x) (d.len + 3) (omega (arith, rooted-length e, l.len_is, ap (λ (c : Kind). length (node_bytes c n)) ke, four d.depth b n y)) (omega (arith, rooted-deep e, l.depth_stays, h.room_depth))));
          }

pub ruleset variables-added = (variable-somewhere, variable-said)

pub ruleset names-added = (name-naming, name-somewhere, name-formulas, name-sum, name-deep, name-opens, name-alone, name_open)
