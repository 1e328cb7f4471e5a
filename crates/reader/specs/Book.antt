-- The bytes that are written rule by rule, numbered by the names so far, are those of the book (grammar, Names).
use Rattle.std.specs.Prelude.{ℕ, suc, ◌≡◌, refl, List, [], ◌∷◌, ◌++◌, map, length}
use Rattle.std.proofs.Common.{sym as inv, ap, ap₂, ◌∙◌, append_assoc, append-nil, arith}
use Rattle.terms.specs.Node.{Expr, var, sym}
use Rattle.format.specs.Format.{encode, node_records, book_records, encode_book}
use Rattle.grammar.specs.Syntax.{Formula, Rule}
use Rattle.grammar.specs.Names.{Sort, Spot, variable_spot, symbol_spot, formula_spots, rule_spots, text_spots, place, names_after, variable_number, with_variable, variables_after, symbol_for, numbered, numbered_all, clause, names, book}
use Rattle.grammar.specs.NameLaws.{numbered-length, flat-numbered}
use Rattle.grammar.specs.GrowLaws.{numbered_on, numbered-grows, with_symbol}
use Rattle.reading.specs.Part.{rules_of}
use Rattle.drafts.specs.Drafted.{Tables, after}
use Rattle.drafts.proofs.Nodes.{names-append, encode-append, on-append}
use Rattle.reader.specs.Kept.{tables_of, done_bytes}

-- Rules, the last one first, and in the order of the text

rules-append : (cs ds : List Rule) → rules_of cs ds ≡ rules_of cs [] ++ ds
rules-append [] ds = refl
rules-append (c ∷ cs) ds = rules-append cs (c ∷ ds) ∙ inv (append_assoc (rules_of cs []) (c ∷ []) ds) ∙ ap (λ (l : List Rule). l ++ ds) (inv (rules-append cs (c ∷ [])))

spots-append : (a b : List Rule) → text_spots (a ++ b) ≡ text_spots a ++ text_spots b
spots-append [] b = refl
spots-append (c ∷ a) b = ap (λ (l : List Spot). rule_spots c ++ l) (spots-append a b) ∙ inv (append_assoc (rule_spots c) (text_spots a) (text_spots b))

-- the names held are those of the rules that are read
pub tables-are : (cs : List Rule) (k : Sort) → tables_of cs k ≡ names (rules_of cs []) k
tables-are [] k = refl
tables-are (c ∷ cs) k =
    ap (λ (l : List (List ℕ)). names_after k l (rule_spots c)) (tables-are cs k)
    ∙ inv (names-append k [] (text_spots (rules_of cs [])) (rule_spots c))
    ∙ ap (names_after k [])
    (ap (λ (l : List Spot). text_spots (rules_of cs []) ++ l) (inv (append-nil (rule_spots c)))
    ∙ inv (spots-append (rules_of cs []) (c ∷ []))
    ∙ ap text_spots (inv (rules-append cs (c ∷ []))))

-- Numbers stay when more names come

front_same : (a b c d : Expr) → length a ≡ length c → a ++ b ≡ c ++ d → a ≡ c
front_same [] b [] d h e = refl
front_same [] b (y ∷ c) d h e = absurd (omega arith)
front_same (x ∷ a) b [] d h e = absurd (omega arith)
front_same (x ∷ a) b (y ∷ c) d h e = let p : x ≡ y = cc in let q : a ++ b ≡ c ++ d = cc in ap₂ ◌∷◌ p (front_same a b c d (omega arith) q)

on-length : (T : Tables) (seen : List (List ℕ)) (e : List Spot) → length (numbered_on T seen e) ≡ length e
on-length T seen [] = refl
on-length T seen (variable_spot w ∷ e) = ap suc (on-length T (with_variable seen w) e)
on-length T seen (symbol_spot k w n ∷ e) = ap suc (on-length (with_symbol T k w) seen e)

split : (T : Tables) (seen : List (List ℕ)) (a b : List Spot) → numbered T seen (a ++ b) ≡ numbered T seen a ++ numbered T (variables_after seen a) b
split T seen [] b = refl
split T seen (variable_spot w ∷ a) b = ap (λ (x : Expr). var (variable_number seen w) ∷ x) (split T (with_variable seen w) a b)
split T seen (symbol_spot k w n ∷ a) b = ap (λ (x : Expr). sym (symbol_for k (place w (T k)) n) ∷ x) (split T seen a b)

more-names : (T : Tables) (seen : List (List ℕ)) (e r : List Spot) → numbered_on T seen e ≡ numbered (after T (e ++ r)) seen e
more-names T seen e r =
    front_same (numbered_on T seen e) (numbered_on (after T e) (variables_after seen e) r) (numbered (after T (e ++ r)) seen e) (numbered (after T (e ++ r)) (variables_after seen e) r)
    (on-length T seen e ∙ inv (numbered-length (after T (e ++ r)) seen e))
    (inv (on-append T seen e r) ∙ numbered-grows T seen (e ++ r) ∙ split (after T (e ++ r)) seen e r)

same_numbers : (S T : Tables) (seen : List (List ℕ)) (e : List Spot) → ((k : Sort) → S k ≡ T k) → numbered S seen e ≡ numbered T seen e
same_numbers S T seen [] h = refl
same_numbers S T seen (variable_spot w ∷ e) h = ap (λ (x : Expr). var (variable_number seen w) ∷ x) (same_numbers S T (with_variable seen w) e h)
same_numbers S T seen (symbol_spot k w n ∷ e) h = ap₂ (λ (p : ℕ) (x : Expr). sym (symbol_for k p n) ∷ x) (ap (place w) (h k)) (same_numbers S T seen e h)

-- The book's bytes by one table of names

abbrev rule_bytes : Tables → Rule → List ℕ
rule_bytes T c = 5 ∷ length c.body ∷ encode (node_records (numbered T [] (rule_spots c)))

abbrev rules_bytes : Tables → List Rule → List ℕ
rules_bytes T [] = []
rules_bytes T (c ∷ cs) = rule_bytes T c ++ rules_bytes T cs

all-length : (T : Tables) (seen : List (List ℕ)) (fs : List Formula) → length (numbered_all T seen fs) ≡ length fs
all-length T seen [] = refl
all-length T seen (f ∷ fs) = ap suc (all-length T (variables_after seen (formula_spots f)) fs)

book-bytes : (T : Tables) (cs : List Rule) → encode (book_records (map (clause T) cs)) ≡ rules_bytes T cs ++ (7 ∷ [])
book-bytes T [] = refl
book-bytes T (c ∷ cs) =
    ap₂ (λ (n : ℕ) (e : Expr). 5 ∷ n ∷ encode (node_records e ++ book_records (map (clause T) cs))) (all-length T (variables_after [] (formula_spots c.head)) c.body) (flat-numbered T [] (c.head ∷ c.body))
    ∙ ap (λ (l : List ℕ). 5 ∷ length c.body ∷ l)
    (encode-append (node_records (numbered T [] (rule_spots c))) (book_records (map (clause T) cs))
    ∙ ap (λ (l : List ℕ). encode (node_records (numbered T [] (rule_spots c))) ++ l) (book-bytes T cs)
    ∙ inv (append_assoc (encode (node_records (numbered T [] (rule_spots c)))) (rules_bytes T cs) (7 ∷ [])))

bytes-append : (T : Tables) (a b : List Rule) → rules_bytes T (a ++ b) ≡ rules_bytes T a ++ rules_bytes T b
bytes-append T [] b = refl
bytes-append T (c ∷ a) b = ap (λ (l : List ℕ). rule_bytes T c ++ l) (bytes-append T a b) ∙ inv (append_assoc (rule_bytes T c) (rules_bytes T a) (rules_bytes T b))

-- by the names of the rules and of what comes behind them
written : (T : Tables) (cs : List Rule) (r : List Spot) → ((k : Sort) → T k ≡ after (tables_of cs) r k) → done_bytes cs ≡ rules_bytes T (rules_of cs [])
written T [] r h = refl
written T (c ∷ cs) r h =
    let s : (k : Sort) → T k ≡ after (tables_of cs) (rule_spots c ++ r) k = λ k. h k ∙ inv (names-append k (tables_of cs k) (rule_spots c) r) in
    let e : numbered_on (tables_of cs) [] (rule_spots c) ≡ numbered T [] (rule_spots c) =
    more-names (tables_of cs) [] (rule_spots c) r ∙ same_numbers (after (tables_of cs) (rule_spots c ++ r)) T [] (rule_spots c) (λ k. inv (s k)) in
    ap₂ (λ (x : List ℕ) (y : Expr). x ++ (5 ∷ length c.body ∷ encode (node_records y))) (written T cs (rule_spots c ++ r) s) e
    ∙ ap (λ (l : List ℕ). rules_bytes T (rules_of cs []) ++ l) (inv (append-nil (rule_bytes T c)))
    ∙ inv (bytes-append T (rules_of cs []) (c ∷ []))
    ∙ ap (rules_bytes T) (inv (rules-append cs (c ∷ [])))

-- what is written is the book without its end
pub done-book : (cs : List Rule) → done_bytes cs ++ (7 ∷ []) ≡ encode_book (book (rules_of cs []))
done-book cs =
    ap (λ (l : List ℕ). l ++ (7 ∷ [])) (written (names (rules_of cs [])) cs [] (λ k. inv (tables-are cs k))) ∙ inv (book-bytes (names (rules_of cs [])) (rules_of cs []))
