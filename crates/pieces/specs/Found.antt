-- What the code's answers say, in the words of the grammar.
use Rattle.std.specs.Prelude.{ℕ, ◌+◌, ◌-◌, ◌≤◌, ◌<◌, ◌≡◌, Bool, List, [], ◌∷◌, eqb, length, get_or, take, drop}
use Rattle.terms.specs.When.{◌⇒◌∣◌}
use Rattle.grammar.specs.Token.{name, variable, opening, closing, comma, arrow, stop, token, blank, comment, after_stop}
use Rattle.grammar.specs.Front as Front
use Rattle.grammar.specs.Front.{front, broken, unexpected, run, past, front_of}
use Rattle.pieces.specs.declared.Class.{Class}
use Rattle.pieces.specs.declared.Class.TheVariants.{Bracket, Small, Capital, Blank, Percent, Closing, Comma, Stop, Colon, Other}
use Rattle.pieces.specs.declared.Found.{Found}
use Rattle.pieces.specs.declared.Found.TheVariants as F

abbrev pub class_of : Class → Front.Class
class_of Bracket = Front.a_bracket
class_of Small = Front.a_name
class_of Capital = Front.a_variable
class_of Blank = Front.a_blank
class_of Percent = Front.a_comment
class_of Closing = Front.a_closing
class_of Comma = Front.a_comma
class_of Stop = Front.a_stop
class_of Colon = Front.an_arrow
class_of Other = Front.nothing

-- the bytes from a place up to another
abbrev pub part : List ℕ → ℕ → ℕ → List ℕ
part s at end = take (end - at) (drop at s)

-- from a place on, the bytes that pass a test end here
pub record Ends (test : ℕ → Bool) (s : List ℕ) (at end : ℕ) : Type 0 where
  pub onward : at ≤ end
  pub inside : end ≤ length s
  pub passes : run test (drop at s) ≡ part s at end
  pub left : past test (drop at s) ≡ drop end s

abbrev pub front_at : List ℕ → ℕ → Found → Front.Front
front_at s at (F.Name end) = front (token (name (part s at end))) (drop end s)
front_at s at (F.Variable end) = front (token (variable (part s at end))) (drop end s)
front_at s at F.Space = front (blank (get_or s at 0)) (drop (at + 1) s)
front_at s at (F.Comment end) = front (comment (part s (at + 1) end)) (drop end s)
front_at s at F.Opening = front (token opening) (drop (at + 1) s)
front_at s at F.Closing = front (token closing) (drop (at + 1) s)
front_at s at F.Comma = front (token comma) (drop (at + 1) s)
front_at s at F.Arrow = front (token arrow) (drop (at + 2) s)
front_at s at F.Stop = front (token stop) (drop (at + 1) s)
front_at s at F.HalfArrow = broken arrow
front_at s at F.HalfStop = broken stop
front_at s at F.Nothing = unexpected

-- where a piece ends; of what is none, the byte behind
abbrev pub end_of : ℕ → Found → ℕ
end_of at (F.Name end) = end
end_of at (F.Variable end) = end
end_of at F.Space = at + 1
end_of at (F.Comment end) = end
end_of at F.Opening = at + 1
end_of at F.Closing = at + 1
end_of at F.Comma = at + 1
end_of at F.Arrow = at + 2
end_of at F.Stop = at + 1
end_of at F.HalfArrow = at + 1
end_of at F.HalfStop = at + 1
end_of at F.Nothing = at + 1

-- an end that is given lies behind the place, and not behind the text
abbrev pub Inside : List ℕ → ℕ → Found → Type 0
Inside s at (F.Name end) = (at < end) × (end ≤ length s)
Inside s at (F.Variable end) = (at < end) × (end ≤ length s)
Inside s at F.Space = at + 1 ≤ length s
Inside s at (F.Comment end) = (at < end) × (end ≤ length s)
Inside s at F.Opening = at + 1 ≤ length s
Inside s at F.Closing = at + 1 ≤ length s
Inside s at F.Comma = at + 1 ≤ length s
Inside s at F.Arrow = at + 2 ≤ length s
Inside s at F.Stop = at + 1 ≤ length s
Inside s at F.HalfArrow = at + 1 ≤ length s
Inside s at F.HalfStop = at + 1 ≤ length s
Inside s at F.Nothing = at + 1 ≤ length s

pub record Shows (s : List ℕ) (at : ℕ) (r : Found) : Type 0 where
  pub says : front_at s at r ≡ front_of (drop at s)
  pub inside : Inside s at r

-- what is answered before the bytes behind a full stop, or behind a colon
abbrev pub stop_found : List ℕ → Found
stop_found [] = F.Stop
stop_found (b ∷ s) = after_stop b ⇒ F.Stop ∣ F.HalfStop

abbrev pub arrow_found : List ℕ → Found
arrow_found [] = F.HalfArrow
arrow_found (b ∷ s) = eqb b 45 ⇒ F.Arrow ∣ F.HalfArrow
