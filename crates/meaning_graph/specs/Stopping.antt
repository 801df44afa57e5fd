-- Where a text stops going on to a graph, computed.
use Rattle.std.specs.Prelude.{ℕ, zero, suc, ◌-◌, Bool, true, false, cond, List, [], ◌∷◌, length, take, Option, Some, None}
use Rattle.meaning_graph.specs.Lexing.{past_gap, Taken, token_at}
use Rattle.meaning_graph.specs.Going.{Class, Stage, between, Expected, start, expected_after}

abbrev pub is_done : List Class → Stage → Bool
is_done [] between = true
is_done classes stage = false

-- after a token: what isn't expected stops there
abbrev pub stop_by : (Expected → List ℕ → Option (List ℕ)) → List ℕ → Taken → Option Expected
    → Option (List ℕ)
stop_by go rest k None = Some rest
stop_by go rest k (Some e) = go e (past_gap false k.rest)

abbrev pub stop_at : (Expected → List ℕ → Option (List ℕ)) → Expected → List ℕ → Option Taken
    → Option (List ℕ)
stop_at go e rest None = Some rest
stop_at go e rest (Some k) = stop_by go rest k (expected_after e.must e.stage k.token)

-- what is left where the text stops, with so many tokens at most; nothing where it is one of a
-- graph
abbrev pub stop_from : ℕ → Expected → List ℕ → Option (List ℕ)
stop_from n e [] = cond (is_done e.must e.stage) None (Some [])
stop_from zero e (b ∷ rest) = Some (b ∷ rest)
stop_from (suc n) e (b ∷ rest) = stop_at (stop_from n) e (b ∷ rest) (token_at (b ∷ rest))

unfoldable pub syntax_stop : List ℕ → Option (List ℕ)
syntax_stop text = stop_from (length text) start (past_gap false text)

-- what stands before the rest of a text
abbrev pub front_of : List ℕ → List ℕ → List ℕ
front_of text rest = take (length text - length rest) text
