-- What the tables of a walk answer.
use Rattle.std.specs.Prelude.{ℕ, suc, Bool, true, false, cond, ◌||◌, List, [], ◌∷◌, Option, Some, None, is_some, option_map, map, max, nat_eq}
use Rattle.std.specs.Map.{lookup}
use Rattle.object_values.specs.declared.nodes.Node.{Node}
use Rattle.object_values.specs.contracts.nodes.NodePartialEq.TheImpl.{ghosts as node_eq}
use Rattle.meaning_tasks.specs.Needs.{Results}
use Rattle.derive_walk.specs.declared.done.Done.{Done}

-- ---- nodes with results

abbrev pub Entries : Type 0
Entries = List (Node × Done)

-- the entry of a node
abbrev pub done_in : Entries → Node → Option Done
done_in entries n = lookup (node_eq.eq n) entries

abbrev pub results_of : Entries → Results
results_of entries n = option_map (λ d. d.view) (done_in entries n)

abbrev pub done_nodes : Entries → List Node
done_nodes entries = map (λ e. e.0) entries

-- whether each of the nodes has a result
abbrev pub are_done : Entries → List Node → Bool
are_done done [] = true
are_done done (n ∷ nodes) = cond (is_some (done_in done n)) (are_done done nodes) false

-- ---- heights

-- the nodes without results that were visited
abbrev pub Waits : Type 0
Waits = List (Node × ℕ)

abbrev pub height_in : Waits → Node → Option ℕ
height_in waits n = lookup (node_eq.eq n) waits

abbrev pub height_or : Option ℕ → Option ℕ → Option ℕ
height_or (Some h) other = Some h
height_or None other = other

-- the height of a node that was visited: a result is asked for first
abbrev pub heights_of : Entries → Waits → Node → Option ℕ
heights_of done waits n = height_or (option_map (λ d. d.height) (done_in done n)) (height_in waits n)

abbrev pub height_or_zero : Option ℕ → ℕ
height_or_zero None = 0
height_or_zero (Some h) = h

-- the greatest height of the nodes
abbrev pub top_of : (Node → Option ℕ) → List Node → ℕ
top_of heights [] = 0
top_of heights (n ∷ nodes) = max (height_or_zero (heights n)) (top_of heights nodes)

abbrev pub is_height : ℕ → Option ℕ → Bool
is_height h None = false
is_height h (Some k) = nat_eq k h

-- the first of the nodes that has the height
abbrev pub of_height : (Node → Option ℕ) → ℕ → List Node → Option Node
of_height heights h [] = None
of_height heights h (n ∷ nodes) =
    cond (is_height h (heights n)) (Some n) (of_height heights h nodes)

-- the place of the first of the nodes that has the height
abbrev pub place_of : (Node → Option ℕ) → ℕ → List Node → Option ℕ
place_of heights h [] = None
place_of heights h (n ∷ nodes) =
    cond (is_height h (heights n)) (Some 0) (option_map suc (place_of heights h nodes))

-- ---- lists

-- whether the node is one of the list
abbrev pub node_in : Node → List Node → Bool
node_in n [] = false
node_in n (m ∷ nodes) = node_eq.eq m n || node_in n nodes
