-- Derivation from the sources, with nothing kept, by recursion on a height.
use Rattle.std.specs.Prelude.{◌≡◌, ℕ, zero, suc, ◌<◌, Bool, cond, List, Option, Some, None, IsSome, is_some, option_map}
use Rattle.std.specs.List.{list_all}
use Rattle.std.specs.FinMap as map
use Rattle.object_values.specs.declared.nodes.Node.{Node}
use Rattle.object_values.specs.declared.views.View.{View}
use Rattle.object_values.specs.declared.calls.Call.{Call}
use Rattle.object_values.specs.declared.calls.Outcome.{Outcome}
use Rattle.meaning_texts.specs.Expressions.{name_cmp}
use Rattle.meaning_texts.specs.Limits.{height_limit}
use Rattle.meaning_graph.specs.Graphs.{Text, Graph}
use Rattle.meaning_tasks.specs.Reached.{reached_names}
use Rattle.meaning_tasks.specs.Tasks.{task_of}
use Rattle.meaning_tasks.specs.Needs.{Results, values_of, own_lines, other_lines, needs_of}
use Rattle.meaning_tasks.specs.Calls.{call_of}
use Rattle.meaning_tasks.specs.Settle.{settle}

-- the sources: a finite map from names to texts
abbrev pub Sources : Type 0
Sources = map.FinMap name_cmp Text

abbrev pub text_of : Sources → Text → Option Text
text_of s name = map.get s name

-- The outcome of each call that has one. With the outcomes of a table derivation is Derive, with
-- those of a set P of calls it is DeriveP.
abbrev pub Outcomes : Type 0
Outcomes = Call → Option Outcome

-- whether each of the nodes has a result
abbrev pub all_known : Results → List Node → Bool
all_known seen nodes = list_all (λ n. is_some (seen n)) nodes

-- the outcome of the call, or that there is no call; nothing where the call has no outcome
abbrev pub outcome_for : Outcomes → Option Call → Option (Option Outcome)
outcome_for outcomes None = Some None
outcome_for outcomes (Some call) = option_map (λ o. Some o) (outcomes call)

-- the reached names of a node: only names of sources have lines there
abbrev pub names_for : Graph → Sources → Node → Results → List Text
names_for g s n seen =
    reached_names (map.keys s) (own_lines (task_of g n) (values_of seen))
    (other_lines (task_of g n) (values_of seen))

-- the view of a node all of whose needs have results and whose call, if there is one, has an
-- outcome
abbrev pub settle_if_known : Graph → Sources → Outcomes → Node → Results → List Text → Option View
settle_if_known g s outcomes n seen names =
    cond (all_known seen (needs_of (task_of g n) (values_of seen) names))
    (option_map (λ o. settle g (text_of s) n seen o names)
    (outcome_for outcomes (call_of g (task_of g n) (values_of seen) names)))
    None

-- one more height
abbrev pub derive_above : Graph → Sources → Outcomes → Results → Results
derive_above g s outcomes seen n = settle_if_known g s outcomes n seen (names_for g s n seen)

-- Derive(h)
unfoldable pub derive : Graph → Sources → Outcomes → ℕ → Results
derive g s outcomes zero n = None
derive g s outcomes (suc h) n = derive_above g s outcomes (derive g s outcomes h) n

-- the results at the greatest height that counts
abbrev pub derived : Graph → Sources → Outcomes → Results
derived g s outcomes = derive g s outcomes height_limit

abbrev pub IsFounded : Graph → Sources → Outcomes → Node → Type 0
IsFounded g s outcomes n = IsSome (derived g s outcomes n)

-- The height of a node: the least one at which it has a result.
pub record HasHeight (g : Graph) (s : Sources) (outcomes : Outcomes) (n : Node)
    (h : ℕ) : Type 0 where
  pub there : IsSome (derive g s outcomes h n)
  pub least : (k : ℕ) → k < h → derive g s outcomes k n ≡ None
