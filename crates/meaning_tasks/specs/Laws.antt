-- What the laws of needs, calls and settling say.
use Rattle.std.specs.Prelude.{◌≡◌, ℕ, List, [], ◌++◌, Option, IsSome}
use Rattle.object_values.specs.declared.nodes.Node.{Node}
use Rattle.object_values.specs.declared.views.View.{View}
use Rattle.object_values.specs.declared.calls.Call.{Call}
use Rattle.object_values.specs.declared.calls.Outcome.{Outcome}
use Rattle.meaning_graph.specs.Graphs.{Text, Graph}
use Rattle.meaning_texts.specs.Lists.{IsIn}
use Rattle.meaning_tasks.specs.Labels.{label_of}
use Rattle.meaning_tasks.specs.Reached.{AreReached, reached_names}
use Rattle.meaning_tasks.specs.Tasks.{Own, Task, task_of}
use Rattle.meaning_tasks.specs.Needs.{Results, Known, values_of, AgreeOn, Grows, needs_of, counted_needs, reached_needs, Needs, ReachedNames}
use Rattle.meaning_tasks.specs.Calls.{call_of, CallOf}
use Rattle.meaning_tasks.specs.Settle.{SourceLookup, own_of, settle, Settles, SettlesWith}
use Rattle.meaning_tasks.specs.Maps.{HasOnly}

-- The computed names are the reached ones, where the listed names alone have lines.
abbrev pub ReachedAreComputed : Type 0
ReachedAreComputed =
    (names own : List Text) (lines : Text → List Text)
    → ((x y : Text) → IsIn y (lines x) → IsIn x names)
    → AreReached own lines (reached_names names own lines)

-- There is one list of reached names, and so one list of needs.
abbrev pub OneListOfNames : Type 0
OneListOfNames =
    (own : List Text) (lines : Text → List Text) (names others : List Text)
    → AreReached own lines names → AreReached own lines others → names ≡ others

abbrev pub OneListOfNeeds : Type 0
OneListOfNeeds =
    (g : Graph) (n : Node) (seen : Results) (needs others : List Node) → Needs g n seen needs
    → Needs g n seen others → needs ≡ others

-- More results take no need away.
abbrev pub NeedsGrow : Type 0
NeedsGrow =
    (g : Graph) (n : Node) (seen more : Results) (needs others : List Node) → Grows seen more
    → Needs g n seen needs → Needs g n more others → (m : Node) → IsIn m needs → IsIn m others

-- With the same reached names all is the same under both maps: needs, call, what the node itself
-- gives, and the settled value.
pub record IsSameUnder (g : Graph) (n : Node) (seen other : Results)
    (names : List Text) : Type 0 where
  pub reached : ReachedNames g n other names
  pub needs : needs_of (task_of g n) (values_of seen) names
      ≡ needs_of (task_of g n) (values_of other) names
  pub counted : counted_needs (task_of g n) (values_of seen) names
      ≡ counted_needs (task_of g n) (values_of other) names
  pub call : call_of g (task_of g n) (values_of seen) names
      ≡ call_of g (task_of g n) (values_of other) names
  pub own : (texts : SourceLookup) (outcome : Option Outcome)
      → own_of (label_of g n) texts (task_of g n) (values_of seen) outcome
      ≡ own_of (label_of g n) texts (task_of g n) (values_of other) outcome
  pub value : (texts : SourceLookup) (outcome : Option Outcome)
      → (settle g texts n seen outcome names).value ≡ (settle g texts n other outcome names).value

-- What agrees on the values of the needs agrees on all that follows from them.
abbrev pub Locality : Type 0
Locality =
    (g : Graph) (n : Node) (seen other : Results) (names : List Text) → ReachedNames g n seen names
    → AgreeOn (values_of seen) (values_of other) (needs_of (task_of g n) (values_of seen) names)
    → IsSameUnder g n seen other names

-- Where only some nodes have results, each node has a list of needs.
abbrev pub FiniteHasNeeds : Type 0
FiniteHasNeeds =
    (g : Graph) (n : Node) (seen : Results) (nodes : List Node) → HasOnly seen nodes
    → (needs : List Node) × Needs g n seen needs

-- What a node with steps settles to is the same over all sources.
abbrev pub SettlesOverAnySources : Type 0
SettlesOverAnySources =
    (g : Graph) (n : Node) (seen : Results) (outcome : Option Outcome) (own : Own) (view : View)
    (sources : ℕ) → (n.steps ≡ [] → ⊥) → SettlesWith g n seen outcome own view sources
    → (texts : SourceLookup) → Settles g texts n seen outcome view

-- ---- roles

-- The counted needs come first, and then the reached sources.
abbrev pub CountedThenReached : Type 0
CountedThenReached =
    (t : Task) (known : Known) (names : List Text)
    → needs_of t known names ≡ counted_needs t known names ++ reached_needs t known names

-- ---- one map in place of another

-- The two maps have the same result of each of the nodes.
abbrev pub AgreeAt : Results → Results → List Node → Type 0
AgreeAt seen other nodes = (m : Node) → IsIn m nodes → seen m ≡ other m

-- Needs, call and settled view are the same under the other map.
pub record IsCarried (g : Graph) (texts : SourceLookup) (n : Node) (seen other : Results)
    (nodes : List Node) : Type 0 where
  pub needs : Needs g n other nodes
  pub call : (call : Option Call) → CallOf g n seen call → CallOf g n other call
  pub settles : (outcome : Option Outcome) (view : View) → Settles g texts n seen outcome view
      → Settles g texts n other outcome view

-- They are so under each map that has the same results of the needs.
abbrev pub NeedsCarry : Type 0
NeedsCarry =
    (g : Graph) (texts : SourceLookup) (n : Node) (seen other : Results) (needs : List Node)
    → Needs g n seen needs → AgreeAt seen other needs → IsCarried g texts n seen other needs

-- Needs that all have results stay the needs under more results, and with them call and view.
abbrev pub FullNeedsStay : Type 0
FullNeedsStay =
    (g : Graph) (texts : SourceLookup) (n : Node) (seen more : Results) (needs : List Node)
    → Grows seen more → Needs g n seen needs → ((m : Node) → IsIn m needs → IsSome (seen m))
    → IsCarried g texts n seen more needs

-- There is one call of a node, or none.
abbrev pub OneCall : Type 0
OneCall =
    (g : Graph) (n : Node) (seen : Results) (call other : Option Call) → CallOf g n seen call
    → CallOf g n seen other → call ≡ other
