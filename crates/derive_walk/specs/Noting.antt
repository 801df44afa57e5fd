-- What is noted of a node with steps that was settled.
use Rattle.std.specs.Prelude.{◌≡◌, ◌≢◌, ◌⊎◌, ◌+◌, ◌≤◌, ℕ, suc, Bool, true, false, cond, List, [], ◌∷◌, ◌++◌, map, Option, Some, None, option_map, nat_eq, slice_get}
use Rattle.object_values.specs.declared.nodes.Node.{Node}
use Rattle.object_values.specs.declared.views.Value.{Value}
use Rattle.object_values.specs.declared.calls.Call.{Call}
use Rattle.object_values.specs.declared.calls.Outcome.{Outcome}
use Rattle.object_values.specs.declared.records.Role.{Role}
use Rattle.object_values.specs.declared.records.Role.TheVariants.{Needed as AsNeeded, Reached as AsReached}
use Rattle.object_values.specs.declared.facts.FactDep.{FactDep}
use Rattle.object_values.specs.declared.facts.Fresh.{Fresh}
use Rattle.meaning_texts.specs.Limits.{height_limit}
use Rattle.meaning_graph.specs.Graphs.{Graph}
use Rattle.meaning_tasks.specs.Nodes.{Fits, source_node}
use Rattle.meaning_tasks.specs.Needs.{Needs, values_of}
use Rattle.meaning_tasks.specs.Calls.{CallOf}
use Rattle.meaning_derive.specs.CheckedLaws.{IsShortResultOf}
use Rattle.meaning_derive.specs.Derive.{Outcomes, outcome_for}
use Rattle.meaning_records.specs.Batches.{IsNotable}
use Rattle.meaning_true.specs.Facts.{RecordIsTrue}
use Rattle.meaning_true.specs.Closed.{IsClosedBy}
use Rattle.validator.specs.Fitting.{FactFits}
use Rattle.task_needs.specs.Counting.{nodes_in}
use Rattle.node_tasks.specs.declared.needed.Needed.{Needed}
use Rattle.node_tasks.specs.declared.settling.Settled.{Settled}
use Rattle.node_tasks.specs.Needed.{IsNeeded}
use Rattle.node_tasks.specs.Settling.{SettlesSo}
use Rattle.derive_walk.specs.declared.done.Done.{Done}
use Rattle.derive_walk.specs.Tables.{Entries, done_in, results_of, are_done, heights_of, top_of, is_height}
use Rattle.derive_walk.specs.Walks.{AreFormedDone}

-- ---- deps

-- the value of a result, and none where there is no result
abbrev pub value_of_done : Option Done → Option Value
value_of_done None = None
value_of_done (Some d) = d.view.value

-- a need in its role, with what is seen of it
abbrev pub dep_now : Entries → Role → Node → FactDep
dep_now done role n = record { node = n; role = role; value = value_of_done (done_in done n) }

-- the counted needs, and after them the reached sources
abbrev pub all_deps : Entries → Needed → List FactDep
all_deps done needed =
    map (dep_now done AsNeeded) (nodes_in (values_of (results_of done)) needed.counted)
    ++ map (dep_now done AsReached) (map source_node needed.names)

-- ---- the first that is just one lower

-- whether there is a result at this height
abbrev pub is_at : Option Done → ℕ → Bool
is_at None height = false
is_at (Some d) height = nat_eq d.height height

-- what was found before, or else this place where it fits
abbrev pub found_or : Option ℕ → Bool → ℕ → Option ℕ
found_or (Some place) fits next = Some place
found_or None true next = Some next
found_or None false next = None

-- the place of the first of the nodes that has the height
abbrev pub place_of_height : (Node → Option ℕ) → ℕ → List Node → Option ℕ
place_of_height heights h [] = None
place_of_height heights h (n ∷ nodes) =
    cond (is_height h (heights n)) (Some 0) (option_map suc (place_of_height heights h nodes))

-- the same of deps whose nodes have results
abbrev pub tight_in : Entries → ℕ → List FactDep → Option ℕ
tight_in done below deps = place_of_height (heights_of done []) below (map (λ d. d.node) deps)

-- The place is that of a dep whose node has a result at this height.
pub record IsTightAt (done : Entries) (below : ℕ) (deps : List FactDep)
    (tight : Option ℕ) : Type 0 where
  pub place : ℕ
  pub is : tight ≡ Some place
  pub dep : FactDep
  pub one : slice_get deps place ≡ Some dep
  pub height : heights_of done [] dep.node ≡ Some below

-- ---- the note

-- what the node settled to, over these deps
abbrev pub fresh_by : Node → List FactDep → Settled → ℕ → Option ℕ → Fresh
fresh_by n deps settled height tight = record {
  fact = record {
    node = n;
    deps = deps;
    value = settled.view.value;
    own_status = settled.own_status;
    own_messages = settled.own_messages;
  };
  present = record {
    status = settled.view.status;
    messages = settled.view.messages;
    height = height;
    tight = tight;
  };
}

-- The node has steps and was settled so: all its needs have results in a table that is formed, and
-- the height is one above theirs.
pub record MayNote (g : Graph) (outcomes : Outcomes) (done : Entries) (n : Node) (needed : Needed)
    (settled : Settled) (height : ℕ) : Type 0 where
  pub formed : AreFormedDone g done
  pub fits : Fits g n
  pub stepped : n.steps ≢ []
  pub found : IsNeeded g n (results_of done) needed
  pub needs : List Node
  pub listed : Needs g n (results_of done) needs
  pub all : are_done done needs ≡ true
  pub call : Option Call
  pub called : CallOf g n (results_of done) call
  pub outcome : Option Outcome
  pub given : outcome_for outcomes call ≡ Some outcome
  pub settles : SettlesSo g n (results_of done) outcome settled
  pub short : IsShortResultOf g n settled.view
  pub above : height ≡ top_of (heights_of done []) needs + 1
  pub high : height ≤ height_limit

-- The record is true, fits and may be noted: it is what the node settled to, with the place of the
-- first dep that is just one lower, which is there at each height but 1.
pub record IsNoteOf (g : Graph) (outcomes : Outcomes) (done : Entries) (n : Node)
    (settled : Settled) (high : ℕ) (fresh : Fresh) : Type 0 where
  pub node : fresh.fact.node ≡ n
  pub closed : IsClosedBy g outcomes (results_of done) fresh.fact
  pub truth : RecordIsTrue g outcomes fresh.fact
  pub fits : FactFits g fresh.fact
  pub notable : IsNotable fresh
  pub value : fresh.fact.value ≡ settled.view.value
  pub status : fresh.present.status ≡ settled.view.status
  pub messages : fresh.present.messages ≡ settled.view.messages
  pub height : fresh.present.height ≡ high
  pub tight : (below : ℕ) → below + 1 ≡ high
      → fresh.present.tight ≡ tight_in done below fresh.fact.deps
  pub next : (below : ℕ) → below + 1 ≡ high
      → (below ≡ 0) ⊎ IsTightAt done below fresh.fact.deps fresh.present.tight
  pub lone : high ≡ 1 → fresh.present.tight ≡ None
