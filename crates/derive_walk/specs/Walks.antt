-- What a walk has come to, and what each call of it makes of that.
use Rattle.std.specs.Prelude.{◌≡◌, ◌≢◌, ◌↔◌, ◌⊎◌, ◌<◌, ◌≤◌, List, [], ◌∷◌, ◌++◌, Option, Some, None, IsSome, IfSome}
use Rattle.object_values.specs.declared.nodes.Node.{Node}
use Rattle.object_values.specs.declared.calls.Call.{Call}
use Rattle.object_values.specs.declared.views.View.{View}
use Rattle.object_values.specs.declared.calls.Outcome.{Outcome}
use Rattle.object_values.specs.declared.facts.Fresh.{Fresh}
use Rattle.object_values.specs.declared.facts.RenewedNode.{RenewedNode}
use Rattle.meaning_texts.specs.Limits.{height_limit}
use Rattle.meaning_texts.specs.Lists.{IsIn}
use Rattle.meaning_graph.specs.Graphs.{Graph}
use Rattle.meaning_calls.specs.Jobs.{IsWellFormed}
use Rattle.meaning_tasks.specs.Nodes.{Fits}
use Rattle.meaning_derive.specs.CheckedLaws.{IsShortResultOf}
use Rattle.meaning_derive.specs.Derive.{Outcomes, derive, HasHeight}
use Rattle.meaning_derive.specs.Chains.{AreDifferent, IsMet, IsRefusal}
use Rattle.meaning_derive.specs.Given.{OutcomesFit}
use Rattle.meaning_true.specs.Knowing.{IsChecked}
use Rattle.derive_walk.specs.declared.done.Done.{Done}
use Rattle.derive_walk.specs.Tables.{Entries, done_in, done_nodes}
use Rattle.derive_walk.specs.Calls.{GivenOutcomes, outcome_in, AreOnce}
use Rattle.derive_walk.specs.declared.found.Found.{Found}
use Rattle.derive_walk.specs.declared.found.Found.TheVariants.{Answer}
use Rattle.derive_walk.specs.Founds.{IsFound, NodesFit}
use Rattle.derive_walk.specs.Looked.{AreLookups, AreTaken, MayBeLooked}
use Rattle.derive_walk.specs.Places.{Lookups}
use Rattle.derive_walk.specs.Told.{AreTold, AreToldRightly}
use Rattle.derive_walk.specs.Worlds.{World, KnowsIn, seen_in, IsNeedIn, StopsAtCall}

-- The root, the nodes with results, what is noted of those that were settled and what the records of the others came to, the outcomes that were
-- given, the calls that are wanted, the nodes that were looked at, those for which a kept outcome was looked for, and what is found of the root.
pub record Walked : Type 0 where
  pub root : Node
  pub done : Entries
  pub fresh : List Fresh
  pub renewed : List RenewedNode
  pub given : GivenOutcomes
  pub wanted : List Call
  pub looked : Lookups
  pub taken : List Node
  pub result : Option Found

abbrev pub new_walk : Node → Walked
new_walk root = record {
  root = root;
  done = [];
  fresh = [];
  renewed = [];
  given = [];
  wanted = [];
  looked = [];
  taken = [];
  result = None;
}

-- a root with steps whose view is found stands in the table
abbrev pub IsPlacedIn : Node → Entries → Option Found → Type 0
IsPlacedIn root done found = (view : View) → found ≡ Some (Answer view) → root.steps ≢ [] → IsSome (done_in done root)

-- no wanted call was given an outcome
abbrev pub AreApart : GivenOutcomes → List Call → Type 0
AreApart given wanted = (call : Call) → IsIn call wanted → outcome_in given call ≡ None

-- ---- a walk that is formed: it may be gone on with, right or not

-- The node fits, and this is a short result of it, at a height from 1 to the limit.
pub record IsFormedDone (g : Graph) (n : Node) (d : Done) : Type 0 where
  pub result : IsShortResultOf g n d.view
  pub low : 0 < d.height
  pub high : d.height ≤ height_limit

-- Each node of the table is so; none stands there twice.
pub record AreFormedDone (g : Graph) (done : Entries) : Type 0 where
  pub each : (n : Node) (d : Done) → done_in done n ≡ Some d → IsFormedDone g n d
  pub different : AreDifferent (done_nodes done)

-- Each of the calls is well formed and has no outcome; none stands there twice.
pub record AreFormedCalls (outcomes : Outcomes) (wanted : List Call) : Type 0 where
  pub each : (call : Call) → IsIn call wanted → IsWellFormed call
  pub outside : (call : Call) → IsIn call wanted → outcomes call ≡ None
  pub once : AreOnce wanted

-- Nothing is said of how its results came: they need not be derived, nor the calls be met.
pub record IsFormed (w : World) (walked : Walked) : Type 0 where
  pub fit : OutcomesFit w.outcomes
  pub root : Fits w.graph walked.root
  pub done : AreFormedDone w.graph walked.done
  pub told : AreTold w walked.done walked.fresh walked.renewed
  pub looked : AreLookups w walked.done walked.looked
  pub wanted : AreFormedCalls w.outcomes walked.wanted
  pub found : IfSome walked.result (NodesFit w.graph)

-- ---- a walk that is right

-- The node has the result at its height.
pub record IsDone (w : World) (n : Node) (d : Done) : Type 0 where
  pub fits : Fits w.graph n
  pub high : d.height ≤ height_limit
  pub is : derive w.graph w.sources w.outcomes d.height n ≡ Some d.view
  pub has : HasHeight w.graph w.sources w.outcomes n d.height

-- Each node of the table is done, and so are its needs, unless its record is checked; none stands there twice.
pub record AreDone (w : World) (done : Entries) : Type 0 where
  pub each : (n : Node) (d : Done) → done_in done n ≡ Some d → IsDone w n d
  pub needs : (n : Node) (d : Done) → done_in done n ≡ Some d
      → IsChecked w.records n ⊎ ((m : Node) → IsNeedIn w n m → IsSome (done_in done m))
  pub different : AreDifferent (done_nodes done)

-- each node of the table is met from the root
abbrev pub AreMet : World → Node → Entries → Type 0
AreMet w root done =
    (n : Node) → IsIn n (done_nodes done) → IsMet w.graph (seen_in w) root n

-- It is right by what is known of calls and of nodes: what is wanted are calls at which the derivation stops.
pub record IsRight (w : World) (walked : Walked) : Type 0 where
  pub fit : OutcomesFit w.outcomes
  pub knows : KnowsIn w
  pub root : Fits w.graph walked.root
  pub done : AreDone w walked.done
  pub met : AreMet w walked.root walked.done
  pub told : AreTold w walked.done walked.fresh walked.renewed
  pub rightly : AreToldRightly w walked.fresh walked.renewed
  pub looked : AreLookups w walked.done walked.looked
  pub may : MayBeLooked w walked.root walked.looked
  pub taken : AreTaken w walked.given walked.looked walked.done walked.wanted walked.taken
  pub wanted : (call : Call) → IsIn call walked.wanted → StopsAtCall w walked.root call
  pub once : AreOnce walked.wanted
  pub found : IfSome walked.result (IsFound w.graph w.sources w.outcomes walked.root)

-- ---- an advance

-- The root and what was given stay, and so does what is wanted; with a result all does.
pub record ExtendsWalk (old new : Walked) : Type 0 where
  pub root : new.root ≡ old.root
  pub given : new.given ≡ old.given
  pub wanted : (call : Call) → IsIn call old.wanted → IsIn call new.wanted
  pub stays : IsSome old.result → new ≡ old

-- What is wanted is just what the derivation stops at, each call once, and there is some. No chain
-- is there for which the node is refused.
pub record AreFrontier (w : World) (n : Node) (wanted : List Call) : Type 0 where
  pub only : (call : Call) → IsIn call wanted → StopsAtCall w n call
  pub each : (call : Call) → StopsAtCall w n call → IsIn call wanted
  pub once : AreOnce wanted
  pub one : (call : Call) × IsIn call wanted
  pub calm : (chain : List Node) → IsRefusal w.graph (seen_in w) n chain → ⊥

-- there is a result, or else calls are wanted
abbrev pub FindsOrWants : World → Node → List Call → Option Found → Type 0
FindsOrWants w n wanted None = AreFrontier w n wanted
FindsOrWants w n wanted (Some found) = IsFound w.graph w.sources w.outcomes n found

abbrev pub IsAdvanced : World → Walked → Type 0
IsAdvanced w walked = FindsOrWants w walked.root walked.wanted walked.result

-- ---- an outcome

-- The call was given the outcome, and is wanted no more; nothing else changes.
pub record OutcomeIsGiven (call : Call) (outcome : Outcome) (old new : Walked) : Type 0 where
  pub root : new.root ≡ old.root
  pub done : new.done ≡ old.done
  pub fresh : new.fresh ≡ old.fresh
  pub renewed : new.renewed ≡ old.renewed
  pub given : new.given ≡ old.given ++ (call, outcome) ∷ []
  pub wanted : (c : Call) → IsIn c new.wanted ↔ (IsIn c old.wanted × (c ≢ call))
  pub once : AreOnce new.wanted
  pub looked : new.looked ≡ old.looked
  pub taken : new.taken ≡ old.taken
  pub result : new.result ≡ old.result
