-- What comes of a node whose needs all have results.
use Rattle.std.specs.Prelude.{◌≡◌, ◌≢◌, List, [], Option, Some, None, Result, Ok, Err}
use Rattle.object_values.specs.declared.nodes.Node.{Node}
use Rattle.object_values.specs.declared.views.View.{View}
use Rattle.object_values.specs.declared.calls.Call.{Call}
use Rattle.object_values.specs.declared.calls.Outcome.{Outcome}
use Rattle.meaning_texts.specs.Lists.{IsIn}
use Rattle.meaning_tasks.specs.Needs.{Results}
use Rattle.meaning_tasks.specs.Calls.{CallOf}
use Rattle.meaning_tasks.specs.Settle.{Settles}
use Rattle.meaning_derive.specs.Derive.{text_of, outcome_for}
use Rattle.node_tasks.specs.declared.settling.Settled.{Settled as Whole}
use Rattle.node_tasks.specs.Settling.{SettlesSo}
use Rattle.derive_walk.specs.declared.settling.Closed.{Closed}
use Rattle.derive_walk.specs.declared.settling.Closed.TheVariants.{Given, Settled, Stops}
use Rattle.derive_walk.specs.Worlds.{World}

-- none of the calls has an outcome
abbrev pub AreOutside : World → List Call → Type 0
AreOutside w calls = (call : Call) → IsIn call calls → w.outcomes call ≡ None

-- the node settles to the view over the results, by the outcome of its call
abbrev pub SettlesIn : World → Node → Results → Option Outcome → View → Type 0
SettlesIn w n seen outcome view = Settles w.graph (text_of w.sources) n seen outcome view

-- The node settles to the view, by the outcome that its call has, if there is one.
pub record HasSettled (w : World) (n : Node) (seen : Results) (view : View) : Type 0 where
  pub call : Option Call
  pub called : CallOf w.graph n seen call
  pub outcome : Option Outcome
  pub given : outcome_for w.outcomes call ≡ Some outcome
  pub settles : SettlesIn w n seen outcome view

-- A node with steps settles to all of this, by the outcome that its call has, if there is one.
pub record HasSettledWhole (w : World) (n : Node) (seen : Results) (whole : Whole) : Type 0 where
  pub stepped : n.steps ≢ []
  pub call : Option Call
  pub called : CallOf w.graph n seen call
  pub outcome : Option Outcome
  pub given : outcome_for w.outcomes call ≡ Some outcome
  pub settles : SettlesSo w.graph n seen outcome whole

-- The node stops at its call, which has no outcome.
pub record NodeHasStopped (w : World) (n : Node) (seen : Results) (call : Call) : Type 0 where
  pub called : CallOf w.graph n seen (Some call)
  pub outside : w.outcomes call ≡ None

-- A source has its text; a node with steps has settled, or stops.
abbrev pub NodeIsClosed : World → Node → Results → Closed → Type 0
NodeIsClosed w n seen (Given view) = (n.steps ≡ []) × HasSettled w n seen view
NodeIsClosed w n seen (Settled whole) = HasSettledWhole w n seen whole
NodeIsClosed w n seen (Stops call) = NodeHasStopped w n seen call

-- the view of the node, or the call at which it stops
abbrev pub view_or_call : Closed → Result View Call
view_or_call (Given view) = Ok view
view_or_call (Settled whole) = Ok whole.view
view_or_call (Stops call) = Err call
