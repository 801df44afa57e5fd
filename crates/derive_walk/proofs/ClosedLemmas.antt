-- What a closed node settled to, or where it stops.
use Rattle.std.proofs.Common.{◌≡◌, subst}
use Rattle.std.specs.Prelude.{Ok, Err}
use Rattle.object_values.specs.declared.nodes.Node.{Node}
use Rattle.object_values.specs.declared.views.View.{View}
use Rattle.object_values.specs.declared.calls.Call.{Call}
use Rattle.meaning_tasks.specs.Needs.{Results}
use Rattle.meaning_tasks.proofs.Lemmas.{settles_over_any}
use Rattle.meaning_derive.specs.Derive.{text_of}
use Rattle.node_tasks.specs.declared.settling.Settled.{Settled as Whole}
use Rattle.derive_walk.specs.declared.settling.Closed.{Closed}
use Rattle.derive_walk.specs.declared.settling.Closed.TheVariants.{Given, Settled, Stops}
use Rattle.derive_walk.specs.Settled.{HasSettled, HasSettledWhole, NodeHasStopped, NodeIsClosed, view_or_call}
use Rattle.derive_walk.specs.Worlds.{World}

module _ (w : World) (n : Node) (seen : Results) where
  -- what a node with steps settled to has its view
  pub whole_settled : (whole : Whole) → HasSettledWhole w n seen whole → HasSettled w n seen whole.view
  whole_settled whole so = record {
    call = so.call;
    called = so.called;
    outcome = so.outcome;
    given = so.given;
    settles = settles_over_any w.graph n seen so.outcome so.settles.own whole.view whole.reached so.stepped so.settles.settles (text_of w.sources);
  }

  -- a node that was closed with a view has settled to it
  pub closed_settled : (closed : Closed) → NodeIsClosed w n seen closed → (view : View) → view_or_call closed ≡ Ok view → HasSettled w n seen view
  closed_settled (Given given) is view same = let one : given ≡ view = cc in subst (λ v. HasSettled w n seen v) one is.1
  closed_settled (Settled whole) is view same = let one : whole.view ≡ view = cc in subst (λ v. HasSettled w n seen v) one (whole_settled whole is)
  closed_settled (Stops call) is view same = cc

  -- and one without stops at the call
  pub closed_stopped : (closed : Closed) → NodeIsClosed w n seen closed → (call : Call) → view_or_call closed ≡ Err call → NodeHasStopped w n seen call
  closed_stopped (Given view) is call same = cc
  closed_stopped (Settled whole) is call same = cc
  closed_stopped (Stops other) is call same = let one : other ≡ call = cc in subst (λ c. NodeHasStopped w n seen c) one is
