-- The closing of a node, by which no more is looked at.
use Rattle.std.proofs.Common.{◌≡◌, Bool, true, false, true≢false, List, [], ◌∷◌, ◌++◌, sym, ap, ◌∙◌, subst, refl, is_some}
use Rattle.std.specs.Prelude.{⊤, ◌↔◌, Some, None, Result, Ok, Err, OnOk, IsSome, IsTrue}
use Rattle.object_values.specs.declared.nodes.Node.{Node}
use Rattle.object_values.specs.declared.views.View.{View}
use Rattle.object_values.specs.declared.calls.Call.{Call}
use Rattle.object_values.specs.declared.facts.Fresh.{Fresh}
use Rattle.object_values.specs.declared.facts.RenewedNode.{RenewedNode}
use Rattle.meaning_texts.specs.Lists.{IsIn}
use Rattle.meaning_graph.specs.Graphs.{Graph}
use Rattle.meaning_tasks.specs.Calls.{CallOf}
use Rattle.meaning_tasks.specs.Needs.{Results}
use Rattle.node_tasks.specs.declared.settling.Settled.{Settled as Whole}
use Rattle.derive_walk.specs.declared.done.Done.{Done}
use Rattle.derive_walk.specs.declared.settling.Closed.TheVariants.{Given, Settled, Stops}
use Rattle.derive_walk.specs.declared.walk.Walk.{Walk}
use Rattle.derive_walk.specs.Calls.{GivenOutcomes, outcome_in, put_in}
use Rattle.derive_walk.specs.Looked.{MayTake}
use Rattle.derive_walk.specs.Looks.{ClosesAlone, LooksNoMore}
use Rattle.derive_walk.specs.Tables.{Entries, Waits, done_in}
use Rattle.derive_walk.specs.Told.{TakesRenewed, TakesSettled}
use Rattle.derive_walk.proofs.CallLemmas.{put_there}
use Rattle.derive_walk.proofs.Tables.{push_new}

pub same_alone : (old new : Walk) → new ≡ old → LooksNoMore old new
same_alone old new same = record { looked = ap (λ (z : Walk). z.looked) same; taken = ap (λ (z : Walk). z.taken) same }

pub renews_alone : (old new : Walk) (n : Node) (d : Done) (r : RenewedNode) → TakesRenewed old new n d r → LooksNoMore old new
renews_alone old new n d r takes = record { looked = ap (λ (z : Walk). z.looked) takes.is; taken = ap (λ (z : Walk). z.taken) takes.is }

pub on_err : {T E : Type 0} (r : Result T E) (fault : E) (P : Type 0) → r ≡ Err fault → OnOk r P
on_err r fault P is = subst (λ z. OnOk z P) (sym is) tt

-- it has a result then, or its call is wanted
module _ {E : Type 0} (walk : Walk) (n : Node) (value : ⊤) where
  module _ (none : done_in walk.done n ≡ None) where
    pub source_alone : (view : View) (d : Done) (done : Entries) → done ≡ walk.done ++ (n, d) ∷ []
        → ClosesAlone {E = E} walk (record walk { done = done }) n (Given view) (Ok value)
    source_alone view d done same = record {
      same = record { looked = refl; taken = refl };
      ended = subst (λ z. IsSome (done_in z n)) (sym same) (ap is_some (push_new walk.done n d none));
    }

    pub whole_alone : (whole : Whole) (d : Done) (note : Fresh) (next : Walk) → TakesSettled walk next n d note
        → ClosesAlone {E = E} walk next n (Settled whole) (Ok value)
    whole_alone whole d note next takes = record {
      same = record { looked = ap (λ (z : Walk). z.looked) takes.is; taken = ap (λ (z : Walk). z.taken) takes.is };
      ended = subst (λ (z : Walk). IsSome (done_in z.done n)) (sym takes.is) (ap is_some (push_new walk.done n d none));
    }

  pub stopped_alone : (call : Call) (wanted : List Call) (waiting : Waits) → wanted ≡ put_in call walk.wanted
      → ClosesAlone {E = E} walk (record walk { wanted = wanted; waiting = waiting }) n (Stops call) (Ok value)
  stopped_alone call wanted waiting same = record {
    same = record { looked = refl; taken = refl };
    ended = subst (λ l. IsIn call l) (sym same) (put_there call walk.wanted);
  }

-- the call of a node isn't wanted, and was given no outcome
pub may_take : (g : Graph) (seen : Results) (given : GivenOutcomes) (wanted : List Call) (n : Node) (call : Call) → CallOf g n seen (Some call)
    → (there : Bool) → IsTrue there ↔ IsIn call wanted → there ≡ false → outcome_in given call ≡ None → MayTake g seen given wanted n
may_take g seen given wanted n call called there exact not none = record {
  call = call;
  called = called;
  new = λ i. true≢false (sym (exact.1 i) ∙ not);
  none = none;
}
