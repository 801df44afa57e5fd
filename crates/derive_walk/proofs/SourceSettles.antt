-- A source settles to its text, over any results.
use Rattle.std.proofs.Common.{◌≡◌, List, [], sym, subst, refl}
use Rattle.std.specs.Prelude.{Option, Some, None}
use Rattle.object_values.specs.declared.nodes.Node.{Node}
use Rattle.object_values.specs.declared.views.View.{View}
use Rattle.object_values.specs.declared.calls.Call.{Call}
use Rattle.meaning_texts.specs.Lists.{IsIn}
use Rattle.meaning_graph.specs.Graphs.{Text, Graph}
use Rattle.meaning_tasks.specs.Labels.{label_of}
use Rattle.meaning_tasks.specs.Values.{inherit}
use Rattle.meaning_tasks.specs.Tasks.{task_of}
use Rattle.meaning_tasks.specs.Needs.{Results, ReachedNames}
use Rattle.meaning_tasks.specs.Calls.{CallOf}
use Rattle.meaning_tasks.specs.Settle.{given_own}
use Rattle.meaning_derive.specs.Chains.{IsNeed}
use Rattle.meaning_derive.specs.Derive.{Sources, text_of, derive, derived, names_for}
use Rattle.meaning_derive.proofs.Lemmas.{names_reached, as_settled, from_settled, sources_are_there}
use Rattle.derive_walk.specs.Settled.{HasSettled}
use Rattle.derive_walk.specs.Worlds.{World}

abbrev pub view_of_source : Graph → Sources → Node → View
view_of_source g s n = let own = given_own (label_of g n) n.source (text_of s n.source) in record { value = own.value; status = own.status; messages = inherit [] own.messages }

at_source : (w : World) (n : Node) (seen : Results) → HasSettled w (record n { steps = [] }) seen (view_of_source w.graph w.sources (record n { steps = [] }))
unfolding task_of
at_source w n seen =
    let m : Node = record n { steps = [] } in
    let names : List Text = names_for w.graph w.sources m (derive w.graph w.sources w.outcomes 0) in
    let reached : ReachedNames w.graph m seen names = names_reached w.graph w.sources w.outcomes 0 m in
    record {
      call = None;
      called = record { names = names; reached = reached; is = refl };
      outcome = None;
      given = refl;
      settles = record { names = names; reached = reached; is = refl };
    }

-- it makes no call
none_called : (w : World) (n : Node) (seen : Results) (call : Option Call) → CallOf w.graph (record n { steps = [] }) seen call → call ≡ None
unfolding task_of
none_called w n seen call called = called.is

pub source_calls_none : (w : World) (n : Node) (seen : Results) (call : Option Call) → n.steps ≡ [] → CallOf w.graph n seen call → call ≡ None
source_calls_none w n seen call none called = none_called w n seen call (subst (λ z. CallOf w.graph (record n { steps = z }) seen call) none called)

-- and needs nothing
none_needed : (w : World) (n : Node) (seen : Results) (m : Node) → IsNeed w.graph seen (record n { steps = [] }) m → ⊥
unfolding task_of
none_needed w n seen m need = subst (λ l. IsIn m l) need.listed.listed need.one

pub source_needs_none : (w : World) (n : Node) (seen : Results) (m : Node) → n.steps ≡ [] → IsNeed w.graph seen n m → ⊥
source_needs_none w n seen m none need = none_needed w n seen m (subst (λ z. IsNeed w.graph seen (record n { steps = z }) m) none need)

source_settles : (w : World) (n : Node) (seen : Results) → n.steps ≡ [] → HasSettled w n seen (view_of_source w.graph w.sources n)
source_settles w n seen is = subst (λ z. HasSettled w (record n { steps = z }) seen (view_of_source w.graph w.sources (record n { steps = z }))) (sym is) (at_source w n seen)

pub source_closes : (w : World) (n : Node) (seen : Results) → n.steps ≡ [] → (view : View) → view ≡ view_of_source w.graph w.sources n → HasSettled w n seen view
source_closes w n seen none view is = subst (λ v. HasSettled w n seen v) (sym is) (source_settles w n seen none)

-- and is derived so
pub source_found : (w : World) (n : Node) → n.steps ≡ [] → (view : View) → view ≡ view_of_source w.graph w.sources n → derived w.graph w.sources w.outcomes n ≡ Some view
source_found w n none view is =
    let there = sources_are_there w.graph w.sources n none in
    let so = as_settled w.graph w.sources w.outcomes 63 n there.0 (there.1 w.outcomes 63) in
    let c = source_closes w n (derive w.graph w.sources w.outcomes 63) none view is in
    from_settled w.graph w.sources w.outcomes 63 n view (record {
      needs = so.needs;
      listed = so.listed;
      known = so.known;
      call = c.call;
      called = c.called;
      outcome = c.outcome;
      given = c.given;
      settles = c.settles;
    })
