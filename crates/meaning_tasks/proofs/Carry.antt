-- Needs, calls and views under a map that has the same results of the needs.
use Rattle.std.proofs.Common.{◌≡◌, List, [], ◌∷◌, inl, inr, sym, ap, ◌∙◌, subst, cond, refl}
use Rattle.std.specs.Prelude.{Option, None, IsSome, option_map}
use Rattle.object_values.specs.declared.messages.Status.{Status}
use Rattle.object_values.specs.declared.nodes.Node.{Node}
use Rattle.object_values.specs.declared.views.View.{View}
use Rattle.object_values.specs.declared.calls.Call.{Call}
use Rattle.object_values.specs.declared.calls.Outcome.{Outcome}
use Rattle.meaning_graph.specs.Graphs.{Text, Graph}
use Rattle.meaning_texts.specs.Lists.{IsIn}
use Rattle.meaning_texts.proofs.Lemmas.{value_of_some}
use Rattle.meaning_tasks.specs.Labels.{label_of}
use Rattle.meaning_tasks.specs.Values.{worst, inherit}
use Rattle.meaning_tasks.specs.Tasks.{Own, task_of}
use Rattle.meaning_tasks.specs.Needs.{Results, values_of, AgreeOn, Grows, has_value, needs_of, counted_needs, Needs}
use Rattle.meaning_tasks.specs.Calls.{call_of, CallOf}
use Rattle.meaning_tasks.specs.Settle.{SourceLookup, own_of, status_in, messages_in, worst_of, settled, settle}
use Rattle.meaning_tasks.specs.Laws.{AgreeAt, IsCarried}
use Rattle.meaning_tasks.proofs.Reached.{one_list}
use Rattle.meaning_tasks.proofs.Roles.{counted_in_needs}
use Rattle.meaning_tasks.proofs.Local.{same_flat, same_all, counted_local, own_local, local}

pub same_values : (seen more : Results) (nodes : List Node) → AgreeAt seen more nodes → AgreeOn (values_of seen) (values_of more) nodes
same_values seen more nodes a n h = ap (option_map (λ (v : View). v.value)) (a n h)

same_worst : (seen more : Results) (own : Status) (nodes : List Node) → AgreeAt seen more nodes → worst_of seen own nodes ≡ worst_of more own nodes
same_worst seen more own [] a = refl
same_worst seen more own (n ∷ nodes) a = let p = a n (inl refl) in let q = same_worst seen more own nodes (λ m i. a m (inr i)) in λ i. worst (status_in (p i)) (q i)

pub same_settled : (seen more : Results) (own : Own) (nodes : List Node) → AgreeAt seen more nodes → settled seen own nodes ≡ settled more own nodes
same_settled seen more own nodes a =
    let v = same_all (λ n. has_value (values_of seen n)) (λ n. has_value (values_of more n)) nodes (λ n i. ap has_value (same_values seen more nodes a n i)) in
    let w = same_worst seen more own.status nodes a in
    let m = same_flat (λ n. messages_in (seen n)) (λ n. messages_in (more n)) nodes (λ n i. ap messages_in (a n i)) in
    λ i. record { value = cond (v i) own.value None; status = w i; messages = inherit (m i) own.messages }

-- the view is the same where the results of the needs are
pub view_moves : (g : Graph) (texts : SourceLookup) (n : Node) (seen more : Results) (names : List Text) → AgreeAt seen more (needs_of (task_of g n) (values_of seen) names) → (o : Option Outcome) → settle g texts n seen o names ≡ settle g texts n more o names
view_moves g texts n seen more names a o =
    let agree = same_values seen more (needs_of (task_of g n) (values_of seen) names) a in
    same_settled seen more (own_of (label_of g n) texts (task_of g n) (values_of seen) o) (counted_needs (task_of g n) (values_of seen) names) (λ m i. a m (counted_in_needs (task_of g n) (values_of seen) names m i))
    ∙ (λ i. settled more (own_local (values_of seen) (values_of more) (label_of g n) texts (task_of g n) names o agree i) (counted_local (values_of seen) (values_of more) (task_of g n) names agree i))

-- there is one call of a node
pub one_call : (g : Graph) (n : Node) (seen : Results) (call other : Option Call) → CallOf g n seen call → CallOf g n seen other → call ≡ other
one_call g n seen call other p q = p.is ∙ ap (call_of g (task_of g n) (values_of seen)) (one_list _ _ _ _ p.reached q.reached) ∙ sym q.is

-- Another map with the same results of the needs carries needs, call and view.
pub carry : (g : Graph) (texts : SourceLookup) (n : Node) (seen other : Results) (nodes : List Node) → Needs g n seen nodes → AgreeAt seen other nodes → IsCarried g texts n seen other nodes
carry g texts n seen other nodes listed agree =
    let same : AgreeAt seen other (needs_of (task_of g n) (values_of seen) listed.names) = λ m i. agree m (subst (λ l. IsIn m l) (sym listed.listed) i) in
    let l = local g n seen other listed.names listed.reached (same_values seen other _ same) in
    record {
      needs = record { names = listed.names; reached = l.reached; listed = listed.listed ∙ l.needs };
      call = λ call c. record { names = listed.names; reached = l.reached; is = c.is ∙ ap (call_of g (task_of g n) (values_of seen)) (one_list _ _ _ _ c.reached listed.reached) ∙ l.call };
      settles = λ outcome view p. record { names = listed.names; reached = l.reached; is = p.is ∙ ap (settle g texts n seen outcome) (one_list _ _ _ _ p.reached listed.reached) ∙ view_moves g texts n seen other listed.names same outcome };
    }

-- Where all needs have results, more results change none of them.
pub full_agree : (seen more : Results) (nodes : List Node) → Grows seen more → ((m : Node) → IsIn m nodes → IsSome (seen m)) → AgreeAt seen more nodes
full_agree seen more nodes grows known m i = let v = value_of_some (seen m) (known m i) in v.1 ∙ sym (grows m v.0 v.1)

pub full_needs_stay : (g : Graph) (texts : SourceLookup) (n : Node) (seen more : Results) (nodes : List Node) → Grows seen more → Needs g n seen nodes → ((m : Node) → IsIn m nodes → IsSome (seen m)) → IsCarried g texts n seen more nodes
full_needs_stay g texts n seen more nodes grows listed known = carry g texts n seen more nodes listed (full_agree seen more nodes grows known)
