use Rattle.std.proofs.Common.{◌≡◌, [], Ok, rules, ◌∙◌}
use Rattle.std.proofs.lemmas.Iterator.Adapters.{fact_from_collect, YieldsList-from_vec}
use Rattle.std.proofs.lemmas.Iterator.Consumers.{YieldsList-from_rest}
use Rattle.indexmap.specs.IndexSet.{insert_all}
use Rattle.build_view.specs.contracts.places.PageMessagePartialEq.TheImpl.{ghosts as page_eq}
use Rattle.build_view.proofs.places.first_messages.Goals as goal

pub returns : goal.returns
returns c =
    let set = c.in_ok-found.ensures.ran in
    let list = c.in_ok-from_iter.ensures.ran in
    let kept = fact_from_collect {E = Unit {0}} (λ xs s. s.keys ≡ insert_all page_eq.eq [] xs) (Ok c.in_ok-found.found) (set.1, set.3, set.4.0)
    (YieldsList-from_vec c.args.all.items set.2.0 (search rules)) in
    fact_from_collect {E = Unit {0}} (λ xs v. v.items ≡ xs) (Ok c.in_ok-from_iter.field-0) (list.1, list.3, list.4.0) (YieldsList-from_rest c.in_ok-found.found.keys list.2.0) ∙ kept
