use Rattle.std.proofs.Common.{◌≡◌, ◌++◌, sym, ◌∙◌, subst}
use Rattle.node_tasks.specs.declared.ahead.Level.{Level}
use Rattle.node_tasks.specs.Ahead.{AreInSight}
use Rattle.node_tasks.proofs.AheadLemmas.{in_order}
use Rattle.node_tasks.proofs.ahead.Level.in_order.Goals as goal

pub returns : goal.returns
returns c t known visited level =
    let joined : c.from_vec.result ≡ c.by_names.result ++ c.by_names-2.result = c.from_vec.ensures ∙ c.in_ok-append.ensures.items ∙ (λ i. c.into_vec-needs.ensures i ++ c.into_vec.ensures i) in
    subst (AreInSight t known visited) (sym joined) (in_order t known visited c.args.self c.by_names.result c.by_names-2.result c.by_names.ensures c.by_names-2.ensures level)
