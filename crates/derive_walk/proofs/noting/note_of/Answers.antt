use Rattle.derive_walk.proofs.NotingLemmas.{note_made}
use Rattle.derive_walk.proofs.noting.note_of.Goals as goal

pub returns : goal.returns
returns c = λ g outcomes may.
    note_made g outcomes c.args.done.now c.args.node.now c.args.needed.now c.args.settled.now c.args.height may _ c.saturating_sub.ensures
    c.in_ok-deps.deps.deps c.in_ok-deps.ensures.deps c.in_ok-deps.deps.tight c.in_ok-deps.ensures.tight c.into_fresh.result c.into_fresh.ensures
