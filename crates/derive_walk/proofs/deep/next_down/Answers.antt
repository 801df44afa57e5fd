use Rattle.std.proofs.Common.{inl, ap, ◌∙◌}
use Rattle.std.specs.Prelude.{Some, None}
use Rattle.derive_walk.proofs.CheckedLemmas.{next_stored}
use Rattle.derive_walk.proofs.deep.next_down.Goals as goal

pub returns-in-None-clause-next : goal.returns-in-None-clause-next
returns-in-None-clause-next g c =
    let s = c.args.setting.now in
    inl (next_stored (g.K.Known.keeps s.known.now) s.planned.now s.sources.now.texts s.given.now c.args.last.now c.in-Some.kept.now c.in-Some.ensures.some None
    c.in-None.ensures)

pub returns-in_ok-copy-in-Some-tight_node-clause-next : goal.returns-in_ok-copy-in-Some-tight_node-clause-next
returns-in_ok-copy-in-Some-tight_node-clause-next g c =
    let s = c.args.setting.now in
    inl (next_stored (g.K.Known.keeps s.known.now) s.planned.now s.sources.now.texts s.given.now c.args.last.now c.in-Some.kept.now c.in-Some.ensures.some
    (Some c.in_ok-copy-in-Some-tight_node.field-0) (ap Some c.in_ok-copy-in-Some-tight_node.ensures ∙ c.in-Some-tight_node.ensures))
