use Rattle.std.proofs.Common.{◌∙◌, ap, subst, sym}
use Rattle.std.specs.Prelude.{Err, IfOk, IfErr}
use Rattle.std.proofs.lemmas.Result.{err_from_is_err_and}
use Rattle.kept_derive.specs.Rests.{ComesToRest}
use Rattle.kept_derive.specs.Runs.{at}
use Rattle.odin_engine.specs.Asking.{IsAnswered, IsAskFault, AskFaultIsCounted, StoreAfterAsk, AskLeavesTools}
use Rattle.odin_engine.specs.Looking.{AreAskLooks}
use Rattle.odin_engine.proofs.AskLemmas.{answered, faulted, left_so, cause_so, rests_so, refused_at, refused_leaves, refused_counts, refused_rests}
use Rattle.odin_engine.proofs.LookingLemmas.{looks_so, refused_looks}
use Rattle.odin_engine.proofs.engine.Engine.ask.Goals as goal

-- ---- a text that asks for nothing

pub returns-in_err-node-clause-err : goal.returns-in_err-node-clause-err
returns-in_err-node-clause-err g c =
    let given = err_from_is_err_and _ c.from_residual.ensures.1 in
    refused_at _ g.D.Disk.told _ _ _ _ _ (given.1 ∙ ap (λ f. Err f) given.2) c.in_err-node.ensures.err

pub returns-in_err-node-clause-rest : goal.returns-in_err-node-clause-rest
returns-in_err-node-clause-rest g c = refused_rests _ _ _ c.requires.none

pub returns-in_err-node-clause-left : goal.returns-in_err-node-clause-left
returns-in_err-node-clause-left g c =
    let given = err_from_is_err_and _ c.from_residual.ensures.1 in
    refused_leaves c.args.self.now.graph c.args.text.now c.args.self.now.store _ _ _ (given.1 ∙ ap (λ f. Err f) given.2) c.in_err-node.ensures.err c.requires.ready

pub returns-in_err-node-clause-cause : goal.returns-in_err-node-clause-cause
returns-in_err-node-clause-cause g c =
    let given = err_from_is_err_and _ c.from_residual.ensures.1 in
    refused_counts c.args.self.now.graph c.args.text.now _ _ _ (given.1 ∙ ap (λ f. Err f) given.2) c.in_err-node.ensures.err

pub returns-in_err-node-clause-counted : goal.returns-in_err-node-clause-counted
returns-in_err-node-clause-counted g c =
    let given = err_from_is_err_and _ c.from_residual.ensures.1 in
    let now = at c.args.self.now.store c.args.disk.now (g.S.Spawner.told c.args.tools.now) in
    refused_looks _ g.D.Disk.told c.args.self.now.graph c.args.self.now.jobs c.args.text.now now _ _ (given.1 ∙ ap (λ f. Err f) given.2)

-- ---- a text of a node

pub returns-clause-ok : goal.returns-clause-ok
returns-clause-ok g c =
    let old = at c.args.self.now.store c.args.disk.now (g.S.Spawner.told c.args.tools.now) in
    let new = at c.derive-derived.new.self.store c.derive-derived.new.disk (g.S.Spawner.told c.derive-derived.new.tools) in
    subst (λ r. IfOk r (IsAnswered g.D.Disk.told c.args.self.now.graph c.args.self.now.jobs c.args.text.now old new)) (sym c.answer_of.ensures)
    (answered g.D.Disk.told c.args.self.now.graph c.args.self.now.jobs c.args.text.now c.in_ok-node.node c.in_ok-node.ensures.ok old new c.derive-derived.result c.derive-derived.ensures.derived.found)

pub returns-clause-err : goal.returns-clause-err
returns-clause-err g c =
    let old = at c.args.self.now.store c.args.disk.now (g.S.Spawner.told c.args.tools.now) in
    let new = at c.derive-derived.new.self.store c.derive-derived.new.disk (g.S.Spawner.told c.derive-derived.new.tools) in
    subst (λ r. IfErr r (IsAskFault g.D.Disk.told c.args.self.now.graph c.args.self.now.jobs c.args.text.now old new)) (sym c.answer_of.ensures)
    (faulted g.D.Disk.told c.args.self.now.graph c.args.self.now.jobs c.args.text.now c.in_ok-node.node c.in_ok-node.ensures.ok old new c.derive-derived.result c.derive-derived.ensures.derived.found c.derive-derived.ensures.derived.stopped)

pub returns-clause-rest : goal.returns-clause-rest
returns-clause-rest g c = subst (ComesToRest AskLeavesTools _ _ _) (sym c.answer_of.ensures) (rests_so _ _ _ c.derive-derived.result c.derive-derived.ensures.rest)

pub returns-clause-left : goal.returns-clause-left
returns-clause-left g c = subst (StoreAfterAsk _ _) (sym c.answer_of.ensures) (left_so c.derive-derived.new.self.store _ c.derive-derived.result c.derive-derived.ensures.left)

pub returns-clause-cause : goal.returns-clause-cause
returns-clause-cause g c = subst (AskFaultIsCounted _ _) (sym c.answer_of.ensures) (cause_so _ _ c.derive-derived.result c.derive-derived.ensures.cause)

pub returns-clause-counted : goal.returns-clause-counted
returns-clause-counted g c =
    let old = at c.args.self.now.store c.args.disk.now (g.S.Spawner.told c.args.tools.now) in
    let new = at c.derive-derived.new.self.store c.derive-derived.new.disk (g.S.Spawner.told c.derive-derived.new.tools) in
    subst (AreAskLooks g.D.Disk.told c.args.self.now.graph c.args.self.now.jobs c.args.text.now old new _ _) (sym c.answer_of.ensures)
    (looks_so g.D.Disk.told c.args.self.now.graph c.args.self.now.jobs c.args.text.now c.in_ok-node.node c.in_ok-node.ensures.ok old new _ _ c.derive-derived.result c.derive-derived.ensures.derived.found c.derive-derived.ensures.derived.looks)
