use Rattle.std.proofs.Common.{refl, inl}
use Rattle.kept_derive.specs.Runs.{at}
use Rattle.fresh_build.specs.Built.{HasNotBuilt}
use Rattle.fresh_build.proofs.BuildLemmas.{has_built, has_not_replied}
use Rattle.fresh_build.proofs.SetLemmas.{handed}
use Rattle.fresh_build.proofs.built.build.Goals as goal

pub returns-in_err-set_sources-clause-err : goal.returns-in_err-set_sources-clause-err
returns-in_err-set_sources-clause-err g c =
    let engine = c.args.engine.now in
    let tools = g.S.Spawner.told c.args.tools.now in
    let e = c.in_err-set_sources.field-0.0 in
    handed (HasNotBuilt g.D.Disk.told engine.graph engine.jobs c.args.wanted.now.texts c.args.text.now (at engine.store c.args.disk.now tools)
    (at c.set_sources.new.engine.store c.set_sources.new.disk tools))
    c.from_residual.result e c.from_residual.ensures.1 (inl (record { failed = c.in_err-set_sources.ensures.err; tools = refl }))

pub returns-clause-ok : goal.returns-clause-ok
returns-clause-ok g c =
    let engine = c.args.engine.now in
    let mid = c.set_sources.new.engine in
    let tools = g.S.Spawner.told c.args.tools.now in
    has_built g.D.Disk.told engine.graph mid.graph engine.jobs mid.jobs c.args.wanted.now.texts c.args.text.now (at engine.store c.args.disk.now tools)
    (at mid.store c.set_sources.new.disk tools)
    (at c.answer_ask.new.engine.store c.answer_ask.new.disk (g.S.Spawner.told c.answer_ask.new.tools))
    c.in_ok-set_sources.ensures.stays.graph c.in_ok-set_sources.ensures.stays.jobs c.in_ok-set_sources.ensures.ok refl c.answer_ask.result c.answer_ask.ensures.ok

pub returns-clause-err : goal.returns-clause-err
returns-clause-err g c =
    let engine = c.args.engine.now in
    let mid = c.set_sources.new.engine in
    let tools = g.S.Spawner.told c.args.tools.now in
    has_not_replied g.D.Disk.told engine.graph mid.graph engine.jobs mid.jobs c.args.wanted.now.texts c.args.text.now
    (at engine.store c.args.disk.now tools) (at mid.store c.set_sources.new.disk tools)
    (at c.answer_ask.new.engine.store c.answer_ask.new.disk (g.S.Spawner.told c.answer_ask.new.tools))
    c.in_ok-set_sources.ensures.stays.graph c.in_ok-set_sources.ensures.stays.jobs c.in_ok-set_sources.ensures.ok refl c.answer_ask.result c.answer_ask.ensures.err
