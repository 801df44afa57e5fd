use Rattle.std.proofs.Common.{◌∙◌, sym, subst}
use Rattle.std.proofs.lemmas.List.Elements.{All-more}
use Rattle.call_layout.specs.Layout.{PartCanStand}
use Rattle.call_layout.proofs.Firsts.{fault_in, done_of, all_of_them}
use Rattle.call_layout.proofs.layout.check_parts.Goals as goal

pub loop-part-preserved : goal.loop-part-preserved
loop-part-preserved c =
    let parts = c.args.firsts.now.parts.now in
    let stands = done_of c.check_part-checked.result _ (sym c.is_err.ensures.value ∙ c.if-is_err.false) c.check_part-checked.ensures.ok in
    All-more (PartCanStand c.args.outs.now parts) parts c.loop-part.part-index c.part-item.result c.loop-part-test.true c.loop-part.invariant
    (subst (PartCanStand c.args.outs.now parts) c.part-item.is stands)

pub returns-then-is_err-clause-err : goal.returns-then-is_err-clause-err
returns-then-is_err-clause-err c =
    fault_in _ _ c.loop-part.part-index c.part-item.result c.check_part-checked.result c.loop-part-test.true c.part-item.is c.check_part-checked.ensures.there c.check_part-checked.ensures.err

pub returns-clause-ok : goal.returns-clause-ok
returns-clause-ok c = all_of_them (PartCanStand c.args.outs.now c.args.firsts.now.parts.now) c.args.firsts.now.parts.now c.loop-part.part-index c.loop-part-test.false c.loop-part.invariant
