use Rattle.std.proofs.Common.{◌≤◌, List, length, subst, arith}
use Rattle.std.proofs.lemmas.List.{take_all}
use Rattle.object_values.specs.declared.nodes.ParamValue.{ParamValue}
use Rattle.request_parser.specs.Kept.{KeepsOne, KeepsAll}
use Rattle.request_parser.proofs.MergedLemmas.{none_more, one_more}
use Rattle.request_parser.proofs.merged.keep_all.Goals as goal

pub loop-param-init : goal.loop-param-init
loop-param-init c = none_more c.args.params.now.items

pub loop-param-preserved : goal.loop-param-preserved
loop-param-preserved c =
    one_more c.args.more.now c.args.params.now.items c.loop-param.params.items c.keep.new.params.items c.loop-param.param-index c.param-item.result c.loop-param-test.true c.param-item.is c.loop-param.invariant
    (subst (λ (p : ParamValue). KeepsOne p c.loop-param.params.items c.keep.new.params.items) c.in_ok-copy.ensures c.in_ok-keep.ensures)

pub returns : goal.returns
returns c =
    let end : length c.args.more.now ≤ c.loop-param.param-index = omega arith in
    subst (λ (ps : List ParamValue). KeepsAll ps c.args.params.now.items c.loop-param.params.items) (take_all c.loop-param.param-index c.args.more.now end) c.loop-param.invariant
