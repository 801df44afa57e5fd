use Rattle.std.proofs.Common.{List, ◌∙◌, subst}
use Rattle.object_values.specs.declared.nodes.ParamValue.{ParamValue}
use Rattle.request_parser.specs.Kept.{KeepsAll}
use Rattle.request_parser.proofs.MergedLemmas.{both_kept}
use Rattle.request_parser.proofs.merged.merge_params.Goals as goal

pub returns : goal.returns
returns c =
    c.from_vec.ensures
    ∙ both_kept c.args.first.now c.args.second.now c.keep_all.new.params.items c.keep_all-2.new.params.items
    (subst (λ (old : List ParamValue). KeepsAll c.args.first.now old c.keep_all.new.params.items) c.new-params.ensures.items c.in_ok-keep_all.ensures)
    c.in_ok-keep_all-2.ensures
