use Rattle.std.proofs.Common.{◌<◌, length, arith}
use Rattle.kept_tables.proofs.SizeLemmas.{contents_next}
use Rattle.kept_tables.proofs.live_sizes.size_of_contents.Goals as goal

pub loop-content-preserved : goal.loop-content-preserved
loop-content-preserved c =
    let contents = c.args.contents.now in
    let within : c.loop-content.content-index < length contents = omega arith in
    contents_next contents c.loop-content.content-index c.content-item.result within c.content-item.is c.loop-content.size c.in_ok-size_of_content.field-0
    c.in_ok-size.size c.loop-content.invariant c.in_ok-size_of_content.ensures c.in_ok-size.ensures
