use Rattle.std.proofs.Common.{◌+◌, ◌++◌, ap, ◌∙◌, arith}
use Rattle.meaning_texts.specs.Lines.{with_lf}
use Rattle.meaning_calls.specs.Jobs.{part_line}
use Rattle.tool_calls.proofs.Numbered.{written_more}
use Rattle.tool_calls.proofs.call_file.write_parts.Goals as goal

pub loop-place-preserved : goal.loop-place-preserved
loop-place-preserved c =
    let part = c.index-parts-place.result in
    c.in_ok-write_part.ensures ∙ ap (λ out. out ++ with_lf (part_line (c.loop-place.place + 1) part)) c.loop-place.invariant
    ∙ written_more c.args.out.now c.args.parts.now c.loop-place.place part (omega arith) c.index-parts-place.is
