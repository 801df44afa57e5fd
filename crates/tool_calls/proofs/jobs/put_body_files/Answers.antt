use Rattle.std.proofs.Common.{◌+◌, ◌++◌, [], ap, ◌∙◌, arith}
use Rattle.meaning_calls.specs.Jobs.{put_file}
use Rattle.tool_calls.proofs.Numbered.{files_more}
use Rattle.tool_calls.proofs.jobs.put_body_files.Goals as goal

pub loop-place-preserved : goal.loop-place-preserved
loop-place-preserved c =
    let part = c.index-parts-place.result in
    c.in_ok-put_body_file.ensures ∙ ap (λ files. files ++ put_file (c.loop-place.place + 1) part.body []) c.loop-place.invariant
    ∙ files_more c.args.files.now c.args.parts.now c.loop-place.place part (omega arith) c.index-parts-place.is
