use Rattle.std.proofs.Common.{◌+◌, ◌∙◌, ◌∷◌, [], ap, sym}
use Rattle.build_files.specs.Files.{numbered_files}
use Rattle.build_files.proofs.FileLemmas.{numbered_step}
use Rattle.build_files.proofs.files.numbered_files.Goals as goal

pub loop-place-preserved : goal.loop-place-preserved
loop-place-preserved c =
    let place = c.loop-place.place in
    numbered_step c.args.lines.now place c.index-lines-place.result c.loop-place.files c.push.new.self c.in_ok-numbered_file.field-0
    c.loop-place-test.true c.index-lines-place.is c.loop-place.invariant c.in_ok-push.ensures.ok
    (ap (λ line. numbered_files (place + 1) (line ∷ [])) (sym c.as_slice.ensures) ∙ c.in_ok-numbered_file.ensures)
