use Rattle.std.proofs.Common.{Option, subst}
use Rattle.object_values.specs.declared.replies.ShownBody.{ShownBody}
use Rattle.project_build.specs.Built.{writes_in}
use Rattle.project_build.specs.Writes.{HaveWritten, none_written}
use Rattle.project_build.proofs.targets.write_reply.Goals as goal

pub returns-in-None-clause-ok : goal.returns-in-None-clause-ok
returns-in-None-clause-ok g c =
    let files = g.O.Outputs.files c.args.outputs.now in
    subst (λ (body : Option ShownBody). HaveWritten files (writes_in c.args.file.now body) files) c.in-None.ensures none_written
