use Rattle.std.proofs.Common.{subst}
use Rattle.odin_real.specs.Opens.{IsOpened}
use Rattle.odin_real.proofs.Given.{given_front}
use Rattle.odin_real.proofs.read.read_raw.Goals as goal

pub returns-in_ok-read_front-in-Ok-Some-clause-ok :
    goal.returns-in_ok-read_front-in-Ok-Some-clause-ok
returns-in_ok-read_front-in-Ok-Some-clause-ok g c =
    let opened = subst (IsOpened g.R.Opened.Read.remaining (g.R.RawFiles.bodies c.args.files.now) c.args.path.now) c.in-Ok-Some.field-0-is c.in-Ok-Some.ensures.ok in
    given_front g.R.Opened.Read.remaining (g.R.RawFiles.bodies c.args.files.now) c.args.path.now c.in-Ok-Some.file c.in-Ok-Some.size _ opened c.in_ok-read_front-in-Ok-Some.ensures
