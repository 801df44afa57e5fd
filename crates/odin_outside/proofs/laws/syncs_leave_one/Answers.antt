use Rattle.odin_outside.specs.Steps.{synced_image, synced_only}
use Rattle.odin_outside.proofs.laws.syncs_leave_one.Goals as goal

pub returns : goal.returns
returns c = λ image. (synced_image image, synced_only image)
