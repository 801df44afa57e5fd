use Rattle.std.proofs.Common.{arith}
use Rattle.kept_contents.proofs.InputLemmas.{digested_whole}
use Rattle.kept_contents.proofs.inputs.digest_with_head.Goals as goal

pub returns : goal.returns
returns c = digested_whole c.args.table.now.texts c.args.head c.args.parts.now c.loop-part.part-index c.loop-part.state c.digest.result (omega arith) c.loop-part.invariant c.digest.ensures
