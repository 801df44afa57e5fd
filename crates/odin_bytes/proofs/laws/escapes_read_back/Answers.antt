use Rattle.odin_bytes.proofs.EscapeLemmas.{escaped_injective}
use Rattle.odin_bytes.proofs.laws.escapes_read_back.Goals as goal

pub returns : goal.returns
returns c = escaped_injective
