use Rattle.std.proofs.lemmas.Fmt.{decimal_injective}
use Rattle.odin_bytes.proofs.laws.numbers_read_back.Goals as goal

pub returns : goal.returns
returns c = decimal_injective
