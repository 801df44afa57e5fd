use Rattle.call_layout.proofs.ReadBack.{read_back}
use Rattle.call_layout.proofs.laws.call_is_read_back.Goals as goal

pub returns : goal.returns
returns c = read_back
