use Rattle.odin_shell.proofs.TrustLemmas.{met_replied, met_left}
use Rattle.odin_shell.proofs.laws.trust_is_met.Goals as goal

pub returns : goal.returns
returns c = record { replied = met_replied; left = met_left }
