use Rattle.odin_shell.proofs.StayLemmas.{stay, stay_left}
use Rattle.odin_shell.proofs.laws.sources_stay_sources.Goals as goal

pub returns : goal.returns
returns c = record { replied = stay; left = stay_left }
