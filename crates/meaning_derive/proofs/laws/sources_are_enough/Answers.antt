use Rattle.meaning_derive.proofs.SameSources.{sources_enough}
use Rattle.meaning_derive.proofs.laws.sources_are_enough.Goals as goal

pub returns : goal.returns
returns c = sources_enough
