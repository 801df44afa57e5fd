use Rattle.plain_derive.proofs.LogLemmas.{rests}
use Rattle.plain_derive.proofs.derivation.derive_plain.Goals as goal

pub returns-clause-rest : goal.returns-clause-rest
returns-clause-rest g c = rests _ _ _ _ _ _ c.requires.idle c.derive_counted.ensures.found c.derive_counted.ensures.given_up
