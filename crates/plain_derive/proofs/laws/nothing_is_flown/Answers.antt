use Rattle.plain_derive.proofs.FlightLemmas.{refused_fly_none, known_fly_none}
use Rattle.plain_derive.proofs.laws.nothing_is_flown.Goals as goal

pub returns-clause-refused : goal.returns-clause-refused
returns-clause-refused c = refused_fly_none

pub returns-clause-known : goal.returns-clause-known
returns-clause-known c = known_fly_none
