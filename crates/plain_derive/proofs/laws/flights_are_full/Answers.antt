use Rattle.plain_derive.proofs.FlightLemmas.{flights_are_few, full_is_lesser}
use Rattle.plain_derive.proofs.laws.flights_are_full.Goals as goal

pub returns-clause-few : goal.returns-clause-few
returns-clause-few c = flights_are_few

pub returns-clause-lesser : goal.returns-clause-lesser
returns-clause-lesser c = full_is_lesser
