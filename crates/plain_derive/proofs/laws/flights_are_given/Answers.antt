use Rattle.plain_derive.proofs.FlightLemmas.{is_flown, counted_on}
use Rattle.plain_derive.proofs.FollowLemmas.{flights_are_logged}
use Rattle.plain_derive.proofs.laws.flights_are_given.Goals as goal

pub returns-clause-given : goal.returns-clause-given
returns-clause-given c = is_flown

pub returns-clause-counted : goal.returns-clause-counted
returns-clause-counted c = counted_on

pub returns-clause-logged : goal.returns-clause-logged
returns-clause-logged c = flights_are_logged
