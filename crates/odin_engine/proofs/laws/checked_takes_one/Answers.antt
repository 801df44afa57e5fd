use Rattle.odin_engine.proofs.LookingLemmas.{takes_one}
use Rattle.odin_engine.proofs.laws.checked_takes_one.Goals as goal

pub returns : goal.returns
returns c = λ graph text old new first last known n is stepped checked counted.
    takes_one c.checked_root_is_one.ensures graph text old new first last known n is stepped checked counted
