use Rattle.dynamic_inputs.proofs.TellingLaws.{told_first, told_next}
use Rattle.dynamic_inputs.proofs.laws.each_is_told_in_turn.Goals as goal

pub returns : goal.returns
returns c own lines = record { first = told_first own lines; next = told_next own lines }
