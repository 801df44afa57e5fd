use Rattle.meaning_records.proofs.Roles.{reached_stand_last, reached_are_counted}
use Rattle.meaning_records.proofs.laws.reached_stand_last.Goals as goal

pub returns : goal.returns
returns c = record { last = reached_stand_last; count = reached_are_counted }
