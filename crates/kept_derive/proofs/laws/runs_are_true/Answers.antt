use Rattle.kept_derive.proofs.LawLemmas.{runs_are_true as are_true, found_is_true}
use Rattle.kept_derive.proofs.laws.runs_are_true.Goals as goal

pub returns-clause-kept : goal.returns-clause-kept
returns-clause-kept g c = are_true g.D.Disk.told

pub returns-clause-found : goal.returns-clause-found
returns-clause-found g c = found_is_true g.D.Disk.told
