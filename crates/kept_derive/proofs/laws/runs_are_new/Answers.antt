use Rattle.kept_derive.proofs.LawLemmas.{runs_new, all_kept, none_run_again, answer_stays}
use Rattle.kept_derive.proofs.laws.runs_are_new.Goals as goal

pub returns-clause-new : goal.returns-clause-new
returns-clause-new g c = λ graph n limit course old given noted new run. runs_new g.D.Disk.told graph n limit old new course given noted run

pub returns-clause-all : goal.returns-clause-all
returns-clause-all g c = λ graph n limit old new view knows has. all_kept g.D.Disk.told graph n limit old new view knows has

pub returns-clause-none : goal.returns-clause-none
returns-clause-none g c = none_run_again g.D.Disk.told

pub returns-clause-same : goal.returns-clause-same
returns-clause-same g c = answer_stays g.D.Disk.told
