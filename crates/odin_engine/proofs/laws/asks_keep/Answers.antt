use Rattle.odin_engine.proofs.AskLawLemmas.{answers_keep, faults_keep, disk_stops_ask}
use Rattle.odin_engine.proofs.laws.asks_keep.Goals as goal

pub returns-clause-answers : goal.returns-clause-answers
returns-clause-answers g c = λ graph limit text old new view answered. answers_keep g.D.Disk.told graph limit text old new view answered

pub returns-clause-faults : goal.returns-clause-faults
returns-clause-faults g c = λ graph limit text old new given apart so. faults_keep g.D.Disk.told graph limit text old new c.changes_follow.ensures given apart so

pub returns-clause-disk : goal.returns-clause-disk
returns-clause-disk g c = λ graph limit text old new so. disk_stops_ask g.D.Disk.told graph limit text old new so
