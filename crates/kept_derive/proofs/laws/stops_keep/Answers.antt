use Rattle.kept_derive.proofs.StopLemmas.{stops_keep as keep, disk_stops, stops_are_true}
use Rattle.kept_derive.proofs.laws.stops_keep.Goals as goal

pub returns-clause-keep : goal.returns-clause-keep
returns-clause-keep g c = λ graph n limit old new fault apart stopped. keep g.D.Disk.told graph n limit old new c.changes_follow.ensures fault apart stopped

pub returns-clause-disk : goal.returns-clause-disk
returns-clause-disk g c = λ graph n limit old new stopped. disk_stops g.D.Disk.told graph n limit old new stopped

pub returns-clause-right : goal.returns-clause-right
returns-clause-right g c = λ table graph n limit old new fault apart answer right knows stopped. stops_are_true g.D.Disk.told graph n limit old new table fault apart answer right knows stopped
