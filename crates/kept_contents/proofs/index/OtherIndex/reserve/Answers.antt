use Rattle.std.specs.Prelude.{nat_eq}
use Rattle.std.specs.Cmp.Lexicographic.{pointwise}
use Rattle.std.specs.HashMap.{get}
use Rattle.kept_contents.proofs.IndexLemmas.{index_alike}
use Rattle.kept_contents.proofs.index.OtherIndex.reserve.Goals as goal

pub returns-in_err-reserve-2-clause-same : goal.returns-in_err-reserve-2-clause-same
returns-in_err-reserve-2-clause-same c contents is = index_alike contents (get (pointwise nat_eq) c.args.self.now.first) (get (pointwise nat_eq) c.reserve.new.self) c.args.self.now.clashing.items c.reserve-2.new.self.items c.reserve.ensures.entries.2 c.reserve-2.ensures.items is

pub returns-clause-same : goal.returns-clause-same
returns-clause-same c contents is = index_alike contents (get (pointwise nat_eq) c.args.self.now.first) (get (pointwise nat_eq) c.reserve.new.self) c.args.self.now.clashing.items c.reserve-2.new.self.items c.reserve.ensures.entries.2 c.reserve-2.ensures.items is
