use Rattle.std.proofs.Common.{None, subst}
use Rattle.dg_reader.specs.Walks.{class_of, MayFind}
use Rattle.dg_reader.proofs.WalkLemmas.{stops_class}
use Rattle.dg_reader.proofs.cursor.Cursor.take.Goals as goal

pub returns-in-None-clause-err : goal.returns-in-None-clause-err
returns-in-None-clause-err c =
    let none : MayFind c.args.wanted None c.args.self.now c.take_if.new.self = subst (λ o. MayFind c.args.wanted o c.args.self.now c.take_if.new.self) c.in-None.is c.in_ok-bytes.ensures in
    λ more stage. rw none.0 (stops_class (class_of c.args.wanted) c.args.self.now none.1 more stage)
