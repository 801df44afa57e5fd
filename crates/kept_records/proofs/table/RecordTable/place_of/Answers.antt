use Rattle.std.proofs.Common.{◌≡◌, subst}
use Rattle.std.specs.Prelude.{None, Some, slice_get}
use Rattle.kept_records.specs.Records.{RecordStock, node_at, record_of}
use Rattle.kept_records.proofs.PlaceLemmas.{found_nowhere, record_found}
use Rattle.kept_records.proofs.table.RecordTable.place_of.Goals as goal

pub returns-in-Some-clause-kept : goal.returns-in-Some-clause-kept
returns-in-Some-clause-kept c =
    let records = c.self.inside.records.items in
    let at : node_at records c.in-Some.place ≡ Some c.args.node.now = rw c.as_slice.ensures.value at c.in-Some.ensures.some in
    subst (λ (s : RecordStock). record_of c.args.node.now s.records ≡ slice_get s.records c.in-Some.place) c.self.view_is (record_found records c.self.invariant.once c.in-Some.place c.args.node.now at)

pub returns-clause-none : goal.returns-clause-none
returns-clause-none c =
    let none = rw c.as_slice.ensures.value at c.in-None.ensures.none in
    subst (λ (s : RecordStock). record_of c.args.node.now s.records ≡ None) c.self.view_is (found_nowhere c.self.inside.records.items c.self.inside.marks c.self.invariant c.args.node.now none)
