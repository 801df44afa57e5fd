use Rattle.std.proofs.Common.{◌≡◌, ◌∙◌, ap, length, subst, sym}
use Rattle.std.specs.Prelude.{None}
use Rattle.content_store.specs.Marks.{Finds}
use Rattle.kept_records.specs.Records.{RecordStock, record_of}
use Rattle.kept_records.specs.NodeMarks.{marks_of}
use Rattle.kept_records.proofs.PlaceLemmas.{index_new}
use Rattle.kept_records.proofs.table.RecordTable.add.Goals as goal

pub invariant_of-self : goal.invariant_of-self
invariant_of-self c =
    let records = c.self.inside.records.items in
    let node = c.args.noted.node in
    let none : record_of node records ≡ None = subst (λ (s : RecordStock). record_of node s.records ≡ None) (sym c.self.view_is) c.requires.new in
    let long : c.len-place.result ≡ length records = c.len-place.ensures ∙ sym c.as_slice.ensures.len ∙ ap length c.as_slice.ensures.value in
    let there : Finds c.add.new.self (marks_of node) (length records) = subst (λ n. Finds c.add.new.self (marks_of node) n) long c.add.ensures.added in
    rw c.push_within.ensures.items (index_new records c.self.inside.marks c.self.invariant c.args.noted c.add.new.self none c.add.ensures.kept there)
