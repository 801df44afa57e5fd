use Rattle.std.proofs.Common.{◌≡◌, ◌∙◌, ap, sym}
use Rattle.kept_records.specs.Laws.{nodes_of}
use Rattle.kept_records.specs.Records.{RecordStock}
use Rattle.kept_records.proofs.PlaceLemmas.{index_same}
use Rattle.kept_records.proofs.table.RecordTable.replace.Goals as goal

pub invariant_of-self : goal.invariant_of-self
invariant_of-self c =
    let same : nodes_of c.args.records.items ≡ nodes_of c.self.inside.records.items = c.requires ∙ ap (λ (s : RecordStock). nodes_of s.records) (sym c.self.view_is) in
    index_same c.self.inside.records.items c.self.inside.marks c.self.invariant c.args.records.items same
