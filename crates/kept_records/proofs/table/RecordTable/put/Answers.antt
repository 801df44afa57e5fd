use Rattle.std.proofs.Common.{◌≡◌, ◌∙◌, ap, subst, sym}
use Rattle.std.proofs.Math.ListN.{set}
use Rattle.std.specs.Prelude.{Some}
use Rattle.kept_records.specs.Records.{RecordStock, node_at, put_record}
use Rattle.kept_records.proofs.RecordLemmas.{put_last}
use Rattle.kept_records.proofs.PlaceLemmas.{index_same, put_at, set_nodes}
use Rattle.kept_records.proofs.table.RecordTable.put.Goals as goal

pub invariant_of-self : goal.invariant_of-self
invariant_of-self c =
    let records = c.self.inside.records.items in
    let at : node_at records c.in-Some.place ≡ Some c.args.noted.node =
    subst (λ (s : RecordStock). node_at s.records c.in-Some.place ≡ Some c.args.noted.node) (sym c.self.view_is) c.in-Some.ensures.some in
    index_same records c.self.inside.marks c.self.invariant (set records c.in-Some.place c.args.noted) (set_nodes records c.in-Some.place c.args.noted at)

pub returns-in-Some-clause-put : goal.returns-in-Some-clause-put
returns-in-Some-clause-put c =
    let records = c.self.inside.records.items in
    let at : node_at records c.in-Some.place ≡ Some c.args.noted.node =
    subst (λ (s : RecordStock). node_at s.records c.in-Some.place ≡ Some c.args.noted.node) (sym c.self.view_is) c.in-Some.ensures.some in
    put_at records c.self.invariant.once c.in-Some.place c.args.noted at ∙ ap (λ (s : RecordStock). put_record c.args.noted s.records) c.self.view_is

pub returns-in-None-clause-put : goal.returns-in-None-clause-put
returns-in-None-clause-put c = c.add.ensures.records ∙ sym (put_last c.args.noted c.args.self.now.records c.in-None.ensures.none)
