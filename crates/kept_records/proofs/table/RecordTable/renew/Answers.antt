use Rattle.std.proofs.Common.{◌≡◌, ◌∙◌, ap, length, refl, subst, sym}
use Rattle.std.proofs.lemmas.Option.{slice_get_read}
use Rattle.std.specs.Prelude.{Some, option_map, slice_get}
use Rattle.object_values.specs.declared.records.NodeRecord.{NodeRecord}
use Rattle.kept_records.specs.Records.{RecordStock, node_at, renew_record}
use Rattle.kept_records.proofs.PlaceLemmas.{index_same, node_within, renew_at, set_nodes}
use Rattle.kept_records.proofs.table.RecordTable.renew.Goals as goal

pub invariant_of-self : goal.invariant_of-self
invariant_of-self c =
    let records = c.self.inside.records.items in
    let place = c.in-Some.place in
    let kept = c.index_mut-kept.result.now in
    let at : node_at records place ≡ Some c.args.node.now =
    subst (λ (s : RecordStock). node_at s.records place ≡ Some c.args.node.now) (sym c.self.view_is) c.in-Some.ensures.some in
    let here : slice_get records place ≡ Some kept =
    slice_get_read records (length records) place kept refl (node_within c.args.node.now records place at) c.index_mut-kept.ensures.value in
    index_same records c.self.inside.marks c.self.invariant _ (set_nodes records place _ (ap (option_map (λ (r : NodeRecord). r.node)) here))

pub returns-in-Some-clause-renewed : goal.returns-in-Some-clause-renewed
returns-in-Some-clause-renewed c =
    let records = c.self.inside.records.items in
    let place = c.in-Some.place in
    let node = c.args.node.now in
    let kept = c.index_mut-kept.result.now in
    let at : node_at records place ≡ Some node =
    subst (λ (s : RecordStock). node_at s.records place ≡ Some node) (sym c.self.view_is) c.in-Some.ensures.some in
    let here : slice_get records place ≡ Some kept =
    slice_get_read records (length records) place kept refl (node_within node records place at) c.index_mut-kept.ensures.value in
    renew_at records c.self.invariant.once place node c.args.present c.args.epoch kept at here
    ∙ ap (λ (s : RecordStock). renew_record node c.args.present c.args.epoch s.records) c.self.view_is
