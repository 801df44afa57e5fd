use Rattle.std.proofs.Common.{ap, sym, ◌∙◌, arith}
use Rattle.std.specs.Prelude.{Some}
use Rattle.std.proofs.lemmas.Option.{slice_get-get_or}
use Rattle.content_store.specs.Bodies.{place_of_body}
use Rattle.kept_contents.specs.Stocks.{ContentStock, values_of_contents}
use Rattle.kept_contents.proofs.Numbers.{id_within, led}
use Rattle.kept_contents.proofs.table.ContentTable.number.Goals as goal

pub index-requires : goal.index-requires
index-requires c =
    let held = ap (λ (s : ContentStock). place_of_body c.args.shared.now.text s.texts) c.self.view_is ∙ c.requires in
    let within = id_within (values_of_contents c.self.inside.contents.items) c.self.inside.texts c.self.inside.numbers.items c.self.invariant.0 c.args.shared.now.text c.args.shared.now.id held in
    omega (arith, within)

pub returns-clause-some : goal.returns-clause-some
returns-clause-some c =
    let held = ap (λ (s : ContentStock). place_of_body c.args.shared.now.text s.texts) c.self.view_is ∙ c.requires in
    let within = id_within (values_of_contents c.self.inside.contents.items) c.self.inside.texts c.self.inside.numbers.items c.self.invariant.0 c.args.shared.now.text c.args.shared.now.id held in
    rw (← c.self.view_is) (led (values_of_contents c.self.inside.contents.items) c.self.inside.texts c.self.inside.numbers.items c.self.invariant.0 c.args.shared.now.text c.args.shared.now.id c.index.result.now held (slice_get-get_or _ _ _ within ∙ ap Some (sym c.index.ensures))).0

pub returns-clause-none : goal.returns-clause-none
returns-clause-none c =
    let held = ap (λ (s : ContentStock). place_of_body c.args.shared.now.text s.texts) c.self.view_is ∙ c.requires in
    let within = id_within (values_of_contents c.self.inside.contents.items) c.self.inside.texts c.self.inside.numbers.items c.self.invariant.0 c.args.shared.now.text c.args.shared.now.id held in
    rw (← c.self.view_is) (led (values_of_contents c.self.inside.contents.items) c.self.inside.texts c.self.inside.numbers.items c.self.invariant.0 c.args.shared.now.text c.args.shared.now.id c.index.result.now held (slice_get-get_or _ _ _ within ∙ ap Some (sym c.index.ensures))).1
