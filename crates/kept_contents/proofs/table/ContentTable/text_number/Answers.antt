use Rattle.std.proofs.Common.{◌≡◌, ◌∙◌, ap, arith, rules, sym}
use Rattle.std.specs.Prelude.{None, Some}
use Rattle.std.proofs.lemmas.Option.{slice_get-get_or}
use Rattle.content_store.specs.Bodies.{place_of_body}
use Rattle.kept_contents.specs.Stocks.{values_of_contents}
use Rattle.kept_contents.proofs.Numbers.{id_within, number_found, number_missed}
use Rattle.kept_contents.proofs.table.ContentTable.text_number.Goals as goal

pub returns-in_err-id : goal.returns-in_err-id
returns-in_err-id c =
    let none : place_of_body c.args.text.now c.self.inside.texts ≡ None = sym c.find.ensures ∙ c.in_err-id.was in
    let gone : c.from_residual.result ≡ None = search rules in
    rw (← c.self.view_is) (gone ∙ sym (number_missed (values_of_contents c.self.inside.contents.items) c.self.inside.texts c.self.inside.numbers.items c.self.invariant.0 c.args.text.now none))

pub index-requires : goal.index-requires
index-requires c =
    let at : place_of_body c.args.text.now c.self.inside.texts ≡ Some c.in_ok-id.id = sym c.find.ensures ∙ c.in_ok-id.was in
    let within = id_within (values_of_contents c.self.inside.contents.items) c.self.inside.texts c.self.inside.numbers.items c.self.invariant.0 c.args.text.now c.in_ok-id.id at in
    omega (arith, within)

pub returns-in-Some : goal.returns-in-Some
returns-in-Some c =
    let at : place_of_body c.args.text.now c.self.inside.texts ≡ Some c.in_ok-id.id = sym c.find.ensures ∙ c.in_ok-id.was in
    let within = id_within (values_of_contents c.self.inside.contents.items) c.self.inside.texts c.self.inside.numbers.items c.self.invariant.0 c.args.text.now c.in_ok-id.id at in
    rw (← c.self.view_is) (number_found (values_of_contents c.self.inside.contents.items) c.self.inside.texts c.self.inside.numbers.items c.self.invariant.0 c.args.text.now c.in_ok-id.id (Some c.in-Some.number) at (slice_get-get_or _ _ _ within ∙ ap Some (sym c.index.ensures ∙ c.in-Some.is)))

pub returns-in-None : goal.returns-in-None
returns-in-None c =
    let at : place_of_body c.args.text.now c.self.inside.texts ≡ Some c.in_ok-id.id = sym c.find.ensures ∙ c.in_ok-id.was in
    let within = id_within (values_of_contents c.self.inside.contents.items) c.self.inside.texts c.self.inside.numbers.items c.self.invariant.0 c.args.text.now c.in_ok-id.id at in
    rw (← c.self.view_is) (number_found (values_of_contents c.self.inside.contents.items) c.self.inside.texts c.self.inside.numbers.items c.self.invariant.0 c.args.text.now c.in_ok-id.id None at (slice_get-get_or _ _ _ within ∙ ap Some (sym c.index.ensures ∙ c.in-None.is)))
