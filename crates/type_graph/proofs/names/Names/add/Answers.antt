-- A name that is there adds nothing, and a new one goes last.
use Rattle.std.proofs.Common.{◌≡◌, ◌∙◌, sym, ap, map, true, false}
use Rattle.std.specs.Prelude.{is_some}
use Rattle.type_graph.specs.Places.{place_of}
use Rattle.type_graph.proofs.PlaceLemmas.{seen, lookup_seen, kept_place, added_place}
use Rattle.type_graph.proofs.names.Names.add.Goals as goal

pub returns-then-contains_key : goal.returns-then-contains_key
returns-then-contains_key c =
    let there : is_some (place_of c.args.self.now c.args.name.now) ≡ true =
    sym (ap (λ v. is_some (place_of v c.args.name.now)) c.self.view_is)
    ∙ sym (ap is_some (lookup_seen c.self.inside.places.entries c.args.name.now)) ∙ sym c.contains_key.ensures ∙ c.if-contains_key.true in
    kept_place c.args.self.now c.args.name.now c.args.place there

pub returns : goal.returns
returns c =
    let absent : is_some (place_of c.args.self.now c.args.name.now) ≡ false =
    sym (ap (λ v. is_some (place_of v c.args.name.now)) c.self.view_is)
    ∙ sym (ap is_some (lookup_seen c.self.inside.places.entries c.args.name.now)) ∙ sym c.contains_key.ensures ∙ c.if-contains_key.false in
    ap (map seen) c.in_ok-insert.ensures.entries
    ∙ added_place c.self.inside.places.entries c.in_ok-to_vec.field-0 c.args.self.now c.args.name.now c.args.place (c.in_ok-to_vec.ensures.items_if_clones_equal (λ x y same. same)) c.self.view_is absent
