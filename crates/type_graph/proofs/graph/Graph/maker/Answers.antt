-- The declaration at the place of a maker is the maker.
use Rattle.std.proofs.Common.{◌∙◌, sym, ap, slice_get}
use Rattle.std.specs.Prelude.{option_map}
use Rattle.meaning_graph.specs.Graphs.{makers, as_maker}
use Rattle.type_graph.proofs.TableLemmas.{maker_there, maker_here, no_other, read_at, past_at, none_here}
use Rattle.type_graph.proofs.graph.Graph.maker.Goals as goal

pub returns-in_err-maker : goal.returns-in_err-maker
returns-in_err-maker c =
    let at = read_at c.as_slice.result.now c.self.inside.tables.numbers.maker_places c.args.number c.in_ok-place.field-0.now c.as_slice.ensures c.in_ok-place.ensures.lookup.3.0 c.in_ok-place.ensures.lookup.3.1 in
    let here = past_at c.as_slice-2.result.now c.self.inside.decls c.in_ok-place.field-0.now c.as_slice-2.ensures c.in_err-maker.ensures.lookup.3 in
    ap (option_map (λ m. m.now)) c.from_residual-in_err-maker.ensures
    ∙ sym (maker_there c.self.inside.decls c.self.inside.tables.numbers.maker_places c.self.invariant.numbered.makers_are c.args.number c.in_ok-place.field-0.now at ∙ none_here c.self.inside.decls c.in_ok-place.field-0.now here)
    ∙ ap (λ g. slice_get (makers g) c.args.number) c.self.view_is

pub returns-in-Maker : goal.returns-in-Maker
returns-in-Maker c =
    let at = read_at c.as_slice.result.now c.self.inside.tables.numbers.maker_places c.args.number c.in_ok-place.field-0.now c.as_slice.ensures c.in_ok-place.ensures.lookup.3.0 c.in_ok-place.ensures.lookup.3.1 in
    let here = read_at c.as_slice-2.result.now c.self.inside.decls c.in_ok-place.field-0.now c.in_ok-maker.field-0.now c.as_slice-2.ensures c.in_ok-maker.ensures.lookup.3.0 c.in_ok-maker.ensures.lookup.3.1 in
    sym (maker_there c.self.inside.decls c.self.inside.tables.numbers.maker_places c.self.invariant.numbered.makers_are c.args.number c.in_ok-place.field-0.now at
    ∙ maker_here c.self.inside.decls c.in_ok-place.field-0.now c.in_ok-maker.field-0.now here ∙ ap as_maker c.in-Maker.is)
    ∙ ap (λ g. slice_get (makers g) c.args.number) c.self.view_is

pub returns-in_default : goal.returns-in_default
returns-in_default c =
    let at = read_at c.as_slice.result.now c.self.inside.tables.numbers.maker_places c.args.number c.in_ok-place.field-0.now c.as_slice.ensures c.in_ok-place.ensures.lookup.3.0 c.in_ok-place.ensures.lookup.3.1 in
    let here = read_at c.as_slice-2.result.now c.self.inside.decls c.in_ok-place.field-0.now c.in_ok-maker.field-0.now c.as_slice-2.ensures c.in_ok-maker.ensures.lookup.3.0 c.in_ok-maker.ensures.lookup.3.1 in
    sym (maker_there c.self.inside.decls c.self.inside.tables.numbers.maker_places c.self.invariant.numbered.makers_are c.args.number c.in_ok-place.field-0.now at
    ∙ maker_here c.self.inside.decls c.in_ok-place.field-0.now c.in_ok-maker.field-0.now here ∙ no_other c.in_ok-maker.field-0.now c.in_default.not-Maker)
    ∙ ap (λ g. slice_get (makers g) c.args.number) c.self.view_is
