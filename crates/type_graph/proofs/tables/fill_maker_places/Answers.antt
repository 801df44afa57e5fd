-- Maker by maker.
use Rattle.std.proofs.Common.{◌≡◌, ◌∙◌, ◌++◌, ◌∷◌, [], sym, ap, map, take, slice_get}
use Rattle.std.specs.Prelude.{Some}
use Rattle.std.proofs.lemmas.List.{map-append}
use Rattle.std.proofs.lemmas.Option.{slice_get-get_or}
use Rattle.meaning_graph.specs.Graphs.{makers, as_maker}
use Rattle.type_graph.specs.Tables.{maker_at}
use Rattle.type_graph.proofs.TableLemmas.{maker_here, no_other}
use Rattle.type_graph.proofs.ContextLemmas.{mapped_push, mapped_stays}
use Rattle.type_graph.proofs.tables.fill_maker_places.Goals as goal
use Rattle.type_graph.proofs.tables.fill_maker_places.Goals.{in-Maker+in_ok-push, in_default}

pub loop-place-preserved : goal.loop-place-preserved
loop-place-preserved c = elim c.match-decl.branch [
  | in-Maker+in_ok-push w ↦
      let there : slice_get c.args.decls.now c.loop-place.place ≡ Some c.index-decls-place.result = slice_get-get_or c.args.decls.now c.loop-place.place c.index-decls-place.result c.loop-place-test.true ∙ ap Some (sym c.index-decls-place.is) in
      let is_maker : maker_at c.args.decls.now c.loop-place.place ≡ Some w.in-Maker.field-0 = maker_here c.args.decls.now c.loop-place.place c.index-decls-place.result there ∙ ap as_maker w.in-Maker.is in
      ap (map (maker_at c.args.decls.now)) (w.places-is ∙ w.in_ok-push.ensures.ok) ∙ map-append (maker_at c.args.decls.now) c.loop-place.places (c.loop-place.place ∷ [])
      ∙ ap (λ l. l ++ maker_at c.args.decls.now c.loop-place.place ∷ []) c.loop-place.invariant ∙ ap (λ o. map Some (makers (take c.loop-place.place c.args.decls.now)) ++ o ∷ []) is_maker
      ∙ mapped_push as_maker Some c.args.decls.now c.loop-place.place c.index-decls-place.result c.loop-place-test.true c.index-decls-place.is w.in-Maker.field-0 (ap as_maker w.in-Maker.is)
  | in_default w ↦
      ap (map (maker_at c.args.decls.now)) w.places-is ∙ c.loop-place.invariant
      ∙ mapped_stays as_maker Some c.args.decls.now c.loop-place.place c.index-decls-place.result c.loop-place-test.true c.index-decls-place.is (no_other c.index-decls-place.result w.in_default.not-Maker)
]
