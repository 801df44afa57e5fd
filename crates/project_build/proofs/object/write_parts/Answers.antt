use Rattle.std.proofs.Common.{◌≡◌, ◌+◌, suc, List, [], ◌∷◌, ◌++◌, map, take, drop, refl, sym, ap, subst, ◌∙◌}
use Rattle.std.proofs.Math.Seq.{drop-cons}
use Rattle.std.proofs.lemmas.List.{map_more, map-append, take-append-drop}
use Rattle.object_values.specs.declared.views.Part.{Part}
use Rattle.project_build.specs.Writes.{Write, HaveWritten, HasWrittenSome, none_written, one_written, part_write}
use Rattle.project_build.proofs.WriteLemmas.{after_err, wrote_some}
use Rattle.project_build.proofs.object.write_parts.Goals as goal

pub parts-init : goal.parts-init
parts-init g c = record { written = none_written; counted = refl }

pub returns-in_err-write_part-clause-err : goal.returns-in_err-write_part-clause-err
returns-in_err-write_part-clause-err g c =
    let folder = c.args.folder.now in
    let parts = c.args.parts.now in
    let place = c.parts.part-index in
    let part = c.part-item.result in
    let writes : List Part → List Write = λ l. map (part_write folder) l in
    let at : drop place parts ≡ part ∷ drop (suc place) parts = drop-cons parts place part c.parts-test.true
    ∙ ap (λ (p : Part). p ∷ drop (suc place) parts) (sym c.part-item.is) in
    let whole : writes parts ≡ writes (take place parts) ++ part_write folder part ∷ writes (drop (suc place) parts) =
    ap writes (sym (take-append-drop place parts)) ∙ map-append (part_write folder) (take place parts) (drop place parts)
    ∙ ap (λ (l : List Part). writes (take place parts) ++ writes l) at in
    let old = g.O.Outputs.files c.args.outputs.now in
    let new = g.O.Outputs.files c.write_part.new.outputs in
    after_err (HasWrittenSome (writes parts) old new) c.from_residual.result
    (wrote_some (writes parts) (writes (take place parts)) (writes (drop (suc place) parts)) (part_write folder part).0 part.body old
    (g.O.Outputs.files c.parts.outputs) new whole c.parts.invariant.written c.in_err-write_part.ensures.err)

pub parts-preserved : goal.parts-preserved
parts-preserved g c =
    let folder = c.args.folder.now in
    let parts = c.args.parts.now in
    let place = c.parts.part-index in
    let part = c.part-item.result in
    let writes : List Part → List Write = λ l. map (part_write folder) l in
    let made : writes (take (place + 1) parts) ≡ writes (take place parts) ++ part_write folder part ∷ [] =
    map_more (part_write folder) parts place part c.parts-test.true
    ∙ ap (λ (p : Part). writes (take place parts) ++ part_write folder p ∷ []) (sym c.part-item.is) in
    let old = g.O.Outputs.files c.args.outputs.now in
    let new = g.O.Outputs.files c.write_part.new.outputs in
    record {
      written = subst (λ (w : List Write). HaveWritten old w new) (sym made)
          (one_written (writes (take place parts)) (part_write folder part).0 part.body (g.O.Outputs.files c.parts.outputs) new c.parts.invariant.written
          c.in_ok-write_part.ensures.ok);
      counted = c.in_ok-write_part.ensures.cause.ok ∙ c.parts.invariant.counted;
    }
