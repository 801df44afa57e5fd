use Rattle.std.proofs.Common.{◌∙◌, subst, Option}
use Rattle.std.proofs.lemmas.List.Elements.{All-more}
use Rattle.call_layout.specs.Places.{Files, HasFirstBytes}
use Rattle.call_layout.proofs.Firsts.{all_of_them}
use Rattle.call_layout.proofs.laying.check_twins.Goals as goal

pub loop-part-preserved : goal.loop-part-preserved
loop-part-preserved g c =
    let told = g.P.Place.files c.args.place.now in
    let agrees = subst (λ (told : Option Files). HasFirstBytes told c.part-item.result) c.loop-part.invariant.kept c.in_ok-check_twin.ensures.ok in
    record {
      same = All-more (HasFirstBytes told) c.args.placed.now c.loop-part.part-index c.part-item.result c.loop-part-test.true c.loop-part.invariant.same
          (subst (HasFirstBytes told) c.part-item.is agrees);
      kept = c.in_ok-check_twin.ensures.kept ∙ c.loop-part.invariant.kept;
    }

pub returns-clause-ok : goal.returns-clause-ok
returns-clause-ok g c =
    all_of_them (HasFirstBytes (g.P.Place.files c.args.place.now)) c.args.placed.now c.loop-part.part-index c.loop-part-test.false c.loop-part.invariant.same
