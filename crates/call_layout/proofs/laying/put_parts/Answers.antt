use Rattle.std.proofs.Common.{ap, ◌∙◌, option_map}
use Rattle.call_layout.specs.Places.{with_placed}
use Rattle.call_layout.proofs.Standing.{laid_none, laid_on}
use Rattle.call_layout.proofs.laying.put_parts.Goals as goal

pub loop-part-init : goal.loop-part-init
loop-part-init g c = laid_none (g.P.Place.files c.args.place.now)

pub loop-part-preserved : goal.loop-part-preserved
loop-part-preserved g c =
    c.in_ok-put_part.ensures ∙ ap (option_map (λ files. with_placed files c.part-item.result)) c.loop-part.invariant
    ∙ laid_on (g.P.Place.files c.args.place.now) c.args.placed.now c.loop-part.part-index c.part-item.result c.loop-part-test.true c.part-item.is
