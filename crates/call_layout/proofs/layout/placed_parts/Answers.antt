use Rattle.std.proofs.Common.{◌+◌, ◌++◌, ap, ◌∙◌, arith}
use Rattle.call_layout.specs.Layout.{placed_of}
use Rattle.call_layout.proofs.Firsts.{placed_next}
use Rattle.call_layout.proofs.layout.placed_parts.Goals as goal

pub loop-place-preserved : goal.loop-place-preserved
loop-place-preserved c =
    let part = c.index-parts-place.result in
    c.in_ok-put_placed.ensures ∙ ap (λ placed. placed ++ placed_of c.args.firsts.now.parts.now (c.loop-place.place + 1) part) c.loop-place.invariant
    ∙ placed_next c.args.firsts.now.parts.now c.args.firsts.now.parts.now c.loop-place.place part (omega arith) c.index-parts-place.is
