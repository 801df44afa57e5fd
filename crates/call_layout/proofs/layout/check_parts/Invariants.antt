use Rattle.std.proofs.Common.{take}
use Rattle.std.specs.List.{All}
use Rattle.call_layout.specs.Layout.{PartCanStand}
use Rattle.call_layout.proofs.layout.check_parts.Given as goal

abbrev pub invariant-loop-part : goal.invariant-loop-part
invariant-loop-part l = All (PartCanStand l.outs l.firsts.parts.now) (take l.part-index l.firsts.parts.now)
