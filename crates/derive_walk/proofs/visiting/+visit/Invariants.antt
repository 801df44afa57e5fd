use Rattle.std.proofs.Common.{◌≡◌, ◌-◌, length}
use Rattle.derive_walk.specs.Looks.{GoesByLooks}
use Rattle.derive_walk.specs.Settings.{world_in}
use Rattle.derive_walk.specs.Paths.{IsAheadIn, LeadsTo}
use Rattle.derive_walk.proofs.VisitLemmas.{SoFar}
use Rattle.derive_walk.proofs.RoundLemmas.{InRound}
use Rattle.derive_walk.proofs.visiting.+visit.Given as goal

abbrev pub decreases-visit : goal.decreases-visit
decreases-visit g l = 64 - length l.walk.now.path

abbrev pub invariant-loop-rounds : goal.invariant-loop-rounds
invariant-loop-rounds g l = record {
  so : SoFar (world_in g.K.Known.keeps l.setting) l.fn.walk l.walk l.node;
  ahead : IsAheadIn (world_in g.K.Known.keeps l.setting) l.walk l.node l.ahead;
  length : l.length ≡ length l.fn.walk.path;
  counted : let w = world_in g.K.Known.keeps l.setting in
      GoesByLooks w l.setting.given.now (LeadsTo w l.fn.walk l.node) l.fn.walk l.walk l.fn.steps l.steps 0;
}

abbrev pub invariant-loop-need : goal.invariant-loop-need
invariant-loop-need g l = record {
  round : InRound (world_in g.K.Known.keeps l.setting) l.fn.walk l.initial.walk l.walk l.node l.unvisited;
  ahead : IsAheadIn (world_in g.K.Known.keeps l.setting) l.walk l.node l.ahead;
  counted : let w = world_in g.K.Known.keeps l.setting in
      GoesByLooks w l.setting.given.now (LeadsTo w l.fn.walk l.node) l.fn.walk l.walk l.fn.steps l.steps 0;
}
