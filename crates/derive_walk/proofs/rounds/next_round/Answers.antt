use Rattle.std.proofs.Common.{true≢false, sym, ◌∙◌, subst}
use Rattle.derive_walk.specs.Settings.{world_in}
use Rattle.derive_walk.specs.Paths.{AreToVisit, IsRecorded}
use Rattle.derive_walk.proofs.AheadLemmas.{anew_unchecked, level_next, survey_next}
use Rattle.derive_walk.proofs.rounds.next_round.Goals as goal

pub returns-then-not-is_empty-clause-round : goal.returns-then-not-is_empty-clause-round
returns-then-not-is_empty-clause-round g c =
    level_next (world_in g.K.Known.keeps c.args.setting.now) c.args.walk.now c.args.node.now c.in_ok-level.level c.in_ok-level.ensures.level
    (λ e. true≢false (sym (c.is_empty.ensures.1 e) ∙ c.if-not-is_empty.true))
    (anew_unchecked (world_in g.K.Known.keeps c.args.setting.now) c.args.walk.now c.args.node.now
    (subst (IsRecorded (world_in g.K.Known.keeps c.args.setting.now) c.args.walk.now c.args.node.now) c.in_default.is c.in_ok-recorded.ensures))

pub returns-then-is_empty-clause-round : goal.returns-then-is_empty-clause-round
returns-then-is_empty-clause-round g c = record {
  anew = subst (IsRecorded (world_in g.K.Known.keeps c.args.setting.now) c.args.walk.now c.args.node.now) c.in_default.is c.in_ok-recorded.ensures;
  found = c.in_ok-needed.ensures;
  surveyed = c.in_ok-survey.ensures (world_in g.K.Known.keeps c.args.setting.now) c.args.node.now c.in_ok-needed.ensures;
  visited = c.is_empty-2.ensures.0 c.if-is_empty.true;
}

pub returns-clause-round : goal.returns-clause-round
returns-clause-round g c =
    let w = world_in g.K.Known.keeps c.args.setting.now in
    let next : AreToVisit w c.args.walk.now c.args.node.now c.in_ok-survey.survey.unvisited =
    survey_next w c.args.walk.now c.args.node.now c.in_ok-survey.survey (c.in_ok-survey.ensures w c.args.node.now c.in_ok-needed.ensures)
    (λ e. true≢false (sym (c.is_empty-2.ensures.1 e) ∙ c.if-is_empty.false))
    (anew_unchecked w c.args.walk.now c.args.node.now (subst (IsRecorded w c.args.walk.now c.args.node.now) c.in_default.is c.in_ok-recorded.ensures)) in
    subst (AreToVisit w c.args.walk.now c.args.node.now) (sym c.replace-unvisited.ensures.value) next
