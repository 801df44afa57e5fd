use Rattle.derive_walk.specs.Trials.{IsNamed}
use Rattle.derive_walk.proofs.Lookups.{same_looks, no_place, at_one, named_one}
use Rattle.derive_walk.proofs.looked.look.Goals as goal

pub returns-then-is_empty-clause-only : goal.returns-then-is_empty-clause-only
returns-then-is_empty-clause-only g c = same_looks c.args.walk.now

pub returns-in-None-clause-record : goal.returns-in-None-clause-record
returns-in-None-clause-record g c =
    no_place (g.K.Known.keeps c.args.setting.now.known.now) c.args.node.now c.in_ok-look_up.field-0 c.in_ok-look_up.ensures.place c.in-None.is

pub returns-in-Some-clause-record : goal.returns-in-Some-clause-record
returns-in-Some-clause-record g c =
    let keeping = g.K.Known.keeps c.args.setting.now.known.now in
    at_one keeping c.args.node.now c.in_ok-look_up.field-0 c.in-Some.place c.in_ok-look_up.ensures.place c.in-Some.is _ c.at.ensures.is
    (named_one c.at.result (λ r. r.now) (IsNamed keeping.contents) c.at.ensures.named)
