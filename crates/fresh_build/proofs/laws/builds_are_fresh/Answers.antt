use Rattle.fresh_build.proofs.BuildLemmas.{built_fresh, built_true}
use Rattle.fresh_build.proofs.laws.builds_are_fresh.Goals as goal

pub returns-clause-fresh : goal.returns-clause-fresh
returns-clause-fresh g c = λ graph table wanted limit text reply old new right known built.
    built_fresh g.D.Disk.told graph table wanted limit text reply old new right known built c.kept_stays_true.ensures.fresh c.replies_are_counted.ensures.refusals

pub returns-clause-kept : goal.returns-clause-kept
returns-clause-kept g c = λ graph table wanted limit text reply old new right known built.
    built_true g.D.Disk.told graph table wanted limit text reply old new right known built c.kept_stays_true.ensures.kept
