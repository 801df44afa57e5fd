use Rattle.project_build.proofs.LawLemmas.{zero_fresh}
use Rattle.project_build.proofs.laws.status_zero_is_fresh.Goals as goal

pub returns : goal.returns
returns g c = λ graph table wanted limit targets replies old new holds known built zero.
    zero_fresh g.D.Disk.told graph table wanted limit c.kept_stays_true.ensures.kept c.kept_stays_true.ensures.fresh targets replies old new holds known built zero
