use Rattle.derive_walk.proofs.Stays.{found_stays, told_stays, lookups_stay, right_stays}
use Rattle.derive_walk.proofs.laws.more_keeps.Goals as goal

pub returns-clause-found : goal.returns-clause-found
returns-clause-found c = found_stays

pub returns-clause-right : goal.returns-clause-right
returns-clause-right c = λ records places g s outcomes more has. right_stays g s outcomes more has records places

pub returns-clause-formed : goal.returns-clause-formed
returns-clause-formed c records places g s outcomes more has fit walked none formed = record {
  told = told_stays g s outcomes more has records places walked.done walked.fresh walked.renewed formed.told;
  looked = lookups_stay g s outcomes more has records places walked.done walked.looked formed.looked;
  fit = fit;
  root = formed.root;
  done = formed.done;
  wanted = record { each = formed.wanted.each; outside = none; once = formed.wanted.once };
  found = formed.found;
}
