use Rattle.plain_derive.proofs.KeptLemmas.{kept_stays, given_fit, given_are_true}
use Rattle.plain_derive.proofs.laws.given_are_known.Goals as goal

pub returns-clause-stays : goal.returns-clause-stays
returns-clause-stays c = kept_stays

pub returns-clause-fit : goal.returns-clause-fit
returns-clause-fit c = given_fit

pub returns-clause-right : goal.returns-clause-right
returns-clause-right c = given_are_true
