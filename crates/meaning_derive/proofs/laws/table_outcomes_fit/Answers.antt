use Rattle.std.proofs.Common.{refl, subst}
use Rattle.meaning_texts.proofs.Lemmas.{same_some}
use Rattle.meaning_calls.specs.Jobs.{job_of}
use Rattle.meaning_calls.specs.Outcomes.{OutcomeFits}
use Rattle.meaning_calls.proofs.Lemmas.{fits}
use Rattle.meaning_derive.proofs.laws.table_outcomes_fit.Goals as goal

pub returns : goal.returns
returns c = λ table. (λ call o e. subst (OutcomeFits call) (same_some e) (fits call (table (job_of call))), λ call. refl)
