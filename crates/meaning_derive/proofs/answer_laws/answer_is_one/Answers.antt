use Rattle.meaning_derive.proofs.Exact.{one_refusal, one_plan, one_answer}
use Rattle.meaning_derive.proofs.answer_laws.answer_is_one.Goals as goal

pub returns-clause-refusal : goal.returns-clause-refusal
returns-clause-refusal c = one_refusal

pub returns-clause-plan : goal.returns-clause-plan
returns-clause-plan c = one_plan

pub returns-clause-answer : goal.returns-clause-answer
returns-clause-answer c = one_answer
