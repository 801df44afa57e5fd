use Rattle.meaning_derive.proofs.Answers.{each_answered, each_planned}
use Rattle.meaning_derive.proofs.answer_laws.each_is_answered.Goals as goal

pub returns-clause-answer : goal.returns-clause-answer
returns-clause-answer c = each_answered

pub returns-clause-plan : goal.returns-clause-plan
returns-clause-plan c = each_planned
