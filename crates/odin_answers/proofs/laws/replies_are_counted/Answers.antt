use Rattle.odin_answers.proofs.CountLemmas.{answer_later, answer_uncounted, refusal_counted, begun_later}
use Rattle.odin_answers.proofs.laws.replies_are_counted.Goals as goal

pub returns-clause-answers : goal.returns-clause-answers
returns-clause-answers c = record { later = answer_later; same = answer_uncounted }

pub returns-clause-refusals : goal.returns-clause-refusals
returns-clause-refusals c = refusal_counted

pub returns-clause-none : goal.returns-clause-none
returns-clause-none c = begun_later
