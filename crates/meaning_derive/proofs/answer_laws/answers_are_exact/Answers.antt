use Rattle.meaning_derive.proofs.Exact.{founded_shown, others_chained}
use Rattle.meaning_derive.proofs.answer_laws.answers_are_exact.Goals as goal

pub returns-clause-founded : goal.returns-clause-founded
returns-clause-founded c = founded_shown

pub returns-clause-others : goal.returns-clause-others
returns-clause-others c = others_chained
