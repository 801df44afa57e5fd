use Rattle.odin_answers.proofs.SameLemmas.{same_answers}
use Rattle.odin_answers.proofs.laws.answer_is_one.Goals as goal

pub returns : goal.returns
returns c = λ g table s kept kept' limit most text reply other given given' before now before' now' right right' a b. same_answers g table s kept kept' limit most text reply other given given' before now before' now' right right' a b
