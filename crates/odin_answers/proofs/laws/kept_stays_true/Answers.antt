use Rattle.odin_answers.proofs.OnceLemmas.{reply_true, begun_true, fresh}
use Rattle.odin_answers.proofs.laws.kept_stays_true.Goals as goal

pub returns-clause-kept : goal.returns-clause-kept
returns-clause-kept c = record {
  replied = λ g table s kept limit text reply given before now right is. reply_true g table s kept limit text before now right reply given is;
  begun = λ g table s kept limit text given rest before now right is. begun_true g table s kept limit text before now right given rest is;
}

pub returns-clause-fresh : goal.returns-clause-fresh
returns-clause-fresh c = λ g table s kept limit text reply given before now right answer. fresh g table s kept limit text before now right reply given answer
