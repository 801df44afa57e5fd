use Rattle.meaning_true.proofs.Seeing.{sees_results}
use Rattle.meaning_true.proofs.laws.true_record_sees_results.Goals as goal

pub returns : goal.returns
returns c = sees_results
