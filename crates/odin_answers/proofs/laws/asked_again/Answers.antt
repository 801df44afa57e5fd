use Rattle.meaning_records.specs.Tables.{kept_outcome}
use Rattle.odin_answers.proofs.OnceLemmas.{at_once}
use Rattle.odin_answers.proofs.laws.asked_again.Goals as goal

pub returns : goal.returns
returns c = λ g s kept later limit most text reply other given more before now before' now' first agrees second. at_once g s later most text reply other more before' now' (first.answer (kept_outcome later) agrees) second
