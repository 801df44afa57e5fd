use Rattle.meaning_tasks.proofs.Finite.{finite_has_needs as shown}
use Rattle.meaning_tasks.proofs.laws.finite_has_needs.Goals as goal

pub returns : goal.returns
returns c = shown
