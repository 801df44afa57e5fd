use Rattle.meaning_derive.proofs.Over.{formed_over}
use Rattle.meaning_derive.proofs.checked_laws.calls_formed_over.Goals as goal

pub returns : goal.returns
returns c = formed_over
