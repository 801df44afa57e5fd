use Rattle.plain_derive.proofs.StartLemmas.{only_needed_starts as only_needed}
use Rattle.plain_derive.proofs.laws.only_needed_starts.Goals as goal

pub returns : goal.returns
returns c = only_needed
