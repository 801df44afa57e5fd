use Rattle.content_store.proofs.BodyLemmas.{exact}
use Rattle.content_store.proofs.laws.numbers_are_exact.Goals as goal

pub returns : goal.returns
returns c = exact
