use Rattle.content_store.proofs.BodyLemmas.{goes_behind}
use Rattle.content_store.proofs.laws.later_bodies_are_behind.Goals as goal

pub returns : goal.returns
returns c = goes_behind
