use Rattle.content_store.proofs.BodyLemmas.{place_stands}
use Rattle.content_store.proofs.laws.numbers_lead_back.Goals as goal

pub returns : goal.returns
returns c = place_stands
