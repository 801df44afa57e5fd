use Rattle.content_store.proofs.BodyLemmas.{body_kept}
use Rattle.content_store.proofs.laws.numbers_keep_their_bytes.Goals as goal

pub returns : goal.returns
returns c = body_kept
