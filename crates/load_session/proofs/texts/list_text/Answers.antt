use Rattle.load_session.proofs.TextLemmas.{list_more}
use Rattle.load_session.proofs.texts.list_text.Goals as goal

pub loop-before-preserved : goal.loop-before-preserved
loop-before-preserved c = let more = list_more c.loop-before.before in cc c.in_ok-put_numbered.ensures
