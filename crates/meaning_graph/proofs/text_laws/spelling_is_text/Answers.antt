use Rattle.meaning_graph.proofs.Spelled.{spelled}
use Rattle.meaning_graph.proofs.text_laws.spelling_is_text.Goals as goal

pub returns : goal.returns
returns c = spelled
