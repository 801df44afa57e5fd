use Rattle.build_view.proofs.EscapedLemmas.{no_markup}
use Rattle.build_view.proofs.escaped.escaped_is_no_markup.Goals as goal

pub returns : goal.returns
returns c = no_markup
