use Rattle.build_view.proofs.EscapedLemmas.{no_control}
use Rattle.build_view.proofs.escaped.words_have_no_control.Goals as goal

pub returns : goal.returns
returns c = no_control
