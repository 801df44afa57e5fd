use Rattle.odin_commands.proofs.VerbLemmas.{some_words}
use Rattle.odin_commands.proofs.replies.read_first.Goals as goal

pub returns-in-None : goal.returns-in-None
returns-in-None c = some_words c.args.text.now c.in-None.ensures.none
