use Rattle.odin_commands.specs.declared.verbs.Verb.TheVariants as verb
use Rattle.odin_commands.proofs.TextLemmas.{lines_told}
use Rattle.odin_commands.proofs.VerbLemmas.{none_said}
use Rattle.odin_commands.proofs.said.read_listed.Goals as goal

pub read_counted-requires : goal.read_counted-requires
read_counted-requires c = lines_told

pub returns-in-None : goal.returns-in-None
returns-in-None c = none_said (verb.Listed c.args.verb) c.args.text.now (rw c.in-None.is at c.in_ok-lines.ensures)
