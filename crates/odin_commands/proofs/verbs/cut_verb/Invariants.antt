use Rattle.odin_commands.proofs.VerbLemmas.{NoneOf}
use Rattle.odin_commands.proofs.verbs.cut_verb.Given as goal

abbrev pub invariant-loop-verb : goal.invariant-loop-verb
invariant-loop-verb l = NoneOf l.verb-items l.text l.verb-index
