use Rattle.std.proofs.Common.{◌∙◌, ◌++◌, ap, Some, arith}
use Rattle.std.proofs.lemmas.Bool.Decides.{Decides-eqb}
use Rattle.std.proofs.lemmas.Slice.Eq.{strip_prefix_is}
use Rattle.odin_commands.proofs.VerbLemmas.{none_of_all}
use Rattle.odin_commands.proofs.verbs.cut_verb.Goals as goal

pub returns-in-Some-clause-some : goal.returns-in-Some-clause-some
returns-in-Some-clause-some c =
    strip_prefix_is Decides-eqb c.args.text.now c.word.result.now (Some c.in-Some.behind) c.in-Some.ensures.cases
    ∙ ap (λ word. word ++ c.in-Some.behind.now) c.word.ensures

pub returns-clause-none : goal.returns-clause-none
returns-clause-none c = none_of_all c.args.text.now (λ k below. c.loop-verb.invariant k (omega (arith, below)))
