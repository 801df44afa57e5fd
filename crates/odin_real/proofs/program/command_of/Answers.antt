use Rattle.std.proofs.Common.{rules, IsOk, subst}
use Rattle.std.specs.Str.{IsUtf8}
use Rattle.std.proofs.lemmas.Bool.{false≢true}
use Rattle.odin_real.proofs.FaultLemmas.{text_after}
use Rattle.odin_real.proofs.program.command_of.Goals as goal

pub returns-in_err-text_of-2-clause-failed : goal.returns-in_err-text_of-2-clause-failed
returns-in_err-text_of-2-clause-failed c = λ are failed.
    let text : IsUtf8 c.word-item.result = text_after c.args.words.now _ c.loop-word.word-index c.word-item.result are.texts c.loop-word-test.true c.word-item.is in
    let given : IsUtf8 c.as_slice-in-loop-word.result.now = subst IsUtf8 (search rules) text in
    let ok : IsOk c.text_of-in-loop-word.result = c.text_of-in-loop-word.ensures.text given in
    search (rules, false≢true)
