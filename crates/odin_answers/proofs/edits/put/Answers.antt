-- What is written is left to the check: it is to be the text that the clause asks for.
use Rattle.std.proofs.Common.{◌∙◌, arith}
use Rattle.std.proofs.lemmas.Result.{IfOk-weaker}
use Rattle.odin_answers.proofs.ChangeLemmas.{none_changed}
use Rattle.odin_answers.proofs.EditLemmas.{put_too_long, put_done}
use Rattle.odin_answers.proofs.edits.put.Goals as goal

pub returns-then-count-gt-TEXT_LIMIT-clause-says : goal.returns-then-count-gt-TEXT_LIMIT-clause-says
returns-then-count-gt-TEXT_LIMIT-clause-says g c =
    IfOk-weaker c.say.result _ _ (λ bytes is. put_too_long c.args.engine.now.store.sources.texts c.args.name c.args.count c.args.text bytes (omega arith) is) c.say.ensures.ok

pub returns-then-count-gt-TEXT_LIMIT-clause-ok : goal.returns-then-count-gt-TEXT_LIMIT-clause-ok
returns-then-count-gt-TEXT_LIMIT-clause-ok g c = none_changed g.D.Disk.told c.changes_follow.ensures c.args.name c.args.engine.now.store c.args.disk.now c.say.result

pub returns-clause-says : goal.returns-clause-says
returns-clause-says g c =
    let word = c.in_ok-said.ensures ∙ c.as_slice.ensures.bytes in
    let is = c.in_ok-reply.ensures.ok in
    put_done c.args.engine.now.store.sources.texts _ c.args.name c.args.count c.args.text _ (omega arith) (cc) c.in_ok-set_text.ensures.ok.put
