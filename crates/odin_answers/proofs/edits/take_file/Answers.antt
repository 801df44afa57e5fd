-- What is written is left to the check: it is to be the text that the clause asks for.
use Rattle.std.proofs.Common.{◌∙◌, refl, arith}
use Rattle.std.proofs.lemmas.Result.{IfOk-weaker}
use Rattle.odin_answers.proofs.ChangeLemmas.{none_changed}
use Rattle.odin_answers.proofs.EditLemmas.{no_file, file_too_long, file_done}
use Rattle.odin_answers.proofs.edits.take_file.Goals as goal

pub returns-in_default-clause-says : goal.returns-in_default-clause-says
returns-in_default-clause-says g c =
    let texts = c.args.engine.now.store.sources.texts in
    let word = c.into_bytes.ensures.bytes in
    IfOk-weaker c.say.result _ _ (λ bytes is. no_file texts texts c.args.name c.args.file bytes refl c.in_default.is cc) c.say.ensures.ok

pub returns-in_default-clause-ok : goal.returns-in_default-clause-ok
returns-in_default-clause-ok g c = none_changed g.D.Disk.told c.changes_follow.ensures c.args.name c.args.engine.now.store c.args.disk.now c.say.result

pub returns-then-count-gt-TEXT_LIMIT-clause-says : goal.returns-then-count-gt-TEXT_LIMIT-clause-says
returns-then-count-gt-TEXT_LIMIT-clause-says g c =
    let texts = c.args.engine.now.store.sources.texts in
    let size = c.len-count.ensures in
    IfOk-weaker c.say-then-count-gt-TEXT_LIMIT.result _ _ (λ bytes is. file_too_long texts texts c.args.name c.args.file c.in-Some.text bytes refl c.in-Some.is (omega arith) is)
    c.say-then-count-gt-TEXT_LIMIT.ensures.ok

pub returns-then-count-gt-TEXT_LIMIT-clause-ok : goal.returns-then-count-gt-TEXT_LIMIT-clause-ok
returns-then-count-gt-TEXT_LIMIT-clause-ok g c =
    none_changed g.D.Disk.told c.changes_follow.ensures c.args.name c.args.engine.now.store c.args.disk.now c.say-then-count-gt-TEXT_LIMIT.result

pub returns-clause-says : goal.returns-clause-says
returns-clause-says g c =
    let size = c.len-count.ensures in
    let word = c.in_ok-said.ensures ∙ c.as_slice.ensures.bytes in
    let is = c.in_ok-reply.ensures.ok in
    file_done c.args.engine.now.store.sources.texts _ c.args.name c.args.file c.in-Some.text _ c.in-Some.is (omega arith) (cc) c.in_ok-set_text.ensures.ok.put
