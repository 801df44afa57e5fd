-- What is written is left to the check: it is to be the text that the clause asks for.
use Rattle.std.proofs.Common.{refl, ap, ◌∙◌, rules}
use Rattle.std.proofs.lemmas.Result.{IfOk-weaker}
use Rattle.std.specs.FinMap.{get}
use Rattle.object_values.specs.Texts.{SourceStock}
use Rattle.odin_store.specs.declared.store.Store.{Store}
use Rattle.odin_answers.proofs.ChangeLemmas.{none_changed, drop_removes, drop_edited}
use Rattle.odin_answers.proofs.EditLemmas.{no_source, dropped, is_source}
use Rattle.odin_answers.proofs.edits.remove.Goals as goal

pub returns-then-is_none-clause-says : goal.returns-then-is_none-clause-says
returns-then-is_none-clause-says g c =
    let texts = c.args.engine.now.store.sources.texts in
    let asked = c.as_slice.result.now in
    let there = c.get.ensures ∙ ap (λ (s : SourceStock). get s.texts asked) (c.sources.ensures ∙ ap (λ (s : Store). s.sources) c.store.ensures) in
    let word = c.into_bytes.ensures.bytes in
    IfOk-weaker c.say.result _ _ (λ bytes is. no_source _ c.get.result texts texts c.args.name asked bytes refl there c.as_slice.ensures.bytes (search rules) cc) c.say.ensures.ok

pub returns-then-is_none-clause-ok : goal.returns-then-is_none-clause-ok
returns-then-is_none-clause-ok g c = none_changed g.D.Disk.told c.changes_follow.ensures c.args.name c.args.engine.now.store c.args.disk.now c.say.result

pub returns-clause-says : goal.returns-clause-says
returns-clause-says g c =
    let store = c.args.engine.now.store in
    let asked = c.as_slice.result.now in
    let there = c.get.ensures ∙ ap (λ (s : SourceStock). get s.texts asked) (c.sources.ensures ∙ ap (λ (s : Store). s.sources) c.store.ensures) in
    let some = is_source _ c.get.result store.sources.texts c.args.name asked there c.as_slice.ensures.bytes (search rules) in
    let word = c.in_ok-said.ensures ∙ c.as_slice-2.ensures.bytes in
    let is = c.in_ok-reply.ensures.ok in
    dropped _ c.get.result store.sources.texts _ c.args.name asked _ there c.as_slice.ensures.bytes (search rules) (cc)
    (drop_removes g.D.Disk.told c.args.name store c.remove.new.self.store c.args.disk.now c.remove.new.disk c.in_ok-remove.field-0 some c.in_ok-remove.ensures.ok)

pub returns-clause-ok : goal.returns-clause-ok
returns-clause-ok g c =
    let store = c.args.engine.now.store in
    let asked = c.as_slice.result.now in
    let there = c.get.ensures ∙ ap (λ (s : SourceStock). get s.texts asked) (c.sources.ensures ∙ ap (λ (s : Store). s.sources) c.store.ensures) in
    let some = is_source _ c.get.result store.sources.texts c.args.name asked there c.as_slice.ensures.bytes (search rules) in
    drop_edited g.D.Disk.told c.args.name store c.remove.new.self.store c.args.disk.now c.remove.new.disk c.in_ok-remove.field-0 some c.in_ok-remove.ensures.ok
    c.in_ok-remove.ensures.knows
