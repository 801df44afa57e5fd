use Rattle.std.proofs.Common.{◌≡◌, ◌≤◌, List, take, length, ap, ◌∙◌, subst, arith}
use Rattle.std.specs.Prelude.{IfOk}
use Rattle.std.proofs.lemmas.List.{take_all}
use Rattle.object_values.specs.declared.messages.Message.{Message}
use Rattle.meaning_tasks.specs.Values.{inherit}
use Rattle.odin_nodes.proofs.Lemmas.{inherit_all}
use Rattle.validator.specs.Verdicts.{messages_added}
use Rattle.validator.proofs.renewing.messages_with.Goals as goal

pub returns : goal.returns
returns c =
    let end : length c.args.needs.now ≤ c.loop-need.need-index = omega (arith, c.loop-need-test.false) in
    let all : messages_added (take c.loop-need.need-index c.args.needs.now) ≡ messages_added c.args.needs.now = ap messages_added (take_all c.loop-need.need-index c.args.needs.now end) in
    let is : c.add-2.new.self ≡ inherit (messages_added c.args.needs.now) c.args.own.now =
    c.in_ok-add-2.ensures.ok
    ∙ (c.loop-need.invariant _
    ∙ (inherit_all (messages_added (take c.loop-need.need-index c.args.needs.now)) _
    ∙ ap (λ (messages : List Message). inherit messages c.args.own.now) all)) in
    subst (λ (m : List Message). IfOk c.into_messages.result (λ messages. messages ≡ m)) is c.into_messages.ensures
