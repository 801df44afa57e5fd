use Rattle.std.proofs.Common.{◌≡◌, ap, ◌∙◌, subst, flat_map, take, length, List, arith, ◌≤◌}
use Rattle.std.specs.Prelude.{IfOk}
use Rattle.std.proofs.lemmas.List.{take_all}
use Rattle.object_values.specs.declared.messages.Message.{Message}
use Rattle.object_values.specs.declared.views.View.{View}
use Rattle.meaning_tasks.specs.Values.{inherit}
use Rattle.odin_nodes.proofs.Once.{inherit_all}
use Rattle.odin_nodes.proofs.inherited.inherit.Goals as goal

abbrev messages_in : List View → List Message
messages_in views = flat_map (λ view. view.messages) views

pub returns : goal.returns
returns c =
    let end : length c.args.needs.now ≤ c.loop-need.need-index = omega arith in
    let all : messages_in (take c.loop-need.need-index c.args.needs.now) ≡ messages_in c.args.needs.now = ap messages_in (take_all c.loop-need.need-index c.args.needs.now end) in
    let is : c.add-2.new.self ≡ inherit (messages_in c.args.needs.now) c.args.own.now =
    c.in_ok-add-2.ensures.ok
    ∙ (c.loop-need.invariant _
    ∙ (inherit_all (messages_in (take c.loop-need.need-index c.args.needs.now)) _
    ∙ ap (λ (messages : List Message). inherit messages c.args.own.now) all)) in
    subst (λ (m : List Message). IfOk c.into_messages.result (λ messages. messages ≡ m)) is c.into_messages.ensures
