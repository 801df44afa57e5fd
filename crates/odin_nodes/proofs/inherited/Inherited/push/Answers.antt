use Rattle.std.proofs.Common.{ap, ◌∙◌, sym, subst, rules, arith, ◌≡◌, ◌≤◌, length, List, ◌∷◌}
use Rattle.indexmap.specs.IndexSet.{insert_key}
use Rattle.meaning_tasks.specs.Values.{inherit}
use Rattle.object_values.specs.declared.messages.Message.{Message}
use Rattle.object_values.specs.contracts.messages.MessagePartialEq.TheImpl.{ghosts as message_eq}
use Rattle.odin_nodes.specs.Inheriting.{AreFew}
use Rattle.odin_nodes.proofs.Once.{inherits_full, inherits_put}
use Rattle.odin_nodes.proofs.inherited.Inherited.push.Goals as goal

full : (messages : List Message) (m : Message) → AreFew messages → 1000 ≤ length messages → (more : List Message) → inherit messages more ≡ inherit messages (m ∷ more)
full messages m few long more = inherits_full messages more few long ∙ sym (inherits_full messages (m ∷ more) few long)

pub returns-then-len-ge-MESSAGE_LIMIT : goal.returns-then-len-ge-MESSAGE_LIMIT
returns-then-len-ge-MESSAGE_LIMIT c more = subst (λ (messages : List Message). inherit messages more ≡ inherit messages (c.args.message.now ∷ more)) c.self.view_is (full c.self.inside.messages.keys c.args.message.now c.self.invariant (omega arith) more)

pub returns : goal.returns
returns c more =
    let keys : c.insert.new.self.keys ≡ insert_key message_eq.eq c.self.inside.messages.keys c.args.message.now = grind rules in
    ap (λ (messages : List Message). inherit messages more) keys ∙ inherits_put c.self.inside.messages.keys more c.args.message.now
    ∙ ap (λ (messages : List Message). inherit messages (c.args.message.now ∷ more)) c.self.view_is
