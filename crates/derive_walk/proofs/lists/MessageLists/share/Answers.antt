use Rattle.std.proofs.Common.{◌≡◌, List, subst}
use Rattle.std.specs.Prelude.{IfOk}
use Rattle.object_values.specs.declared.messages.Message.{Message}
use Rattle.derive_walk.proofs.ListLemmas.{found_same}
use Rattle.derive_walk.proofs.lists.MessageLists.share.Goals as goal

pub returns-in-Some : goal.returns-in-Some
returns-in-Some c =
    let same = found_same c.args.messages.now c.in-Some.held.now c.args.self.now.lists.keys c.in-Some.ensures.key in
    subst (λ (messages : List Message). IfOk c.share-in-Some.result (λ shared. shared ≡ messages)) same c.share-in-Some.ensures
