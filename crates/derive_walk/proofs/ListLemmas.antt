-- What is found among lists of messages.
use Rattle.std.proofs.Common.{◌≡◌, List, subst, sym}
use Rattle.std.specs.Prelude.{Option, Some, IfSome}
use Rattle.std.specs.List.{find}
use Rattle.std.specs.Cmp.Lexicographic.{pointwise, pointwise_decides}
use Rattle.std.proofs.lemmas.Map.Made.{IfSome-find_same}
use Rattle.object_values.specs.declared.messages.Message.{Message}
use Rattle.object_values.specs.contracts.messages.MessagePartialEq.TheImpl.{ghosts as message_eq}
use Rattle.object_values.specs.Exact.{message_exact}

-- the list that is found is the one that was sought
pub found_same : (messages found : List Message) (lists : List (List Message)) → Some found ≡ find (pointwise message_eq.eq messages) lists → found ≡ messages
found_same messages found lists e =
    subst (λ (o : Option (List Message)). IfSome o (λ other. other ≡ messages)) (sym e) (IfSome-find_same (pointwise_decides message_exact) messages lists)
