use Rattle.std.proofs.Common.{◌≡◌, ◌++◌, take}
use Rattle.std.specs.List.{flat_map}
use Rattle.meaning_commands.specs.Replies.{message_text}
use Rattle.odin_commands.proofs.objects.write_each_message.Given as goal

abbrev pub invariant-loop-message : goal.invariant-loop-message
invariant-loop-message l = l.out ≡ l.initial.out ++ flat_map message_text (take l.message-index l.messages)
