use Rattle.std.proofs.Common.{length}
use Rattle.meaning_commands.specs.Replies.{reply_text}
use Rattle.meaning_commands.specs.Formed.{IsFormed}
use Rattle.odin_commands.proofs.ItemLemmas.{Begins}
use Rattle.odin_commands.proofs.replies.read_replies.Given as goal

abbrev pub invariant-replies : goal.invariant-replies
invariant-replies l = Begins reply_text IsFormed l.fn.text l.replies l.rest

abbrev pub decreases-replies : goal.decreases-replies
decreases-replies l = length l.rest
