use Rattle.std.proofs.Common.{rules, ◌<◌, length, subst, sym}
use Rattle.meaning_commands.specs.Replies.{reply_text}
use Rattle.meaning_commands.specs.Formed.{IsFormed}
use Rattle.odin_commands.proofs.ItemLemmas.{Begins, begins_more, no_list_of}
use Rattle.odin_commands.proofs.VerbLemmas.{some_text}
use Rattle.odin_commands.proofs.replies.read_replies.Goals as goal

pub returns-in_default : goal.returns-in_default
returns-in_default c =
    let more : 0 < length c.replies.rest.now = search rules in
    no_list_of reply_text IsFormed c.replies_read_back.ensures some_text c.args.text.now c.replies.replies c.replies.rest.now c.replies.invariant more
    (rw c.in_default.is at c.in_ok-reply.ensures)

pub replies-preserved : goal.replies-preserved
replies-preserved c =
    let read = rw c.in-Some.is at c.in_ok-reply.ensures in
    subst (λ replies. Begins reply_text IsFormed c.args.text.now replies c.in-Some.behind.now) (sym c.in_ok-push.ensures.ok)
    (begins_more reply_text IsFormed c.args.text.now c.replies.replies c.replies.rest.now c.in-Some.reply c.in-Some.behind.now c.replies.invariant read.0 read.1)
