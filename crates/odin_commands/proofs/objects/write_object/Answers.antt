use Rattle.std.proofs.Common.{codes, ◌++◌}
use Rattle.meaning_commands.specs.Replies.{status_word, body_text}
use Rattle.odin_commands.proofs.Written.{adds_behind}
use Rattle.odin_commands.proofs.objects.write_object.Goals as goal

pub returns : goal.returns
returns c =
    let done = c.write_messages.result in
    let last = c.write_messages.new.out in
    adds_behind done c.args.out.now c.extend_from_slice.new.self last (codes "object ") _ c.in_ok-extend_from_slice.ensures.ok
    (adds_behind done c.extend_from_slice.new.self c.write_word.new.out last (status_word c.args.status ++ codes " ") _ (rw c.word_of.ensures at c.in_ok-write_word.ensures)
    (adds_behind done c.write_word.new.out c.write_body.new.out last (body_text c.args.body.now) _ c.in_ok-write_body.ensures c.write_messages.ensures))
