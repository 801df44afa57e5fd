use Rattle.std.proofs.Common.{◌++◌, [], ◌∷◌}
use Rattle.meaning_texts.specs.Escapes.{escaped}
use Rattle.meaning_commands.specs.Replies.{status_word}
use Rattle.odin_commands.proofs.Written.{front_stays, fails, adds_behind, adds_same, message_pieces}
use Rattle.odin_commands.proofs.objects.write_message.Goals as goal

pub returns-in_err-write_word-2 : goal.returns-in_err-write_word-2
returns-in_err-write_word-2 c =
    fails c.from_residual-in_err-write_word-2.result c.args.out.now c.write_word-2.new.out _ c.from_residual-in_err-write_word-2.ensures.0
    (front_stays c.args.out.now _ c.write_word.new.out c.write_word-2.new.out c.in_ok-write_word.ensures c.in_err-write_word-2.ensures)

pub returns : goal.returns
returns c =
    let m = c.args.message.now in
    adds_same c.write_escaped.result c.args.out.now c.write_escaped.new.out _ _ (message_pieces (status_word m.level) m.label (escaped m.text))
    (adds_behind c.write_escaped.result c.args.out.now c.write_word.new.out c.write_escaped.new.out (status_word m.level ++ 32 ∷ []) _ (rw c.word_of.ensures at c.in_ok-write_word.ensures)
    (adds_behind c.write_escaped.result c.write_word.new.out c.write_word-2.new.out c.write_escaped.new.out (m.label ++ 32 ∷ []) _ (rw c.as_slice.ensures at c.in_ok-write_word-2.ensures) (rw c.as_slice-2.ensures at c.write_escaped.ensures)))
