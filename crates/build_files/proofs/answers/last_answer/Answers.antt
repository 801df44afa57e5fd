use Rattle.std.proofs.Common.{◌≡◌, ◌+◌, ◌∙◌, ◌++◌, ◌∷◌, [], ap, sym, take}
use Rattle.std.proofs.lemmas.List.{take_more}
use Rattle.build_files.specs.Answers.{reply_to_ask, later, last_answer}
use Rattle.build_files.proofs.AnswerLemmas.{last_more}
use Rattle.build_files.proofs.answers.last_answer.Goals as goal

pub loop-reply-preserved : goal.loop-reply-preserved
loop-reply-preserved c =
    let seen = take c.loop-reply.reply-index c.args.replies.now in
    let reply = c.reply-item.result in
    let more : take (c.loop-reply.reply-index + 1) c.args.replies.now ≡ seen ++ reply ∷ [] =
    take_more c.args.replies.now c.loop-reply.reply-index reply c.loop-reply-test.true ∙ ap (λ r. seen ++ r ∷ []) (sym c.reply-item.is) in
    c.later-last.ensures ∙ ap (λ last. later last (reply_to_ask reply)) c.loop-reply.invariant ∙ sym (last_more seen reply) ∙ ap last_answer (sym more)
