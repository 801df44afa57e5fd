use Rattle.std.proofs.Common.{sym, ◌∙◌, ap}
use Rattle.build_files.specs.Answers.{last_answer}
use Rattle.build_files.proofs.AnswerLemmas.{last_formed}
use Rattle.build_files.proofs.get.run.Goals as goal

pub write_answer-requires : goal.write_answer-requires
write_answer-requires c =
    let read = rw c.in-Some-2.is at c.in_ok-replies.ensures in
    last_formed c.in-Some-2.replies read.1 c.in-Some-answer.reply.now (ap last_answer (sym c.as_slice-3.ensures) ∙ sym c.in-Some-answer.ensures)
