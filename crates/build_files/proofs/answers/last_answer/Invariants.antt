use Rattle.std.proofs.Common.{◌≡◌, take}
use Rattle.std.specs.Option.{option_copied}
use Rattle.build_files.specs.Answers.{last_answer}
use Rattle.build_files.proofs.answers.last_answer.Given as goal

abbrev pub invariant-loop-reply : goal.invariant-loop-reply
invariant-loop-reply l = option_copied l.last ≡ last_answer (take l.reply-index l.replies)
