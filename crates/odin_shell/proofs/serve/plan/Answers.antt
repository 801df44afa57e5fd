-- What is planned is said: the steps by their text, or the refusal.
use Rattle.std.proofs.lemmas.Result.{IfOk-weaker}
use Rattle.odin_shell.proofs.ShowLemmas.{steps_said, refusal_said}
use Rattle.odin_shell.proofs.serve.plan.Goals as goal

pub returns-in-Steps : goal.returns-in-Steps
returns-in-Steps c = steps_said _ c.args.text.now c.in-Steps.bytes _ c.in-Steps.is c.in_ok-bytes.ensures

pub returns-in-Refused : goal.returns-in-Refused
returns-in-Refused c = IfOk-weaker c.text_of.result _ _ (λ bytes said. refusal_said _ c.args.text.now bytes _ c.in-Refused.reply c.in-Refused.is c.in_ok-bytes.ensures said) c.text_of.ensures
