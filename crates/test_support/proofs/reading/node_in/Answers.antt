use Rattle.std.proofs.lemmas.Result.{IfOk-weaker}
use Rattle.meaning_texts.proofs.Lemmas.{canonical}
use Rattle.test_support.proofs.reading.node_in.Goals as goal

pub returns-in-Ok : goal.returns-in-Ok
returns-in-Ok c = IfOk-weaker c.node_by.result _ _ (λ node fits. fits (canonical c.args.text.now c.in-Ok.expression c.in-Ok.ensures.ok)) c.node_by.ensures
