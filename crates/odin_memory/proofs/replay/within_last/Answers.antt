use Rattle.std.proofs.Common.{◌∙◌}
use Rattle.std.proofs.lemmas.Result.{IfOk-weaker}
use Rattle.odin_memory.proofs.Replaying.{last_within, last_left, last_image}
use Rattle.odin_memory.proofs.Undoing.{last_out}
use Rattle.odin_memory.proofs.replay.within_last.Goals as goal

pub torn-requires-clause-within : goal.torn-requires-clause-within
torn-requires-clause-within c = last_within c.args.first.now c.args.entries.now c.unfinished-before.result.now c.args.written.now c.unfinished-before.ensures c.requires

pub returns-clause-left : goal.returns-clause-left
returns-clause-left c = IfOk-weaker c.torn.result _ _ (λ image left. last_left c.args.first.now c.args.entries.now c.unfinished-before.result.now c.args.written.now image.items c.unfinished-before.ensures left) c.torn.ensures.left

pub returns-clause-whole : goal.returns-clause-whole
returns-clause-whole c = λ whole. IfOk-weaker c.torn.result _ _ (λ image is. is ∙ last_image c.args.first.now c.args.entries.now c.unfinished-before.result.now c.args.written.now c.unfinished-before.ensures) (c.torn.ensures.whole whole)

pub returns-clause-none : goal.returns-clause-none
returns-clause-none c = IfOk-weaker c.torn.result _ _ (λ image last undoes. last_out c.args.first.now c.args.entries.now c.unfinished-before.result.now c.args.written.now c.pending_from.result c.args.choice image c.unfinished-before.ensures c.pending_from.ensures.synced c.pending_from.ensures.unsynced last undoes) c.torn.ensures.none
