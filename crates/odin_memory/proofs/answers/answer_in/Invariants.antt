use Rattle.std.proofs.Common.{◌≡◌, drop}
use Rattle.odin_memory.specs.Tools.{answer_among}
use Rattle.odin_memory.proofs.answers.answer_in.Given as goal

abbrev pub invariant-loop-pair : goal.invariant-loop-pair
invariant-loop-pair l = answer_among l.pairs l.other l.job ≡ answer_among (drop l.pair-index l.pairs) l.other l.job
