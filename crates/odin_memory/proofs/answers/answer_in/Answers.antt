use Rattle.std.proofs.Common.{◌≡◌, ◌<◌, ◌≤◌, true, false, length, sym, ◌∙◌, arith}
use Rattle.object_values.specs.contracts.jobs.JobPartialEq.TheImpl.{ghosts as job_eq}
use Rattle.odin_memory.specs.Tools.{answer_among}
use Rattle.odin_memory.proofs.Answering.{answered, passed, past, copied_along}
use Rattle.odin_memory.proofs.answers.answer_in.Goals as goal

pub returns-then-eq : goal.returns-then-eq
returns-then-eq c =
    let inside : c.loop-pair.pair-index < length c.args.pairs.now = omega arith in
    let test : job_eq.eq c.pair-item.result.job c.args.job.now ≡ true = sym c.eq.ensures ∙ c.if-eq.true in
    let found : answer_among c.args.pairs.now c.args.other.now c.args.job.now ≡ c.pair-item.result.raw = c.loop-pair.invariant ∙ answered _ _ _ _ _ inside c.pair-item.is test in
    copied_along c.copy.result _ _ c.copy.ensures cc

pub loop-pair-preserved : goal.loop-pair-preserved
loop-pair-preserved c =
    let inside : c.loop-pair.pair-index < length c.args.pairs.now = omega arith in
    let test : job_eq.eq c.pair-item.result.job c.args.job.now ≡ false = sym c.eq.ensures ∙ c.if-eq.false in
    c.loop-pair.invariant ∙ passed _ _ _ _ _ inside c.pair-item.is test

pub returns : goal.returns
returns c =
    let end : length c.args.pairs.now ≤ c.loop-pair.pair-index = omega arith in
    let none : answer_among c.args.pairs.now c.args.other.now c.args.job.now ≡ c.args.other.now = c.loop-pair.invariant ∙ past _ _ _ _ end in
    copied_along c.copy-2.result _ _ c.copy-2.ensures cc
