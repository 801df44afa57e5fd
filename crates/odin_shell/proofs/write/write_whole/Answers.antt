use Rattle.std.proofs.Common.{rules, ◌∙◌}
use Rattle.meaning_commands.proofs.Lemmas.{one_more_write}
use Rattle.odin_shell.proofs.write.write_whole.Goals as goal

pub loop-at-preserved : goal.loop-at-preserved
loop-at-preserved g c = record {
  within = search rules;
  written = one_more_write _ _ _ c.args.bytes.now c.loop-at.at c.in_ok-at.field-0 c.loop-at.invariant.written c.in_ok-at.ensures.bytes;
  counted = c.in_ok-at.ensures.cause.ok ∙ c.loop-at.invariant.counted;
}
