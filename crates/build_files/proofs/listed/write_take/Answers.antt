use Rattle.std.proofs.lemmas.Result.{on_ok_weaker}
use Rattle.build_files.proofs.LineLemmas.{take_spells}
use Rattle.build_files.proofs.listed.write_take.Goals as goal

pub returns-clause-spelled : goal.returns-clause-spelled
returns-clause-spelled c = on_ok_weaker c.push.result (λ put. take_spells c.args.name.now c.as_slice.ensures.named) c.push.ensures.ok
