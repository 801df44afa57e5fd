use Rattle.std.proofs.Common.{◌∙◌}
use Rattle.odin_shell.proofs.StoreLemmas.{closes_not_ours}
use Rattle.odin_shell.proofs.entry.end_unopened.Goals as goal

pub returns-in-Ok : goal.returns-in-Ok
returns-in-Ok g c = closes_not_ours c.in-NotOurs.at _ _ _ _ _ c.in-NotOurs.is (c.as_slice.ensures ∙ c.in-Ok.ensures) c.end_with.ensures
