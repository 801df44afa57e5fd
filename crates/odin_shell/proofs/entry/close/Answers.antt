use Rattle.std.proofs.Common.{◌∙◌}
use Rattle.odin_shell.proofs.StoreLemmas.{closes_full}
use Rattle.odin_shell.proofs.entry.close.Goals as goal

pub returns-in-Ok : goal.returns-in-Ok
returns-in-Ok g c = closes_full c.in-Full.at c.in-Full.size _ _ _ _ _ c.in-Full.is (c.as_slice.ensures ∙ c.in-Ok.ensures) c.end_with.ensures
