use Rattle.derive_core.proofs.walk.Core.advance.Goals as goal
