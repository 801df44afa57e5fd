use Rattle.object_values.specs.contracts.calls.CallPartialEq.TheImpl.{ghosts as key_eq}
use Rattle.std.proofs.Common.{refl}
use Rattle.derive_walk.proofs.FoundAdded.{added, where_ok}
use Rattle.derive_walk.proofs.given.add_within.Goals as goal

pub returns : goal.returns
returns c = added key_eq.eq _ _ _ c.args.call c.args.outcome refl (where_ok _ _ c.insert.ensures.entries (c.insert.ensures.succeeds c.requires.room)) c.requires.new
