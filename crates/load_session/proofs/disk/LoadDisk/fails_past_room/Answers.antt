use Rattle.std.proofs.Common.{◌≢◌, subst}
use Rattle.load_session.specs.Room.{LoadFile, PassesRoom}
use Rattle.load_session.proofs.RoomLemmas.{past_room}
use Rattle.load_session.proofs.disk.LoadDisk.fails_past_room.Goals as goal

pub returns : goal.returns
returns c = subst (λ (disk : LoadFile). disk.file.faults ≢ 0 → PassesRoom disk) c.self.view_is (past_room _ _ c.self.invariant)
