-- What a disk tells that tells nothing.
use Rattle.std.specs.Prelude.{[], None, false}
use Rattle.odin_outside.specs.Disk.{Telling, synced_at}

-- that it doesn't follow the model, so that the rest has no meaning
abbrev pub silent : Telling
silent = record { seen = []; pending = synced_at []; moment = 0; left_since = λ t c. ⊥; work = None; follows = false }
