-- What is told of the objects that a run reads from and writes to, each with the count of its faults.
use Rattle.std.specs.Prelude.{◌≡◌, ℕ, ◌<◌, List, length, take, Option}
use Rattle.odin_outside.specs.Causes.{IsCounted}
use Rattle.odin_outside.specs.Told.{appended}

-- what a sink has taken, where it tells that
pub record SinkTold : Type 0 where
  pub taken : Option (List ℕ)
  pub faults : ℕ

-- These bytes were taken, and no fault was counted.
abbrev pub took : SinkTold → List ℕ → SinkTold
took before bytes = record { taken = appended before.taken bytes; faults = before.faults }

-- Less than all of these bytes was taken, and then a fault was counted.
pub record TookPart (bytes : List ℕ) (before now : SinkTold) : Type 0 where
  pub count : ℕ
  pub proper : count < length bytes
  pub taken : now.taken ≡ appended before.taken (take count bytes)
  pub counted : IsCounted before.faults now.faults
