use Rattle.std.proofs.Common.{◌≡◌, ◌≤◌, ◌-◌, length, take}
use Rattle.std.specs.List.{fold}
use Rattle.content_store.specs.Digesting.{write_byte}
use Rattle.content_store.proofs.hasher.ShaHasherHasher.write.Given as goal

abbrev pub invariant-pieces : goal.invariant-pieces
invariant-pieces l = (l.self ≡ fold write_byte l.fn.self (take l.at l.bytes)) × (l.at ≤ length l.bytes)

abbrev pub decreases-pieces : goal.decreases-pieces
decreases-pieces l = length l.bytes - l.at
