-- Room in memory.
use Rattle.std.specs.Prelude.{ℕ, ◌+◌, ◌≤◌, List, Vec, length, vec_capacity}
use Rattle.std.specs.declared.alloc.Global.{Global}

-- these bytes fit after those that are there
abbrev pub HasRoomFor : List ℕ → Vec ℕ Global → Type 0
HasRoomFor bytes image = length image.items + length bytes ≤ vec_capacity image
