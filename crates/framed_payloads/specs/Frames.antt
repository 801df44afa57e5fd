-- The frame of a payload.
use Rattle.std.specs.Prelude.{ℕ, ◌-◌, List, [], ◌∷◌, ◌++◌, length, slice_range}
use Rattle.odin_bytes.specs.Fields.{bytes_field}

-- a payload in its frame: its length before it, and a closed gate after it
abbrev pub framed : List ℕ → List ℕ
framed payload = bytes_field payload ++ 0 ∷ []

-- the payload within a frame: all but the four bytes of the length and the one of the gate
abbrev pub payload_in : List ℕ → List ℕ
payload_in bytes = slice_range bytes 4 (length bytes - 1)
