-- What bytes feed a hasher.
use Rattle.std.specs.Prelude.{List, ℕ, [], ◌∷◌, ◌++◌, length}
use Rattle.std.specs.Hash as fed
use Rattle.std.specs.Hash.{HashWrites}

-- their length, and then all of them by one write
abbrev pub bytes_fed : List ℕ → HashWrites
bytes_fed bytes = fed.usize (length bytes) ++ bytes ∷ []
