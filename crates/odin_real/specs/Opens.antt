-- What is told of files that are only read.
use Rattle.std.specs.Prelude.{◌≡◌, ◌↔◌, ⊤, ℕ, ◌+◌, ◌≤◌, Bool, IsTrue, true, false, List, length, min, nat_eq, Option, Some, None, IsSome, if◌then◌else◌}
use Rattle.std.specs.FinMap.{get}
use Rattle.std.specs.IoError.{error_kind}
use Rattle.std.specs.declared.io.Error.{Error}
use Rattle.std.specs.declared.io.ErrorKind.{ErrorKind}
use Rattle.std.specs.declared.io.ErrorKind.TheVariants.{NotFound, NotADirectory, FilesystemLoop, InvalidFilename}
use Rattle.odin_outside.specs.Files.{Files, given_file_limit}

-- a file is told at the path, or none is
abbrev pub IsStanding : Option Files → List ℕ → Bool → Type 0
IsStanding None path found = ⊤
IsStanding (Some files) path found = IsTrue found ↔ IsSome (get files path)

-- what is left of what was opened is the body that is told at the path, and the size is its length; nothing was opened only where none is
abbrev pub IsOpened : {T : Type 0} → (T → Option (List ℕ)) → Option Files → List ℕ → Option (T × ℕ) → Type 0
IsOpened remaining None path opened = ⊤
IsOpened remaining (Some files) path None = get files path ≡ None
IsOpened remaining (Some files) path (Some (reader, size)) = (body : List ℕ) × (get files path ≡ Some body) × (remaining reader ≡ Some body) × (size ≡ length body)

-- how many bytes are read of what has this size: all that may be given, where none is told
abbrev pub most_read : ℕ → ℕ
most_read size = if nat_eq size 0 then given_file_limit else min given_file_limit size

-- the kinds of errors that say that no file is at the path; the last is that of a name that the system can't have
abbrev pub says_absent : ErrorKind → Bool
says_absent NotFound = true
says_absent NotADirectory = true
says_absent FilesystemLoop = true
says_absent InvalidFilename = true
says_absent _ = false

-- an error that says so comes only where none is told
abbrev pub IsAbsentIn : Option Files → List ℕ → Error → Type 0
IsAbsentIn None path error = ⊤
IsAbsentIn (Some files) path error = IsTrue (says_absent (error_kind error)) → get files path ≡ None

-- one file more was opened at most, where that is told
abbrev pub HasOpened : Option ℕ → Option ℕ → Type 0
HasOpened None new = new ≡ None
HasOpened (Some old) None = ⊥
HasOpened (Some old) (Some new) = (old ≤ new) × (new ≤ old + 1)
