-- What is made of answers of the system on names.
use Rattle.std.specs.Prelude.{Option, Some, None, Result, Ok, Err}
use Rattle.std.specs.IoError.{error_kind}
use Rattle.std.specs.declared.io.Error.{Error}
use Rattle.std.specs.declared.io.ErrorKind.{ErrorKind}
use Rattle.std.specs.declared.io.ErrorKind.TheVariants.{NotFound, InvalidInput, PermissionDenied}

-- at an error of this kind nothing stands there
abbrev pub nothing_at : {T : Type 0} → ErrorKind → Error → Result (Option T) Error
nothing_at NotFound error = Ok None
nothing_at _ error = Err error

-- what was opened, where something stands there
abbrev pub found_of : {T : Type 0} → Result T Error → Result (Option T) Error
found_of (Ok file) = Ok (Some file)
found_of (Err error) = nothing_at (error_kind error) error

-- a folder that can't be synced, or may not be opened, counts as synced
abbrev pub spared : ErrorKind → Error → Result (Unit {0}) Error
spared InvalidInput error = Ok tt
spared PermissionDenied error = Ok tt
spared _ error = Err error

abbrev pub synced_of : Result (Unit {0}) Error → Result (Unit {0}) Error
synced_of (Ok done) = Ok done
synced_of (Err error) = spared (error_kind error) error
