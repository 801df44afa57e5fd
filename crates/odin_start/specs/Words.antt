-- The words that count, of what the system gave as the arguments of the program.
use Rattle.std.specs.Prelude.{◌≡◌, List, [], take, Result, Ok, Err}
use Rattle.std.specs.IoError.{error_kind}
use Rattle.std.specs.declared.io.Error.{Error}
use Rattle.std.specs.declared.io.ErrorKind.TheVariants.{OutOfMemory}
use Rattle.std.specs.Vec.Iter.{into_iter_items, into_iter_len}
use Rattle.std.specs.declared.vec.IntoIter.{IntoIter}

-- all of them, as many as are counted, or none where one of them is no text
abbrev pub words_among : {X Z : Type 0} → Result (IntoIter X Z) Error → List X
words_among (Ok args) = take (into_iter_len args) (into_iter_items args)
words_among (Err error) = []

-- memory was wanted for them
abbrev pub IsWanting : {T : Type 0} → Result T Error → Type 0
IsWanting (Ok args) = ⊥
IsWanting (Err error) = error_kind error ≡ OutOfMemory
