-- Files as entries of a map.
use Rattle.std.specs.Prelude.{ℕ, List}
use Rattle.object_values.specs.declared.jobs.FileBody.{FileBody}

-- the body of a file under its name
abbrev pub entry_of : FileBody → List ℕ × List ℕ
entry_of file = (file.name, file.body)
