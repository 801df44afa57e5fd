-- Made files over those of a tree.
use Rattle.std.specs.Prelude.{ℕ, List, [], ◌∷◌, Option, find, bytes_eq}
use Rattle.std.specs.FinMap.{insert}
use Rattle.object_values.specs.declared.jobs.FileBody.{FileBody}
use Rattle.odin_outside.specs.Files.{Files}

-- the first of a name
abbrev pub made_of : List FileBody → List ℕ → Option FileBody
made_of made name = find (λ file. bytes_eq file.name name) made

-- each made file stands in place of what was under its name, the first one of a name last
abbrev pub laid_over : List FileBody → Files → Files
laid_over [] files = files
laid_over (file ∷ made) files = insert (laid_over made files) file.name file.body
