-- The project of the files that were found and of those that are made.
use Rattle.std.specs.Prelude.{ℕ, List, [], ◌∷◌, ◌++◌, codes, flat_map, map}
use Rattle.object_values.specs.declared.jobs.FileBody.{FileBody}
use Rattle.project_file.specs.declared.project.Project.{Project}
use Rattle.project_file.specs.declared.project.Target.{Target}
use Rattle.project_kits.specs.declared.wanted.Units.{Units}
use Rattle.project_kits.specs.declared.wanted.Wanted.{Wanted}
use Rattle.project_kits.specs.Lists.{list_name}

-- `hello.program.list:program` is asked for `[program.hello]`
abbrev pub target_of : Units → Target
target_of units = record { name = units.name; ask = (list_name units ++ 58 ∷ []) ++ units.word; file = units.file }

-- those of the units, and then the project's own
abbrev pub targets_of : Wanted → List Target
targets_of wanted = map target_of wanted.units ++ wanted.targets

-- the project's own patterns, those of its units, those of its kits, and the names of the made files
abbrev pub sources_of : Wanted → List (List ℕ) → List FileBody → List (List ℕ)
sources_of wanted patterns made =
    ((wanted.sources ++ flat_map (λ (one : Units). one.patterns) wanted.units) ++ patterns) ++ map (λ (file : FileBody). file.name) made

abbrev pub project_of : Wanted → List (List ℕ) → List FileBody → Project
project_of wanted patterns made =
    record { graph = codes "odin.graph"; sources = sources_of wanted patterns made; targets = targets_of wanted }
