-- The targets that are asked for.
use Rattle.std.specs.Prelude.{◌≡◌, ⊤, ℕ, List, [], ◌∷◌, Option, Some, None, map, find, bytes_eq, Contains}
use Rattle.project_file.specs.declared.project.Target.{Target}
use Rattle.project_folder.specs.declared.targets.NoTarget.{NoTarget}
use Rattle.project_folder.specs.declared.targets.NoTarget.TheVariants as fault

-- the first target of a name; a project has one of a name at most
abbrev pub target_named : List Target → List ℕ → Option Target
target_named targets name = find (λ target. bytes_eq target.name name) targets

-- the targets of these names, in their order
abbrev pub AreNamed : List Target → List (List ℕ) → List Target → Type 0
AreNamed targets names found = map (λ (t : Target). Some t) found ≡ map (target_named targets) names

-- and where no name is given all
abbrev pub AreAsked : List Target → List (List ℕ) → List Target → Type 0
AreAsked targets [] found = found ≡ targets
AreAsked targets (name ∷ names) found = AreNamed targets (name ∷ names) found

-- One of the names is that of no target.
abbrev pub IsUnknownIn : List Target → List (List ℕ) → NoTarget → Type 0
IsUnknownIn targets names (fault.Unknown name) = Contains names name × (target_named targets name ≡ None)
IsUnknownIn targets names fault.Memory = ⊤
