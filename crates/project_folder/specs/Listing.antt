-- The files that are the sources of a project.
use Rattle.std.specs.Prelude.{◌≡◌, ⊤, ℕ, Bool, true, not, ◌&&◌, ◌==◌, List, Some, None, map, filter, find, bytes_eq, Contains}
use Rattle.std.specs.List.{list_any}
use Rattle.meaning_texts.specs.Classes.{IsName}
use Rattle.project_file.specs.Patterns.{fits}
use Rattle.project_file.specs.declared.project.Project.{Project}
use Rattle.project_file.specs.declared.project.Target.{Target}
use Rattle.build_files.specs.Paths.{tidied}
use Rattle.build_files.specs.Listed.{IsListed}
use Rattle.project_folder.specs.Places.{may_be_source}
use Rattle.project_folder.specs.declared.listing.NoSources.{NoSources}
use Rattle.project_folder.specs.declared.listing.NoSources.TheVariants as fault

-- ---- the files that patterns fit

-- a pattern fits the path, which may be a source
abbrev pub is_source : List (List ℕ) → List (List ℕ) → List ℕ → Bool
is_source patterns outputs path = may_be_source outputs path && list_any (λ p. fits p path) patterns

-- A pattern of the kits fits it, and none that the project lists: nobody asked for it by its name.
abbrev pub is_unasked : (own kits outputs : List (List ℕ)) → List ℕ → Bool
is_unasked own kits outputs path = is_source kits outputs path && not (list_any (λ p. fits p path) own)

abbrev pub chosen : List (List ℕ) → List (List ℕ) → List (List ℕ) → List (List ℕ)
chosen patterns outputs found = filter (is_source patterns outputs) found

-- ---- files that are named

-- no `*` stands in it, so that it fits no other path
abbrev pub is_plain : List ℕ → Bool
is_plain pattern = not (list_any (λ b. b == 42) pattern)

-- it names a file that isn't among these
abbrev pub is_missing : List (List ℕ) → List ℕ → Bool
is_missing names pattern = is_plain pattern && not (list_any (λ name. bytes_eq name pattern) names)

-- ---- the list

-- These are the files that a pattern fits and that may be sources, each once; every file that is named is among them.
pub record IsSourceList (patterns outputs found names : List (List ℕ)) : Type 0 where
  pub listed : IsListed (chosen patterns outputs found) names
  pub named : find (is_missing (chosen patterns outputs found)) patterns ≡ None

-- a file that would be a source, but for its path, which is no name
pub record IsSourceOfNoName (patterns outputs : List (List ℕ)) (path : List ℕ) : Type 0 where
  pub source : is_source patterns outputs path ≡ true
  pub nameless : ¬ IsName path

-- Why one more file is not added: it is such a file.
abbrev pub IsNoNameOf : List (List ℕ) → List (List ℕ) → List ℕ → NoSources → Type 0
IsNoNameOf patterns outputs path (fault.NoName given) = (given ≡ path) × IsSourceOfNoName patterns outputs path
IsNoNameOf patterns outputs path (fault.Missing given) = ⊥
IsNoNameOf patterns outputs path fault.Memory = ⊤

-- One of the files is such a file.
abbrev pub HasNoName : List (List ℕ) → List (List ℕ) → List (List ℕ) → NoSources → Type 0
HasNoName patterns outputs found (fault.NoName given) = Contains found given × IsSourceOfNoName patterns outputs given
HasNoName patterns outputs found (fault.Missing given) = ⊥
HasNoName patterns outputs found fault.Memory = ⊤

-- Why there is no list.
abbrev pub IsNoSourceList : List (List ℕ) → List (List ℕ) → List (List ℕ) → NoSources → Type 0
IsNoSourceList patterns outputs found (fault.NoName given) = Contains found given × IsSourceOfNoName patterns outputs given
IsNoSourceList patterns outputs found (fault.Missing given) =
    find (is_missing (chosen patterns outputs found)) patterns ≡ Some given
IsNoSourceList patterns outputs found fault.Memory = ⊤

-- ---- the list of a project

abbrev pub patterns_of : Project → List (List ℕ)
patterns_of project = map tidied project.sources

abbrev pub outputs_of : List Target → List (List ℕ)
outputs_of targets = map (λ target. tidied target.file) targets

abbrev pub AreSourcesOf : Project → List (List ℕ) → List (List ℕ) → Type 0
AreSourcesOf project found names = IsSourceList (patterns_of project) (outputs_of project.targets) found names

abbrev pub IsNoListOf : Project → List (List ℕ) → NoSources → Type 0
IsNoListOf project found given = IsNoSourceList (patterns_of project) (outputs_of project.targets) found given
