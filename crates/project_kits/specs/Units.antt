-- The tables of units of a project with kits.
use Rattle.std.specs.Prelude.{ℕ, Bool, ◌||◌, List, [], ◌∷◌, Option, Some, None, Ok, codes, bytes_eq, if◌then◌else◌}
use Rattle.std.specs.List.{list_any}
use Rattle.toml.specs.Data.{Data, Members, no_members, member, get_member, as_str, as_table}
use Rattle.project_file.specs.Projects.{Reading, ◌>>=◌, problem, each_member, file_in, other_key, unless_unknown}
use Rattle.project_file.specs.declared.project.Flaw.TheVariants.{Missing, NotTable}
use Rattle.project_kits.specs.declared.wanted.Units.{Units}
use Rattle.project_kits.specs.Entries.{texts_at, prefixed}

-- a key of a table of units
abbrev pub units_key : List ℕ → List ℕ → List ℕ → List (List ℕ)
units_key word name key = word ∷ name ∷ key ∷ []

abbrev pub patterns_of : List ℕ → List ℕ → Option Data → Reading (List (List ℕ))
patterns_of word name None = problem (units_key word name (codes "units")) Missing
patterns_of word name (Some value) = texts_at (units_key word name (codes "units")) value

-- the name of the units where no file is told
abbrev pub file_of : List ℕ → List ℕ → Option Data → Reading (List ℕ)
file_of word name None = file_in (units_key word name (codes "file")) (Some name)
file_of word name (Some value) = file_in (units_key word name (codes "file")) (as_str value)

abbrev pub units : List ℕ → List ℕ → List (List ℕ) → List ℕ → Units
units word name patterns file = record { word = word; name = name; patterns = patterns; file = file }

abbrev pub units_with : List ℕ → List ℕ → Members → Reading Units
units_with word name keys =
    patterns_of word name (get_member (codes "units") keys) >>= λ patterns.
    file_of word name (get_member (codes "file") keys) >>= λ file. Ok (units word name patterns file)

abbrev pub units_keys : List (List ℕ)
units_keys = codes "units" ∷ codes "file" ∷ []

abbrev pub units_in : List ℕ → List ℕ → Option Members → Reading Units
units_in word name None = problem (word ∷ name ∷ []) NotTable
units_in word name (Some keys) =
    unless_unknown (other_key units_keys keys) (units_key word name) (units_with word name keys)

abbrev pub units_of : List ℕ → List ℕ → Data → Reading Units
units_of word name value = units_in word name (as_table value)

abbrev pub tables_in : List ℕ → Option Members → Reading (List Units)
tables_in word None = problem (word ∷ []) NotTable
tables_in word (Some tables) = each_member (units_of word) tables

abbrev pub units_at : List ℕ → Data → Reading (List Units)
units_at word value = tables_in word (as_table value)

-- ---- all tables

-- a key of the project's own
abbrev pub is_own : List ℕ → Bool
is_own key =
    bytes_eq key (codes "graph") || bytes_eq key (codes "sources") || bytes_eq key (codes "target") || bytes_eq key (codes "kits")

-- or one with the settings of a kit
abbrev pub is_taken : List (List ℕ) → List ℕ → Bool
is_taken kits key = is_own key || list_any (λ kit. bytes_eq kit key) kits

-- the units of each other key
abbrev pub all_units : List (List ℕ) → Members → Reading (List Units)
all_units kits no_members = Ok []
all_units kits (member key value rest) =
    if is_taken kits key then all_units kits rest
    else (units_at key value >>= λ found. prefixed found (all_units kits rest))
