-- The settings of kits: what the table of a kit's name says, as files of the kit.
use Rattle.std.specs.Prelude.{ℕ, Bool, List, [], ◌∷◌, ◌++◌, Option, Some, None, Ok, bytes_eq, codes, flat_map}
use Rattle.std.specs.List.{list_any}
use Rattle.meaning_texts.specs.Lines.{with_lf}
use Rattle.object_values.specs.declared.jobs.FileBody.{FileBody}
use Rattle.toml.specs.Data.{Data, Members, get_member, as_table}
use Rattle.project_file.specs.Projects.{Reading, ◌>>=◌, problem, each_member}
use Rattle.project_file.specs.declared.project.Flaw.TheVariants.{NotTable}
use Rattle.project_kits.specs.Entries.{texts_at, prefixed}

abbrev pub file : List ℕ → List ℕ → FileBody
file name body = record { name = name; body = body }

abbrev pub kit_name : List ℕ → List ℕ → List ℕ
kit_name kit name = ((codes "kits/" ++ kit) ++ 47 ∷ []) ++ name

-- its texts, one a line
abbrev pub setting_of : List ℕ → List ℕ → Data → Reading FileBody
setting_of kit key value =
    texts_at (kit ∷ key ∷ []) value >>= λ texts. Ok (file (kit_name kit key) (flat_map with_lf texts))

abbrev pub settings_in : List ℕ → Option Members → Reading (List FileBody)
settings_in kit None = problem (kit ∷ []) NotTable
settings_in kit (Some keys) = each_member (setting_of kit) keys

abbrev pub settings_of : List ℕ → Option Data → Reading (List FileBody)
settings_of kit None = Ok []
settings_of kit (Some value) = settings_in kit (as_table value)

abbrev pub all_settings : List (List ℕ) → Members → Reading (List FileBody)
all_settings [] keys = Ok []
all_settings (kit ∷ kits) keys =
    settings_of kit (get_member kit keys) >>= λ settings. prefixed settings (all_settings kits keys)

-- one of the files has this name
abbrev pub has_name : List FileBody → List ℕ → Bool
has_name files name = list_any (λ file. bytes_eq file.name name) files
