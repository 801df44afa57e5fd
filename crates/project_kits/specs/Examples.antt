-- Worked examples of the names and targets of units, and of settings.
use Rattle.std.specs.Prelude.{◌≡◌, [], ◌∷◌, Ok, true, false, codes}
use Rattle.toml.specs.Data.{Members, string, array, table, item, no_items, member, no_members}
use Rattle.project_kits.specs.declared.wanted.Units.{Units}
use Rattle.project_kits.specs.Lists.{list_name}
use Rattle.project_kits.specs.Plain.{target_of}
use Rattle.project_kits.specs.Settings.{all_settings, file}
use Rattle.project_kits.specs.Units.{all_units, is_taken, units}

-- `[program.hello]` with `units = ["src/*.c"]`
abbrev hello : Units
hello = units (codes "program") (codes "hello") (codes "src/*.c" ∷ []) (codes "hello")

abbrev hello_keys : Members
hello_keys = member (codes "units") (array (item (string (codes "src/*.c")) no_items)) no_members

-- the document of that, with `kits = ["c"]` and `[c]`, where `flags = "-O1"`
abbrev document : Members
document =
    member (codes "c") (table (member (codes "flags") (string (codes "-O1")) no_members))
    (member (codes "kits") (array (item (string (codes "c")) no_items))
    (member (codes "program") (table (member (codes "hello") (table hello_keys) no_members))
    no_members))

pub record NamesOfUnits : Type 0 where
  pub list : list_name hello ≡ codes "hello.program.list"
  pub ask : (target_of hello).ask ≡ codes "hello.program.list:program"
  pub name : (target_of hello).name ≡ codes "hello"

pub record WholeDocument : Type 0 where
  pub units : all_units (codes "c" ∷ []) document ≡ Ok (hello ∷ [])
  pub settings : all_settings (codes "c" ∷ []) document ≡ Ok (file (codes "kits/c/flags") (codes "-O1\n") ∷ [])
  pub kit : is_taken (codes "c" ∷ []) (codes "c") ≡ true
  pub word : is_taken (codes "c" ∷ []) (codes "program") ≡ false
