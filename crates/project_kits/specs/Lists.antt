-- The lists of units.
use Rattle.std.specs.Prelude.{◌≡◌, ℕ, Bool, List, [], ◌∷◌, ◌++◌, Contains, codes, bytes_eq, flat_map, map}
use Rattle.std.specs.List.{list_any}
use Rattle.meaning_texts.specs.Lines.{with_lf}
use Rattle.object_values.specs.declared.jobs.FileBody.{FileBody}
use Rattle.build_files.specs.Paths.{tidied}
use Rattle.project_folder.specs.Listing.{IsSourceList, IsNoSourceList}
use Rattle.project_folder.specs.declared.listing.NoSources.{NoSources}
use Rattle.project_kits.specs.declared.wanted.Units.{Units}

-- `hello.program.list` is that of `[program.hello]`
abbrev pub list_name : Units → List ℕ
list_name units = ((units.name ++ 46 ∷ []) ++ units.word) ++ codes ".list"

abbrev pub patterns_of : Units → List (List ℕ)
patterns_of units = map tidied units.patterns

module _ (outputs found : List (List ℕ)) where
  -- The file has the names that the patterns of the units fit, one a line.
  pub record IsListFile (units : Units) (file : FileBody) : Type 0 where
    pub names : List (List ℕ)
    pub listed : IsSourceList (patterns_of units) outputs found names
    pub name : file.name ≡ list_name units
    pub body : file.body ≡ flat_map with_lf names

  -- why there is no list
  abbrev pub HasNoList : Units → NoSources → Type 0
  HasNoList units why = IsNoSourceList (patterns_of units) outputs found why

  -- One file for each.
  pub data AreListFiles : List Units → List FileBody → Type 0 where
    no_lists : AreListFiles [] []
    one_more_list : (done : List Units) (files : List FileBody) (units : Units) (file : FileBody)
        → AreListFiles done files → IsListFile units file → AreListFiles (done ++ units ∷ []) (files ++ file ∷ [])

  -- for one of them
  pub record SomeHasNoList (all : List Units) (why : NoSources) : Type 0 where
    pub units : Units
    pub among : Contains all units
    pub fails : HasNoList units why

-- ---- names

abbrev pub is_among : List (List ℕ) → List ℕ → Bool
is_among names name = list_any (λ other. bytes_eq other name) names
