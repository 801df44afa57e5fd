-- The command by which the words are read: the options `-C`, `-j`, `--color`, `--trace` and `--page` with one value each, the flags `-n`, `-q`, `-v` and
-- `--why`, and the targets; or help, or the version.
use Rattle.std.specs.Prelude.{◌≡◌, ◌↔◌, ◌≤◌, ◌⊎◌, ℕ, IsTrue, Bool, List, [], Option, Some, None, true, codes, decimal, unwrap_or}
use Rattle.clap.specs.Lexer.{usize_max}
use Rattle.clap.specs.Words.{App, Row, Rule, all_of, fault_of, first_of, matches_of, new_app, new_rule, with_rule}
use Rattle.project_folder.specs.declared.words.Colours.{Colours}
use Rattle.project_folder.specs.declared.words.Colours.TheVariants.{Auto, Always, Never}
use Rattle.clap.specs.declared.builder.ArgAction.TheVariants.{Append, Set, SetTrue}

-- an option of one letter with one value
abbrev pub option_rule : List ℕ → ℕ → Rule
option_rule id short = record (new_rule id) { short = Some short; action = Some Set }

-- a flag of one letter and of the word that it is known by
abbrev pub flag_rule : List ℕ → ℕ → Rule
flag_rule id short = record (new_rule id) { short = Some short; long = Some id; action = Some SetTrue }

-- a flag of the word that it is known by, and of no letter
abbrev pub long_flag_rule : List ℕ → Rule
long_flag_rule id = record (new_rule id) { long = Some id; action = Some SetTrue }

-- an option of a word with one value
abbrev pub long_rule : List ℕ → Rule
long_rule id = record (new_rule id) { long = Some id; action = Some Set }

-- `-C`, `-j` and `-n`
abbrev pub folder : Rule
folder = option_rule (codes "folder") 67

abbrev pub jobs : Rule
jobs = option_rule (codes "jobs") 106

abbrev pub tells : Rule
tells = record (new_rule (codes "tells")) { short = Some 110; action = Some SetTrue }

abbrev pub targets : Rule
targets = record (new_rule (codes "targets")) {
  range = Some (record { start_inclusive = 1; end_inclusive = usize_max });
  action = Some Append;
}

abbrev pub bare_build : App
bare_build =
    let app = new_app (codes "odin-build") in
    record app { top = record app.top { has_version = true } }

-- without what is told beside messages
abbrev pub working : App
working = with_rule (with_rule (with_rule bare_build folder) jobs) tells

-- `-q`, `-v` and `--why`
abbrev pub telling : App
telling = with_rule (with_rule (with_rule working (flag_rule (codes "quiet") 113)) (flag_rule (codes "verbose") 118)) (long_flag_rule (codes "why"))

-- and `--color`, `--trace` and `--page`
abbrev pub seeing : App
seeing = with_rule (with_rule (with_rule telling (long_rule (codes "color"))) (long_rule (codes "trace"))) (long_rule (codes "page"))

abbrev pub command : App
command = with_rule seeing targets

-- ---- what is asked for

-- the digits of a number from 1 to 64
pub record IsCount (word : List ℕ) (count : ℕ) : Type 0 where
  pub spelled : word ≡ decimal count
  pub some : 1 ≤ count
  pub few : count ≤ 64

-- of none
abbrev pub IsNoCount : List ℕ → Type 0
IsNoCount word = (count : ℕ) → ¬ IsCount word count

-- how many tools may run at once by the value of `-j`, where there is one
abbrev pub IsCountOf : Option (List ℕ) → Option ℕ → Type 0
IsCountOf None count = count ≡ None
IsCountOf (Some word) None = ⊥
IsCountOf (Some word) (Some count) = IsCount word count

-- The values of the words are these.
pub record RowsAskToBuild (rows : List Row) (folder : Option (List ℕ)) (jobs : Option ℕ) (tells : Bool) (targets : List (List ℕ)) : Type 0 where
  pub folder_is : first_of (codes "folder") rows ≡ folder
  pub jobs_are : IsCountOf (first_of (codes "jobs") rows) jobs
  pub flag : IsTrue tells ↔ (first_of (codes "tells") rows ≡ Some (codes "true"))
  pub targets_are : targets ≡ unwrap_or (all_of (codes "targets") rows) []

-- The command takes the words, whose values are these.
pub record AsksToBuild (words : List (List ℕ)) (folder : Option (List ℕ)) (jobs : Option ℕ) (tells : Bool) (targets : List (List ℕ)) : Type 0 where
  pub taken : fault_of command words ≡ []
  pub rows : RowsAskToBuild (matches_of command words) folder jobs tells targets

-- ---- what is told beside messages

abbrev pub word_of : Colours → List ℕ
word_of Auto = codes "auto"
word_of Always = codes "always"
word_of Never = codes "never"

-- by the value of `--color`, where there is one
abbrev pub IsColours : Option (List ℕ) → Colours → Type 0
IsColours None colours = colours ≡ Auto
IsColours (Some word) colours = word ≡ word_of colours

abbrev pub IsNoColours : Option (List ℕ) → Type 0
IsNoColours value = (colours : Colours) → ¬ IsColours value colours

-- The values of the words are these.
pub record RowsAskToSee (rows : List Row) (quiet verbose why : Bool) (colours : Colours) (trace page : Option (List ℕ)) : Type 0 where
  pub quiet_is : IsTrue quiet ↔ (first_of (codes "quiet") rows ≡ Some (codes "true"))
  pub verbose_is : IsTrue verbose ↔ (first_of (codes "verbose") rows ≡ Some (codes "true"))
  pub why_is : IsTrue why ↔ (first_of (codes "why") rows ≡ Some (codes "true"))
  pub colours_are : IsColours (first_of (codes "color") rows) colours
  pub trace_is : first_of (codes "trace") rows ≡ trace
  pub page_is : first_of (codes "page") rows ≡ page

-- ---- what is no value

abbrev pub IsNoCountIn : Option (List ℕ) → Type 0
IsNoCountIn None = ⊥
IsNoCountIn (Some word) = IsNoCount word

-- The command takes the words, and the value of `-j` is no count, or that of `--color` is none.
pub record AsksForNone (words : List (List ℕ)) : Type 0 where
  pub taken : fault_of command words ≡ []
  pub none : IsNoCountIn (first_of (codes "jobs") (matches_of command words)) ⊎ IsNoColours (first_of (codes "color") (matches_of command words))
