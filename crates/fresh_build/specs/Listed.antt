-- What is read of the files that a list names.
use Rattle.std.specs.Prelude.{◌≡◌, ◌<◌, ◌≤◌, ⊤, ℕ, List, ◌∷◌, ◌++◌, length, Option, Some, None, IsSome, Result, OnOk, IfErr}
use Rattle.std.specs.FinMap.{get}
use Rattle.object_values.specs.Texts.{Text, Texts}
use Rattle.odin_outside.specs.Causes.{Rose}
use Rattle.odin_outside.specs.Files.{Files}
use Rattle.meaning_texts.specs.Limits.{body_limit}
use Rattle.meaning_texts.specs.Lists.{IsIn}
use Rattle.fresh_build.specs.declared.fault.ListFault.{ListFault}
use Rattle.fresh_build.specs.declared.fault.ListFault.TheVariants as fault

-- ---- one file

-- the file has just these bytes, where the tree tells its files
abbrev pub IsFile : Option Files → Text → Text → Type 0
IsFile None name text = ⊤
IsFile (Some files) name text = get files name ≡ Some text

-- there is no such file
abbrev pub IsNoFile : Option Files → Text → Type 0
IsNoFile None name = ⊤
IsNoFile (Some files) name = get files name ≡ None

-- there is one, and it is longer than a text may be
abbrev pub IsLongFile : Option Files → Text → Type 0
IsLongFile None name = ⊤
IsLongFile (Some files) name = (text : Text) × (get files name ≡ Some text) × (body_limit < length text)

-- the file is a text of a source
pub record IsFileText (files : Option Files) (name text : Text) : Type 0 where
  pub file : IsFile files name text
  pub short : length text ≤ body_limit

-- Why the file is no such text.
abbrev pub IsFileFault : Option Files → Text → ListFault → Type 0
IsFileFault files name (fault.Missing missing) = (missing ≡ name) × IsNoFile files name
IsFileFault files name (fault.TooLong long) = (long ≡ name) × IsLongFile files name
IsFileFault files name fault.Tree = ⊤
IsFileFault files name fault.Memory = ⊤

-- ---- what a tree gave of a file

-- a text of a source
pub record IsGivenText (file : Option Text) (text : Text) : Type 0 where
  pub is : file ≡ Some text
  pub short : length text ≤ body_limit

-- longer than a text may be
pub record IsGivenLong (file : Option Text) : Type 0 where
  pub text : Text
  pub is : file ≡ Some text
  pub long : body_limit < length text

-- why it is no such text
abbrev pub IsGivenFault : Text → Option Text → ListFault → Type 0
IsGivenFault name file (fault.Missing missing) = (missing ≡ name) × (file ≡ None)
IsGivenFault name file (fault.TooLong long) = (long ≡ name) × IsGivenLong file
IsGivenFault name file fault.Tree = ⊥
IsGivenFault name file fault.Memory = ⊤

-- ---- the listed files

-- The source is there, with the bytes of its file.
pub record HasFile (files : Option Files) (texts : Texts) (name : Text) : Type 0 where
  pub text : Text
  pub has : get texts name ≡ Some text
  pub is : IsFileText files name text

-- The sources are the listed files, and no others.
pub record AreFiles (files : Option Files) (names : List Text) (texts : Texts) : Type 0 where
  pub listed : (name : Text) → IsIn name names → HasFile files texts name
  pub only : (name : Text) → IsSome (get texts name) → IsIn name names

-- The first listed file that is no text of a source, and why; want of memory, and a failure of the tree, may come at any.
pub record IsListFault (files : Option Files) (names : List Text) (given : ListFault) : Type 0 where
  pub before : List Text
  pub name : Text
  pub rest : List Text
  pub whole : names ≡ before ++ name ∷ rest
  pub fine : (other : Text) → IsIn other before → (text : Text) × IsFileText files other text
  pub why : IsFileFault files name given

-- ---- the tree

-- what a fault says of the tree's count of faults: it rose where the tree failed, and else it is as it was
abbrev pub CountAfterListFault : ℕ → ℕ → ListFault → Type 0
CountAfterListFault before now fault.Tree = Rose before now
CountAfterListFault before now other = now ≡ before

-- and what any answer says of it
pub record ListFaultIsCounted {T : Type 0} (before now : ℕ) (result : Result T ListFault) : Type 0 where
  pub later : before ≤ now
  pub ok : OnOk result (now ≡ before)
  pub err : IfErr result (CountAfterListFault before now)
