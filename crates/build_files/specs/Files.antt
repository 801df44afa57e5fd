-- An object as files.
use Rattle.std.specs.Prelude.{◌≢◌, ⊤, ℕ, ◌+◌, All, List, [], ◌∷◌, decimal}
use Rattle.object_values.specs.declared.views.Part.{Part}
use Rattle.meaning_texts.specs.Lists.{HasNo}
use Rattle.meaning_texts.specs.Lines.{with_lf}
use Rattle.object_values.specs.declared.replies.ShownBody.{ShownBody}
use Rattle.object_values.specs.declared.replies.ShownBody.TheVariants.{Nothing, Simple, List as Listed, Compound}
use Rattle.build_files.specs.declared.files.Files.{Files}
use Rattle.build_files.specs.declared.files.Files.TheVariants as files

-- a file for each line, named by its number, from k on
abbrev pub numbered_files : ℕ → List (List ℕ) → List Part
numbered_files k [] = []
numbered_files k (line ∷ lines) =
    record { name = decimal k; body = with_lf line } ∷ numbered_files (k + 1) lines

-- a simple object is one file, a list and a compound are a folder of files
abbrev pub files_of : ShownBody → Files
files_of Nothing = files.Nothing
files_of (Simple text) = files.File text
files_of (Listed lines) = files.Folder (numbered_files 1 lines)
files_of (Compound parts) = files.Folder parts

-- A name with no slash and no dot, so that it leads nowhere but to a file of the folder.
pub record IsSafeFileName (name : List ℕ) : Type 0 where
  pub some : name ≢ []
  pub slashless : HasNo 47 name
  pub dotless : HasNo 46 name

-- The files of a folder have such names.
abbrev pub HaveSafeFileNames : Files → Type 0
HaveSafeFileNames (files.Folder parts) = All (λ part. IsSafeFileName part.name) parts
HaveSafeFileNames other = ⊤
