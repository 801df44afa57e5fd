-- What is written of objects, file by file.
use Rattle.std.specs.Prelude.{◌≡◌, ◌⊎◌, ℕ, List, [], ◌∷◌, ◌++◌, map, Option, codes}
use Rattle.std.specs.Option.{option_map}
use Rattle.std.specs.FinMap.{insert}
use Rattle.object_values.specs.declared.views.Part.{Part}
use Rattle.object_values.specs.declared.replies.ShownBody.{ShownBody}
use Rattle.odin_outside.specs.Files.{Files}
use Rattle.build_files.specs.declared.files.Files.{Files as Object}
use Rattle.build_files.specs.declared.files.Files.TheVariants as object
use Rattle.build_files.specs.Files.{files_of}

-- ---- one file

-- all of a file is written, and the others stay, where files are told
abbrev pub HasWritten : List ℕ → List ℕ → Option Files → Option Files → Type 0
HasWritten path body old new = new ≡ option_map (λ files. insert files path body) old

-- the file is the new one or the old one
abbrev pub MayHaveWritten : List ℕ → List ℕ → Option Files → Option Files → Type 0
MayHaveWritten path body old new = (new ≡ old) ⊎ HasWritten path body old new

-- ---- files, one after another

abbrev pub Write : Type 0
Write = List ℕ × List ℕ

-- These files were written in this order, and nothing else.
pub data HaveWritten (old : Option Files) : List Write → Option Files → Type 0 where
  none_written : HaveWritten old [] old
  one_written : (writes : List Write) (path body : List ℕ) (mid new : Option Files)
      → HaveWritten old writes mid → HasWritten path body mid new → HaveWritten old (writes ++ (path, body) ∷ []) new

-- Some first ones of them were.
pub record HasWrittenSome (writes : List Write) (old new : Option Files) : Type 0 where
  pub made : List Write
  pub rest : List Write
  pub whole : writes ≡ made ++ rest
  pub written : HaveWritten old made new

-- ---- the files of an object

-- a file of a folder
abbrev pub part_write : List ℕ → Part → Write
part_write file part = (file ++ codes "/" ++ part.name, part.body)

abbrev pub writes_of_files : List ℕ → Object → List Write
writes_of_files file object.Nothing = []
writes_of_files file (object.File text) = (file, text) ∷ []
writes_of_files file (object.Folder parts) = map (part_write file) parts

-- A simple object is one file; of the others the file is a folder, with a file for each line or part.
abbrev pub writes_of : List ℕ → ShownBody → List Write
writes_of file body = writes_of_files file (files_of body)
