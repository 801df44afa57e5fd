-- What the text of a project's file tells.
use Rattle.std.specs.Prelude.{◌≡◌, ⊤, ℕ, ◌≤◌, ◌<◌, List, length, Some, None, Result, Ok, Err}
use Rattle.std.specs.Str.{IsUtf8}
use Rattle.toml.specs.Data.{Members}
use Rattle.toml.specs.Parse.{parse_document}
use Rattle.toml.specs.Errors.{IsWithin}
use Rattle.project_file.specs.declared.project.Project.{Project}
use Rattle.project_file.specs.declared.reading.NoProject.{NoProject}
use Rattle.project_file.specs.declared.reading.NoProject.TheVariants as no
use Rattle.project_file.specs.Projects.{Reading, project_of}

abbrev pub file_limit : ℕ
file_limit = 1048576

-- The text is one of UTF-8, a document of TOML and not too long, and of its keys this is read.
pub record Tells (text : List ℕ) (reading : Reading Project) : Type 0 where
  pub short : length text ≤ file_limit
  pub characters : IsUtf8 text
  pub keys : Members
  pub document : parse_document text ≡ Some keys
  pub is : project_of keys ≡ reading

-- A document is in UTF-8.
abbrev pub IsNoDocument : List ℕ → Type 0
IsNoDocument text = IsUtf8 text → parse_document text ≡ None

-- the project that the text tells, or why it tells none
abbrev pub IsToldBy : List ℕ → Result Project NoProject → Type 0
IsToldBy text (Ok project) = Tells text (Ok project)
IsToldBy text (Err no.Memory) = ⊤
IsToldBy text (Err no.TooLong) = file_limit < length text
IsToldBy text (Err (no.NoDocument error)) = IsNoDocument text × IsWithin text error
IsToldBy text (Err (no.Problem problem)) = Tells text (Err problem)
