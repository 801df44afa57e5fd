-- What stands at the paths where child programs run: nothing (`None`), or a folder with files, in the order in which they were made. Where
-- that isn't told there is `None` in its place, before a call and after it.
use Rattle.std.specs.Prelude.{◌≡◌, ◌≢◌, ⊤, ℕ, Bool, true, false, nat_eq, List, [], ◌∷◌, ◌++◌, Option, Some, None, take}
use Rattle.std.specs.Option.{option_map}
use Rattle.std.specs.List.{list_any, filter_map}
use Rattle.std.specs.Str.{IsUtf8}
use Rattle.object_values.specs.declared.jobs.FileBody.{FileBody}
use Rattle.odin_outside.specs.Files.{given_file_limit}
use Rattle.meaning_calls.specs.Outcomes.{file_in}

-- what stands at one path
abbrev pub Standing : Type 0
Standing = Option (List FileBody)

-- what stands at each path, where that is told
abbrev pub FoldersTold : Type 0
FoldersTold = List ℕ → Option Standing

-- a name without a slash, which would lead out of the folder
abbrev pub HasNoSlash : List ℕ → Type 0
HasNoSlash name = list_any (λ byte. nat_eq byte 47) name ≡ false

-- a name that a file in a folder can have: a text without a slash
pub record IsFileName (name : List ℕ) : Type 0 where
  pub plain : HasNoSlash name
  pub text : IsUtf8 name

-- ---- what stands there after a call

-- at every other path the same
abbrev pub SameBut : List ℕ → FoldersTold → FoldersTold → Type 0
SameBut path old new = (other : List ℕ) → other ≢ path → new other ≡ old other

-- at every path but these two the same
abbrev pub SameBeside : List ℕ → List ℕ → FoldersTold → FoldersTold → Type 0
SameBeside home path old new = (other : List ℕ) → other ≢ home → other ≢ path → new other ≡ old other

abbrev pub removed : Option Standing → Option Standing
removed held = option_map (λ standing. None) held

-- nothing is there, where that is told
abbrev pub IsGone : Option Standing → Type 0
IsGone None = ⊤
IsGone (Some standing) = standing ≡ None

-- nothing was there, and now there is an empty folder
abbrev pub FolderIsMade : Option Standing → Option Standing → Type 0
FolderIsMade None new = new ≡ None
FolderIsMade (Some None) new = new ≡ Some (Some [])
FolderIsMade (Some (Some files)) new = ⊥

-- a folder with these files and no others, whatever was there
abbrev pub laid_out : List FileBody → Option Standing → Option Standing
laid_out files held = option_map (λ standing. Some files) held

-- the folder was there without a file of that name, and has it now
abbrev pub IsAdded : FileBody → Option Standing → Option Standing → Type 0
IsAdded file None new = new ≡ None
IsAdded file (Some None) new = ⊥
IsAdded file (Some (Some files)) new = (file_in file.name files ≡ None) × (new ≡ Some (Some (files ++ file ∷ [])))

-- ---- what is read of it

-- the first bytes of the file of a name, where there is one
abbrev pub file_front_of : Standing → List ℕ → Option (List ℕ)
file_front_of None name = None
file_front_of (Some files) name = option_map (take given_file_limit) (file_in name files)

-- the answer is that of what stands there, where it is told
abbrev pub IsFoundInFolder : Option Standing → List ℕ → Option (List ℕ) → Type 0
IsFoundInFolder None name answer = ⊤
IsFoundInFolder (Some standing) name answer = answer ≡ file_front_of standing name

abbrev pub is_some : Option (List ℕ) → Bool
is_some None = false
is_some (Some bytes) = true

-- the folder has something of that name
abbrev pub has_file_named : Standing → List ℕ → Bool
has_file_named standing name = is_some (file_front_of standing name)

-- the answer is whether the folder has something of that name, where it is told what stands there
abbrev pub IsToldOf : Option Standing → List ℕ → Bool → Type 0
IsToldOf None name answer = ⊤
IsToldOf (Some standing) name answer = answer ≡ has_file_named standing name

abbrev pub left_file : Standing → List ℕ → Option FileBody
left_file standing name = option_map (λ body. record { name = name; body = body }) (file_front_of standing name)

-- these are the files of the names, where it is told what stands there
abbrev pub AreLeft : Option Standing → List (List ℕ) → List FileBody → Type 0
AreLeft None names files = ⊤
AreLeft (Some standing) names files = files ≡ filter_map (left_file standing) names

-- the file of one more name was put after those that were there, where it was left
abbrev pub IsPutLeft : Option Standing → List ℕ → List FileBody → List FileBody → Type 0
IsPutLeft None name old new = ⊤
IsPutLeft (Some standing) name old new = new ≡ old ++ filter_map (left_file standing) (name ∷ [])
