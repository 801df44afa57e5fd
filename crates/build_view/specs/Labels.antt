-- What a tool that runs is called by.
use Rattle.std.specs.Prelude.{◌≡◌, ◌⊎◌, ℕ, List, [], ◌∷◌, ◌++◌, Option, Some, None, codes}
use Rattle.object_values.specs.declared.jobs.FileBody.{FileBody}
use Rattle.meaning_texts.specs.Lists.{HasNo}
use Rattle.call_layout.specs.declared.told.PartTold.{PartTold}
use Rattle.call_layout.specs.declared.told.CallTold.{CallTold}
use Rattle.call_layout.specs.Told.{read_call}

-- the tool's name stands in the second line of the file `call`, before a space
pub record IsToolOf (call name : List ℕ) : Type 0 where
  pub rest : List ℕ
  pub is : call ≡ codes "odin 1\ntool " ++ (name ++ 32 ∷ rest)
  pub word : HasNo 32 name

-- its name, and nothing where it has none
abbrev pub MayBeTool : List ℕ → List ℕ → Type 0
MayBeTool call name = IsToolOf call name ⊎ ((name ≡ []) × ((other : List ℕ) → ¬ IsToolOf call other))

-- a space and the label of the first part
abbrev pub first_words : List PartTold → List ℕ
first_words [] = []
first_words (part ∷ parts) = 32 ∷ part.label

abbrev pub part_words : Option CallTold → List ℕ
part_words None = []
part_words (Some told) = first_words told.parts

pub record IsLabelIn (call label : List ℕ) : Type 0 where
  pub name : List ℕ
  pub tool : MayBeTool call name
  pub is : label ≡ name ++ part_words (read_call call)

-- a job's first file is `call`
abbrev pub IsLabelOf : List FileBody → List ℕ → Type 0
IsLabelOf [] label = label ≡ []
IsLabelOf (file ∷ files) label = IsLabelIn file.body label
