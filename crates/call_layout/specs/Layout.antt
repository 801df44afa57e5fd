-- The layout of the parts of a call by their labels: which part stands where, and why there is none.
use Rattle.std.specs.Prelude.{◌≡◌, ⊤, ℕ, ◌+◌, Bool, true, false, ◌&&◌, ◌==◌, nat_eq, slice_index, take, All, List, [], ◌∷◌, ◌++◌, Option, Some, None, unwrap_or, bytes_eq, if◌then◌else◌}
use Rattle.std.specs.Borrow.{Bor}
use Rattle.std.specs.Cmp.Lexicographic.{pointwise}
use Rattle.std.specs.HashMap.{HashMap, get}
use Rattle.std.specs.List.{list_any}
use Rattle.std.specs.Str.{IsUtf8}
use Rattle.call_layout.specs.declared.told.PartTold.{PartTold}
use Rattle.call_layout.specs.declared.layout.Placed.{Placed}
use Rattle.call_layout.specs.declared.layout.LayoutFault.{LayoutFault}
use Rattle.call_layout.specs.declared.layout.LayoutFault.TheVariants.{Leads, NoText, Taken, Under, Memory}
use Rattle.call_layout.specs.Labels.{StaysBelow, is_taken}

-- the part is there, and has this label
abbrev pub stands_at : List ℕ → PartTold → Bool
stands_at label part = part.is_there && bytes_eq part.label label

abbrev pub has_label : List PartTold → List ℕ → Bool
has_label parts label = list_any (stands_at label) parts

-- ---- which part stands where

-- the number of the first part with this label, numbered from k on
abbrev pub first_number : List ℕ → ℕ → List PartTold → Option ℕ
first_number label k [] = None
first_number label k (part ∷ rest) =
    if stands_at label part then Some k else first_number label (k + 1) rest

-- a part that is there stands at its label, by the file of the first part that has it
abbrev pub placed_of : List PartTold → ℕ → PartTold → List Placed
placed_of parts number part =
    if part.is_there then record {
      number = number;
      first = unwrap_or (first_number part.label 1 parts) number;
      label = part.label;
    } ∷ []
    else []

abbrev pub placed_from : List PartTold → ℕ → List PartTold → List Placed
placed_from parts k [] = []
placed_from parts k (part ∷ rest) = placed_of parts k part ++ placed_from parts (k + 1) rest

abbrev pub placed_parts : List PartTold → List Placed
placed_parts parts = placed_from parts 1 parts

-- the map has the first number of each label
abbrev pub HoldsFirst : {S : Type 0} → HashMap (Bor (List ℕ)) ℕ S → ℕ → List PartTold → Type 0
HoldsFirst numbers k parts = (label : Bor (List ℕ)) → get (λ x y. pointwise nat_eq x.now y.now) numbers label ≡ first_number label.now k parts

-- ---- labels that can stand

-- the folder, a slash, and a file or folder in it
abbrev pub IsFolderOf : List ℕ → List ℕ → Type 0
IsFolderOf folder label = (rest : List ℕ) × (label ≡ folder ++ 47 ∷ rest)

-- what stands before this place of the label is a folder of it, and a label
abbrev pub has_folder_at : List PartTold → List ℕ → ℕ → Bool
has_folder_at parts label at = slice_index label at == 47 && has_label parts (take at label)

-- no folder of the label is a label of another part
abbrev pub IsUnderNone : List PartTold → List ℕ → Type 0
IsUnderNone parts label = (folder : List ℕ) → IsFolderOf folder label → has_label parts folder ≡ false

pub record CanStand (outs : List (List ℕ)) (parts : List PartTold) (label : List ℕ) : Type 0 where
  pub below : StaysBelow label
  pub text : IsUtf8 label
  pub free : is_taken outs label ≡ false
  pub apart : IsUnderNone parts label

abbrev pub PartCanStand : List (List ℕ) → List PartTold → PartTold → Type 0
PartCanStand outs parts part = part.is_there ≡ true → CanStand outs parts part.label

abbrev pub AllCanStand : List (List ℕ) → List PartTold → Type 0
AllCanStand outs parts = All (PartCanStand outs parts) parts

-- ---- why there is no layout

-- why a label can't stand
abbrev pub IsCauseAt : List (List ℕ) → List PartTold → List ℕ → LayoutFault → Type 0
IsCauseAt outs parts label (Leads told) = (told ≡ label) × (¬ StaysBelow label)
IsCauseAt outs parts label (NoText told) = (told ≡ label) × (¬ IsUtf8 label)
IsCauseAt outs parts label (Taken told) = (told ≡ label) × (is_taken outs label ≡ true)
IsCauseAt outs parts label (Under folder told) =
    (told ≡ label) × (IsFolderOf folder label × (has_label parts folder ≡ true))
IsCauseAt outs parts label Memory = ⊤

-- Nothing is said of an end of memory; every other fault is that of the label of a part that is there.
abbrev pub IsFaultOf : List (List ℕ) → List PartTold → LayoutFault → Type 0
IsFaultOf outs parts Memory = ⊤
IsFaultOf outs parts fault =
    (label : List ℕ) × ((has_label parts label ≡ true) × IsCauseAt outs parts label fault)
