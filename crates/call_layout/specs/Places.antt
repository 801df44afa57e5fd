-- The files of a folder, as far as they are told, and what the layout of a call makes of them.
use Rattle.std.specs.Prelude.{◌≡◌, ℕ, ◌==◌, List, fold, Option, bytes_eq, if◌then◌else◌, IfSome}
use Rattle.meaning_calls.specs.Jobs.{body_name}
use Rattle.call_layout.specs.declared.layout.Placed.{Placed}

-- the bytes of the file at each path
abbrev pub Files : Type 0
Files = List ℕ → Option (List ℕ)

-- the file of a part stands at a path, too
abbrev pub with_file : List ℕ → List ℕ → Files → Files
with_file part path files = λ other. if bytes_eq path other then files part else files other

-- Only the first part of a label is put there.
abbrev pub with_placed : Files → Placed → Files
with_placed files placed =
    if placed.first == placed.number then with_file (body_name placed.number) placed.label files
    else files

abbrev pub laid : List Placed → Files → Files
laid placed files = fold with_placed files placed

-- the part has the bytes of the first part with its label
abbrev pub HasFirstBytes : Option Files → Placed → Type 0
HasFirstBytes told placed =
    IfSome told (λ files. files (body_name placed.number) ≡ files (body_name placed.first))
