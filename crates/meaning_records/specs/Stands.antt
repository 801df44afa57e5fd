-- What an image stands for: what its whole records make of nothing, one after another; or the offset at which it isn't a store's.
use Rattle.std.specs.Prelude.{◌≡◌, ◌⊎◌, ℕ, List, [], ◌∷◌, ◌++◌}
use Rattle.meaning_records.specs.Front.{start_of}
use Rattle.meaning_records.specs.Images.{gate_after, Stored, IsStore, NotOurs}
use Rattle.meaning_records.specs.States.{State, nothing, Reads, ReadsAll}

pub record Stands (image : List ℕ) (state : State) : Type 0 where
  pub records : List (List ℕ)
  pub stored : Stored records image
  pub read : ReadsAll nothing records state

-- the gate after records that follow each other from a gate on
abbrev pub gate_behind : ℕ → List (List ℕ) → ℕ
gate_behind gate [] = gate
gate_behind gate (payload ∷ payloads) = gate_behind (gate_after gate payload) payloads

-- The records are whole, but one of them doesn't read after those before it: this is its gate.
pub record HasBadRecord (image : List ℕ) (at : ℕ) : Type 0 where
  pub before : List (List ℕ)
  pub payload : List ℕ
  pub rest : List (List ℕ)
  pub end : ℕ
  pub store : IsStore image (before ++ payload ∷ rest) end
  pub state : State
  pub read : ReadsAll nothing before state
  pub unread : (next : State) → ¬ Reads state payload next
  pub place : at ≡ gate_behind (start_of image) before

-- An image stands for nothing, at this offset: what its records are is tested first, and then what they say.
abbrev pub StandsNot : List ℕ → ℕ → Type 0
StandsNot image at = NotOurs image at ⊎ HasBadRecord image at
