-- The runs of tools.
use Rattle.std.specs.Prelude.{◌≡◌, ◌⊎◌, ℕ, List, [], ◌∷◌, ◌++◌}
use Rattle.build_view.specs.declared.runs.Run.{Run}

-- One run comes to those that were there: one in this slot that ended then.
pub record AddsRun (slot to : ℕ) (old new : List Run) : Type 0 where
  pub run : Run
  pub slot_is : run.slot ≡ slot
  pub to_is : run.to ≡ to
  pub added : new ≡ old ++ run ∷ []

abbrev pub MayAddRun : ℕ → ℕ → List Run → List Run → Type 0
MayAddRun slot to old new = (new ≡ old) ⊎ AddsRun slot to old new
