-- The places of the texts among the contents that a batch adds.
use Rattle.std.specs.Prelude.{◌≡◌, ◌≢◌, ⊤, ℕ, List, Option, Some, None, All, slice_get}
use Rattle.kept_contents.specs.declared.shared.Shared.{Shared}
use Rattle.kept_contents.specs.declared.shared.Content.{Content}
use Rattle.kept_contents.specs.declared.shared.Content.TheVariants.{Text, Other}

-- The content is no text that has this number in memory.
abbrev pub IsApart : ℕ → Content → Type 0
IsApart id (Text s) = s.id ≢ id
IsApart id (Other value) = ⊤

pub record ArePlaced (added : List Content) (places : ℕ → Option ℕ) : Type 0 where
  -- a number in memory leads to its text
  pub right : (id place : ℕ) → places id ≡ Some place → (s : Shared) × (slice_get added place ≡ Some (Text s)) × (s.id ≡ id)
  -- or to none, and then no text has it
  pub whole : (id : ℕ) → places id ≡ None → All (IsApart id) added
