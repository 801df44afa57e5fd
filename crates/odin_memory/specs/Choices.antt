-- How calls are torn.
use Rattle.std.specs.Prelude.{◌≡◌, ℕ, ◌/◌, ◌%◌, IsFalse}
use Rattle.odin_memory.specs.declared.choice.Choice.{Choice}

-- none is
pub record IsWhole (choice : Choice) : Type 0 where
  pub rest : choice.rest ≡ 0
  pub chance : IsFalse choice.chance

-- the next write or cut is torn so: 0 whole, 1 nothing of it is done
pub record TearsAs (how : ℕ) (choice : Choice) : Type 0 where
  pub digit : choice.rest % 8 ≡ how
  pub chance : IsFalse choice.chance

-- the choice for what is after that write or cut
abbrev pub past_digit : Choice → Choice
past_digit choice = record choice { rest = choice.rest / 8 }
