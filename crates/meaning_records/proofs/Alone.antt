-- One item after what is kept.
use Rattle.std.proofs.Common.{[], ◌∷◌, refl}
use Rattle.object_values.specs.declared.items.Item.{Item}
use Rattle.meaning_records.specs.States.{State, TakesOne, TakesAll}

pub alone : (state : State) (it : Item) (new : State) → TakesOne state it new → TakesAll state (it ∷ []) new
alone state it new taken = (new, taken, refl)
