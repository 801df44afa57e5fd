-- The items that were found so far.
use Rattle.std.specs.Prelude.{◌≡◌, [], ◌∷◌, ◌++◌}
use Rattle.request_parser.specs.Kept.{KeepsOne}
use Rattle.request_parser.specs.declared.items.Item.{Item}
use Rattle.request_parser.specs.declared.items.Item.TheVariants.{Param, Step}
use Rattle.request_parser.specs.declared.items.Found.{Found}

pub record IsEmpty (found : Found) : Type 0 where
  pub no_params : found.params.items ≡ []
  pub no_steps : found.steps ≡ []

-- The item was put after those before.
abbrev pub PutsItem : Item → Found → Found → Type 0
PutsItem (Param p) old new = KeepsOne p old.params.items new.params.items × (new.steps ≡ old.steps)
PutsItem (Step s) old new = (new.params.items ≡ old.params.items) × (new.steps ≡ old.steps ++ s ∷ [])
