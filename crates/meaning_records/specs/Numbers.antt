-- Values by number: the number of a value is the place at which it stands first among the contents.
use Rattle.std.specs.Prelude.{◌≡◌, ◌↔◌, ℕ, suc, cond, List, [], ◌∷◌, ◌++◌, Option, Some, None, option_map, slice_get}
use Rattle.object_values.specs.declared.views.Value.{Value}
use Rattle.object_values.specs.contracts.views.ValuePartialEq.TheImpl.{ghosts as value_eq}

-- the first place at which the value stands
abbrev pub number_of : Value → List Value → Option ℕ
number_of value [] = None
number_of value (content ∷ contents) = cond (value_eq.eq value content) (Some 0) (option_map suc (number_of value contents))

-- What numbers tell of values, while contents only come after the others.
pub record NumbersTellValues : Type 0 where
  -- A number leads back to its value.
  pub leads_back : (value : Value) (contents : List Value) (number : ℕ) → number_of value contents ≡ Some number
      → slice_get contents number ≡ Some value
  -- Each content has a number.
  pub numbered : (value : Value) (contents : List Value) (place : ℕ) → slice_get contents place ≡ Some value
      → (number : ℕ) × (number_of value contents ≡ Some number)
  -- A number stays.
  pub stays : (value : Value) (contents later : List Value) (number : ℕ) → number_of value contents ≡ Some number
      → number_of value (contents ++ later) ≡ Some number
  -- Of two numbers, given at any two times, the values are equal exactly where the numbers are.
  pub exact : (contents later : List Value) (a b : Value) (m n : ℕ) → number_of a contents ≡ Some m
      → number_of b (contents ++ later) ≡ Some n → (m ≡ n) ↔ (a ≡ b)
