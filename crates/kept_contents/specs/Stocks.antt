-- The contents of a journal in memory.
use Rattle.std.specs.Prelude.{◌≡◌, ⊤, ℕ, List, ◌++◌, Option, Some, length, map, slice_get}
use Rattle.object_values.specs.declared.views.Value.{Value}
use Rattle.object_values.specs.declared.views.Value.TheVariants.{Simple, List as Listed, Compound}
use Rattle.content_store.specs.Bodies.{Bodies, place_of_body}
use Rattle.meaning_records.specs.Tables.{IsText}
use Rattle.meaning_records.specs.Numbers.{number_of}
use Rattle.kept_contents.specs.declared.shared.Content.{Content}
use Rattle.kept_contents.specs.declared.shared.Content.TheVariants.{Text, Other}

-- the contents, the texts by their numbers in memory, and for how many contents more there is room
pub record ContentStock : Type 0 where
  pub contents : List Value
  pub texts : Bodies
  pub room : ℕ

-- texts came after the others
abbrev pub IsGrownFrom : Bodies → Bodies → Type 0
IsGrownFrom old new = (later : Bodies) × (new ≡ old ++ later)

-- a list or a compound
abbrev pub IsOther : Value → Type 0
IsOther (Simple text) = ⊥
IsOther (Listed nodes) = ⊤
IsOther (Compound parts) = ⊤

-- the value that a content is
abbrev pub value_of : Content → Value
value_of (Text shared) = Simple shared.text
value_of (Other value) = value

abbrev pub values_of_contents : List Content → List Value
values_of_contents = map value_of

-- A content that is a text is held under its number.
abbrev pub IsHeldIn : Bodies → Content → Type 0
IsHeldIn texts (Text shared) = place_of_body shared.text texts ≡ Some shared.id
IsHeldIn texts (Other value) = IsOther value

-- Each text leads to its number where it is a content, and to no other.
pub record IsNumbered (contents : List Value) (texts : Bodies) (numbers : List (Option ℕ)) : Type 0 where
  pub long : length numbers ≡ length texts
  pub right : (id number : ℕ) → slice_get numbers id ≡ Some (Some number) → (text : List ℕ) × (place_of_body text texts ≡ Some id) × (number_of (Simple text) contents ≡ Some number)
  pub whole : (number : ℕ) (text : List ℕ) → IsText contents number text → (id : ℕ) × (found : ℕ) × (place_of_body text texts ≡ Some id) × (slice_get numbers id ≡ Some (Some found))
