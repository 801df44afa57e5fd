-- How lists and compounds are found among contents: a digest leads to the first value that has it, and the later ones clash.
use Rattle.std.specs.Prelude.{◌≡◌, ◌⊎◌, ◌-◌, ℕ, min, List, [], ◌∷◌, ◌++◌, length, Option, Some, None, All, Contains, nat_eq, vec_capacity, vec_len}
use Rattle.std.specs.HashMap.{get, spare}
use Rattle.std.specs.List.{flat_map, fold}
use Rattle.std.specs.Hash as fed
use Rattle.std.specs.Hash.{HashWrites}
use Rattle.sequences.specs.Fed.{bytes_fed}
use Rattle.std.specs.Cmp.Lexicographic.{pointwise}
use Rattle.object_values.specs.declared.views.Part.{Part}
use Rattle.object_values.specs.declared.views.Value.{Value}
use Rattle.object_values.specs.declared.nodes.Node.{Node}
use Rattle.object_values.specs.declared.views.Value.TheVariants.{Simple, List as Listed, Compound}
use Rattle.object_values.specs.contracts.nodes.NodeHash.TheImpl.{ghosts as node_hash}
use Rattle.content_store.specs.Digesting as digesting
use Rattle.meaning_records.specs.Numbers.{number_of}
use Rattle.kept_contents.specs.declared.index.OtherIndex.{OtherIndex}
use Rattle.kept_contents.specs.Stocks.{IsOther}

-- ---- the digest of a value

abbrev pub part_fed : Part → HashWrites
part_fed part = bytes_fed part.name ++ bytes_fed part.body

-- their kinds come first
abbrev pub nodes_fed : List Node → HashWrites
nodes_fed nodes = fed.u8 1 ++ fed.slice node_hash.hash_input nodes

abbrev pub parts_fed : List Part → HashWrites
parts_fed parts = fed.u8 2 ++ flat_map part_fed parts

abbrev pub value_fed : Value → HashWrites
value_fed (Simple text) = bytes_fed text
value_fed (Listed nodes) = nodes_fed nodes
value_fed (Compound parts) = parts_fed parts

unfoldable pub digest_of : Value → List ℕ
digest_of value = digesting.digest (fold digesting.write digesting.initial (value_fed value))

-- ---- the index

-- the number of some value
abbrev pub IsNumber : List Value → ℕ → Type 0
IsNumber contents number = (value : Value) × (number_of value contents ≡ Some number)

pub record IsIndexOf (contents : List Value) (first : List ℕ → Option ℕ) (clashing : List ℕ) : Type 0 where
  -- The digest of each list and compound leads to it, or to another, and then it clashes.
  pub found : (value : Value) (number : ℕ) → IsOther value → number_of value contents ≡ Some number
      → (k : ℕ) × (first (digest_of value) ≡ Some k) × ((number ≡ k) ⊎ Contains clashing number)
  -- Numbers are of contents.
  pub first_right : (key : List ℕ) (number : ℕ) → first key ≡ Some number → IsNumber contents number
  pub clashing_right : All (IsNumber contents) clashing

abbrev pub IsIndexed : List Value → OtherIndex → Type 0
IsIndexed contents index = IsIndexOf contents (get (pointwise nat_eq) index.first) index.clashing.items

-- for how many more there is room
abbrev pub room_of : OtherIndex → ℕ
room_of index = min (spare index.first) (vec_capacity index.clashing - vec_len index.clashing)

-- Where it isn't there, the value of this digest is taken in as the next content.
abbrev pub TakesIn : OtherIndex → List ℕ → ℕ → OtherIndex → Type 0
TakesIn old digest number new = (contents : List Value) (value : Value) → IsIndexed contents old → IsOther value → number_of value contents ≡ None
    → digest ≡ digest_of value → number ≡ length contents → IsIndexed (contents ++ value ∷ []) new
