-- The hash and the digest of the inputs of a call, for whose texts their numbers in memory stand. Nothing rests on them but time.
use Rattle.std.specs.Prelude.{◌≡◌, ⊤, ℕ, List, ◌++◌, Option, Some, None, All}
use Rattle.std.specs.List.{flat_map, fold}
use Rattle.std.specs.Hash as fed
use Rattle.std.specs.Hash.{HashWrites}
use Rattle.std.specs.Hash.FoldHasher as folding
use Rattle.sequences.specs.Fed.{bytes_fed}
use Rattle.object_values.specs.declared.calls.CallPart.{CallPart}
use Rattle.content_store.specs.Bodies.{Bodies, place_of_body}
use Rattle.content_store.specs.Digesting as digesting

-- the number in memory of a text, where there is one
abbrev pub id_of : Bodies → Option (List ℕ) → Option ℕ
id_of texts None = None
id_of texts (Some text) = place_of_body text texts

-- it has one, where there is a text
abbrev pub IsHeldText : Bodies → Option (List ℕ) → Type 0
IsHeldText texts None = ⊤
IsHeldText texts (Some text) = (id : ℕ) × (place_of_body text texts ≡ Some id)

abbrev pub IsHeldPart : Bodies → CallPart → Type 0
IsHeldPart texts part = IsHeldText texts part.body

abbrev pub AreHeldParts : Bodies → List CallPart → Type 0
AreHeldParts texts parts = All (IsHeldPart texts) parts

-- what an input feeds a hasher: the number of its text stands for the text
abbrev pub input_fed : CallPart → Option ℕ → HashWrites
input_fed part text = fed.u32 part.slot ++ bytes_fed part.label ++ fed.option fed.u64 text

abbrev pub part_fed : Bodies → CallPart → HashWrites
part_fed texts part = input_fed part (id_of texts part.body)

unfoldable pub hash_of_parts : Bodies → List CallPart → ℕ
hash_of_parts texts parts = folding.finish (fold folding.write folding.initial (flat_map (part_fed texts) parts))

-- of the number of a head, and the hash of inputs
unfoldable pub hash_with_head : ℕ → ℕ → ℕ
hash_with_head head hash = folding.finish (fold folding.write folding.initial (fed.u64 head ++ fed.u64 hash))

-- and the inputs
unfoldable pub digest_with_head : Bodies → ℕ → List CallPart → List ℕ
digest_with_head texts head parts = digesting.digest (fold digesting.write digesting.initial (fed.u64 head ++ flat_map (part_fed texts) parts))
