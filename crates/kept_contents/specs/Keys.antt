-- Which key is that of a call, and its marks.
use Rattle.std.specs.Prelude.{◌≡◌, ◌⊎◌, List, [], ◌∷◌, None, Some}
use Rattle.std.specs.Bool.{Decides}
use Rattle.std.specs.Cmp.Lexicographic.{pointwise_decides}
use Rattle.std.proofs.Common.{rules}
use Rattle.std.proofs.lemmas.Bool.Decides.{Decides-eqb}
use Rattle.object_values.specs.Exact.{call_part_exact}
use Rattle.object_values.specs.declared.calls.Call.{Call}
use Rattle.kept_contents.specs.declared.head.CallHead.{CallHead}
use Rattle.kept_contents.specs.declared.keys.CallKey.{CallKey}
use Rattle.kept_contents.specs.contracts.keys.CallKeyPartialEq.TheImpl.{ghosts as key_eq}
use Rattle.kept_contents.specs.Heads.{head_of, place_of_head}
use Rattle.content_store.specs.Bodies.{Bodies}
use Rattle.content_store.specs.declared.marks.Mark.{Mark}
use Rattle.content_store.specs.declared.marks.Mark.TheVariants.{Quick, Digest}
use Rattle.kept_contents.specs.Inputs.{AreHeldParts, digest_with_head, hash_of_parts, hash_with_head}

pub record IsKeyOf (heads : List CallHead) (texts : Bodies) (key : CallKey) (call : Call) : Type 0 where
  pub head : place_of_head (head_of call) heads ≡ Some key.head
  pub hash : key.hash ≡ hash_of_parts texts call.parts
  pub held : AreHeldParts texts call.parts
  pub parts : key.parts ≡ call.parts

-- the head of a call, or a text of its inputs, isn't held
abbrev pub IsUnheld : List CallHead → Bodies → Call → Type 0
IsUnheld heads texts call = (place_of_head (head_of call) heads ≡ None) ⊎ (¬ AreHeldParts texts call.parts)

-- the marks of a key, from the cheapest on
abbrev pub marks_of : Bodies → CallKey → List Mark
marks_of texts key = Quick (hash_with_head key.head key.hash) ∷ Digest (digest_with_head texts key.head key.parts) ∷ []

-- Its `==` answers whether two are equal.
pub key_exact : (x y : CallKey) → Decides (key_eq.eq x y) (x ≡ y)
key_exact x y = search (rules, Decides-eqb x.head y.head, Decides-eqb x.hash y.hash, pointwise_decides call_part_exact x.parts y.parts)
