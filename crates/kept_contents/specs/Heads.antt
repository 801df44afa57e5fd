-- The heads of calls.
use Rattle.std.specs.Prelude.{◌≡◌, ℕ, List, [], ◌∷◌, ◌++◌, Option, slice_get}
use Rattle.std.specs.Bool.{Decides}
use Rattle.std.specs.Hash as fed
use Rattle.std.specs.Hash.{HashWrites}
use Rattle.std.specs.Hash.FoldHasher as folding
use Rattle.sequences.specs.Fed.{bytes_fed}
use Rattle.std.specs.Cmp.Lexicographic.{bytes_decides, pointwise_decides}
use Rattle.std.specs.List.{fold, position}
use Rattle.std.proofs.Common.{rules}
use Rattle.object_values.specs.Exact.{param_value_exact}
use Rattle.object_values.specs.declared.nodes.ParamValue.{ParamValue}
use Rattle.object_values.specs.declared.calls.Call.{Call}
use Rattle.object_values.specs.declared.calls.CallPart.{CallPart}
use Rattle.content_store.specs.Digesting as digesting
use Rattle.content_store.specs.Marks.{IsIndex}
use Rattle.content_store.specs.declared.marks.Mark.{Mark}
use Rattle.content_store.specs.declared.marks.Mark.TheVariants.{Quick, Digest}
use Rattle.content_store.specs.declared.marks.Marks.{Marks}
use Rattle.kept_contents.specs.declared.head.CallHead.{CallHead}
use Rattle.kept_contents.specs.contracts.head.CallHeadPartialEq.TheImpl.{ghosts as head_eq}

-- all of a call but its inputs
abbrev pub head_of : Call → CallHead
head_of call = record { tool = call.tool; version = call.version; words = call.words; params = call.params; outs = call.outs }

-- the call that has this head and these inputs
abbrev pub call_with : CallHead → List CallPart → Call
call_with head parts = record { tool = head.tool; version = head.version; words = head.words; params = head.params; parts = parts; outs = head.outs }

-- ---- heads by number

abbrev pub place_of_head : CallHead → List CallHead → Option ℕ
place_of_head head heads = position (head_eq.eq head) heads

-- some came after the others
abbrev pub AreMore : List CallHead → List CallHead → Type 0
AreMore old new = (later : List CallHead) × (new ≡ old ++ later)

-- ---- the marks of a head, by which its number is found

abbrev pair_fed : ParamValue → HashWrites
pair_fed p = bytes_fed p.param ++ bytes_fed p.value

abbrev pub fed_of : CallHead → HashWrites
fed_of head =
    bytes_fed head.tool ++ bytes_fed head.version
    ++ fed.slice bytes_fed head.words ++ fed.slice pair_fed head.params
    ++ fed.slice bytes_fed head.outs

unfoldable pub hash_of : CallHead → ℕ
hash_of head = folding.finish (fold folding.write folding.initial (fed_of head))

unfoldable pub digest_of : CallHead → List ℕ
digest_of head = digesting.digest (fold digesting.write digesting.initial (fed_of head))

-- from the cheapest on
abbrev pub marks_of : CallHead → List Mark
marks_of head = Quick (hash_of head) ∷ Digest (digest_of head) ∷ []

-- Each head stands once, and is found by its marks.
abbrev pub IsHeadIndex : List CallHead → Marks → Type 0
IsHeadIndex heads marks = IsIndex (slice_get heads) marks_of marks

-- Its `==` answers whether two are equal.
pub head_exact : (x y : CallHead) → Decides (head_eq.eq x y) (x ≡ y)
head_exact x y = search (rules, bytes_decides x.tool y.tool, bytes_decides x.version y.version, pointwise_decides bytes_decides x.words y.words, pointwise_decides param_value_exact x.params y.params, pointwise_decides bytes_decides x.outs y.outs)
