-- Keys of calls.
use Rattle.std.proofs.Common.{◌≡◌, ℕ, List, [], ◌∷◌, ap, sym, ◌∙◌}
use Rattle.std.specs.Hash.{HashWrites}
use Rattle.std.specs.List.{fold}
use Rattle.std.specs.Hash.FoldHasher as folding
use Rattle.std.proofs.lemmas.Option.{same_Some}
use Rattle.object_values.specs.declared.calls.Call.{Call}
use Rattle.content_store.specs.Bodies.{Bodies}
use Rattle.content_store.specs.declared.marks.Mark.TheVariants.{Quick, Digest}
use Rattle.kept_contents.specs.declared.head.CallHead.{CallHead}
use Rattle.kept_contents.specs.declared.keys.CallKey.{CallKey}
use Rattle.kept_contents.specs.Heads.{AreMore, call_with, head_of}
use Rattle.kept_contents.specs.Inputs.{AreHeldParts, hash_of_parts, hash_with_head}
use Rattle.kept_contents.specs.Keys.{IsKeyOf, marks_of}
use Rattle.kept_contents.specs.Stocks.{IsGrownFrom}
use Rattle.kept_contents.proofs.HeadLemmas.{head_grown, one_head}
use Rattle.kept_contents.proofs.InputLemmas.{digest_grown, fed_grown, parts_grown}

-- with more heads and texts
pub key_grown : (old new : List CallHead) (before after : Bodies) (key : CallKey) (call : Call) → AreMore old new → IsGrownFrom before after → IsKeyOf old before key call → IsKeyOf new after key call
unfolding hash_of_parts
key_grown old new before after key call more grown is = record {
  head = head_grown (head_of call) old new key.head more is.head;
  hash = is.hash ∙ sym (ap (λ (fed : HashWrites). folding.finish (fold folding.write folding.initial fed)) (fed_grown before after grown call.parts is.held));
  held = parts_grown before after grown call.parts is.held;
  parts = is.parts;
}

-- its marks stay
pub marks_grown : (before after : Bodies) (key : CallKey) → IsGrownFrom before after → AreHeldParts before key.parts → marks_of after key ≡ marks_of before key
marks_grown before after key grown held = ap (λ (d : List ℕ). Quick (hash_with_head key.head key.hash) ∷ Digest d ∷ []) (digest_grown before after key.head key.parts grown held)

module _ (heads : List CallHead) (texts : Bodies) where
  -- a call has one key
  pub one_key : (x y : CallKey) (call : Call) → IsKeyOf heads texts x call → IsKeyOf heads texts y call → x ≡ y
  one_key x y call p q =
      let head : x.head ≡ y.head = same_Some x.head y.head (sym p.head ∙ q.head) in
      let hash : x.hash ≡ y.hash = p.hash ∙ sym q.hash in
      let parts : x.parts ≡ y.parts = p.parts ∙ sym q.parts in
      λ i. record { head = head i; hash = hash i; parts = parts i }

  -- a key is of one call
  pub one_call_of : (key : CallKey) (a b : Call) → IsKeyOf heads texts key a → IsKeyOf heads texts key b → a ≡ b
  one_call_of key a b p q =
      let head : head_of a ≡ head_of b = one_head (head_of a) (head_of b) heads key.head p.head q.head in
      let parts : a.parts ≡ b.parts = sym p.parts ∙ q.parts in
      λ i. call_with (head i) (parts i)
