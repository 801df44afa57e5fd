-- Inputs of calls, fed to a hasher as texts are held.
use Rattle.std.proofs.Common.{◌≡◌, ◌<◌, ◌≤◌, ◌+◌, ℕ, List, [], ◌∷◌, ◌++◌, get_or, length, take, take_all, ap, sym, ◌∙◌, subst, refl}
use Rattle.std.specs.Prelude.{Option, Some, None}
use Rattle.std.specs.Hash.{HashWrites, le_bytes}
use Rattle.std.specs.List.{flat_map, fold}
use Rattle.std.proofs.lemmas.List.{take_more}
use Rattle.std.proofs.lemmas.List.Sums.{fold-append}
use Rattle.std.proofs.lemmas.List.Elements.{All-head, All-push, All-tail, All-weaker}
use Rattle.object_values.specs.declared.calls.CallPart.{CallPart}
use Rattle.content_store.specs.Bodies.{Bodies}
use Rattle.content_store.specs.Digesting as digesting
use Rattle.content_store.specs.declared.hasher.ShaHasher.{ShaHasher}
use Rattle.content_store.proofs.Lemmas.{place_kept}
use Rattle.kept_contents.specs.Inputs.{AreHeldParts, IsHeldPart, IsHeldText, digest_with_head, id_of, input_fed, part_fed}
use Rattle.kept_contents.specs.Stocks.{IsGrownFrom}
use Rattle.kept_contents.proofs.IndexLemmas.{fed_more}

id_kept : (texts later : Bodies) (body : Option (List ℕ)) → IsHeldText texts body → id_of (texts ++ later) body ≡ id_of texts body
id_kept texts later None held = refl
id_kept texts later (Some text) held = place_kept text texts later held.0 held.1 ∙ sym held.1

text_kept : (texts later : Bodies) (body : Option (List ℕ)) → IsHeldText texts body → IsHeldText (texts ++ later) body
text_kept texts later None held = tt
text_kept texts later (Some text) held = (held.0, place_kept text texts later held.0 held.1)

fed_kept : (texts later : Bodies) (parts : List CallPart) → AreHeldParts texts parts → flat_map (part_fed (texts ++ later)) parts ≡ flat_map (part_fed texts) parts
fed_kept texts later [] held = refl
fed_kept texts later (part ∷ parts) held =
    ap (λ (text : Option ℕ). input_fed part text ++ flat_map (part_fed (texts ++ later)) parts) (id_kept texts later part.body (All-head (IsHeldPart texts) part parts held))
    ∙ ap (λ (rest : HashWrites). part_fed texts part ++ rest) (fed_kept texts later parts (All-tail (IsHeldPart texts) part parts held))

module _ (old new : Bodies) (grown : IsGrownFrom old new) where
  pub parts_grown : (parts : List CallPart) → AreHeldParts old parts → AreHeldParts new parts
  parts_grown parts held = subst (λ (t : Bodies). AreHeldParts t parts) (sym grown.1) (All-weaker (IsHeldPart old) (IsHeldPart (old ++ grown.0)) (λ part h. text_kept old grown.0 part.body h) parts held)

  pub fed_grown : (parts : List CallPart) → AreHeldParts old parts → flat_map (part_fed new) parts ≡ flat_map (part_fed old) parts
  fed_grown parts held = ap (λ (t : Bodies). flat_map (part_fed t) parts) grown.1 ∙ fed_kept old grown.0 parts held

  pub fed_grown_state : {S : Type 0} (write : S → List ℕ → S) (initial state : S) (parts : List CallPart) → AreHeldParts old parts → state ≡ fold write initial (flat_map (part_fed old) parts) → state ≡ fold write initial (flat_map (part_fed new) parts)
  fed_grown_state write initial state parts held is = is ∙ ap (fold write initial) (sym (fed_grown parts held))

-- ---- one input after another

pub held_more : (texts : Bodies) (parts next : List CallPart) (part : CallPart) → AreHeldParts texts parts → IsHeldPart texts part → next ≡ parts ++ part ∷ [] → AreHeldParts texts next
held_more texts parts next part held is more = subst (AreHeldParts texts) (sym more) (All-push (IsHeldPart texts) parts part held is)

pub fed_next : {S : Type 0} (write : S → List ℕ → S) (initial start end : S) (texts : Bodies) (parts next : List CallPart) (part : CallPart) (text : Option ℕ) → text ≡ id_of texts part.body → start ≡ fold write initial (flat_map (part_fed texts) parts) → end ≡ fold write start (input_fed part text) → next ≡ parts ++ part ∷ [] → end ≡ fold write initial (flat_map (part_fed texts) next)
fed_next write initial start end texts parts next part text is begins ends more = fed_more write initial start end (part_fed texts) parts next part begins (ends ∙ ap (λ (t : Option ℕ). fold write start (input_fed part t)) is) more

module _ (texts : Bodies) (parts : List CallPart) (i : ℕ) (here : CallPart) (within : i < length parts) (at : here ≡ get_or parts i here) where
  parts_taken : take (i + 1) parts ≡ take i parts ++ here ∷ []
  parts_taken = take_more parts i here within ∙ ap (λ (p : CallPart). take i parts ++ p ∷ []) (sym at)

  pub held_step : AreHeldParts texts (take i parts) → IsHeldPart texts here → AreHeldParts texts (take (i + 1) parts)
  held_step held is = held_more texts (take i parts) (take (i + 1) parts) here held is parts_taken

  pub not_held : ¬ IsHeldPart texts here → ¬ AreHeldParts texts parts
  not_held none held = none (subst (IsHeldPart texts) (sym at) (held i here within))

  pub fed_step : {S : Type 0} (write : S → List ℕ → S) (initial start end : S) (text : Option ℕ) → text ≡ id_of texts here.body → start ≡ fold write initial (flat_map (part_fed texts) (take i parts)) → end ≡ fold write start (input_fed here text) → end ≡ fold write initial (flat_map (part_fed texts) (take (i + 1) parts))
  fed_step write initial start end text is begins ends = fed_next write initial start end texts (take i parts) (take (i + 1) parts) here text is begins ends parts_taken

pub fed_all : {S : Type 0} (write : S → List ℕ → S) (initial state : S) (texts : Bodies) (parts : List CallPart) (i : ℕ) → length parts ≤ i → state ≡ fold write initial (flat_map (part_fed texts) (take i parts)) → state ≡ fold write initial (flat_map (part_fed texts) parts)
fed_all write initial state texts parts i all fed = fed ∙ ap (λ (l : List CallPart). fold write initial (flat_map (part_fed texts) l)) (take_all i parts all)

pub digested_whole : (texts : Bodies) (head : ℕ) (parts : List CallPart) (i : ℕ) (state : ShaHasher) (digest : List ℕ) → length parts ≤ i → state ≡ fold digesting.write (fold digesting.write digesting.initial (le_bytes 8 head ∷ [])) (flat_map (part_fed texts) (take i parts)) → digest ≡ digesting.digest state → digest ≡ digest_with_head texts head parts
unfolding digest_with_head
digested_whole texts head parts i state digest all fed is =
    is
    ∙ ap digesting.digest (fed_all digesting.write (fold digesting.write digesting.initial (le_bytes 8 head ∷ [])) state texts parts i all fed ∙ sym (fold-append digesting.write digesting.initial (le_bytes 8 head ∷ []) (flat_map (part_fed texts) parts)))

-- the digest stays while texts come after the others
pub digest_grown : (old new : Bodies) (head : ℕ) (parts : List CallPart) → IsGrownFrom old new → AreHeldParts old parts → digest_with_head new head parts ≡ digest_with_head old head parts
unfolding digest_with_head
digest_grown old new head parts grown held = ap (λ (fed : HashWrites). digesting.digest (fold digesting.write digesting.initial (le_bytes 8 head ∷ fed))) (fed_grown old new grown parts held)
