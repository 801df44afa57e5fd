-- An image reads in one way.
use Rattle.std.proofs.Common.{◌≡◌, ◌⊎◌, inl, inr, ℕ, ◌+◌, ◌<◌, ◌≤◌, List, [], ◌∷◌, length, slice_index, refl, sym, ap, subst, ◌∙◌, arith}
use Rattle.odin_bytes.specs.Fields.{bytes_field}
use Rattle.odin_bytes.specs.FieldLemmas.{field_front, body_front}
use Rattle.meaning_records.specs.Front.{start_of}
use Rattle.meaning_records.specs.Images.{IsNew, IsWritten, IsClosed, gate_after, IsRecord, AreRecords, IsStore, Stored, NotOurs}

-- after a gate stands one record at most
one_record : (image : List ℕ) (gate : ℕ) (payload other : List ℕ) → IsRecord image gate payload → IsRecord image gate other → payload ≡ other
one_record image gate payload other record_a record_b =
    let fronts = sym (field_front image (gate + 1) (gate_after gate payload) (bytes_field payload) record_a.body) ∙ field_front image (gate + 1) (gate_after gate other) (bytes_field other) record_b.body in
    (body_front payload other _ _ record_a.short record_b.short fronts).0

-- at this gate no record stands
abbrev HasNoRecordAt : List ℕ → ℕ → Type 0
HasNoRecordAt image gate = (payload : List ℕ) → ¬ (IsRecord image gate payload)

pub closed_stops : (image : List ℕ) (gate : ℕ) → IsClosed image gate → HasNoRecordAt image gate
closed_stops image gate closed payload there = closed.other there.opened.one

-- whole records up to a gate where none stands are one list
pub one_list_of_records : (image : List ℕ) (gate end last : ℕ) (records other : List (List ℕ)) → AreRecords image gate records end → AreRecords image gate other last → HasNoRecordAt image end → HasNoRecordAt image last → (other ≡ records) × (last ≡ end)
one_list_of_records image gate end last [] [] whole also stops ends = (refl, also ∙ sym whole)
one_list_of_records image gate end last [] (payload ∷ other) whole also stops ends = absurd (stops payload (subst (λ at. IsRecord image at payload) (sym whole) also.0))
one_list_of_records image gate end last (payload ∷ records) [] whole also stops ends = absurd (ends payload (subst (λ at. IsRecord image at payload) (sym also) whole.0))
one_list_of_records image gate end last (payload ∷ records) (second ∷ other) whole also stops ends =
    let same : payload ≡ second = one_record image gate payload second whole.0 also.0 in
    let rest = one_list_of_records image (gate_after gate payload) end last records other whole.1 (subst (λ p. AreRecords image (gate_after gate p) other last) (sym same) also.1) stops ends in
    (ap (λ p. p ∷ other) (sym same) ∙ ap (λ l. payload ∷ l) rest.0, rest.1)

-- no file that counts as new is written
pub new_or_written : (image : List ℕ) → IsNew image → IsWritten image → ⊥
new_or_written image new written = by_blank new.blank
  where
    by_blank : (length image ≤ 1) ⊎ (slice_index image 0 ≡ 0) → ⊥
    by_blank (inl short) = omega (arith, short, written.some)
    by_blank (inr zero_first) = written.marked zero_first

pub one_end : (image : List ℕ) (records other : List (List ℕ)) (end last : ℕ) → IsStore image records end → IsStore image other last → (other ≡ records) × (last ≡ end)
one_end image records other end last store also = one_list_of_records image (start_of image) end last records other store.whole also.whole (closed_stops image end store.closed) (closed_stops image last also.closed)

pub one_stored : (image : List ℕ) (records other : List (List ℕ)) → Stored records image → Stored other image → other ≡ records
one_stored image records other (inl new) (inl also) = also.1 ∙ sym new.1
one_stored image records other (inl new) (inr also) = absurd (new_or_written image new.0 also.1.written)
one_stored image records other (inr store) (inl also) = absurd (new_or_written image also.0 store.1.written)
one_stored image records other (inr store) (inr also) = (one_end image records other store.0 also.0 store.1 also.1).0

too_long : (image : List ℕ) → 1073741824 < length image → length image ≤ 1073741824 → ⊥
too_long image long short = omega (arith, long, short)

pub no_records : (image : List ℕ) (at : ℕ) (records : List (List ℕ)) → NotOurs image at → Stored records image → ⊥
no_records image at records (inl long) (inl new) = too_long image long.0 new.0.within
no_records image at records (inl long) (inr store) = too_long image long.0 store.1.written.within
no_records image at records (inr (inl none)) (inl new) = new_or_written image new.0 none.0
no_records image at records (inr (inl none)) (inr store) = none.1 store.1.front
no_records image at records (inr (inr breaks)) (inl new) = new_or_written image new.0 breaks.written
no_records image at records (inr (inr breaks)) (inr store) =
    let one = one_list_of_records image (start_of image) store.0 at records breaks.records store.1.whole breaks.whole (closed_stops image store.0 store.1.closed) breaks.none in
    store.1.closed.other (subst (λ gate. slice_index image gate ≡ 1) one.1 breaks.opened.one)

pub one_place : (image : List ℕ) (at other : ℕ) → NotOurs image at → NotOurs image other → other ≡ at
one_place image at other (inl long) (inl also) = also.1 ∙ sym long.1
one_place image at other (inl long) (inr (inl also)) = also.2 ∙ sym long.1
one_place image at other (inl long) (inr (inr also)) = absurd (too_long image long.0 also.written.within)
one_place image at other (inr (inl none)) (inl also) = also.1 ∙ sym none.2
one_place image at other (inr (inl none)) (inr (inl also)) = also.2 ∙ sym none.2
one_place image at other (inr (inl none)) (inr (inr also)) = absurd (none.1 also.front)
one_place image at other (inr (inr breaks)) (inl also) = absurd (too_long image also.0 breaks.written.within)
one_place image at other (inr (inr breaks)) (inr (inl also)) = absurd (also.1 breaks.front)
one_place image at other (inr (inr breaks)) (inr (inr also)) = (one_list_of_records image (start_of image) at other breaks.records also.records breaks.whole also.whole breaks.none also.none).1
