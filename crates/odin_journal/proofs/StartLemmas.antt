-- What the first bytes of an image tell of its front.
use Rattle.std.proofs.Common.{◌≡◌, ℕ, ◌+◌, ◌<◌, ◌≤◌, ◌%◌, ◌==◌, List, ◌∷◌, ◌++◌, take, drop, length, length-append, slice_range, sym, ap, subst, ◌∙◌, arith}
use Rattle.std.proofs.lemmas.List.{take-take, take-append-le, length-take-le}
use Rattle.odin_bytes.specs.Fields.{bytes_field}
use Rattle.meaning_records.specs.Front.{start_of, HasFront}
use Rattle.meaning_records.specs.Images.{with_record, IsStore}
use Rattle.odin_journal.specs.Marks.{HasMarks}
use Rattle.odin_journal.specs.Starts.{IsStartOf}
use Rattle.odin_journal.specs.declared.start.Start.{Start}
use Rattle.odin_journal.proofs.AppendLemmas.{Agree, agree_index, agree_range, agree_start, records_le}

pub first_agree : (image first : List ℕ) → first ≡ slice_range image 0 64 → 64 ≤ length image → Agree 64 image first
first_agree image first is large = record {
  same = ap (take 64) is ∙ take-take 64 64 image (omega arith);
  within = omega (arith, ap length is, length-take-le 64 image large);
}

pub marks_there : (image first : List ℕ) → Agree 64 image first → HasFront image → HasMarks first
marks_there image first agree front = record {
  name = agree_range 64 image first agree 1 8 (omega arith) (omega arith) ∙ front.name;
  zeros = agree_range 64 image first agree 9 16 (omega arith) (omega arith) ∙ front.zeros;
  more_zeros = agree_range 64 image first agree 32 64 (omega arith) (omega arith) ∙ front.more_zeros;
}

pub front_there : (image first : List ℕ) → Agree 64 image first → HasMarks first → 64 ≤ start_of first → start_of first < length image → HasFront image
front_there image first agree marks behind within =
    let start = agree_start 64 image first agree (omega arith) in
    record {
      name = sym (agree_range 64 image first agree 1 8 (omega arith) (omega arith)) ∙ marks.name;
      zeros = sym (agree_range 64 image first agree 9 16 (omega arith) (omega arith)) ∙ marks.zeros;
      more_zeros = sym (agree_range 64 image first agree 32 64 (omega arith) (omega arith)) ∙ marks.more_zeros;
      starts_behind = subst (λ s. 64 ≤ s) start behind;
      starts_within = subst (λ s. s < length image) start within;
    }

-- what has the same front has the same start in use
pub start_there : (image first : List ℕ) (start : Start) → Agree 64 image first → IsStartOf first start → IsStartOf image start
start_there image first start agree is = record {
  place = sym (agree_start 64 image first agree (omega arith)) ∙ is.place;
  which = ap (λ b. b % 2 == 0) (sym (agree_index 64 image first agree 8 (omega arith))) ∙ is.which;
}

pub start_on : (image c : List ℕ) (start : Start) → Agree 64 image c → IsStartOf image start → IsStartOf c start
start_on image c start agree is = record {
  place = agree_start 64 image c agree (omega arith) ∙ is.place;
  which = ap (λ b. b % 2 == 0) (agree_index 64 image c agree 8 (omega arith)) ∙ is.which;
}

-- a record that is added stands after the front, whose start in use stays
pub added_start : (image : List ℕ) (records : List (List ℕ)) (end : ℕ) (payload : List ℕ) (start : Start) → IsStore image records end → IsStartOf image start → IsStartOf (with_record end payload image) start
added_start image records end payload start store is =
    let le = records_le image (start_of image) end records store.whole in
    let high = store.front.starts_behind in
    let inside = store.closed.within in
    let front : List ℕ = take end image in
    let rest : List ℕ = 1 ∷ (bytes_field payload ++ 0 ∷ drop (end + 6 + length payload) image) in
    let long : length front ≡ end = length-take-le end image (omega arith) in
    start_on image (with_record end payload image) start (record {
      same = take-append-le 64 front rest (omega arith) ∙ take-take 64 end image (omega arith);
      within = omega (arith, length-append front rest);
    }) is
