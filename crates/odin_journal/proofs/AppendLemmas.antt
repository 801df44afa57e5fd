-- What a write after the end of a store, or at its end, leaves of the store.
use Rattle.std.proofs.Common.{◌≡◌, ◌≢◌, ◌⊎◌, inl, inr, ℕ, suc, ◌+◌, ◌-◌, ◌<◌, ◌≤◌, ◌^◌, ◌%◌, ◌==◌, min, if◌then◌else◌, List, [], ◌∷◌, ◌++◌, take, drop, length, get_or, slice_index, slice_range, sym, ap, subst, ◌∙◌, arith, append_assoc, length-append, length-drop}
use Rattle.std.proofs.lemmas.List.{drop-take, get_or-take, get_or-drop, take-take, take_all, take-append-le, take_min, length-take-le}
use Rattle.std.proofs.Math.Seq.{take-append_seam, drop-append_seam, get_or-append_seam}
use Rattle.std.proofs.lemmas.Bool.{cases_eq}
use Rattle.odin_bytes.specs.Fields.{bytes_field}
use Rattle.byteorder.specs.Endian.{big_number}
use Rattle.odin_outside.specs.Disk.{Telling, MayLeave, LeavesOnly, Written, Torn}
use Rattle.odin_journal.specs.Rest.{AtRest, BeforeOrAfter}
use Rattle.odin_outside.specs.Moments.{no_call}
use Rattle.meaning_records.specs.Front.{file_limit, start_of, HasFront}
use Rattle.meaning_records.specs.Images.{IsWritten, with_record, gate_after, IsRecord, AreRecords, IsStore, Stored}

-- two images that have the same first bytes
pub record Agree (n : ℕ) (image c : List ℕ) : Type 0 where
  pub same : take n c ≡ take n image
  pub within : n ≤ length c

pub agree_index : (n : ℕ) (image c : List ℕ) → Agree n image c → (k : ℕ) → k < n → slice_index c k ≡ slice_index image k
agree_index n image c agree k lt = sym (get_or-take n c k 0 lt) ∙ ap (λ l. get_or l k 0) agree.same ∙ get_or-take n image k 0 lt

pub range_of_front : (l : List ℕ) (n a b : ℕ) → a ≤ b → b ≤ n → slice_range l a b ≡ slice_range (take n l) a b
range_of_front l n a b le high =
    let split : a + (b - a) ≡ b = omega arith in
    let moved : (m : List ℕ) → slice_range m a b ≡ drop a (take b m) = λ m. sym (drop-take a (b - a) m) ∙ ap (λ k. drop a (take k m)) split in
    moved l ∙ ap (drop a) (sym (take-take b n l high)) ∙ sym (moved (take n l))

pub agree_range : (n : ℕ) (image c : List ℕ) → Agree n image c → (a b : ℕ) → a ≤ b → b ≤ n → slice_range c a b ≡ slice_range image a b
agree_range n image c agree a b le high = range_of_front c n a b le high ∙ ap (λ l. slice_range l a b) agree.same ∙ sym (range_of_front image n a b le high)

pub agree_start : (n : ℕ) (image c : List ℕ) → Agree n image c → 64 ≤ n → start_of c ≡ start_of image
agree_start n image c agree large =
    let which = agree_index n image c agree 8 (omega arith) in
    let first = agree_range n image c agree 16 24 (omega arith) (omega arith) in
    let second = agree_range n image c agree 24 32 (omega arith) (omega arith) in
    ap (λ b. if b % 2 == 0 then big_number 8 (slice_range c 16 24) else big_number 8 (slice_range c 24 32)) which
    ∙ ap (λ l. if slice_index image 8 % 2 == 0 then big_number 8 l else big_number 8 (slice_range c 24 32)) first
    ∙ ap (λ l. if slice_index image 8 % 2 == 0 then big_number 8 (slice_range image 16 24) else big_number 8 l) second

pub agree_front : (n : ℕ) (image c : List ℕ) → Agree n image c → 64 ≤ n → start_of image < length c → HasFront image → HasFront c
agree_front n image c agree large inside front =
    let start = agree_start n image c agree large in
    record {
      name = agree_range n image c agree 1 8 (omega arith) (omega arith) ∙ front.name;
      zeros = agree_range n image c agree 9 16 (omega arith) (omega arith) ∙ front.zeros;
      more_zeros = agree_range n image c agree 32 64 (omega arith) large ∙ front.more_zeros;
      starts_behind = subst (λ s. 64 ≤ s) (sym start) front.starts_behind;
      starts_within = subst (λ s. s < length c) (sym start) inside;
    }

agree_record : (n : ℕ) (image c : List ℕ) → Agree n image c → (gate : ℕ) (payload : List ℕ) → gate_after gate payload ≤ n → gate_after gate payload < length c → IsRecord image gate payload → IsRecord c gate payload
agree_record n image c agree gate payload high inside there = record {
  opened = record { within = omega arith; one = agree_index n image c agree gate (omega arith) ∙ there.opened.one };
  short = there.short;
  body = record { in_range = (omega arith, omega arith); bytes = agree_range n image c agree (gate + 1) (gate_after gate payload) (omega arith) high ∙ there.body.bytes };
  next = inside;
}

pub records_le : (image : List ℕ) (gate end : ℕ) (records : List (List ℕ)) → AreRecords image gate records end → gate ≤ end
records_le image gate end [] whole = omega arith
records_le image gate end (payload ∷ records) whole = let rest = records_le image (gate_after gate payload) end records whole.1 in omega arith

agree_records : (n : ℕ) (image c : List ℕ) → Agree n image c → (gate end : ℕ) (records : List (List ℕ)) → end ≤ n → end < length c → AreRecords image gate records end → AreRecords c gate records end
agree_records n image c agree gate end [] high inside whole = whole
agree_records n image c agree gate end (payload ∷ records) high inside whole =
    let le = records_le image (gate_after gate payload) end records whole.1 in
    (agree_record n image c agree gate payload (omega arith) (omega arith) whole.0, agree_records n image c agree (gate_after gate payload) end records high inside whole.1)

pub one_more : (image : List ℕ) (gate end : ℕ) (records : List (List ℕ)) (payload : List ℕ) → AreRecords image gate records end → IsRecord image end payload → AreRecords image gate (records ++ payload ∷ []) (gate_after end payload)
one_more image gate end [] payload whole last = (subst (λ at. IsRecord image at payload) whole last, ap (λ at. gate_after at payload) whole)
one_more image gate end (first ∷ records) payload whole last = (whole.0, one_more image (gate_after gate first) end records payload whole.1 last)

-- What comes before the gate at the end of a store, over images that agree on it.
pub agree_written : (n : ℕ) (image c : List ℕ) → Agree n image c → 64 ≤ n → length c ≤ file_limit → IsWritten image → IsWritten c
agree_written n image c agree large short written = record {
  within = short;
  some = let within = agree.within in omega arith;
  marked = subst (λ b. b ≢ 0) (sym (agree_index n image c agree 0 (omega arith))) written.marked;
}

-- an image that agrees with a store on all before its end is a store with the same records, if the gate there is closed
pub closed_store : (image c : List ℕ) (records : List (List ℕ)) (end : ℕ) → IsStore image records end → Agree end image c → end < length c → length c ≤ file_limit → slice_index c end ≢ 1 → IsStore c records end
closed_store image c records end store agree inside short shut =
    let le = records_le image (start_of image) end records store.whole in
    let large : 64 ≤ end = omega (arith, store.front.starts_behind) in
    record {
      written = agree_written end image c agree large short store.written;
      front = agree_front end image c agree large (omega arith) store.front;
      whole = subst (λ s. AreRecords c s records end) (sym (agree_start end image c agree large)) (agree_records end image c agree (start_of image) end records (omega arith) inside store.whole);
      closed = record { within = inside; other = shut };
    }

-- and one with a record more, if the gate there is open, and the record and a closed gate stand after it
opened_store : (image c : List ℕ) (records : List (List ℕ)) (end : ℕ) (payload : List ℕ) → IsStore image records end → Agree end image c → length c ≤ file_limit → IsRecord c end payload → slice_index c (gate_after end payload) ≡ 0 → IsStore c (records ++ payload ∷ []) (gate_after end payload)
opened_store image c records end payload store agree short last shut =
    let le = records_le image (start_of image) end records store.whole in
    let large : 64 ≤ end = omega (arith, store.front.starts_behind) in
    let inside = last.opened.within in
    record {
      written = agree_written end image c agree large short store.written;
      front = agree_front end image c agree large (omega arith) store.front;
      whole = one_more c (start_of c) end records payload (subst (λ s. AreRecords c s records end) (sym (agree_start end image c agree large)) (agree_records end image c agree (start_of image) end records (omega arith) inside store.whole)) last;
      closed = record { within = last.next; other = subst (λ b. b ≢ 1) (sym shut) (omega arith) };
    }

pub agree_less : (m n : ℕ) (image c : List ℕ) → m ≤ n → Agree n image c → Agree m image c
agree_less m n image c le agree = record { same = sym (take-take m n c le) ∙ ap (take m) agree.same ∙ take-take m n image le; within = omega (arith, agree.within) }

pub torn_agree : (at n : ℕ) (image c : List ℕ) → at ≤ length image → Torn at n image c → Agree at image c
torn_agree at n image c le torn =
    let least : at ≡ min at (length image) = omega arith in
    record { same = ap (λ k. take k c) least ∙ torn.before; within = omega (arith, torn.no_shorter) }

-- the closed gate at the end stands in each outcome of a write after it
pub torn_store : (image c : List ℕ) (records : List (List ℕ)) (end at n : ℕ) → IsStore image records end → Torn at n image c → end < at → at + n ≤ 2 ^ 30 → IsStore c records end
torn_store image c records end at n store torn behind_end room =
    let inside = store.closed.within in
    let short = store.written.within in
    let whole : Agree (min at (length image)) image c = record { same = torn.before ∙ sym (take_min at image); within = omega (arith, torn.no_shorter) } in
    let agree = agree_less (end + 1) (min at (length image)) image c (omega arith) whole in
    closed_store image c records end store (agree_less end (end + 1) image c (omega arith) agree) (omega (arith, agree.within)) (omega (arith, torn.no_longer))
    (subst (λ b. b ≢ 1) (sym (agree_index (end + 1) image c agree end (omega arith))) store.closed.other)

-- a length, a payload and a closed gate stand after a gate
pub record Stands (image : List ℕ) (end : ℕ) (payload : List ℕ) : Type 0 where
  pub body : slice_range image (end + 1) (gate_after end payload) ≡ bytes_field payload
  pub shut : slice_index image (gate_after end payload) ≡ 0
  pub within : gate_after end payload < length image

pub stands : (image c : List ℕ) (end : ℕ) (payload : List ℕ) → end < length image → Written image (end + 1) (bytes_field payload ++ 0 ∷ []) c → Stands c end payload
stands image c end payload inside written =
    let front = take (end + 1) image in
    let field = bytes_field payload in
    let rest = drop (end + 1 + length (field ++ 0 ∷ [])) image in
    let long : length front ≡ end + 1 = length-take-le (end + 1) image (omega arith) in
    let size : length field ≡ 4 + length payload = omega arith in
    let is : c ≡ front ++ (field ++ 0 ∷ rest) = written ∙ append_assoc front (field ++ 0 ∷ []) rest ∙ ap (λ l. front ++ l) (append_assoc field (0 ∷ []) rest) in
    let back : drop (end + 1) c ≡ field ++ 0 ∷ rest = ap (λ n. drop n c) (sym long) ∙ ap (drop (length front)) is ∙ drop-append_seam front (field ++ 0 ∷ rest) in
    let count : gate_after end payload - (end + 1) ≡ length field = omega arith in
    let place : gate_after end payload ≡ length (front ++ field) = omega (arith, length-append front field) in
    record {
      body = ap (λ n. take n (drop (end + 1) c)) count ∙ ap (take (length field)) back ∙ take-append_seam field (0 ∷ rest);
      shut = ap (λ n. slice_index c n) place ∙ ap (λ l. slice_index l (length (front ++ field))) (is ∙ sym (append_assoc front field (0 ∷ rest))) ∙ get_or-append_seam (front ++ field) 0 rest 0;
      within = omega (arith, ap length is, length-append front (field ++ 0 ∷ rest), length-append field (0 ∷ rest));
    }

pub torn_gate_size : (image c : List ℕ) (end : ℕ) → end < length image → Torn end 1 image c → length c ≡ length image
torn_gate_size image c end inside torn = omega (arith, torn.no_longer, torn.no_shorter)

pub torn_gate_back : (image c : List ℕ) (end : ℕ) → end < length image → Torn end 1 image c → drop (end + 1) c ≡ drop (end + 1) image
torn_gate_back image c end inside torn = sym (take_all (length image - (end + 1)) (drop (end + 1) c) (omega (arith, torn_gate_size image c end inside torn, length-drop (end + 1) c))) ∙ torn.after

-- an open gate before what stands there makes a record of it
pub opened_torn : (image c : List ℕ) (records : List (List ℕ)) (end : ℕ) (payload : List ℕ) → IsStore image records end → Stands image end payload → Torn end 1 image c → slice_index c end ≡ 1 → IsStore c (records ++ payload ∷ []) (gate_after end payload)
opened_torn image c records end payload store there torn one =
    let inside = store.closed.within in
    let size = torn_gate_size image c end inside torn in
    let back = torn_gate_back image c end inside torn in
    let limit = store.written.within in
    let within = there.within in
    let last : IsRecord c end payload = record {
      opened = record { within = omega arith; one = one };
      short = omega arith;
      body = record { in_range = (omega arith, omega arith); bytes = ap (take (gate_after end payload - (end + 1))) back ∙ there.body };
      next = omega arith;
    } in
    let place : end + 1 + (4 + length payload) ≡ gate_after end payload = omega arith in
    let byte : (l : List ℕ) → slice_index l (gate_after end payload) ≡ slice_index (drop (end + 1) l) (4 + length payload) = λ l. ap (λ n. slice_index l n) (sym place) ∙ sym (get_or-drop (end + 1) l (4 + length payload) 0) in
    let shut : slice_index c (gate_after end payload) ≡ 0 = byte c ∙ ap (λ l. slice_index l (4 + length payload)) back ∙ sym (byte image) ∙ there.shut in
    opened_store image c records end payload store (torn_agree end 1 image c (omega arith) torn) (omega arith) last shut

-- each outcome of a write of the gate has the records from before, or one more
pub torn_gate : (image c : List ℕ) (records : List (List ℕ)) (end : ℕ) (payload : List ℕ) → IsStore image records end → Stands image end payload → Torn end 1 image c → Stored records c ⊎ Stored (records ++ payload ∷ []) c
torn_gate image c records end payload store there torn = elim (cases_eq (slice_index c end) 1) [
  | inl one ↦ inr (inr (gate_after end payload, opened_torn image c records end payload store there torn one))
  | inr shut ↦
      let inside = store.closed.within in
      let size = torn_gate_size image c end inside torn in
      inl (inr (end, closed_store image c records end store (torn_agree end 1 image c (omega arith) torn) (omega arith) (omega (arith, store.written.within)) shut))
]

pub gate_written : (image c : List ℕ) (end : ℕ) → end ≤ length image → Written image end (1 ∷ []) c → slice_index c end ≡ 1
gate_written image c end le written =
    let front = take end image in
    let rest = drop (end + 1) image in
    let long : length front ≡ end = length-take-le end image le in
    ap (λ n. slice_index c n) (sym long) ∙ ap (λ l. slice_index l (length front)) (written ∙ append_assoc front (1 ∷ []) rest) ∙ get_or-append_seam front 1 rest 0

-- a journal at rest on which nothing is done
pub rest_stays : (disk : Telling) (records : List (List ℕ)) (end : ℕ) (payload : List ℕ) → ((c : List ℕ) → disk.left_since disk.moment c → MayLeave disk c) → AtRest disk records end → LeavesOnly disk disk (BeforeOrAfter records payload)
rest_stays disk records end payload only_now rest =
    let here : (c : List ℕ) → MayLeave disk c → BeforeOrAfter records payload c = λ c left. inl (inr (end, subst (λ image. IsStore image records end) (sym (rest.quiet.only c left)) rest.store)) in
    no_call disk (BeforeOrAfter records payload) (λ c left. here c (only_now c left)) here

-- the bytes that are written after a gate and those of the gate, as one write
pub gate_and_behind : (image mid c : List ℕ) (end : ℕ) (bytes : List ℕ) → end < length image → Written image (end + 1) bytes mid → Written mid end (1 ∷ []) c → Written image end (1 ∷ bytes) c
gate_and_behind image mid c end bytes inside first second =
    let rest : List ℕ = drop (end + 1 + length bytes) image in
    let long : length (take (end + 1) image) ≡ end + 1 = length-take-le (end + 1) image (omega arith) in
    let is : mid ≡ take (end + 1) image ++ (bytes ++ rest) = first ∙ append_assoc (take (end + 1) image) bytes rest in
    let front : take end mid ≡ take end image =
    ap (take end) is ∙ take-append-le end (take (end + 1) image) (bytes ++ rest) (omega arith) ∙ take-take end (end + 1) image (omega arith) in
    let back : drop (end + 1) mid ≡ bytes ++ rest = ap (drop (end + 1)) is ∙ ap (λ n. drop n (take (end + 1) image ++ (bytes ++ rest))) (sym long) ∙ drop-append_seam (take (end + 1) image) (bytes ++ rest) in
    let place : end + 1 + length bytes ≡ end + suc (length bytes) = omega arith in
    second
    ∙ append_assoc (take end mid) (1 ∷ []) (drop (end + 1) mid)
    ∙ ap (λ l. l ++ 1 ∷ drop (end + 1) mid) front
    ∙ ap (λ l. take end image ++ 1 ∷ l) back
    ∙ ap (λ n. take end image ++ 1 ∷ (bytes ++ drop n image)) place
    ∙ sym (append_assoc (take end image) (1 ∷ bytes) (drop (end + suc (length bytes)) image))

-- and with the bytes of a record
pub record_written : (image c : List ℕ) (end : ℕ) (payload : List ℕ) → Written image end (1 ∷ (bytes_field payload ++ 0 ∷ [])) c → c ≡ with_record end payload image
record_written image c end payload written =
    let field : List ℕ = bytes_field payload in
    let size : length field ≡ 4 + length payload = omega arith in
    let count : length (field ++ 0 ∷ []) ≡ length field + 1 = length-append field (0 ∷ []) in
    let place : end + suc (length (field ++ 0 ∷ [])) ≡ end + 6 + length payload = omega arith in
    written
    ∙ append_assoc (take end image) (1 ∷ (field ++ 0 ∷ [])) (drop (end + suc (length (field ++ 0 ∷ []))) image)
    ∙ ap (λ n. take end image ++ 1 ∷ ((field ++ 0 ∷ []) ++ drop n image)) place
    ∙ ap (λ l. take end image ++ 1 ∷ l) (append_assoc field (0 ∷ []) (drop (end + 6 + length payload) image))
