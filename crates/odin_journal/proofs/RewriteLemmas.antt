-- What the writes of a rewrite leave of a store, image by image.
use Rattle.std.proofs.Common.{◌≡◌, ◌≢◌, ◌⊎◌, inl, inr, ℕ, ◌+◌, ◌-◌, ◌<◌, ◌≤◌, ◌^◌, ◌%◌, ◌==◌, Bool, true, false, IsTrue, min, if◌then◌else◌, List, [], ◌∷◌, ◌++◌, take, drop, length, slice_index, slice_range, refl, sym, ap, subst, ◌∙◌, arith, append_assoc, length-append, length-drop, drop-drop}
use Rattle.std.specs.Prelude.{not, flat_map}
use Rattle.std.proofs.lemmas.List.{get_or-drop, take_all, length-take-le, append-nil}
use Rattle.std.proofs.lemmas.List.Sums.{sum_by-cons}
use Rattle.std.proofs.Math.Seq.{take-append_seam, drop-append_seam, get_or-append_seam}
use Rattle.byteorder.specs.Endian.{big_number, big_bytes}
use Rattle.byteorder.specs.Numbers.{big_number-reads_back}
use Rattle.odin_bytes.specs.Fields.{bytes_field}
use Rattle.odin_outside.specs.Disk.{Telling, MayLeave, LeavesOnly, IsQuiet, Written, Torn, Cut, SeesTaken}
use Rattle.odin_outside.specs.Steps.{written_torn, taken_cut}
use Rattle.odin_outside.specs.Moments as moments
use Rattle.odin_outside.specs.Moments.{no_call, weaker}
use Rattle.meaning_records.specs.Front.{file_limit, start_of}
use Rattle.meaning_records.specs.Images.{IsClosed, gate_after, IsRecord, AreRecords, IsStore, Stored}
use Rattle.odin_journal.specs.declared.start.Start.{Start}
use Rattle.odin_journal.specs.Starts.{IsStartOf}
use Rattle.odin_journal.specs.Rewrites.{record_bytes, record_size, copy_of, size_of_records, copy_size, IsCopyPlace, start_field, use_byte, without_rest, HasCopy, LeavesShortened, OldOrNew, Shortens, Starts}
use Rattle.odin_journal.proofs.AppendLemmas.{Agree, agree_index, agree_range, agree_start, agree_less, closed_store, records_le, torn_agree, torn_store}
use Rattle.odin_journal.proofs.StartLemmas.{start_on}

-- ---- images that are the same from a place on

pub record AgreeFrom (n : ℕ) (image c : List ℕ) : Type 0 where
  pub same : drop n c ≡ drop n image
  pub long : length c ≡ length image

index_from : (l : List ℕ) (n k : ℕ) → n ≤ k → slice_index l k ≡ slice_index (drop n l) (k - n)
index_from l n k le =
    let place : k ≡ n + (k - n) = omega arith in
    ap (slice_index l) place ∙ sym (get_or-drop n l (k - n) 0)

pub from_index : (n : ℕ) (image c : List ℕ) → AgreeFrom n image c → (k : ℕ) → n ≤ k → slice_index c k ≡ slice_index image k
from_index n image c agree k le = index_from c n k le ∙ ap (λ l. slice_index l (k - n)) agree.same ∙ sym (index_from image n k le)

drop_from : (l : List ℕ) (n a : ℕ) → n ≤ a → drop a l ≡ drop (a - n) (drop n l)
drop_from l n a le =
    let place : a ≡ n + (a - n) = omega arith in
    ap (λ k. drop k l) place ∙ sym (drop-drop (a - n) n l)

pub from_range : (n : ℕ) (image c : List ℕ) → AgreeFrom n image c → (a b : ℕ) → n ≤ a → slice_range c a b ≡ slice_range image a b
from_range n image c agree a b le = ap (take (b - a)) (drop_from c n a le ∙ ap (drop (a - n)) agree.same ∙ sym (drop_from image n a le))

-- a write that ends within an image leaves what stands after it
pub torn_from : (at n : ℕ) (image c : List ℕ) → at + n ≤ length image → Torn at n image c → AgreeFrom (at + n) image c
torn_from at n image c within torn =
    let long : length c ≡ length image = omega (arith, torn.no_longer, torn.no_shorter) in
    record {
      same = sym (take_all (length image - (at + n)) (drop (at + n) c) (omega (arith, length-drop (at + n) c))) ∙ torn.after;
      long = long;
    }

pub from_less : (n m : ℕ) (image c : List ℕ) → n ≤ m → AgreeFrom n image c → AgreeFrom m image c
from_less n m image c le agree = record { same = drop_from c n m le ∙ ap (drop (m - n)) agree.same ∙ sym (drop_from image n m le); long = agree.long }

from_record : (n : ℕ) (image c : List ℕ) → AgreeFrom n image c → (gate : ℕ) (payload : List ℕ) → n ≤ gate → IsRecord image gate payload → IsRecord c gate payload
from_record n image c agree gate payload le there =
    let long = agree.long in
    record {
      opened = record { within = omega (arith, there.opened.within); one = from_index n image c agree gate le ∙ there.opened.one };
      short = there.short;
      body = record { in_range = (omega arith, omega (arith, there.next)); bytes = from_range n image c agree (gate + 1) (gate_after gate payload) (omega arith) ∙ there.body.bytes };
      next = omega (arith, there.next);
    }

pub from_records : (n : ℕ) (image c : List ℕ) → AgreeFrom n image c → (gate end : ℕ) (records : List (List ℕ)) → n ≤ gate → AreRecords image gate records end → AreRecords c gate records end
from_records n image c agree gate end [] le whole = whole
from_records n image c agree gate end (payload ∷ records) le whole =
    (from_record n image c agree gate payload le whole.0, from_records n image c agree (gate_after gate payload) end records (omega arith) whole.1)

pub from_closed : (n : ℕ) (image c : List ℕ) → AgreeFrom n image c → (gate : ℕ) → n ≤ gate → IsClosed image gate → IsClosed c gate
from_closed n image c agree gate le closed =
    let long = agree.long in
    record { within = omega (arith, closed.within); other = subst (λ b. b ≢ 1) (sym (from_index n image c agree gate le)) closed.other }

-- ---- the front

-- what a front has beside its starts and the byte that says which is in use
pub record SameMarks (image c : List ℕ) : Type 0 where
  pub mark : slice_index c 0 ≡ slice_index image 0
  pub name : slice_range c 1 8 ≡ slice_range image 1 8
  pub zeros : slice_range c 9 16 ≡ slice_range image 9 16
  pub more_zeros : slice_range c 32 64 ≡ slice_range image 32 64

pub agree_marks : (image c : List ℕ) → Agree 64 image c → SameMarks image c
agree_marks image c agree = record {
  mark = agree_index 64 image c agree 0 (omega arith);
  name = agree_range 64 image c agree 1 8 (omega arith) (omega arith);
  zeros = agree_range 64 image c agree 9 16 (omega arith) (omega arith);
  more_zeros = agree_range 64 image c agree 32 64 (omega arith) (omega arith);
}

-- the byte at 8 was written
switch_marks : (image c : List ℕ) → Agree 8 image c → AgreeFrom 9 image c → SameMarks image c
switch_marks image c agree from = record {
  mark = agree_index 8 image c agree 0 (omega arith);
  name = agree_range 8 image c agree 1 8 (omega arith) (omega arith);
  zeros = from_range 9 image c from 9 16 (omega arith);
  more_zeros = from_range 9 image c from 32 64 (omega arith);
}

-- a start was written
field_marks : (image c : List ℕ) → Agree 16 image c → AgreeFrom 32 image c → SameMarks image c
field_marks image c agree from = record {
  mark = agree_index 16 image c agree 0 (omega arith);
  name = agree_range 16 image c agree 1 8 (omega arith) (omega arith);
  zeros = agree_range 16 image c agree 9 16 (omega arith) (omega arith);
  more_zeros = from_range 32 image c from 32 64 (omega arith);
}

-- the marks of a store, and records from its start to a closed gate
pub marked_store : (image c : List ℕ) (before records : List (List ℕ)) (end place last : ℕ) → IsStore image before end → SameMarks image c → length c ≡ length image → start_of c ≡ place → 64 ≤ place
    → AreRecords c place records last → IsClosed c last → IsStore c records last
marked_store image c before records end place last store marks long start high whole closed =
    let le = records_le c place last records whole in
    record {
      written = record { within = omega (arith, store.written.within); some = omega (arith, store.written.some); marked = subst (λ b. b ≢ 0) (sym marks.mark) store.written.marked };
      front = record {
        name = marks.name ∙ store.front.name;
        zeros = marks.zeros ∙ store.front.zeros;
        more_zeros = marks.more_zeros ∙ store.front.more_zeros;
        starts_behind = subst (λ s. 64 ≤ s) (sym start) high;
        starts_within = subst (λ s. s < length c) (sym start) (omega (arith, closed.within));
      };
      whole = subst (λ s. AreRecords c s records last) (sym start) whole;
      closed = closed;
    }

-- the same marks, the same start, and the same from a place on that isn't after the start
pub same_store : (n : ℕ) (image c : List ℕ) (records : List (List ℕ)) (end : ℕ) → IsStore image records end → SameMarks image c → AgreeFrom n image c → start_of c ≡ start_of image → n ≤ start_of image → IsStore c records end
same_store n image c records end store marks from start low =
    let le = records_le image (start_of image) end records store.whole in
    marked_store image c records records end (start_of image) end store marks from.long start store.front.starts_behind
    (from_records n image c from (start_of image) end records low store.whole) (from_closed n image c from end (omega arith) store.closed)

-- ---- the copy

-- a write of a copy that is cut short leaves the records from before
pub copy_torn : (image c : List ℕ) (records : List (List ℕ)) (start : Start) (end size place : ℕ) → IsStore image records end → IsStartOf image start → IsCopyPlace start.place end size place → Torn place size image c → IsStore c records end
copy_torn image c records start end size place store is (inl low) torn =
    let le = records_le image (start_of image) end records store.whole in
    let inside = store.closed.within in
    let start_is = is.place in
    let here : Torn 64 size image c = subst (λ p. Torn p size image c) low.1 torn in
    let agree : Agree 64 image c = torn_agree 64 size image c (omega (arith, low.0)) here in
    same_store (64 + size) image c records end store (agree_marks image c agree) (torn_from 64 size image c (omega (arith, low.0)) here) (agree_start 64 image c agree (omega arith)) (omega (arith, low.0))
copy_torn image c records start end size place store is (inr high) torn = torn_store image c records end place size store torn (omega (arith, high.2)) (omega (arith, high.1, high.2))

-- and so the start in use
pub copy_start : (image c : List ℕ) (start : Start) (place size : ℕ) → 64 ≤ place → place ≤ length image → IsStartOf image start → Torn place size image c → IsStartOf c start
copy_start image c start place size high within is torn = start_on image c start (agree_less 64 place image c high (torn_agree place size image c within torn)) is

records_more : (payload : List ℕ) (records : List (List ℕ)) → size_of_records (payload ∷ records) ≡ length payload + 5 + size_of_records records
records_more payload records = sum_by-cons record_size payload records

-- a copy in an image is its records, and a closed gate
copy_records : (c front rest : List ℕ) (records : List (List ℕ)) → c ≡ front ++ (copy_of records ++ rest) → size_of_records records < 2 ^ 32
    → AreRecords c (length front) records (length front + size_of_records records) × IsClosed c (length front + size_of_records records)
copy_records c front rest [] is small =
    let place : length front ≡ length front + 0 = omega arith in
    let zero_there : slice_index c (length front) ≡ 0 = ap (λ l. slice_index l (length front)) is ∙ get_or-append_seam front 0 rest 0 in
    let closed : IsClosed c (length front) = record { within = omega (arith, ap length is, length-append front (0 ∷ rest)); other = subst (λ b. b ≢ 1) (sym zero_there) (omega arith) } in
    (sym place, subst (λ n. IsClosed c n) place closed)
copy_records c front rest (payload ∷ records) is small =
    let field = bytes_field payload in
    let size : length field ≡ 4 + length payload = omega arith in
    let tail = copy_of records ++ rest in
    let apart : copy_of (payload ∷ records) ++ rest ≡ (1 ∷ field) ++ tail =
    ap (λ l. l ++ rest) (append_assoc (1 ∷ field) (flat_map record_bytes records) (0 ∷ [])) ∙ append_assoc (1 ∷ field) (copy_of records) rest in
    let whole : c ≡ front ++ ((1 ∷ field) ++ tail) = is ∙ ap (λ l. front ++ l) apart in
    let longer : c ≡ (front ++ (1 ∷ field)) ++ tail = whole ∙ sym (append_assoc front (1 ∷ field) tail) in
    let next : length (front ++ (1 ∷ field)) ≡ gate_after (length front) payload = omega (arith, length-append front (1 ∷ field)) in
    let more = records_more payload records in
    let rest_there = copy_records c (front ++ (1 ∷ field)) rest records longer (omega arith) in
    let last : length (front ++ (1 ∷ field)) + size_of_records records ≡ length front + size_of_records (payload ∷ records) = omega (arith, next) in
    let some = rest_there.1.within in
    let long : length c ≡ length (front ++ (1 ∷ field)) + length tail = ap length longer ∙ length-append (front ++ (1 ∷ field)) tail in
    let after : drop (length front + 1) c ≡ field ++ tail =
    sym (drop-drop 1 (length front) c) ∙ ap (drop 1) (ap (drop (length front)) whole ∙ drop-append_seam front ((1 ∷ field) ++ tail)) in
    let count : gate_after (length front) payload - (length front + 1) ≡ length field = omega arith in
    let there : IsRecord c (length front) payload = record {
      opened = record { within = omega arith; one = ap (λ l. slice_index l (length front)) whole ∙ get_or-append_seam front 1 (field ++ tail) 0 };
      short = omega arith;
      body = record {
        in_range = (omega arith, omega arith);
        bytes = ap (λ n. take n (drop (length front + 1) c)) count ∙ ap (take (length field)) after ∙ take-append_seam field tail;
      };
      next = omega arith;
    } in (
      (there, subst (λ n. AreRecords c n records (length front + size_of_records (payload ∷ records))) next (subst (λ n. AreRecords c (length (front ++ (1 ∷ field))) records n) last rest_there.0)),
      subst (λ n. IsClosed c n) last rest_there.1,
    )

pub copy_there : (image c : List ℕ) (records : List (List ℕ)) (place : ℕ) → place ≤ length image → size_of_records records < 2 ^ 32 → Written image place (copy_of records) c
    → AreRecords c place records (place + size_of_records records) × IsClosed c (place + size_of_records records)
copy_there image c records place within small is =
    let front : List ℕ = take place image in
    let long : length front ≡ place = length-take-le place image within in
    subst (λ n. AreRecords c n records (n + size_of_records records) × IsClosed c (n + size_of_records records)) long
    (copy_records c front (drop (place + length (copy_of records)) image) records (is ∙ append_assoc front (copy_of records) (drop (place + length (copy_of records)) image)) small)

-- its size
pub copy_long : (records : List (List ℕ)) → length (copy_of records) ≡ copy_size records
copy_long records = length-append (flat_map record_bytes records) (0 ∷ []) ∙ ap (λ n. n + 1) (bytes_long records)
  where
    bytes_long : (records : List (List ℕ)) → length (flat_map record_bytes records) ≡ size_of_records records
    bytes_long [] = refl
    bytes_long (payload ∷ records) =
        let record_long : length (record_bytes payload) ≡ length payload + 5 = omega arith in
        omega (arith, length-append (record_bytes payload) (flat_map record_bytes records), bytes_long records, records_more payload records)

-- a place for a copy lies after the front, and within the file or at its end
pub record PlaceIn (image : List ℕ) (size place : ℕ) : Type 0 where
  pub high : 64 ≤ place
  pub within : place ≤ length image
  pub small : place + size ≤ file_limit

pub place_in : (image : List ℕ) (before : List (List ℕ)) (start : Start) (end size place : ℕ) → IsStore image before end → IsStartOf image start → IsCopyPlace start.place end size place → PlaceIn image size place
place_in image before start end size place store is (inl low) =
    let start_is = is.place in
    let inside = store.front.starts_within in
    let short = store.written.within in
    record { high = omega (arith, low.1); within = omega (arith, low.0, low.1); small = omega (arith, low.0, low.1) }
place_in image before start end size place store is (inr high) =
    let le = records_le image (start_of image) end before store.whole in
    let behind_front = store.front.starts_behind in
    let inside = store.closed.within in
    record { high = omega (arith, high.2); within = omega (arith, high.2); small = omega (arith, high.1, high.2) }

-- what stands in an image once a copy was put into it
pub record HoldsCopy (c : List ℕ) (used start : Start) (before records : List (List ℕ)) (end : ℕ) : Type 0 where
  pub store : IsStore c before end
  pub starts : IsStartOf c used
  pub high : 64 ≤ start.place
  pub whole : AreRecords c start.place records (start.place + size_of_records records)
  pub closed : IsClosed c (start.place + size_of_records records)

pub copy_put : (image c : List ℕ) (used start : Start) (before records : List (List ℕ)) (end : ℕ) → IsStore image before end → IsStartOf image used → IsCopyPlace used.place end (copy_size records) start.place
    → Written image start.place (copy_of records) c → HoldsCopy c used start before records end
copy_put image c used start before records end store is placed put =
    let room = place_in image before used end (copy_size records) start.place store is placed in
    let torn : Torn start.place (length (copy_of records)) image c = written_torn image start.place (copy_of records) c room.within put in
    let there = copy_there image c records start.place room.within (omega (arith, room.small)) put in
    record {
      store = copy_torn image c before used end (copy_size records) start.place store is placed (subst (λ n. Torn start.place n image c) (copy_long records) torn);
      starts = copy_start image c used start.place (length (copy_of records)) room.high room.within is torn;
      high = room.high;
      whole = there.0;
      closed = there.1;
    }

-- ---- the start

-- where an image's first start leads, or its second
abbrev pub start_by : Bool → List ℕ → ℕ
start_by is_first image = if is_first then big_number 8 (slice_range image 16 24) else big_number 8 (slice_range image 24 32)

pub by_use : (image : List ℕ) (start : Start) → IsStartOf image start → start_by start.is_first image ≡ start.place
by_use image start is = ap (λ b. start_by b image) (sym is.which) ∙ is.place

-- a start and the byte that says that it is in use stayed, and all after the front
pub record KeepsUse (image c : List ℕ) (is_first : Bool) : Type 0 where
  pub marks : SameMarks image c
  pub from : AgreeFrom 64 image c
  pub by : start_by is_first c ≡ start_by is_first image
  pub use_is : slice_index c 8 ≡ slice_index image 8

-- so it is where the other start is written, also where that is cut short
field_keeps : (image c : List ℕ) (used : Bool) → 64 < length image → Torn (start_field (not used)) 8 image c → KeepsUse image c used
field_keeps image c true long torn =
    let agree : Agree 24 image c = torn_agree 24 8 image c (omega arith) torn in
    let from : AgreeFrom 32 image c = torn_from 24 8 image c (omega arith) torn in
    record {
      marks = field_marks image c (agree_less 16 24 image c (omega arith) agree) from;
      from = from_less 32 64 image c (omega arith) from;
      by = ap (big_number 8) (agree_range 24 image c agree 16 24 (omega arith) (omega arith));
      use_is = agree_index 24 image c agree 8 (omega arith);
    }
field_keeps image c false long torn =
    let agree : Agree 16 image c = torn_agree 16 8 image c (omega arith) torn in
    let from : AgreeFrom 24 image c = torn_from 16 8 image c (omega arith) torn in
    record {
      marks = field_marks image c agree (from_less 24 32 image c (omega arith) from);
      from = from_less 24 64 image c (omega arith) from;
      by = ap (big_number 8) (from_range 24 image c from 24 32 (omega arith));
      use_is = agree_index 16 image c agree 8 (omega arith);
    }

pub keeps_start : (image c : List ℕ) (start : Start) → IsStartOf image start → KeepsUse image c start.is_first → IsStartOf c start
keeps_start image c start is keeps =
    let which : (slice_index c 8 % 2 == 0) ≡ start.is_first = ap (λ b. b % 2 == 0) keeps.use_is ∙ is.which in
    record { place = ap (λ b. start_by b c) which ∙ keeps.by ∙ by_use image start is; which = which }

pub keeps_store : (image c : List ℕ) (records : List (List ℕ)) (end : ℕ) (start : Start) → IsStore image records end → IsStartOf image start → KeepsUse image c start.is_first → IsStore c records end
keeps_store image c records end start store is keeps =
    same_store 64 image c records end store keeps.marks keeps.from ((keeps_start image c start is keeps).place ∙ sym is.place) store.front.starts_behind

pub field_keeps_use : (image c : List ℕ) (used start : Start) → start.is_first ≡ not used.is_first → 64 < length image → Torn (start_field start.is_first) 8 image c → KeepsUse image c used.is_first
field_keeps_use image c used start other long torn = field_keeps image c used.is_first long (subst (λ b. Torn (start_field b) 8 image c) other torn)

-- a number that was written at a place is read there
read_back : (image c : List ℕ) (at number : ℕ) → at ≤ length image → number < 256 ^ 8 → Written image at (big_bytes 8 number) c → big_number 8 (slice_range c at (at + 8)) ≡ number
read_back image c at number within small is =
    let front : List ℕ = take at image in
    let bytes : List ℕ = big_bytes 8 number in
    let rest : List ℕ = drop (at + 8) image in
    let long : length front ≡ at = length-take-le at image within in
    let whole : c ≡ front ++ (bytes ++ rest) = is ∙ append_assoc front bytes rest in
    let behind_is : drop at c ≡ bytes ++ rest = ap (λ n. drop n c) (sym long) ∙ ap (drop (length front)) whole ∙ drop-append_seam front (bytes ++ rest) in
    let count : at + 8 - at ≡ 8 = omega arith in
    let there : slice_range c at (at + 8) ≡ bytes = ap (λ n. take n (drop at c)) count ∙ ap (take 8) behind_is ∙ take-append_seam bytes rest in
    ap (big_number 8) (there ∙ sym (append-nil bytes)) ∙ big_number-reads_back 8 number [] small

pub start_leads : (image c : List ℕ) (start : Start) → 64 < length image → start.place < 256 ^ 8 → Written image (start_field start.is_first) (big_bytes 8 start.place) c → start_by start.is_first c ≡ start.place
start_leads image c start long small is = by start.is_first is
  where
    by : (b : Bool) → Written image (start_field b) (big_bytes 8 start.place) c → start_by b c ≡ start.place
    by true is = read_back image c 16 start.place (omega arith) small is
    by false is = read_back image c 24 start.place (omega arith) small is

-- ---- the switch

-- Two lists of records in an image: those from its start in use, and those from where its other start leads.
pub record HasBoth (image : List ℕ) (used start : Start) (before records : List (List ℕ)) (end last : ℕ) : Type 0 where
  pub store : IsStore image before end
  pub starts : IsStartOf image used
  pub other : start.is_first ≡ not used.is_first
  pub by : start_by start.is_first image ≡ start.place
  pub high : 64 ≤ start.place
  pub whole : AreRecords image start.place records last
  pub closed : IsClosed image last

-- they are there once the start of the copy was written
pub both_there : (image c : List ℕ) (used start : Start) (before records : List (List ℕ)) (end last : ℕ) → IsStore image before end → IsStartOf image used → start.is_first ≡ not used.is_first → 64 ≤ start.place
    → AreRecords image start.place records last → IsClosed image last → Written image (start_field start.is_first) (big_bytes 8 start.place) c → HasBoth c used start before records end last
both_there image c used start before records end last store is other high whole closed put =
    let le = records_le image start.place last records whole in
    let long : 64 < length image = omega (arith, store.front.starts_behind, store.front.starts_within) in
    let torn : Torn (start_field start.is_first) 8 image c = written_torn image (start_field start.is_first) (big_bytes 8 start.place) c (field_within start.is_first (length image) long) put in
    let keeps = field_keeps_use image c used start other long torn in
    record {
      store = keeps_store image c before end used store is keeps;
      starts = keeps_start image c used is keeps;
      other = other;
      by = start_leads image c start long (omega (arith, closed.within, store.written.within)) put;
      high = high;
      whole = from_records 64 image c keeps.from start.place last records high whole;
      closed = from_closed 64 image c keeps.from last (omega arith) closed;
    }
  where
    field_within : (b : Bool) (n : ℕ) → 64 < n → start_field b ≤ n
    field_within true n long = omega arith
    field_within false n long = omega arith

both_long : (image : List ℕ) (used start : Start) (before records : List (List ℕ)) (end last : ℕ) → HasBoth image used start before records end last → 64 < length image
both_long image used start before records end last both = omega (arith, both.store.front.starts_behind, both.store.front.starts_within)

switch_by : (image c : List ℕ) (b : Bool) → AgreeFrom 9 image c → start_by b c ≡ start_by b image
switch_by image c true from = ap (big_number 8) (from_range 9 image c from 16 24 (omega arith))
switch_by image c false from = ap (big_number 8) (from_range 9 image c from 24 32 (omega arith))

old_use : (image c : List ℕ) (used start : Start) (before records : List (List ℕ)) (end last : ℕ) → HasBoth image used start before records end last → Torn 8 1 image c → (slice_index c 8 % 2 == 0) ≡ used.is_first → IsStore c before end
old_use image c used start before records end last both torn which =
    let long = both_long image used start before records end last both in
    let from : AgreeFrom 9 image c = torn_from 8 1 image c (omega arith) torn in
    let place : start_of c ≡ start_of image = ap (λ b. start_by b c) which ∙ switch_by image c used.is_first from ∙ by_use image used both.starts ∙ sym both.starts.place in
    same_store 64 image c before end both.store (switch_marks image c (torn_agree 8 1 image c (omega arith) torn) from) (from_less 9 64 image c (omega arith) from) place both.store.front.starts_behind

pub new_use : (image c : List ℕ) (used start : Start) (before records : List (List ℕ)) (end last : ℕ) → HasBoth image used start before records end last → Torn 8 1 image c → (slice_index c 8 % 2 == 0) ≡ start.is_first
    → IsStore c records last × IsStartOf c start
new_use image c used start before records end last both torn which =
    let long = both_long image used start before records end last both in
    let from : AgreeFrom 9 image c = torn_from 8 1 image c (omega arith) torn in
    let place : start_of c ≡ start.place = ap (λ b. start_by b c) which ∙ switch_by image c start.is_first from ∙ both.by in
    let le = records_le image start.place last records both.whole in
    let behind_front : AgreeFrom 64 image c = from_less 9 64 image c (omega arith) from in (
      marked_store image c before records end start.place last both.store (switch_marks image c (torn_agree 8 1 image c (omega arith) torn) from) from.long place both.high
          (from_records 64 image c behind_front start.place last records both.high both.whole) (from_closed 64 image c behind_front last (omega (arith, both.high)) both.closed),
      record { place = place; which = which },
    )

either_use : (b used : Bool) → (b ≡ used) ⊎ (b ≡ not used)
either_use true true = inl refl
either_use true false = inr refl
either_use false true = inr refl
either_use false false = inl refl

-- each outcome of a write of the byte at 8 has the records from before, or those of the copy
pub switch_torn : (image c : List ℕ) (used start : Start) (before records : List (List ℕ)) (end last : ℕ) → HasBoth image used start before records end last → Torn 8 1 image c → OldOrNew before records c
switch_torn image c used start before records end last both torn = by (either_use (slice_index c 8 % 2 == 0) used.is_first)
  where
    by : ((slice_index c 8 % 2 == 0) ≡ used.is_first) ⊎ ((slice_index c 8 % 2 == 0) ≡ not used.is_first) → OldOrNew before records c
    by (inl old) = inl (inr (end, old_use image c used start before records end last both torn old))
    by (inr new) = inr (inr (last, (new_use image c used start before records end last both torn (new ∙ sym both.other)).0))

byte_written : (image c : List ℕ) (at byte : ℕ) → at ≤ length image → Written image at (byte ∷ []) c → slice_index c at ≡ byte
byte_written image c at byte within is =
    let front : List ℕ = take at image in
    let rest : List ℕ = drop (at + 1) image in
    let long : length front ≡ at = length-take-le at image within in
    ap (λ n. slice_index c n) (sym long) ∙ ap (λ l. slice_index l (length front)) (is ∙ append_assoc front (byte ∷ []) rest) ∙ get_or-append_seam front byte rest 0

use_of : (b : Bool) → (use_byte b % 2 == 0) ≡ b
use_of true = refl
use_of false = refl

pub use_is_written : (image c : List ℕ) (start : Start) → 64 < length image → Written image 8 (use_byte start.is_first ∷ []) c → (slice_index c 8 % 2 == 0) ≡ start.is_first
use_is_written image c start long is = ap (λ b. b % 2 == 0) (byte_written image c 8 (use_byte start.is_first) (omega arith) is) ∙ use_of start.is_first

-- ---- the cut

cut_agree : (image c : List ℕ) (size : ℕ) → size ≤ length image → Cut size image c → Agree size image c
cut_agree image c size within cut =
    let least : min size (length c) ≡ size = omega (arith, cut.no_shorter) in
    record { same = cut.front ∙ ap (λ n. take n image) least; within = omega (arith, cut.no_shorter) }

pub cut_store : (image c : List ℕ) (records : List (List ℕ)) (last : ℕ) → IsStore image records last → Cut (last + 1) image c → IsStore c records last
cut_store image c records last store cut =
    let agree = cut_agree image c (last + 1) (omega (arith, store.closed.within)) cut in
    closed_store image c records last store (agree_less last (last + 1) image c (omega arith) agree) (omega (arith, agree.within)) (omega (arith, cut.no_longer, store.written.within))
    (subst (λ b. b ≢ 1) (sym (agree_index (last + 1) image c agree last (omega arith))) store.closed.other)

pub cut_start : (image c : List ℕ) (records : List (List ℕ)) (last : ℕ) (start : Start) → IsStore image records last → IsStartOf image start → Cut (last + 1) image c → IsStartOf c start
cut_start image c records last start store is cut =
    let le = records_le image (start_of image) last records store.whole in
    let high = store.front.starts_behind in
    start_on image c start (agree_less 64 (last + 1) image c (omega arith) (cut_agree image c (last + 1) (omega (arith, store.closed.within)) cut)) is

-- ---- what is left at any moment

pub field_leaves : (old mid : Telling) (start : Start) (before records : List (List ℕ)) (last : ℕ) → HasCopy old start before records last → LeavesOnly old mid (Torn (start_field start.is_first) 8 old.seen) → LeavesOnly old mid (OldOrNew before records)
field_leaves old mid start before records last has first = weaker old mid (Torn (start_field start.is_first) 8 old.seen) (OldOrNew before records) first (field_image old.seen start before records last has)
  where
    field_image : (image : List ℕ) (start : Start) (before records : List (List ℕ)) (last : ℕ) → HasCopy old start before records last → (c : List ℕ) → Torn (start_field start.is_first) 8 old.seen c → OldOrNew before records c
    field_image image start before records last has c torn =
        let store = has.rests.store in
        let long : 64 < length old.seen = omega (arith, store.front.starts_behind, store.front.starts_within) in
        inl (inr (has.end, keeps_store old.seen c before has.end has.used store has.starts (field_keeps_use old.seen c has.used start has.other long torn)))

pub switch_leaves : (old mid new : Telling) (start : Start) (before records : List (List ℕ)) (last : ℕ) → HasCopy old start before records last → LeavesOnly old mid (Torn (start_field start.is_first) 8 old.seen)
    → Written old.seen (start_field start.is_first) (big_bytes 8 start.place) mid.seen → LeavesOnly mid new (Torn 8 1 mid.seen) → LeavesOnly old new (OldOrNew before records)
switch_leaves old mid new start before records last has first put second =
    let both = both_there old.seen mid.seen has.used start before records has.end last has.rests.store has.starts has.other has.behind_front has.whole has.closed put in
    moments.then old mid new (OldOrNew before records) (Torn 8 1 mid.seen) (OldOrNew before records) (field_leaves old mid start before records last has first) second (λ c either. either)
    (λ c torn. switch_torn mid.seen c has.used start before records has.end last both torn)

pub switch_starts : (old mid new : Telling) (start : Start) (before records : List (List ℕ)) (last : ℕ) → HasCopy old start before records last
    → Written old.seen (start_field start.is_first) (big_bytes 8 start.place) mid.seen → Written mid.seen 8 (use_byte start.is_first ∷ []) new.seen → IsQuiet new → Starts new start records last
switch_starts old mid new start before records last has put also quiet =
    let both = both_there old.seen mid.seen has.used start before records has.end last has.rests.store has.starts has.other has.behind_front has.whole has.closed put in
    let long = both_long mid.seen has.used start before records has.end last both in
    let torn : Torn 8 1 mid.seen new.seen = written_torn mid.seen 8 (use_byte start.is_first ∷ []) new.seen (omega arith) also in
    let there = new_use mid.seen new.seen has.used start before records has.end last both torn (use_is_written mid.seen new.seen start long also) in
    record { rests = record { quiet = quiet; store = there.0 }; starts = there.1 }

-- what is left of a copy while the file is cut after it
pub cut_shortens : (old new : Telling) (place size : ℕ) → place ≡ 64 → (IsQuiet old → IsQuiet new) → SeesTaken (place + size) old new → Shortens place size old new
cut_shortens old new place size low quiets taken = record {
  starts = λ start records last is started.
      let quiet = started.rests.quiet in
      let store = started.rests.store in
      let cut : Cut (last + 1) old.seen new.seen = subst (λ n. Cut n old.seen new.seen) (sym is) (subst (λ c. Cut (place + size) old.seen c) (sym (taken quiet.follows)) (taken_cut (place + size) old.seen)) in
      record { rests = record { quiet = quiets quiet; store = cut_store old.seen new.seen records last store cut }; starts = cut_start old.seen new.seen records last start store started.starts cut };
  bytes = λ quiet. taken quiet.follows ∙ at_front place low;
}
  where
    at_front : (p : ℕ) → p ≡ 64 → take (p + size) old.seen ≡ without_rest p size old.seen
    at_front p is = subst (λ k. take (k + size) old.seen ≡ without_rest k size old.seen) (sym is) refl

pub cut_leaves : (old new : Telling) (place size : ℕ) → (IsQuiet old → LeavesOnly old new (Cut (place + size) old.seen)) → LeavesShortened place size old new
cut_leaves old new place size leaves records last is rests =
    weaker old new (Cut (place + size) old.seen) (Stored records) (leaves rests.quiet) (λ c cut. inr (last, cut_store old.seen c records last rests.store (subst (λ n. Cut n old.seen c) (sym is) cut)))

-- where it isn't cut
pub no_cut_leaves : (disk : Telling) (place size : ℕ) → ((c : List ℕ) → IsTrue disk.follows → disk.left_since disk.moment c → MayLeave disk c) → LeavesShortened place size disk disk
no_cut_leaves disk place size only_now records last is rests =
    let here : (c : List ℕ) → MayLeave disk c → Stored records c = λ c left. inr (last, subst (λ image. IsStore image records last) (sym (rests.quiet.only c left)) rests.store) in
    no_call disk (Stored records) (λ c left. here c (only_now c rests.quiet.follows left)) here
