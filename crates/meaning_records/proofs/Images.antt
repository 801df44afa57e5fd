-- Whether an image is a store's, decided: it has whole records, or it isn't ours at some offset. And what it stands for.
use Rattle.std.proofs.Common.{◌≡◌, ◌⊎◌, inl, inr, ℕ, zero, suc, ◌+◌, ◌-◌, ◌<◌, ◌≤◌, List, [], ◌∷◌, ◌++◌, length, take, drop, replicate, codes, slice_index, slice_range, refl, sym, ap, subst, ◌∙◌, arith, length-append, length-drop}
use Rattle.std.specs.Prelude.{bytes_eq, nat_eq}
use Rattle.std.specs.Cmp.Lexicographic.{bytes_decides}
use Rattle.std.proofs.lemmas.Bool.{cases_lt}
use Rattle.std.proofs.lemmas.Bool.Decides.{Decides-eqb}
use Rattle.std.proofs.Math.Seq.{take-append_seam}
use Rattle.odin_bytes.specs.Fields.{bytes_field, u32_field, IsFieldAt}
use Rattle.odin_bytes.specs.FieldLemmas.{field_front, body_front}
use Rattle.meaning_records.specs.Front.{file_limit, start_of, HasFront}
use Rattle.meaning_records.specs.Images.{IsWritten, IsOpen, IsClosed, gate_after, IsRecord, AreRecords, IsStore, Stored, NotOurs}
use Rattle.meaning_records.specs.ImageLemmas.{one_stored, one_end, no_records, one_place}
use Rattle.meaning_records.specs.Forms.{bytes}
use Rattle.meaning_records.specs.States.{State, nothing, ReadsAll}
use Rattle.meaning_records.specs.Stands.{Stands, StandsNot, gate_behind}
use Rattle.meaning_records.proofs.Fronts.{Begins, decided, both_decided, less_decided, bytes_decided}
use Rattle.meaning_records.proofs.Takes.{BreaksOff, AllReadBy, all_read, one_all_read, read_through, one_break}

-- ---- records

abbrev RecordAt : List ℕ → ℕ → Type 0
RecordAt image gate = (payload : List ℕ) × IsRecord image gate payload

-- the bytes after an open gate begin with a length and a body
body_stands : (image : List ℕ) (gate : ℕ) → gate < length image → (b : Begins bytes (drop (gate + 1) image)) → IsFieldAt image (gate + 1) (gate_after gate b.thing) (bytes_field b.thing)
body_stands image gate within b =
    let field : List ℕ = bytes_field b.thing in
    let size : length field ≡ 4 + length b.thing = length-append (u32_field (length b.thing)) b.thing in
    let behind_gate : length image - (gate + 1) ≡ length field + length b.rest = sym (length-drop (gate + 1) image) ∙ ap length b.is ∙ length-append field b.rest in
    let long : gate + 5 + length b.thing - (gate + 1) ≡ length field = omega arith in
    record {
      in_range = (omega arith, omega arith);
      bytes = ap (λ n. take n (drop (gate + 1) image)) long ∙ ap (take (length field)) b.is ∙ take-append_seam field b.rest;
    }

next_decided : (image : List ℕ) (gate : ℕ) → IsOpen image gate → (b : Begins bytes (drop (gate + 1) image)) → Dec (gate_after gate b.thing < length image) → Dec (RecordAt image gate)
next_decided image gate opened b (yes next) = yes (b.thing, record { opened = opened; short = b.fits; body = body_stands image gate opened.within b; next = next })
next_decided image gate opened b (no none) = no (λ r.
    let front = field_front image (gate + 1) (gate_after gate r.0) (bytes_field r.0) r.1.body in
    let same = body_front b.thing r.0 b.rest _ b.fits r.1.short (sym b.is ∙ front) in
    none (subst (λ (payload : List ℕ). gate_after gate payload < length image) (sym same.0) r.1.next))

record_by : (image : List ℕ) (gate : ℕ) → IsOpen image gate → Dec (Begins bytes (drop (gate + 1) image)) → Dec (RecordAt image gate)
record_by image gate opened (yes b) = next_decided image gate opened b (less_decided (gate_after gate b.thing) (length image))
record_by image gate opened (no none) = no (λ r. none (record { thing = r.0; rest = drop (gate_after gate r.0 - (gate + 1)) (drop (gate + 1) image); fits = r.1.short; is = field_front image (gate + 1) (gate_after gate r.0) (bytes_field r.0) r.1.body }))

record_decided : (image : List ℕ) (gate : ℕ) → IsOpen image gate → Dec (RecordAt image gate)
record_decided image gate opened = record_by image gate opened (bytes_decided (drop (gate + 1) image))

-- the records from a gate on, up to one that is closed or has no record
record Walked (image : List ℕ) (gate : ℕ) : Type 0 where
  records : List (List ℕ)
  end : ℕ
  whole : AreRecords image gate records end
  stop : IsClosed image end ⊎ (IsOpen image end × ((payload : List ℕ) → ¬ IsRecord image end payload))

walk_behind : (image : List ℕ) (gate : ℕ) (first : RecordAt image gate) → Walked image (gate_after gate first.0) → Walked image gate
walk_behind image gate first w = record { records = first.0 ∷ w.records; end = w.end; whole = (first.1, w.whole); stop = w.stop }

walk_stops : (image : List ℕ) (gate : ℕ) → IsClosed image gate ⊎ (IsOpen image gate × ((payload : List ℕ) → ¬ IsRecord image gate payload)) → Walked image gate
walk_stops image gate stop = record { records = []; end = gate; whole = refl; stop = stop }

gate_decided : (image : List ℕ) (gate : ℕ) → Dec (slice_index image gate ≡ 1)
gate_decided image gate = decided (nat_eq (slice_index image gate) 1) (Decides-eqb (slice_index image gate) 1)

-- what comes of the record at an open gate
abbrev Step : List ℕ → ℕ → Type 0
Step image gate = RecordAt image gate ⊎ (IsClosed image gate ⊎ (IsOpen image gate × ((payload : List ℕ) → ¬ IsRecord image gate payload)))

open_step : (image : List ℕ) (gate : ℕ) → IsOpen image gate → Dec (RecordAt image gate) → Step image gate
open_step image gate opened (yes first) = inl first
open_step image gate opened (no none) = inr (inr (opened, λ payload there. none (payload, there)))

step_by : (image : List ℕ) (gate : ℕ) → gate < length image → Dec (slice_index image gate ≡ 1) → Step image gate
step_by image gate within (yes one) = let opened : IsOpen image gate = record { within = within; one = one } in open_step image gate opened (record_decided image gate opened)
step_by image gate within (no other) = inr (inl (record { within = within; other = other }))

walk : (bound : ℕ) (image : List ℕ) (gate : ℕ) → gate < length image → length image ≤ gate + bound → Walked image gate
walk zero image gate within few = absurd (omega arith)
walk (suc bound) image gate within few = elim (step_by image gate within (gate_decided image gate)) [
  | inl first ↦ walk_behind image gate first (walk bound image (gate_after gate first.0) first.1.next (omega arith))
  | inr stop ↦ walk_stops image gate stop
]

-- ---- fronts

front_decided : (image : List ℕ) → Dec (HasFront image)
front_decided image = by (both_decided (decided (bytes_eq (slice_range image 1 8) (codes "DINSTO1")) (bytes_decides (slice_range image 1 8) (codes "DINSTO1")))
    (both_decided (decided (bytes_eq (slice_range image 9 16) (replicate 7 0)) (bytes_decides (slice_range image 9 16) (replicate 7 0)))
    (both_decided (decided (bytes_eq (slice_range image 32 64) (replicate 32 0)) (bytes_decides (slice_range image 32 64) (replicate 32 0)))
    (both_decided (less_decided 63 (start_of image)) (less_decided (start_of image) (length image))))))
  where
    by : Dec ((slice_range image 1 8 ≡ codes "DINSTO1") × ((slice_range image 9 16 ≡ replicate 7 0) × ((slice_range image 32 64 ≡ replicate 32 0) × ((63 < start_of image) × (start_of image < length image))))) → Dec (HasFront image)
    by (yes h) = yes (record { name = h.0; zeros = h.1.0; more_zeros = h.1.1.0; starts_behind = h.1.1.1.0; starts_within = h.1.1.1.1 })
    by (no none) = no (λ front. none (front.name, (front.zeros, (front.more_zeros, (front.starts_behind, front.starts_within)))))

-- ---- images

abbrev StoredOrNot : List ℕ → Type 0
StoredOrNot image = ((records : List (List ℕ)) × Stored records image) ⊎ ((at : ℕ) × NotOurs image at)

by_stop : (image : List ℕ) → IsWritten image → HasFront image → (w : Walked image (start_of image)) → IsClosed image w.end ⊎ (IsOpen image w.end × ((payload : List ℕ) → ¬ IsRecord image w.end payload)) → StoredOrNot image
by_stop image written front w (inl closed) = inl (w.records, inr (w.end, record { written = written; front = front; whole = w.whole; closed = closed }))
by_stop image written front w (inr broken) = inr (w.end, inr (inr (record { written = written; front = front; records = w.records; whole = w.whole; opened = broken.0; none = broken.1 })))

by_front : (image : List ℕ) → IsWritten image → Dec (HasFront image) → StoredOrNot image
by_front image written (yes front) = let w = walk (length image) image (start_of image) front.starts_within (omega arith) in by_stop image written front w w.stop
by_front image written (no none) = inr (0, inr (inl (written, none, refl)))

by_mark : (image : List ℕ) → length image ≤ file_limit → 1 < length image → Dec (slice_index image 0 ≡ 0) → StoredOrNot image
by_mark image within some (yes blank) = inl ([], inl (record { within = within; blank = inr blank }, refl))
by_mark image within some (no marked) = by_front image (record { within = within; some = some; marked = marked }) (front_decided image)

by_size : (image : List ℕ) → length image ≤ file_limit → (1 < length image) ⊎ (length image ≤ 1) → StoredOrNot image
by_size image within (inr short) = inl ([], inl (record { within = within; blank = inl short }, refl))
by_size image within (inl some) = by_mark image within some (decided (nat_eq (slice_index image 0) 0) (Decides-eqb (slice_index image 0) 0))

by_limit : (image : List ℕ) → (file_limit < length image) ⊎ (length image ≤ file_limit) → StoredOrNot image
by_limit image (inl long) = inr (0, inl (long, refl))
by_limit image (inr within) = by_size image within (cases_lt 1 (length image))

stored_or_not : (image : List ℕ) → StoredOrNot image
stored_or_not image = by_limit image (cases_lt file_limit (length image))

-- ---- what an image stands for

broken_store : (image : List ℕ) (records : List (List ℕ)) → Stored records image → BreaksOff nothing records → (at : ℕ) × StandsNot image at
broken_store image records (inl new) breaks = let split : [] ≡ breaks.before ++ breaks.payload ∷ breaks.rest = sym new.1 ∙ breaks.split in absurd (some breaks.before split)
  where
    some : (before : List (List ℕ)) → [] ≡ before ++ breaks.payload ∷ breaks.rest → ⊥
    some [] e = cc
    some (first ∷ before) e = cc
broken_store image records (inr store) breaks = (
  gate_behind (start_of image) breaks.before,
  inr (record {
    before = breaks.before;
    payload = breaks.payload;
    rest = breaks.rest;
    end = store.0;
    store = subst (λ (l : List (List ℕ)). IsStore image l store.0) breaks.split store.1;
    state = breaks.state;
    read = breaks.read;
    unread = breaks.unread;
    place = refl;
  }),
)

abbrev StandsOrNot : List ℕ → Type 0
StandsOrNot image = ((state : State) × Stands image state) ⊎ ((at : ℕ) × StandsNot image at)

by_records : (image : List ℕ) (records : List (List ℕ)) → Stored records image → AllReadBy nothing records ⊎ BreaksOff nothing records → StandsOrNot image
by_records image records stored (inl all) = inl (all.0, record { records = records; stored = stored; read = all.1 })
by_records image records stored (inr breaks) = inr (broken_store image records stored breaks)

by_stored : (image : List ℕ) → StoredOrNot image → StandsOrNot image
by_stored image (inl stored) = by_records image stored.0 stored.1 (all_read stored.0 nothing)
by_stored image (inr none) = inr (none.0, inl none.1)

pub stands_or_not : (image : List ℕ) → StandsOrNot image
stands_or_not image = by_stored image (stored_or_not image)

-- ---- one thing at most

pub one_state : (image : List ℕ) (state other : State) → Stands image state → Stands image other → other ≡ state
one_state image state other is also =
    let records : also.records ≡ is.records = one_stored image is.records also.records is.stored also.stored in
    one_all_read is.records nothing state other is.read (subst (λ (l : List (List ℕ)). ReadsAll nothing l other) records also.read)

pub never_both : (image : List ℕ) (at : ℕ) (state : State) → StandsNot image at → ¬ Stands image state
never_both image at state (inl none) is = no_records image at is.records none is.stored
never_both image at state (inr bad) is =
    let records : is.records ≡ bad.before ++ bad.payload ∷ bad.rest = one_stored image (bad.before ++ bad.payload ∷ bad.rest) is.records (inr (bad.end, bad.store)) is.stored in
    let read = read_through bad.before bad.payload bad.rest nothing bad.state state bad.read (subst (λ (l : List (List ℕ)). ReadsAll nothing l state) records is.read) in
    bad.unread read.0 read.1

pub one_offset : (image : List ℕ) (at other : ℕ) → StandsNot image at → StandsNot image other → other ≡ at
one_offset image at other (inl none) (inl also) = one_place image at other none also
one_offset image at other (inl none) (inr bad) = absurd (no_records image at (bad.before ++ bad.payload ∷ bad.rest) none (inr (bad.end, bad.store)))
one_offset image at other (inr bad) (inl none) = absurd (no_records image other (bad.before ++ bad.payload ∷ bad.rest) none (inr (bad.end, bad.store)))
one_offset image at other (inr bad) (inr also) =
    let records : also.before ++ also.payload ∷ also.rest ≡ bad.before ++ bad.payload ∷ bad.rest
    = (one_end image (bad.before ++ bad.payload ∷ bad.rest) (also.before ++ also.payload ∷ also.rest) bad.end also.end bad.store also.store).0 in
    let before = one_break bad.before also.before bad.payload also.payload bad.rest also.rest nothing bad.state also.state (sym records) bad.read also.read bad.unread also.unread in
    also.place ∙ ap (λ (l : List (List ℕ)). gate_behind (start_of image) l) before ∙ sym bad.place

-- ---- gates

pub gates_lead : (image : List ℕ) (gate end : ℕ) (records : List (List ℕ)) → AreRecords image gate records end → end ≡ gate_behind gate records
gates_lead image gate end [] whole = whole
gates_lead image gate end (payload ∷ records) whole = gates_lead image (gate_after gate payload) end records whole.1
