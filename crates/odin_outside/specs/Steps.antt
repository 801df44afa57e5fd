-- What a crash may leave after a write or a cut, step by step: each new image is an old one after the step, and each such image may
-- be left.
use Rattle.std.specs.Prelude.{◌≡◌, ◌⊎◌, ◌<◌, ℕ, zero, suc, ◌+◌, ◌-◌, ◌≤◌, min, max, List, [], ◌∷◌, ◌++◌, length, take, drop, slice_index, nat_lt, nat_le, ◌&&◌, if◌then◌else◌, refl}
use Rattle.std.proofs.Common.{length-append, append_assoc, length-drop, add-one, arith, sym, ap, ◌∙◌, inl, inr}
use Rattle.std.proofs.lemmas.Grind.{same_number_lists}
use Rattle.std.proofs.lemmas.Bool.{cases_lt}
use Rattle.std.proofs.lemmas.Bool.Decides.{nat_tests}
use Rattle.std.proofs.lemmas.List.{length-take, get_or-take, get_or-drop, get_or_append_left, take_at, drop_at, take_all, take_min}
use Rattle.std.proofs.Math.Seq.{get_or-append_seam}
use Rattle.odin_outside.specs.Disk.{Pending, IsUncut, ByteStays, least_among, least_size, greatest_among, greatest_size, IsCrashImage, synced_at, wrote, cut_to, Torn, Cut, Written, Follows}

-- the least size is no greater than that at the sync, nor the greatest less
least_among-le : (size : ℕ) (cuts : List ℕ) → least_among size cuts ≤ size
least_among-le size [] = omega arith
least_among-le size (cut ∷ cuts) = omega (arith, least_among-le size cuts)

le-greatest_among : (size : ℕ) (ranges : List (ℕ × ℕ)) → size ≤ greatest_among size ranges
le-greatest_among size [] = omega arith
le-greatest_among size (range ∷ ranges) = omega (arith, le-greatest_among size ranges)

-- a byte that stays lies below the least size
uncut-lt : (size : ℕ) (cuts : List ℕ) (k : ℕ) → k < size → IsUncut cuts k → k < least_among size cuts
uncut-lt size [] k inside uncut = inside
uncut-lt size (cut ∷ cuts) k inside uncut =
    let here : k < cut = uncut.0 in
    let rest : k < least_among size cuts = uncut-lt size cuts k inside uncut.1 in
    omega arith

kept-lt : (pending : Pending) (k : ℕ) → ByteStays pending k → k < least_size pending
kept-lt pending k kept = uncut-lt (length pending.synced) pending.cuts k kept.inside kept.uncut

-- an image is torn where its size and the bytes outside the range are right
pub torn_at_places : (at n : ℕ) (old new : List ℕ) → length old ≤ length new → length new ≤ max (length old) (at + n) → ((k : ℕ) → k < length old → (k < at) ⊎ (at + n ≤ k) → slice_index new k ≡ slice_index old k) → Torn at n old new
torn_at_places at n old new low high same = record {
  before =
      let front : length (take (min at (length old)) new) ≡ min (min at (length old)) (length new) = length-take (min at (length old)) new in
      let back : length (take at old) ≡ min at (length old) = length-take at old in
      same_number_lists (take (min at (length old)) new) (take at old) (omega arith) (λ k lt.
      let there : k < min at (length old) = omega arith in
      let below : k < at = omega arith in
      let within : k < length old = omega arith in
      get_or-take (min at (length old)) new k 0 there ∙ same k within (inl below) ∙ sym (get_or-take at old k 0 below));
  after =
      let rest : ℕ = length old - (at + n) in
      let front : length (take rest (drop (at + n) new)) ≡ min rest (length (drop (at + n) new)) = length-take rest (drop (at + n) new) in
      let whole : length (drop (at + n) new) ≡ length new - (at + n) = length-drop (at + n) new in
      let back : length (drop (at + n) old) ≡ length old - (at + n) = length-drop (at + n) old in
      same_number_lists (take rest (drop (at + n) new)) (drop (at + n) old) (omega arith) (λ k lt.
      let there : k < rest = omega arith in
      let above : at + n ≤ at + n + k = omega arith in
      let within : at + n + k < length old = omega arith in
      get_or-take rest (drop (at + n) new) k 0 there ∙ get_or-drop (at + n) new k 0 ∙ same (at + n + k) within (inr above) ∙ sym (get_or-drop (at + n) old k 0));
  no_shorter = low;
  no_longer = high;
}

-- an image is one after a step of a cut where its size and the bytes before the cut are right
pub cut_at_places : (size : ℕ) (old new : List ℕ) → min size (length old) ≤ length new → length new ≤ length old → ((k : ℕ) → k < size → k < length new → slice_index new k ≡ slice_index old k) → Cut size old new
cut_at_places size old new low high same = record {
  front =
      let front : length (take size new) ≡ min size (length new) = length-take size new in
      let back : length (take (min size (length new)) old) ≡ min (min size (length new)) (length old) = length-take (min size (length new)) old in
      same_number_lists (take size new) (take (min size (length new)) old) (omega arith) (λ k lt.
      let there : k < min size (length new) = omega arith in
      let below : k < size = omega arith in
      let within : k < length new = omega arith in
      get_or-take size new k 0 below ∙ same k below within ∙ sym (get_or-take (min size (length new)) old k 0 there));
  no_shorter = low;
  no_longer = high;
}

-- a torn image at a place outside the range
pub torn-outside : (at n : ℕ) (old new : List ℕ) (k : ℕ) → Torn at n old new → k < length old → (k < at) ⊎ (at + n ≤ k) → slice_index new k ≡ slice_index old k
torn-outside at n old new k torn inside (inl below) =
    let lt : k < min at (length old) = omega arith in
    sym (get_or-take (min at (length old)) new k 0 lt) ∙ ap (λ xs. slice_index xs k) torn.before ∙ get_or-take at old k 0 below
torn-outside at n old new k torn inside (inr above) =
    let j : ℕ = k - (at + n) in
    let there : at + n + j ≡ k = omega arith in
    let lt : j < length old - (at + n) = omega arith in
    sym (ap (λ i. slice_index new i) there)
    ∙ sym (get_or-drop (at + n) new j 0)
    ∙ sym (get_or-take (length old - (at + n)) (drop (at + n) new) j 0 lt)
    ∙ ap (λ xs. slice_index xs j) torn.after
    ∙ get_or-drop (at + n) old j 0
    ∙ ap (λ i. slice_index old i) there

pub torn_image : (pending : Pending) (at n : ℕ) (old new : List ℕ) → IsCrashImage pending old → Torn at n old new → IsCrashImage (wrote at n pending) new
torn_image pending at n old new image torn = record {
  no_shorter = omega (arith, image.no_shorter, torn.no_shorter);
  no_longer = omega (arith, image.no_longer, torn.no_longer);
  kept = λ k kept inside.
      let before : ByteStays pending k = record { inside = kept.inside; unwritten = kept.unwritten.1; uncut = kept.uncut } in
      let least : k < least_size pending = kept-lt pending k before in
      let within : k < length old = omega (arith, image.no_shorter) in
      torn-outside at n old new k torn within kept.unwritten.0 ∙ image.kept k before within;
}

pub cut_image : (pending : Pending) (size : ℕ) (old new : List ℕ) → IsCrashImage pending old → Cut size old new → IsCrashImage (cut_to size pending) new
cut_image pending size old new image cut = record {
  no_shorter = omega (arith, image.no_shorter, cut.no_shorter);
  no_longer = omega (arith, image.no_longer, cut.no_longer);
  kept = λ k kept inside.
      let before : ByteStays pending k = record { inside = kept.inside; unwritten = kept.unwritten; uncut = kept.uncut.1 } in
      let below : k < size = kept.uncut.0 in
      let lt : k < min size (length new) = omega arith in
      let within : k < length old = omega (arith, cut.no_longer) in
      sym (get_or-take size new k 0 below)
      ∙ ap (λ xs. slice_index xs k) cut.front
      ∙ get_or-take (min size (length new)) old k 0 lt
      ∙ image.kept k before within;
}

-- the list of so many values of a function
abbrev tabulate : ℕ → (ℕ → ℕ) → List ℕ
tabulate zero f = []
tabulate (suc n) f = tabulate n f ++ f n ∷ []

length-tabulate : (n : ℕ) (f : ℕ → ℕ) → length (tabulate n f) ≡ n
length-tabulate zero f = refl
length-tabulate (suc n) f = length-append (tabulate n f) (f n ∷ []) ∙ ap (λ m. m + 1) (length-tabulate n f) ∙ add-one n

get_or-tabulate : (n : ℕ) (f : ℕ → ℕ) (k : ℕ) → k < n → slice_index (tabulate n f) k ≡ f k
get_or-tabulate zero f k lt = absurd (omega arith)
get_or-tabulate (suc n) f k lt =
    let size : length (tabulate n f) ≡ n = length-tabulate n f in
    elim (cases_lt k n) [
      | inl below ↦
          let inside : k < length (tabulate n f) = omega arith in
          get_or_append_left (tabulate n f) (f n ∷ []) 0 k inside ∙ get_or-tabulate n f k below
      | inr last ↦
          let same : k ≡ n = omega arith in
          let end : k ≡ length (tabulate n f) = omega arith in
          ap (λ i. slice_index (tabulate n f ++ f n ∷ []) i) end ∙ get_or-append_seam (tabulate n f) (f n) [] 0 ∙ ap f (sym same)
    ]

-- the bytes of an old image from which a write of n bytes may lead to this one: those at the sync in the range
abbrev undone : List ℕ → ℕ → ℕ → List ℕ → ℕ → ℕ
undone synced at n new k = if nat_le at k && nat_lt k (at + n) then slice_index synced k else slice_index new k

undone-inside : (synced : List ℕ) (at n : ℕ) (new : List ℕ) (k : ℕ) → at ≤ k → k < at + n → undone synced at n new k ≡ slice_index synced k
undone-inside synced at n new k low high = grind (arith, nat_tests)

undone-outside : (synced : List ℕ) (at n : ℕ) (new : List ℕ) (k : ℕ) → (k < at) ⊎ (at + n ≤ k) → undone synced at n new k ≡ slice_index new k
undone-outside synced at n new k (inl below) = grind (arith, nat_tests)
undone-outside synced at n new k (inr above) = grind (arith, nat_tests)

-- that old image
abbrev torn_from : Pending → ℕ → ℕ → List ℕ → List ℕ
torn_from pending at n new = tabulate (min (length new) (greatest_size pending)) (undone pending.synced at n new)

torn_from-image : (pending : Pending) (at n : ℕ) (new : List ℕ) → IsCrashImage (wrote at n pending) new → IsCrashImage pending (torn_from pending at n new)
torn_from-image pending at n new image =
    let size : length (torn_from pending at n new) ≡ min (length new) (greatest_size pending) = length-tabulate (min (length new) (greatest_size pending)) (undone pending.synced at n new) in
    let low : least_size pending ≤ length pending.synced = least_among-le (length pending.synced) pending.cuts in
    let high : length pending.synced ≤ greatest_size pending = le-greatest_among (length pending.synced) pending.written in
    record {
      no_shorter = omega (arith, image.no_shorter);
      no_longer = omega arith;
      kept = λ k kept inside.
          let lt : k < min (length new) (greatest_size pending) = omega arith in
          let here : slice_index (torn_from pending at n new) k ≡ undone pending.synced at n new k = get_or-tabulate (min (length new) (greatest_size pending)) (undone pending.synced at n new) k lt in
          let stays : (k < at) ⊎ (at + n ≤ k) → slice_index (torn_from pending at n new) k ≡ slice_index pending.synced k = λ outside.
          let within : k < length new = omega arith in
          here ∙ undone-outside pending.synced at n new k outside ∙ image.kept k (record { inside = kept.inside; unwritten = (outside, kept.unwritten); uncut = kept.uncut }) within in
          elim (cases_lt k at) [
            | inl below ↦ stays (inl below)
            | inr low ↦ elim (cases_lt k (at + n)) [
              | inl high ↦ here ∙ undone-inside pending.synced at n new k low high
              | inr above ↦ stays (inr above)
            ]
          ];
    }

torn_from-torn : (pending : Pending) (at n : ℕ) (new : List ℕ) → IsCrashImage (wrote at n pending) new → Torn at n (torn_from pending at n new) new
torn_from-torn pending at n new image =
    let m : ℕ = min (length new) (greatest_size pending) in
    let size : length (torn_from pending at n new) ≡ m = length-tabulate m (undone pending.synced at n new) in
    torn_at_places at n (torn_from pending at n new) new (omega arith) (omega (arith, image.no_longer)) (λ k lt outside.
    let within : k < m = omega arith in
    sym (get_or-tabulate m (undone pending.synced at n new) k within ∙ undone-outside pending.synced at n new k outside))

-- each image after a write is one from before it after a torn write
pub torn_step : (pending : Pending) (at n : ℕ) → Follows (Torn at n) (IsCrashImage pending) (IsCrashImage (wrote at n pending))
torn_step pending at n new image = (torn_from pending at n new, torn_from-image pending at n new image, torn_from-torn pending at n new image)

-- the bytes of an old image from which a cut may lead to this one: those at the sync past the cut
abbrev uncut : List ℕ → ℕ → List ℕ → ℕ → ℕ
uncut synced size new k = if nat_lt k size then slice_index new k else slice_index synced k

uncut-below : (synced : List ℕ) (size : ℕ) (new : List ℕ) (k : ℕ) → k < size → uncut synced size new k ≡ slice_index new k
uncut-below synced size new k below = grind (arith, nat_tests)

uncut-past : (synced : List ℕ) (size : ℕ) (new : List ℕ) (k : ℕ) → size ≤ k → uncut synced size new k ≡ slice_index synced k
uncut-past synced size new k past = grind (arith, nat_tests)

-- that old image
abbrev cut_from : Pending → ℕ → List ℕ → List ℕ
cut_from pending size new = tabulate (max (length new) (least_size pending)) (uncut pending.synced size new)

cut_from-image : (pending : Pending) (size : ℕ) (new : List ℕ) → IsCrashImage (cut_to size pending) new → IsCrashImage pending (cut_from pending size new)
cut_from-image pending size new image =
    let m : ℕ = max (length new) (least_size pending) in
    let whole : length (cut_from pending size new) ≡ m = length-tabulate m (uncut pending.synced size new) in
    let low : least_size pending ≤ length pending.synced = least_among-le (length pending.synced) pending.cuts in
    let high : length pending.synced ≤ greatest_size pending = le-greatest_among (length pending.synced) pending.written in
    record {
      no_shorter = omega arith;
      no_longer = omega (arith, image.no_longer);
      kept = λ k kept inside.
          let lt : k < m = omega arith in
          let here : slice_index (cut_from pending size new) k ≡ uncut pending.synced size new k = get_or-tabulate m (uncut pending.synced size new) k lt in
          elim (cases_lt k size) [
            | inl below ↦
                let within : k < length new = omega (arith, image.no_shorter) in
                here ∙ uncut-below pending.synced size new k below ∙ image.kept k (record { inside = kept.inside; unwritten = kept.unwritten; uncut = (below, kept.uncut) }) within
            | inr past ↦ here ∙ uncut-past pending.synced size new k past
          ];
    }

cut_from-cut : (pending : Pending) (size : ℕ) (new : List ℕ) → IsCrashImage (cut_to size pending) new → Cut size (cut_from pending size new) new
cut_from-cut pending size new image =
    let m : ℕ = max (length new) (least_size pending) in
    let whole : length (cut_from pending size new) ≡ m = length-tabulate m (uncut pending.synced size new) in
    cut_at_places size (cut_from pending size new) new (omega (arith, image.no_shorter)) (omega arith) (λ k below within.
    let lt : k < m = omega arith in
    sym (get_or-tabulate m (uncut pending.synced size new) k lt ∙ uncut-below pending.synced size new k below))

-- each image after a cut is one from before it after a step
pub cut_step : (pending : Pending) (size : ℕ) → Follows (Cut size) (IsCrashImage pending) (IsCrashImage (cut_to size pending))
cut_step pending size new image = (cut_from pending size new, cut_from-image pending size new image, cut_from-cut pending size new image)

-- a whole write is a torn one
pub written_torn : (old : List ℕ) (at : ℕ) (bytes new : List ℕ) → at ≤ length old → Written old at bytes new → Torn at (length bytes) old new
written_torn old at bytes new inside whole =
    let n : ℕ = length bytes in
    let front : length (take at old) ≡ min at (length old) = length-take at old in
    let at_front : length (take at old) ≡ at = omega arith in
    let middle : length (take at old ++ bytes) ≡ at + n = length-append (take at old) bytes ∙ ap (λ i. i + n) at_front in
    let back : length (drop (at + n) old) ≡ length old - (at + n) = length-drop (at + n) old in
    let all : length new ≡ at + n + (length old - (at + n)) = ap length whole ∙ length-append (take at old ++ bytes) (drop (at + n) old) ∙ ap (λ i. i + length (drop (at + n) old)) middle ∙ ap (λ i. at + n + i) back in
    record {
      before =
          let least : min at (length old) ≡ at = omega arith in
          ap (λ i. take i new) least
          ∙ ap (λ xs. take at xs) (whole ∙ append_assoc (take at old) bytes (drop (at + n) old))
          ∙ take_at (take at old) (bytes ++ drop (at + n) old) at at_front;
      after =
          ap (λ xs. take (length old - (at + n)) (drop (at + n) xs)) whole
          ∙ ap (λ xs. take (length old - (at + n)) xs) (drop_at (take at old ++ bytes) (drop (at + n) old) (at + n) middle)
          ∙ take_all (length old - (at + n)) (drop (at + n) old) (omega arith);
      no_shorter = omega arith;
      no_longer = omega arith;
    }

-- and so is none at all
pub torn_same : (at n : ℕ) (image : List ℕ) → Torn at n image image
torn_same at n image =
    let back : length (drop (at + n) image) ≡ length image - (at + n) = length-drop (at + n) image in
    record {
      before = take_min at image;
      after = take_all (length image - (at + n)) (drop (at + n) image) (omega arith);
      no_shorter = omega arith;
      no_longer = omega arith;
    }

-- a range within another
pub torn_wider : (at n low m : ℕ) (old new : List ℕ) → low ≤ at → at + n ≤ low + m → Torn at n old new → Torn low m old new
torn_wider at n low m old new le high torn = torn_at_places low m old new torn.no_shorter (omega (arith, torn.no_longer)) (λ k lt outside.
    torn-outside at n old new k torn lt (elim outside [ inl below ↦ inl (omega arith) | inr above ↦ inr (omega arith) ]))

-- a whole cut is a step of a cut
pub taken_cut : (size : ℕ) (image : List ℕ) → Cut size image (take size image)
taken_cut size image =
    let short : length (take size image) ≡ min size (length image) = length-take size image in
    let least : min size (length (take size image)) ≡ min size (length image) = omega arith in
    record {
      front = take_all size (take size image) (omega arith) ∙ sym (take_min size image) ∙ sym (ap (λ i. take i image) least);
      no_shorter = omega arith;
      no_longer = omega arith;
    }

-- after a sync a crash leaves the image at it
pub synced_only : (image c : List ℕ) → IsCrashImage (synced_at image) c → c ≡ image
synced_only image c left = same_number_lists c image (omega (arith, left.no_shorter, left.no_longer)) (λ k lt. left.kept k (record { inside = omega (arith, left.no_longer); unwritten = tt; uncut = tt }) lt)

pub synced_image : (image : List ℕ) → IsCrashImage (synced_at image) image
synced_image image = record { no_shorter = omega arith; no_longer = omega arith; kept = λ k kept inside. refl }
