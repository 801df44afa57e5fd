-- Kept calls, one after the other, and what a stop within them leaves.
use Rattle.std.proofs.Common.{◌≡◌, ℕ, suc, ◌+◌, ◌-◌, ◌<◌, ◌≤◌, refl, length-append, length-drop, append_assoc, append-nil, min, List, [], ◌∷◌, ◌++◌, length, take, drop, get_or, ap, sym, ◌∙◌, subst, arith, inl, inr}
use Rattle.std.proofs.Math.Seq.{take-suc, drop-append_seam}
use Rattle.std.proofs.lemmas.List.{take-append-drop, take-append-le, drop-append-le, take_all, get_or-drop}
use Rattle.std.proofs.lemmas.List.Elements.{All-get_or}
use Rattle.std.specs.List.{All}
use Rattle.odin_outside.specs.Disk.{IsCrashImage, wrote, cut_to}
use Rattle.odin_outside.specs.Steps.{torn_image, cut_image}
use Rattle.odin_memory.specs.declared.disk.Entry.{Entry}
use Rattle.odin_memory.specs.declared.disk.Entry.TheVariants as entry
use Rattle.odin_memory.specs.Calls.{Call, Synced, changed, image_after, pending_after, AreWithin, FitsIn, TornBy, LeftWithin, calls_until}
use Rattle.odin_memory.specs.DiskLaws.{image_is_left}
use Rattle.odin_memory.specs.Entries.{count_of, call_from_entry, calls_after, calls_from_entries, bytes_left, bytes_of, IsPlain, IsPending, IsUnfinished}

-- calls after others
pub after_both : (front back : List Entry) (bytes : List ℕ) (done : List Call) → calls_after (front ++ back) bytes done ≡ calls_after back (bytes_left front bytes) (calls_after front bytes done)
after_both [] back bytes done = refl
after_both (kept ∷ front) back bytes done = after_both front back (drop (count_of kept) bytes) (call_from_entry kept (take (count_of kept) bytes) ∷ done)

left_both : (front back : List Entry) (bytes : List ℕ) → bytes_left (front ++ back) bytes ≡ bytes_left back (bytes_left front bytes)
left_both [] back bytes = refl
left_both (kept ∷ front) back bytes = left_both front back (drop (count_of kept) bytes)

after_on : (entries : List Entry) (bytes : List ℕ) (done : List Call) → calls_after entries bytes done ≡ calls_after entries bytes [] ++ done
after_on [] bytes done = refl
after_on (kept ∷ entries) bytes done =
    let rest : List ℕ = drop (count_of kept) bytes in
    let call : Call = call_from_entry kept (take (count_of kept) bytes) in
    after_on entries rest (call ∷ done)
    ∙ sym (append_assoc (calls_after entries rest []) (call ∷ []) done)
    ∙ ap (λ (calls : List Call). calls ++ done) (sym (after_on entries rest (call ∷ [])))

length-after : (entries : List Entry) (bytes : List ℕ) (done : List Call) → length (calls_after entries bytes done) ≡ length entries + length done
length-after [] bytes done = omega arith
length-after (kept ∷ entries) bytes done =
    let rest = length-after entries (drop (count_of kept) bytes) (call_from_entry kept (take (count_of kept) bytes) ∷ done) in
    omega (arith, rest)

-- as many calls as entries
pub length-calls : (entries : List Entry) (bytes : List ℕ) → length (calls_from_entries entries bytes) ≡ length entries
length-calls entries bytes = let all = length-after entries bytes [] in omega (arith, all)

-- the first calls are those of the first entries
front_calls : (front back : List Entry) (bytes : List ℕ) → calls_from_entries (front ++ back) bytes ≡ calls_from_entries back (bytes_left front bytes) ++ calls_from_entries front bytes
front_calls front back bytes = after_both front back bytes [] ∙ after_on back (bytes_left front bytes) (calls_from_entries front bytes)

pub until_front : (entries : List Entry) (bytes : List ℕ) (moment : ℕ) → moment ≤ length entries → calls_until moment (calls_from_entries entries bytes) ≡ calls_from_entries (take moment entries) bytes
until_front entries bytes moment le =
    let later : List Call = calls_from_entries (drop moment entries) (bytes_left (take moment entries) bytes) in
    let parts : calls_from_entries entries bytes ≡ later ++ calls_from_entries (take moment entries) bytes =
    ap (λ (es : List Entry). calls_from_entries es bytes) (sym (take-append-drop moment entries)) ∙ front_calls (take moment entries) (drop moment entries) bytes in
    let all : length (calls_from_entries entries bytes) ≡ length entries = length-calls entries bytes in
    let some : length later ≡ length (drop moment entries) = length-calls (drop moment entries) (bytes_left (take moment entries) bytes) in
    let rest : length (drop moment entries) ≡ length entries - moment = length-drop moment entries in
    let count : length (calls_from_entries entries bytes) - moment ≡ length later = omega arith in
    ap (λ n. drop n (calls_from_entries entries bytes)) count
    ∙ ap (λ (calls : List Call). drop (length later) calls) parts
    ∙ drop-append_seam later (calls_from_entries (take moment entries) bytes)

within_tail : (first : List ℕ) (later done : List Call) → AreWithin first (later ++ done) → AreWithin first done
within_tail first [] done within = within
within_tail first (call ∷ later) done within = within_tail first later done within.1

pub within_front : (first : List ℕ) (entries : List Entry) (bytes : List ℕ) (moment : ℕ) → AreWithin first (calls_from_entries entries bytes) → AreWithin first (calls_from_entries (take moment entries) bytes)
within_front first entries bytes moment within =
    let are : List Call → Type 0 = λ calls. AreWithin first calls in
    let parts : calls_from_entries entries bytes ≡ calls_from_entries (drop moment entries) (bytes_left (take moment entries) bytes) ++ calls_from_entries (take moment entries) bytes =
    ap (λ (es : List Entry). calls_from_entries es bytes) (sym (take-append-drop moment entries)) ∙ front_calls (take moment entries) (drop moment entries) bytes in
    within_tail first _ (calls_from_entries (take moment entries) bytes) (subst are parts within)

-- the next call, and the bytes after it
pub next_call : (entries : List Entry) (bytes : List ℕ) (place : ℕ) (kept : Entry) → place < length entries → kept ≡ get_or entries place kept → calls_from_entries (take (place + 1) entries) bytes ≡ call_from_entry kept (take (count_of kept) (bytes_left (take place entries) bytes)) ∷ calls_from_entries (take place entries) bytes
next_call entries bytes place kept inside is =
    let more : take (place + 1) entries ≡ take place entries ++ kept ∷ [] = next_entry entries place kept inside is in
    ap (λ (es : List Entry). calls_from_entries es bytes) more ∙ after_both (take place entries) (kept ∷ []) bytes []
  where
    next_entry : (entries : List Entry) (place : ℕ) (kept : Entry) → place < length entries → kept ≡ get_or entries place kept → take (place + 1) entries ≡ take place entries ++ kept ∷ []
    next_entry entries place kept inside is =
        let one : place + 1 ≡ suc place = omega arith in
        ap (λ n. take n entries) one ∙ take-suc entries place kept inside ∙ ap (λ (e : Entry). take place entries ++ e ∷ []) (sym is)

pub next_left : (entries : List Entry) (bytes : List ℕ) (place : ℕ) (kept : Entry) → place < length entries → kept ≡ get_or entries place kept → bytes_left (take (place + 1) entries) bytes ≡ drop (count_of kept) (bytes_left (take place entries) bytes)
next_left entries bytes place kept inside is =
    let one : place + 1 ≡ suc place = omega arith in
    let more : take (place + 1) entries ≡ take place entries ++ kept ∷ [] = ap (λ n. take n entries) one ∙ take-suc entries place kept inside ∙ ap (λ (e : Entry). take place entries ++ e ∷ []) (sym is) in
    ap (λ (es : List Entry). bytes_left es bytes) more ∙ left_both (take place entries) (kept ∷ []) bytes

-- what a call cut short leaves leads on from what a crash before it may leave
pub torn_on : (first : List ℕ) (kept : Entry) (bytes : List ℕ) (done : List Call) (old new : List ℕ) → IsPending kept → AreWithin first (call_from_entry kept bytes ∷ done) → IsCrashImage (pending_after first done) old → TornBy (call_from_entry kept bytes) old new → IsCrashImage (pending_after first (call_from_entry kept bytes ∷ done)) new
torn_on first (entry.Write at n) bytes done old new pending within left torn =
    let start : at ≡ min at (length (image_after first done)) = omega (arith, within.0) in
    subst (λ (i : ℕ). IsCrashImage (wrote i (length bytes) (pending_after first done)) new) start (torn_image (pending_after first done) at (length bytes) old new left torn)
torn_on first (entry.Cut size) bytes done old new pending within left torn =
    let start : size ≡ min size (length (image_after first done)) = omega (arith, within.0) in
    subst (λ (i : ℕ). IsCrashImage (cut_to i (pending_after first done)) new) start (cut_image (pending_after first done) size old new left torn)
torn_on first entry.Sync bytes done old new pending within left torn = absurd pending
torn_on first entry.Look bytes done old new pending within left torn = subst (λ (image : List ℕ). IsCrashImage (pending_after first done) image) (sym torn) left

-- one more call is kept
more_bytes : (entries : List Entry) (bytes more : List ℕ) (done : List Call) → bytes_of entries ≤ length bytes → calls_after entries (bytes ++ more) done ≡ calls_after entries bytes done
more_bytes [] bytes more done le = refl
more_bytes (kept ∷ entries) bytes more done le =
    let n : ℕ = count_of kept in
    let size : length (drop n bytes) ≡ length bytes - n = length-drop n bytes in
    let rest : bytes_of entries ≤ length (drop n bytes) = omega (arith, le) in
    let here : n ≤ length bytes = omega (arith, le) in
    ap (λ (xs : List ℕ). calls_after entries xs (call_from_entry kept (take n (bytes ++ more)) ∷ done)) (drop-append-le n bytes more here)
    ∙ ap (λ (xs : List ℕ). calls_after entries (drop n bytes ++ more) (call_from_entry kept xs ∷ done)) (take-append-le n bytes more here)
    ∙ more_bytes entries (drop n bytes) more (call_from_entry kept (take n bytes) ∷ done) rest

more_left : (entries : List Entry) (bytes more : List ℕ) → length bytes ≡ bytes_of entries → bytes_left entries (bytes ++ more) ≡ more
more_left [] [] more is = refl
more_left [] (byte ∷ bytes) more is = absurd (omega (arith, is))
more_left (kept ∷ entries) bytes more is =
    let n : ℕ = count_of kept in
    let size : length (drop n bytes) ≡ length bytes - n = length-drop n bytes in
    let rest : length (drop n bytes) ≡ bytes_of entries = omega (arith, is) in
    let here : n ≤ length bytes = omega (arith, is) in
    ap (λ (xs : List ℕ). bytes_left entries xs) (drop-append-le n bytes more here) ∙ more_left entries (drop n bytes) more rest

pub one_more : (entries : List Entry) (bytes more : List ℕ) (kept : Entry) → length bytes ≡ bytes_of entries → length more ≡ count_of kept → calls_from_entries (entries ++ kept ∷ []) (bytes ++ more) ≡ call_from_entry kept more ∷ calls_from_entries entries bytes
one_more entries bytes more kept is size =
    after_both entries (kept ∷ []) (bytes ++ more) []
    ∙ ap (λ (xs : List ℕ). call_from_entry kept (take (count_of kept) xs) ∷ calls_from_entries entries (bytes ++ more)) (more_left entries bytes more is)
    ∙ ap (λ (xs : List ℕ). call_from_entry kept xs ∷ calls_from_entries entries (bytes ++ more)) (take_all (count_of kept) more (omega (arith, size)))
    ∙ ap (λ (calls : List Call). call_from_entry kept more ∷ calls) (more_bytes entries bytes more [] (omega (arith, is)))

bytes_both : (front back : List Entry) → bytes_of (front ++ back) ≡ bytes_of front + bytes_of back
bytes_both [] back = omega arith
bytes_both (kept ∷ front) back = let rest = bytes_both front back in omega (arith, rest)

pub bytes_more : (entries : List Entry) (kept : Entry) → bytes_of (entries ++ kept ∷ []) ≡ bytes_of entries + count_of kept
bytes_more entries kept = let both = bytes_both entries (kept ∷ []) in omega (arith, both)

-- a call after the last sync
pub pending_at : (entries : List Entry) (pending place : ℕ) (kept : Entry) → All IsPending (drop pending entries) → pending ≤ place → place < length entries → kept ≡ get_or entries place kept → IsPending kept
pending_at entries pending place kept all le inside is =
    let size : length (drop pending entries) ≡ length entries - pending = length-drop pending entries in
    let there : pending + (place - pending) ≡ place = omega arith in
    let same : get_or (drop pending entries) (place - pending) kept ≡ kept = get_or-drop pending entries (place - pending) kept ∙ ap (λ i. get_or entries i kept) there ∙ sym is in
    subst IsPending same (All-get_or IsPending (drop pending entries) (place - pending) kept (omega arith) all)

-- What a place of a loop over kept calls has: the bytes that are left, the bytes of the next call, and that it fits.
pub record Turn (first : List ℕ) (entries : List Entry) (written bytes : List ℕ) (place : ℕ) (kept : Entry) (here : List ℕ) : Type 0 where
  pub within : AreWithin first (calls_from_entries entries written)
  pub inside : place < length entries
  pub is : kept ≡ get_or entries place kept
  pub left : bytes ≡ bytes_left (take place entries) written
  pub here_is : here ≡ take (count_of kept) bytes

pub turn_call : (first : List ℕ) (entries : List Entry) (written bytes : List ℕ) (place : ℕ) (kept : Entry) (here : List ℕ) → Turn first entries written bytes place kept here → calls_from_entries (take (place + 1) entries) written ≡ call_from_entry kept here ∷ calls_from_entries (take place entries) written
turn_call first entries written bytes place kept here turn =
    next_call entries written place kept turn.inside turn.is
    ∙ ap (λ (xs : List ℕ). call_from_entry kept (take (count_of kept) xs) ∷ calls_from_entries (take place entries) written) (sym turn.left)
    ∙ ap (λ (xs : List ℕ). call_from_entry kept xs ∷ calls_from_entries (take place entries) written) (sym turn.here_is)

turn_within : (first : List ℕ) (entries : List Entry) (written bytes : List ℕ) (place : ℕ) (kept : Entry) (here : List ℕ) → Turn first entries written bytes place kept here → AreWithin first (call_from_entry kept here ∷ calls_from_entries (take place entries) written)
turn_within first entries written bytes place kept here turn =
    subst (λ (calls : List Call). AreWithin first calls) (turn_call first entries written bytes place kept here turn) (within_front first entries written (place + 1) turn.within)

pub turn_torn : (first : List ℕ) (entries : List Entry) (written bytes : List ℕ) (place : ℕ) (kept : Entry) (here old new : List ℕ) → Turn first entries written bytes place kept here → IsPending kept → IsCrashImage (pending_after first (calls_from_entries (take place entries) written)) old → TornBy (call_from_entry kept here) old new → IsCrashImage (pending_after first (calls_from_entries (take (place + 1) entries) written)) new
turn_torn first entries written bytes place kept here old new turn pending left torn =
    subst (λ (calls : List Call). IsCrashImage (pending_after first calls) new) (sym (turn_call first entries written bytes place kept here turn)) (torn_on first kept here (calls_from_entries (take place entries) written) old new pending (turn_within first entries written bytes place kept here turn) left torn)

pub turn_whole : (first : List ℕ) (entries : List Entry) (written bytes : List ℕ) (place : ℕ) (kept : Entry) (here old new : List ℕ) → Turn first entries written bytes place kept here → old ≡ image_after first (calls_from_entries (take place entries) written) → (FitsIn (call_from_entry kept here) old → new ≡ changed (call_from_entry kept here) old) → new ≡ image_after first (calls_from_entries (take (place + 1) entries) written)
turn_whole first entries written bytes place kept here old new turn old_is whole =
    let done : List Call = calls_from_entries (take place entries) written in
    let within : AreWithin first (call_from_entry kept here ∷ done) = turn_within first entries written bytes place kept here turn in
    let fits : FitsIn (call_from_entry kept here) old = subst (λ (image : List ℕ). FitsIn (call_from_entry kept here) image) (sym old_is) within.0 in
    whole fits
    ∙ ap (λ (image : List ℕ). changed (call_from_entry kept here) image) old_is
    ∙ ap (λ (calls : List Call). image_after first calls) (sym (turn_call first entries written bytes place kept here turn))

pub turn_left : (first : List ℕ) (entries : List Entry) (written bytes : List ℕ) (place : ℕ) (kept : Entry) (here rest : List ℕ) → Turn first entries written bytes place kept here → rest ≡ drop (count_of kept) bytes → rest ≡ bytes_left (take (place + 1) entries) written
turn_left first entries written bytes place kept here rest turn is =
    is ∙ ap (λ (xs : List ℕ). drop (count_of kept) xs) turn.left ∙ sym (next_left entries written place kept turn.inside turn.is)

-- what a read gives is one of the images that a crash may leave
pub whole_left : (first : List ℕ) (calls : List Call) (image : List ℕ) → image ≡ image_after first calls → IsCrashImage (pending_after first calls) image
whole_left first calls image is = subst (λ (c : List ℕ). IsCrashImage (pending_after first calls) c) (sym is) (image_is_left first calls)

-- What the kept calls are once one more is kept, with its bytes.
pub record Keeps (entries : List Entry) (written : List ℕ) (kept : Entry) (more : List ℕ) (new : List Entry) (all : List ℕ) : Type 0 where
  pub calls : calls_from_entries new all ≡ call_from_entry kept more ∷ calls_from_entries entries written
  pub size : length all ≡ bytes_of new

pub keeps_bytes : (entries : List Entry) (written : List ℕ) (kept : Entry) (more : List ℕ) (new : List Entry) (all : List ℕ) → length written ≡ bytes_of entries → length more ≡ count_of kept → new ≡ entries ++ kept ∷ [] → all ≡ written ++ more → Keeps entries written kept more new all
keeps_bytes entries written kept more new all is count new_is all_is = record {
  calls = ap (λ (es : List Entry). calls_from_entries es all) new_is ∙ ap (λ (xs : List ℕ). calls_from_entries (entries ++ kept ∷ []) xs) all_is ∙ one_more entries written more kept is count;
  size =
      let both : length (written ++ more) ≡ length written + length more = length-append written more in
      let sum : bytes_of (entries ++ kept ∷ []) ≡ bytes_of entries + count_of kept = bytes_more entries kept in
      ap length all_is ∙ both ∙ omega arith ∙ sym sum ∙ ap bytes_of (sym new_is);
}

pub keeps_none : (entries : List Entry) (written : List ℕ) (kept : Entry) (new : List Entry) → length written ≡ bytes_of entries → 0 ≡ count_of kept → new ≡ entries ++ kept ∷ [] → Keeps entries written kept [] new written
keeps_none entries written kept new is count new_is = keeps_bytes entries written kept [] new written is count new_is (sym (append-nil written))

-- a call that changes no byte
pub record KeepsAll (kept : Entry) (image : List ℕ) : Type 0 where
  pub count : 0 ≡ count_of kept
  pub same : changed (call_from_entry kept []) image ≡ image
  pub fits : FitsIn (call_from_entry kept []) image

pub plain_keeps : (kept : Entry) (image : List ℕ) → IsPlain kept → KeepsAll kept image
plain_keeps (entry.Write at n) image plain = absurd plain
plain_keeps (entry.Cut size) image plain = absurd plain
plain_keeps entry.Sync image plain = record { count = refl; same = refl; fits = tt }
plain_keeps entry.Look image plain = record { count = refl; same = refl; fits = tt }

-- the calls but for a sync at their end
pub last_call : (entries before : List Entry) (written : List ℕ) → entries ≡ before ++ entry.Sync ∷ [] → calls_from_entries entries written ≡ Synced ∷ calls_from_entries before written
last_call entries before written is = ap (λ (es : List Entry). calls_from_entries es written) is ∙ after_both before (entry.Sync ∷ []) written []

pub last_within : (first : List ℕ) (entries before : List Entry) (written : List ℕ) → IsUnfinished entries before → AreWithin first (calls_from_entries entries written) → AreWithin first (calls_from_entries before written)
last_within first entries before written (inl same) within = subst (λ (es : List Entry). AreWithin first (calls_from_entries es written)) (sym same) within
last_within first entries before written (inr synced) within = (subst (λ (calls : List Call). AreWithin first calls) (last_call entries before written synced) within).1

left_within : (first : List ℕ) (calls : List Call) (image : List ℕ) → IsCrashImage (pending_after first calls) image → LeftWithin first calls image
left_within first [] image left = left
left_within first (call ∷ before) image left = inr left

pub last_left : (first : List ℕ) (entries before : List Entry) (written image : List ℕ) → IsUnfinished entries before → IsCrashImage (pending_after first (calls_from_entries before written)) image → LeftWithin first (calls_from_entries entries written) image
last_left first entries before written image (inl same) left = subst (λ (es : List Entry). LeftWithin first (calls_from_entries es written) image) same (left_within first (calls_from_entries before written) image left)
last_left first entries before written image (inr synced) left = subst (λ (calls : List Call). LeftWithin first calls image) (sym (last_call entries before written synced)) (inl left)

pub last_image : (first : List ℕ) (entries before : List Entry) (written : List ℕ) → IsUnfinished entries before → image_after first (calls_from_entries before written) ≡ image_after first (calls_from_entries entries written)
last_image first entries before written (inl same) = ap (λ (es : List Entry). image_after first (calls_from_entries es written)) same
last_image first entries before written (inr synced) = sym (ap (λ (calls : List Call). image_after first calls) (last_call entries before written synced))
