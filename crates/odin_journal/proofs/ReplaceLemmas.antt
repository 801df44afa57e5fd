-- What a journal is once its records were replaced.
use Rattle.std.proofs.Common.{◌≡◌, inl, inr, ℕ, ◌+◌, ◌-◌, ◌≤◌, Bool, IsTrue, List, length, refl, sym, ap, subst, ◌∙◌, arith}
use Rattle.std.specs.Prelude.{not}
use Rattle.odin_outside.specs.Disk.{Telling, MayLeave}
use Rattle.odin_outside.specs.Moments.{no_call}
use Rattle.meaning_records.specs.Front.{file_limit}
use Rattle.meaning_records.specs.Images.{IsStore}
use Rattle.odin_journal.specs.declared.journal.Journal.{Journal}
use Rattle.odin_journal.specs.declared.start.Start.{Start}
use Rattle.odin_journal.specs.Moments.{Works}
use Rattle.odin_journal.specs.Rest.{AtRest, IsReady, RestsOn}
use Rattle.odin_journal.specs.Rewrites.{copy_of, size_of_records, copy_size, IsCopyPlace, with_bytes, with_start, without_rest, MayCopy, ReplacesBy, LeavesEither, WritesCopy, Replaces, LeavesReplaced, OldOrNew}
use Rattle.odin_journal.proofs.RewriteLemmas.{copy_long}

-- a journal on which nothing is done
pub stays_replaced : (journal : Journal) (disk : Telling) (records : List (List ℕ)) → ((c : List ℕ) → IsTrue disk.follows → disk.left_since disk.moment c → MayLeave disk c) → LeavesReplaced journal records disk disk
stays_replaced journal disk records only_now before rest =
    let quiet = rest.rests.quiet in
    let here : (c : List ℕ) → MayLeave disk c → OldOrNew before records c = λ c left. inl (inr (journal.end, subst (λ image. IsStore image before journal.end) (sym (quiet.only c left)) rest.rests.store)) in
    no_call disk (OldOrNew before records) (λ c left. here c (only_now c quiet.follows left)) here

-- the start that isn't in use, where it leads to a place
abbrev pub other_start : Journal → ℕ → Start
other_start journal place = record { place = place; is_first = not journal.start.is_first }

-- what was copied for a journal: these records, of this size, to this place
pub record IsCopyFor (journal : Journal) (place size : ℕ) (copy : List ℕ) (records : List (List ℕ)) : Type 0 where
  pub size_is : size ≡ copy_size records
  pub placed : IsCopyPlace journal.start.place journal.end size place
  pub copy_is : copy ≡ copy_of records

module _ (journal : Journal) (place size : ℕ) (copy : List ℕ) (records : List (List ℕ)) (copied : IsCopyFor journal place size copy records) where
  placed_is : IsCopyPlace journal.start.place journal.end (copy_size records) place
  placed_is = subst (λ n. IsCopyPlace journal.start.place journal.end n place) copied.size_is copied.placed

  pub copy_is_long : length copy ≡ copy_size records
  copy_is_long = ap length copied.copy_is ∙ copy_long records

  pub may_copy : (disk : Telling) (before : List (List ℕ)) → RestsOn disk before journal → MayCopy disk (other_start journal place) copy before records
  may_copy disk before rest = record {
    used = journal.start;
    end = journal.end;
    rests = rest.rests;
    starts = rest.starts;
    other = refl;
    placed = placed_is;
    copy_is = copied.copy_is;
  }

  pub leaves_replaced : (old new : Telling) → LeavesEither (other_start journal place) copy old new → LeavesReplaced journal records old new
  leaves_replaced old new leaves before rest = leaves before records (may_copy old before rest)

  pub replaces : (old new : Telling) (spent : Bool) → ReplacesBy (other_start journal place) copy old new → WritesCopy (other_start journal place) copy old new
      → Replaces journal (record { end = place + size - 1; start = other_start journal place; spent = spent }) records old new
  replaces old new spent by writes =
      let last : place + size - 1 ≡ place + size_of_records records = omega (arith, copied.size_is) in
      record {
        placed = placed_is;
        other = refl;
        end = last;
        rests = λ before rest.
            let started = by before records (may_copy old before rest) in
            record { rests = subst (λ n. AtRest new records n) (sym last) started.rests; starts = started.starts };
        bytes = λ quiet.
            writes quiet
            ∙ ap (λ n. without_rest place n (with_start (other_start journal place) (with_bytes place copy old.seen))) copy_is_long
            ∙ ap (λ b. without_rest place (copy_size records) (with_start (other_start journal place) (with_bytes place b old.seen))) copied.copy_is;
      }

  pub copy_room : (most : ℕ) → IsReady journal most → place + length copy ≤ file_limit
  copy_room most ready = by copied.placed
    where
      by : IsCopyPlace journal.start.place journal.end size place → place + length copy ≤ file_limit
      by (inl low) = omega (arith, low.0, low.1, copy_is_long, copied.size_is, ready.before_end, ready.within)
      by (inr high) = omega (arith, high.1, high.2, copy_is_long, copied.size_is)

  pub ready_next : (most now : ℕ) → IsReady journal most → place + length copy ≤ now → IsReady (record { end = place + size - 1; start = other_start journal place; spent = journal.spent }) now
  ready_next most now ready inside =
      let room = copy_room most ready in
      let size_is = copied.size_is in
      let long = copy_is_long in
      record {
        fresh = ready.fresh;
        inside = omega arith;
        within = omega arith;
        behind_front = by copied.placed;
        before_end = omega arith;
      }
    where
      by : IsCopyPlace journal.start.place journal.end size place → 64 ≤ place
      by (inl low) = omega (arith, low.1)
      by (inr high) = omega (arith, high.2, ready.behind_front, ready.before_end)

  pub works_for : (old new : Telling) → Works (length copy + 9) 8 old new → Works (copy_size records + 9) 8 old new
  works_for old new works = subst (λ n. Works (n + 9) 8 old new) copy_is_long works
