-- How much is written to add records, and what the file is then.
use Rattle.std.proofs.Common.{◌≡◌, ℕ, ◌+◌, ◌*◌, List, [], ◌∷◌, ◌++◌, length, length-append, refl, arith}
use Rattle.odin_outside.specs.Disk.{Telling}
use Rattle.odin_journal.specs.WorkLemmas.{more_work, add_work}
use Rattle.meaning_records.specs.Images.{gate_after, with_record}
use Rattle.meaning_records.specs.Stands.{gate_behind}
use Rattle.odin_journal.specs.Moments.{Works}
use Rattle.odin_store.specs.Written.{written_in, WorksFor, with_records}

pub written-append : (some more : List (List ℕ)) → written_in (some ++ more) ≡ written_in some + written_in more
written-append [] more = omega arith
written-append (payload ∷ some) more = omega (arith, written-append some more)

pub gate-append : (gate : ℕ) (some more : List (List ℕ)) → gate_behind gate (some ++ more) ≡ gate_behind (gate_behind gate some) more
gate-append gate [] more = refl
gate-append gate (payload ∷ some) more = gate-append (gate_after gate payload) some more

pub records-append : (gate : ℕ) (some more : List (List ℕ)) (image : List ℕ) → with_records gate (some ++ more) image ≡ with_records (gate_behind gate some) more (with_records gate some image)
records-append gate [] more image = refl
records-append gate (payload ∷ some) more image = records-append (gate_after gate payload) some more (with_record gate payload image)

-- one record
pub works_for_one : (payload : List ℕ) (old new : Telling) → Works (length payload + 6) 4 old new → WorksFor (payload ∷ []) old new
works_for_one payload old new works = more_work (length payload + 6) 4 (written_in (payload ∷ [])) (4 * length (payload ∷ [])) old.work new.work (omega arith) (omega arith) works

-- a bound may be wider
pub works_wider : (bytes calls : ℕ) (some : List (List ℕ)) (old new : Telling) → Works bytes calls old new → Works (bytes + written_in some) (calls + 4 * length some) old new
works_wider bytes calls some old new works = more_work bytes calls (bytes + written_in some) (calls + 4 * length some) old.work new.work (omega arith) (omega arith) works

-- records after records
pub works_on : (some more : List (List ℕ)) (old mid new : Telling) → WorksFor some old mid → WorksFor more mid new → WorksFor (some ++ more) old new
works_on some more old mid new first second =
    more_work (written_in some + written_in more) (4 * length some + 4 * length more) (written_in (some ++ more)) (4 * length (some ++ more)) old.work new.work
    (omega (arith, written-append some more)) (omega (arith, length-append some more)) (add_work (written_in some) (4 * length some) (written_in more) (4 * length more) old.work mid.work new.work first second)

-- and after other work
pub works_after : (bytes calls : ℕ) (some more : List (List ℕ)) (old mid new : Telling) → Works (bytes + written_in some) (calls + 4 * length some) old mid → WorksFor more mid new
    → Works (bytes + written_in (some ++ more)) (calls + 4 * length (some ++ more)) old new
works_after bytes calls some more old mid new first second =
    more_work (bytes + written_in some + written_in more) (calls + 4 * length some + 4 * length more) (bytes + written_in (some ++ more)) (calls + 4 * length (some ++ more)) old.work new.work
    (omega (arith, written-append some more)) (omega (arith, length-append some more))
    (add_work (bytes + written_in some) (calls + 4 * length some) (written_in more) (4 * length more) old.work mid.work new.work first second)
