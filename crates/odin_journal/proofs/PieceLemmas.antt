-- What is known of pieces of a file, and of what is cut of them.
use Rattle.std.proofs.Common.{◌≡◌, ℕ, ◌+◌, ◌-◌, ◌*◌, ◌/◌, ◌%◌, ◌^◌, ◌<◌, ◌≤◌, min, List, take, drop, length, slice_range, IsTrue, sym, ap, subst, ◌∙◌, arith, drop-drop, div-add-mod'}
use Rattle.std.proofs.lemmas.Nat.{mod_below}
use Rattle.odin_bytes.specs.FieldLemmas.{length-slice_range}
use Rattle.odin_outside.specs.Disk.{Telling}
use Rattle.odin_journal.specs.Moments.{StaysQuiet, Works}
use Rattle.odin_journal.specs.Pieces.{GivesOn, IsCutOf, IsInPiece, IsPieceAt, ReadsOn}
use Rattle.odin_journal.specs.WorkLemmas.{no_work, more_work, add_work}
use Rattle.odin_journal.specs.declared.pieces.Piece.{Piece}
use Rattle.odin_journal.proofs.AppendLemmas.{range_of_front}

-- a range, told by its length
pub part : (l : List ℕ) (at count : ℕ) → slice_range l at (at + count) ≡ take count (drop at l)
part l at count = ap (λ n. take n (drop at l)) (let size : at + count - at ≡ count = omega arith in size)

-- a range of a range
pub range_of_range : (l : List ℕ) (from n at count : ℕ) → from ≤ at → at + count ≤ from + n → slice_range (slice_range l from (from + n)) (at - from) (at - from + count) ≡ slice_range l at (at + count)
range_of_range l from n at count begins ends =
    let inside : at - from + count ≤ n = omega (arith, begins, ends) in
    let place : from + (at - from) ≡ at = omega (arith, begins) in
    ap (λ m. slice_range m (at - from) (at - from + count)) (part l from n)
    ∙ sym (range_of_front (drop from l) n (at - from) (at - from + count) (omega arith) inside)
    ∙ part (drop from l) (at - from) count ∙ ap (take count) (drop-drop (at - from) from l) ∙ ap (λ k. take count (drop k l)) place ∙ sym (part l at count)

-- what a piece has is what the disk has there
pub cut_of_piece : (disk : Telling) (size place at count : ℕ) (piece : Piece) (bytes : List ℕ) → IsPieceAt disk size place piece → IsInPiece piece at count bytes → IsCutOf disk at count bytes
cut_of_piece disk size place at count piece bytes stands inside = record {
  long = ap length inside.same ∙ length-slice_range piece.bytes (at - piece.from) (at - piece.from + count) (omega (arith, inside.within.begins, inside.within.ends)) ∙ omega arith;
  same = λ quiet. inside.same ∙ ap (λ l. slice_range l (at - piece.from) (at - piece.from + count)) (stands.is.same quiet.follows)
      ∙ range_of_range disk.seen piece.from (length piece.bytes) at count inside.within.begins inside.within.ends;
}

-- a call that changes nothing of what a read gives leaves a piece one of the disk
pub piece_on : (old new : Telling) (size place : ℕ) (piece : Piece) → GivesOn old new → IsPieceAt old size place piece → IsPieceAt new size place piece
piece_on old new size place piece gives stands = record {
  is = record {
    inside = stands.is.inside;
    full = stands.is.full;
    same = λ follows.
        let before : IsTrue old.follows = subst (λ b. IsTrue b) gives.follows follows in
        stands.is.same before ∙ ap (λ l. slice_range l piece.from (piece.from + length piece.bytes)) (sym (gives.same before));
  };
  no_later = stands.no_later;
}

-- what is cut after a reading is the same as before it
pub cut_before : (old new : Telling) (at count : ℕ) (bytes : List ℕ) → StaysQuiet old new → IsCutOf new at count bytes → IsCutOf old at count bytes
cut_before old new at count bytes stays cut = record {
  long = cut.long;
  same = λ quiet.
      let untouched = stays quiet in
      cut.same untouched.quiet ∙ ap (λ l. slice_range l at (at + count)) untouched.same;
}

-- ---- readings one after another

-- none
pub no_reads : (size at : ℕ) (piece : Piece) (disk : Telling) → IsPieceAt disk size at piece → ReadsOn 0 size at 0 piece piece disk disk
no_reads size at piece disk stands = record {
  piece = record { is = stands.is; no_later = omega (arith, stands.no_later) };
  calls = 0;
  few = omega arith;
  paid = omega arith;
  works = no_work disk.work;
}

-- a bound may be wider
pub reads_less : (m n size at p q : ℕ) (a b : Piece) (old new : Telling) → m ≤ n → p ≤ q → ReadsOn m size at p a b old new → ReadsOn n size at q a b old new
reads_less m n size at p q a b old new fewer shorter reads = record {
  piece = record { is = reads.piece.is; no_later = omega (arith, reads.piece.no_later, shorter) };
  calls = reads.calls;
  few = omega (arith, reads.few, fewer);
  paid = omega (arith, reads.paid, shorter);
  works = reads.works;
}

-- one after the other
pub reads_both : (m n size at p q : ℕ) (a b c : Piece) (old mid new : Telling) → ReadsOn m size at p a b old mid → ReadsOn n size (at + p) q b c mid new → ReadsOn (m + n) size at (p + q) a c old new
reads_both m n size at p q a b c old mid new first second = record {
  piece = record { is = second.piece.is; no_later = omega (arith, second.piece.no_later) };
  calls = first.calls + second.calls;
  few = omega (arith, first.few, second.few);
  paid = omega (arith, first.paid, second.paid);
  works = add_work 0 first.calls 0 second.calls old.work mid.work new.work first.works second.works;
}

few_calls : (calls begun rest s at from : ℕ) → calls * 2 ^ 20 + at ≤ from + (s + 5) → from ≤ at + (s + 5) → begun * 2 ^ 20 + rest ≡ s → rest < 2 ^ 20 → calls ≤ 2 * (begun + 1)
few_calls calls begun rest s at from paid near parts small = omega (arith, paid, near, parts, small)

-- All calls of a reading of records that take so many bytes, from the first piece on to the closed gate after them.
pub all_reads : (n size at s : ℕ) (a b : Piece) (old new : Telling) → a.from ≡ at → ReadsOn (2 * n + 1) size at (s + 5) a b old new → Works 0 (min (2 * n + 1) (2 * (s / 2 ^ 20 + 1))) old new
all_reads n size at s a b old new is reads =
    let paid : reads.calls * 2 ^ 20 + at ≤ b.from + (s + 5) = subst (λ from. reads.calls * 2 ^ 20 + from ≤ b.from + (s + 5)) is reads.paid in
    let few = few_calls reads.calls (s / 2 ^ 20) (s % 2 ^ 20) s at b.from paid reads.piece.no_later (div-add-mod' s (2 ^ 20)) (mod_below s (2 ^ 20) (omega arith)) in
    more_work 0 reads.calls 0 (min (2 * n + 1) (2 * (s / 2 ^ 20 + 1))) old.work new.work (omega arith) (omega (arith, reads.few, few)) reads.works
