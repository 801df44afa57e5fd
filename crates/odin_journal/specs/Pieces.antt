-- Pieces of a file: many bytes that one call reads, and of which records are cut.
use Rattle.std.specs.Prelude.{◌≡◌, ◌+◌, ◌-◌, ◌*◌, ◌/◌, ◌^◌, ◌<◌, ◌≤◌, min, ℕ, List, length, slice_range, IsTrue, Option, Some, None}
use Rattle.odin_outside.specs.Disk.{Telling, SeesSame}
use Rattle.meaning_records.specs.Images.{gate_after}
use Rattle.odin_journal.specs.Moments.{IsRangeOf, Works}
use Rattle.odin_journal.specs.Reads.{HasRecord}
use Rattle.odin_journal.specs.declared.pieces.Piece.{Piece}

-- how many bytes one call reads
abbrev pub piece_size : ℕ
piece_size = 2 ^ 20

-- bytes that a read gives from an offset on
abbrev pub IsSeenAt : Telling → ℕ → List ℕ → Type 0
IsSeenAt disk from bytes = IsTrue disk.follows → bytes ≡ slice_range disk.seen from (from + length bytes)

-- A piece of what a read gives on a disk of this size, from its offset on: as many bytes as one call reads, or all up to the end.
pub record IsPiece (disk : Telling) (size : ℕ) (piece : Piece) : Type 0 where
  pub inside : piece.from ≤ size
  pub full : length piece.bytes ≡ min piece_size (size - piece.from)
  pub same : IsSeenAt disk piece.from piece.bytes

-- such a piece, from a place on or from one before it
pub record IsPieceAt (disk : Telling) (size place : ℕ) (piece : Piece) : Type 0 where
  pub is : IsPiece disk size piece
  pub no_later : piece.from ≤ place

-- a piece has so many bytes from an offset on
pub record IsWithin (piece : Piece) (at count : ℕ) : Type 0 where
  pub begins : piece.from ≤ at
  pub ends : at + count ≤ piece.from + length piece.bytes

-- these are they
pub record IsInPiece (piece : Piece) (at count : ℕ) (bytes : List ℕ) : Type 0 where
  pub within : IsWithin piece at count
  pub same : bytes ≡ slice_range piece.bytes (at - piece.from) (at - piece.from + count)

-- so many bytes of what a read gives from an offset on
pub record IsCutOf (disk : Telling) (at count : ℕ) (bytes : List ℕ) : Type 0 where
  pub long : length bytes ≡ count
  pub same : IsRangeOf disk at count bytes

-- a read gives the same before and after a call, and the disk follows its model or doesn't, as before
pub record GivesOn (old new : Telling) : Type 0 where
  pub follows : new.follows ≡ old.follows
  pub same : SeesSame old new

-- From one piece to another, or the same, over so many bytes from a place on: by so many calls at most, and all but the first call since the
-- opening have passed over as many bytes as a piece has.
pub record ReadsOn (most size at passed : ℕ) (old new : Piece) (before now : Telling) : Type 0 where
  pub piece : IsPieceAt now size (at + passed) new
  pub calls : ℕ
  pub few : calls ≤ most
  pub paid : calls * piece_size + old.from ≤ new.from + passed
  pub works : Works 0 calls before now

-- the record at a gate, with the gate after it
pub record FindsRecord (disk : Telling) (size gate : ℕ) (payload : List ℕ) : Type 0 where
  pub is : HasRecord disk size gate payload
  pub room : gate_after gate payload < size

-- the reading of a record, or of a closed gate, at a gate
abbrev pub ReadsRecord : ℕ → ℕ → Piece → Piece → Telling → Telling → Option (List ℕ) → Type 0
ReadsRecord size gate old new before now None = ReadsOn 1 size gate 5 old new before now
ReadsRecord size gate old new before now (Some payload) = ReadsOn 2 size gate (5 + length payload) old new before now

-- The calls that read so many records of so many bytes at most: two for each record and two more, and, where that is less, two for each piece
-- begun and one more.
abbrev pub most_reads : ℕ → ℕ → ℕ
most_reads records size = 1 + min (2 * records + 1) (2 * (size / piece_size + 1))
