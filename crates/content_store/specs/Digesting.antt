-- What a `ShaHasher` computes.
use Rattle.std.specs.Prelude.{ℕ, ◌+◌, ◌%◌, ◌^◌, cond, List, [], ◌∷◌, ◌++◌, replicate, take, nat_eq, slice_index, slice_set}
use Rattle.std.specs.Int.{w64, from_le_bytes}
use Rattle.std.specs.List.{fold}
use Rattle.sha2.specs.Sha256.{sha256}
use Rattle.content_store.specs.declared.hasher.ShaHasher.{ShaHasher}

unfoldable pub initial : ShaHasher
initial = record { chain = replicate 32 0; block = replicate 256 0; written = 0 }

-- the state after one byte: a block of 256 bytes goes into the digest
unfoldable pub write_byte : ShaHasher → ℕ → ShaHasher
write_byte s byte =
    let at = s.written % 256 in
    let block = slice_set s.block at byte in
    record { chain = cond (nat_eq at 255) (sha256 (s.chain ++ block)) s.chain; block = block; written = (s.written + 1) % 2 ^ 64 }

unfoldable pub write : ShaHasher → List ℕ → ShaHasher
write s bytes = fold write_byte s bytes

unfoldable pub digest : ShaHasher → List ℕ
digest s = sha256 (s.chain ++ take (s.written % 256) s.block)

-- the first eight bytes as a number
unfoldable pub first_number : List ℕ → ℕ
first_number d = from_le_bytes w64
    (slice_index d 0 ∷ slice_index d 1 ∷ slice_index d 2 ∷ slice_index d 3 ∷
    slice_index d 4 ∷ slice_index d 5 ∷ slice_index d 6 ∷ slice_index d 7 ∷ [])

-- what `finish` answers
abbrev pub finish : ShaHasher → ℕ
finish s = first_number (digest s)
