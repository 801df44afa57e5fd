use Rattle.std.proofs.Common.{◌≡◌, ◌<◌, ◌+◌, ◌-◌, ◌%◌, ◌^◌, ◌++◌, ◌∙◌, List, ℕ, length, ap, sym, refl, rules, arith}
use Rattle.std.proofs.lemmas.Bool.Decides.{Decides-eqb}
use Rattle.std.proofs.lemmas.Slice.{put_mid-paste}
use Rattle.sha2.specs.Sha256.{sha256}
use Rattle.content_store.specs.Digesting.{write}
use Rattle.content_store.proofs.DigestLemmas.{piece_full, piece_within}
use Rattle.content_store.proofs.hasher.ShaHasher.write_piece.Goals as goal

pub returns-then-end-eq256 : goal.returns-then-end-eq256
unfolding write
returns-then-end-eq256 c =
    let s = c.args.self.now in
    let piece = c.args.piece.now in
    let n = length piece in
    let small : s.written < 2 ^ 64 = search rules in
    let long : length s.block ≡ 256 = search rules in
    let full : s.written % 256 + n ≡ 256 = omega (arith, c.if-end-eq256.true) in
    let block = put_mid-paste (s.written % 256) (s.written % 256 + n - s.written % 256) s.block c.copy_from_slice.new.self piece n c.copy_from_slice.ensures.after (omega arith) refl in
    let chain = c.digest_after-self.ensures ∙ ap (λ (l : List ℕ). sha256 (s.chain ++ l)) block in
    (λ i. record { chain = chain i; block = block i; written = (s.written + n) % 2 ^ 64 }) ∙ sym (piece_full s piece small long full)

pub returns-else-end-eq256 : goal.returns-else-end-eq256
unfolding write
returns-else-end-eq256 c =
    let s = c.args.self.now in
    let piece = c.args.piece.now in
    let n = length piece in
    let small : s.written < 2 ^ 64 = search rules in
    let long : length s.block ≡ 256 = search rules in
    let within : s.written % 256 + n < 256 = omega (arith, c.if-end-eq256.false, c.requires) in
    let block = put_mid-paste (s.written % 256) (s.written % 256 + n - s.written % 256) s.block c.copy_from_slice.new.self piece n c.copy_from_slice.ensures.after (omega arith) refl in
    (λ i. record { chain = s.chain; block = block i; written = (s.written + n) % 2 ^ 64 }) ∙ sym (piece_within s piece small long within)
