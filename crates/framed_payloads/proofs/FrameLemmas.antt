-- What is known of a payload in its frame.
use Rattle.std.proofs.Common.{◌≡◌, ℕ, ◌+◌, ◌-◌, ◌≤◌, List, [], ◌∷◌, ◌++◌, take, drop, length, length-append, length-drop, sym, ap, ◌∙◌, arith}
use Rattle.std.proofs.Math.Seq.{take-append_seam}
use Rattle.std.proofs.lemmas.List.{drop-append-le}
use Rattle.odin_bytes.specs.Fields.{u32_field}
use Rattle.framed_payloads.specs.Frames.{framed, payload_in}

-- a frame is five bytes longer than its payload
pub framed_length : (payload : List ℕ) → length (framed payload) ≡ length payload + 5
framed_length payload = omega (arith, length-append payload (0 ∷ []))

-- the payload that a frame has is the one that it was made of
pub payload_of_framed : (payload : List ℕ) → payload_in (framed payload) ≡ payload
payload_of_framed payload =
    let size : length (framed payload) - 1 - 4 ≡ length payload = omega (arith, framed_length payload) in
    ap (λ n. take n (payload ++ 0 ∷ [])) size ∙ take-append_seam payload (0 ∷ [])

-- a length that is written over the first four bytes, with a closed gate at the end, is the frame of the others
pub frame_made : (bytes : List ℕ) → 4 ≤ length bytes → u32_field (length bytes - 4) ++ drop 4 (bytes ++ 0 ∷ []) ≡ framed (drop 4 bytes)
frame_made bytes long =
    ap (λ l. u32_field (length bytes - 4) ++ l) (drop-append-le 4 bytes (0 ∷ []) long)
    ∙ ap (λ n. u32_field n ++ (drop 4 bytes ++ 0 ∷ [])) (sym (length-drop 4 bytes))

-- a buffer that is a frame is that of the payload that it has
pub frame_is : (bytes payload : List ℕ) → bytes ≡ framed payload → bytes ≡ framed (payload_in bytes)
frame_is bytes payload is = is ∙ ap framed (sym (ap payload_in is ∙ payload_of_framed payload))

-- a buffer that was written over whole, and as long as before, is what was written
pub written_over : (buffer written : List ℕ) (size : ℕ) → length buffer ≡ size → length written ≡ size → take size (written ++ drop (length written) buffer) ≡ written
written_over buffer written size was is = ap (λ n. take n (written ++ drop (length written) buffer)) (sym is) ∙ take-append_seam written (drop (length written) buffer)
