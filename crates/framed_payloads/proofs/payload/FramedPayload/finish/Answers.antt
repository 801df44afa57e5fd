use Rattle.std.proofs.Common.{◌≡◌, ◌-◌, ◌++◌, ◌∷◌, [], drop, length, length-drop, length-append, sym, ap, ◌∙◌, arith}
use Rattle.odin_bytes.specs.Fields.{u32_field}
use Rattle.framed_payloads.specs.Frames.{framed}
use Rattle.framed_payloads.proofs.FrameLemmas.{framed_length, frame_made, frame_is, written_over}
use Rattle.framed_payloads.proofs.payload.FramedPayload.finish.Goals as goal

pub invariant_of-result : goal.invariant_of-result
invariant_of-result c =
    let bytes = c.args.bytes in
    let before = c.in_ok-bytes.bytes.items in
    let after = c.write_u32.new.buf in
    let whole : before ≡ bytes ++ 0 ∷ [] = c.in_ok-bytes.ensures ∙ c.in_ok-push.ensures.ok in
    let made : after ≡ framed (drop 4 bytes) =
    c.write_u32.ensures ∙ ap (λ l. u32_field (c.len-length.result - 4) ++ drop 4 l) (c.as_mut_slice.ensures.value ∙ whole)
    ∙ ap (λ n. u32_field (n - 4) ++ drop 4 (bytes ++ 0 ∷ [])) c.len-length.ensures ∙ frame_made bytes c.requires in
    let size : length before ≡ c.in_ok-bytes.bytes.len = ap length (sym c.as_mut_slice.ensures.value) ∙ c.as_mut_slice.ensures.len in
    let long : length after ≡ c.in_ok-bytes.bytes.len = omega (arith, ap length made, framed_length (drop 4 bytes), length-drop 4 bytes, ap length whole, length-append bytes (0 ∷ []), size, c.requires) in
    frame_is _ (drop 4 bytes) (written_over before after c.in_ok-bytes.bytes.len size long ∙ made)
