use Rattle.std.proofs.Common.{◌≡◌, ◌++◌, ◌∷◌, [], take, ap, ◌∙◌, arith}
use Rattle.odin_bytes.proofs.EscapeLemmas.{ends_at, begins_other, nothing, read_on, read_all, bytes_on}
use Rattle.odin_bytes.proofs.escapes.unescape.Goals as goal

pub read_escape-requires : goal.read_escape-requires
read_escape-requires c = begins_other c.runs.rest.now c.in-Some.place (ends_at _ _ c.in-Some.ensures)

pub returns-in_default-read_escape-clause-none : goal.returns-in_default-read_escape-clause-none
returns-in_default-read_escape-clause-none c =
    nothing _ c.runs.text c.runs.rest.now c.in-Some.place (λ i. omega (arith, c.type_inv.spelling i)) c.runs.invariant.bytes c.runs.invariant.read (ends_at _ _ c.in-Some.ensures) c.in_default-read_escape.ensures.none

pub runs-preserved : goal.runs-preserved
runs-preserved c =
    let text = c.runs.text in
    let rest = c.runs.rest.now in
    let byte = c.in-Some-read_escape.byte in
    let text_is : c.push.new.self ≡ (text ++ take c.in-Some.place rest) ++ byte ∷ [] = c.in_ok-push.ensures.ok ∙ ap (λ l. l ++ byte ∷ []) c.in_ok-extend_from_slice.ensures.ok in
    record {
      read = rw text_is (read_on _ text rest c.in-Some.place byte c.in-Some-read_escape.length c.runs.invariant.read (ends_at _ _ c.in-Some.ensures) c.in-Some-read_escape.ensures.some);
      bytes = rw text_is (bytes_on _ text rest c.in-Some.place byte (λ i. omega (arith, c.type_inv.spelling i)) c.runs.invariant.bytes c.runs.invariant.read c.in-Some-read_escape.ensures.byte);
    }

pub returns-clause-some : goal.returns-clause-some
returns-clause-some c = rw c.in_ok-extend_from_slice-2.ensures.ok (read_all _ c.runs.text c.runs.rest.now c.runs.invariant.read c.in_default.ensures)
