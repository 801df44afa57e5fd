use Rattle.std.proofs.Common.{◌≡◌, ◌++◌, take, get_or, length, slice_range, ap, sym, ◌∙◌}
use Rattle.std.proofs.lemmas.Result.{on_ok_weaker}
use Rattle.meaning_texts.specs.Escapes.{escaped_byte}
use Rattle.odin_bytes.proofs.EscapeLemmas.{ends_at, other_there, put_on, kept_on, all_plain}
use Rattle.odin_bytes.proofs.escapes.put_escaped.Goals as goal

pub put_escape-requires : goal.put_escape-requires
put_escape-requires c = rw (other_there c.runs.rest.now c.in-Some.place) (ends_at c.runs.rest.now _ c.in-Some.ensures).other

pub runs-preserved : goal.runs-preserved
runs-preserved c =
    let out = c.runs.out in
    let rest = c.runs.rest.now in
    let place = c.in-Some.place in
    let byte = get_or (slice_range rest place (length rest)) 0 0 in
    let out_is : c.put_escape.new.out ≡ (out ++ take place rest) ++ escaped_byte byte = c.in_ok-put_escape.ensures.ok ∙ ap (λ l. l ++ escaped_byte byte) c.in_ok-extend_from_slice.ensures.ok in
    record {
      whole = rw out_is (put_on out rest _ place byte c.runs.invariant.whole (ends_at _ _ c.in-Some.ensures) (other_there rest place));
      kept = rw out_is (kept_on _ (out ++ take place rest) _ (kept_on _ out _ c.runs.invariant.kept));
    }

pub returns-clause-ok : goal.returns-clause-ok
returns-clause-ok c =
    let out = c.runs.out in
    on_ok_weaker c.extend_from_slice-2.result (λ e. e ∙ ap (λ l. out ++ l) (sym (all_plain c.runs.rest.now c.in_default.ensures)) ∙ c.runs.invariant.whole) c.extend_from_slice-2.ensures.ok
