use Rattle.std.proofs.Common.{◌++◌, take, ap, sym, ◌∙◌}
use Rattle.std.proofs.lemmas.Result.{on_ok_weaker}
use Rattle.tool_calls.proofs.CountedLines.{one_counted}
use Rattle.tool_calls.proofs.warnings.put_line.Goals as goal

pub returns : goal.returns
returns c =
    let text_is = c.in_ok-of.ensures ∙ c.in_ok-from_slice.ensures ∙ ap (λ n. take n c.args.line.now) c.min-length.ensures in
    let some = sym c.is_empty.ensures ∙ c.if-is_empty.false in
    on_ok_weaker c.push.result (λ e. e ∙ ap (λ l. c.args.lines.now ++ l) (one_counted c.args.level c.args.line.now c.in_ok-of.field-0 some text_is)) c.push.ensures.ok
