use Rattle.std.proofs.Common.{◌++◌, ap, ◌∙◌, append_assoc, codes, decimal}
use Rattle.tool_calls.proofs.endings.status_text.Goals as goal

pub returns : goal.returns
returns c =
    let name = c.args.call.now.tool in
    let how = codes " ended with status " in
    c.in_ok-write_number.ensures.ok
    ∙ ap (λ text. text ++ decimal c.from.result) c.in_ok-text.ensures
    ∙ append_assoc (codes "tool ") (name ++ how) (decimal c.from.result)
    ∙ ap (λ text. codes "tool " ++ text) (append_assoc name how (decimal c.from.result))
    ∙ ap (λ n. codes "tool " ++ (name ++ (how ++ decimal n))) c.from.ensures
