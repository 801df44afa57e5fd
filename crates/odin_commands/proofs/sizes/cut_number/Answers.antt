use Rattle.std.proofs.Common.{decimal}
use Rattle.odin_commands.proofs.TextLemmas.{first_is, no_line, no_lf_in_decimal}
use Rattle.odin_commands.proofs.sizes.cut_number.Goals as goal

pub returns-in_err-digits : goal.returns-in_err-digits
returns-in_err-digits c = rw c.from_residual.ensures (λ number behind small. no_line c.args.text.now (decimal number) behind c.in_err-digits.ensures.none)

pub returns-in_err-read_number : goal.returns-in_err-read_number
returns-in_err-read_number c =
    let cut = c.in_ok-digits.ensures.some in
    rw c.from_residual-in_err-read_number.ensures (λ number behind small reads.
    let same = first_is c.args.text.now c.in_ok-digits.digits.now c.in_ok-digits.behind.now (decimal number) behind cut.0 cut.1 (no_lf_in_decimal number small) reads in
    c.in_err-read_number.ensures.none number small same.0)
