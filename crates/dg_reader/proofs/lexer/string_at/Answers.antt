use Rattle.std.proofs.Common.{sym, ◌∙◌, arith}
use Rattle.std.proofs.lemmas.Bool.Decides.{Decides-eqb}
use Rattle.std.proofs.lemmas.Grind.{common_steps}
use Rattle.dg_reader.proofs.LexLemmas.{QuoteAt, quote_at, no_quote, string_read, string_refused, string_open}
use Rattle.dg_reader.proofs.lexer.string_at.Goals as goal

pub returns-in_err-end : goal.returns-in_err-end
returns-in_err-end c =
    let none = rw c.in_err-end.was at c.memchr.ensures in
    rw c.from_residual.ensures (sym (string_open c.args.text.now (no_quote c.args.text.now (λ k less e. none k (omega arith) less ((Decides-eqb _ 34).1 e)))))

pub returns-then-not-is_string_text : goal.returns-then-not-is_string_text
returns-then-not-is_string_text c =
    let found = rw c.in_ok-end.was at c.memchr.ensures in
    let q : QuoteAt c.args.text.now c.in_ok-end.end = quote_at c.args.text.now c.in_ok-end.end found.0.high (λ k less e. found.0.before k (omega arith) less ((Decides-eqb _ 34).1 e)) ((Decides-eqb _ 34).0 found.1) in
    sym (string_refused c.args.text.now c.in_ok-end.end q (sym c.is_string_text.ensures ∙ c.if-not-is_string_text.true))

pub returns : goal.returns
returns c =
    let found = rw c.in_ok-end.was at c.memchr.ensures in
    let q : QuoteAt c.args.text.now c.in_ok-end.end = quote_at c.args.text.now c.in_ok-end.end found.0.high (λ k less e. found.0.before k (omega arith) less ((Decides-eqb _ 34).1 e)) ((Decides-eqb _ 34).0 found.1) in
    let read = string_read c.args.text.now c.in_ok-end.end q (sym c.is_string_text.ensures ∙ c.if-not-is_string_text.false) in
    grind (arith, common_steps)
