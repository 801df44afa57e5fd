use Rattle.std.proofs.Common.{◌<◌, not, length, get_or, sym, ◌∙◌, arith}
use Rattle.std.proofs.lemmas.Bool.{not-true, not-false}
use Rattle.std.proofs.lemmas.List.Quantifiers.{position-Some}
use Rattle.meaning_texts.specs.Classes.{is_name_byte}
use Rattle.dg_reader.proofs.LexLemmas.{WordEnd, word_end, none_fails}
use Rattle.dg_reader.proofs.lexer.name_length.Goals as goal

pub returns-in-Some : goal.returns-in-Some
returns-in-Some c =
    let found = position-Some (λ b. not (is_name_byte b)) c.args.text.now c.in-Some.end 0 (sym c.first_other.ensures ∙ c.in-Some.is) in
    let lt : c.in-Some.end < length c.args.text.now = found.0 in
    let w : WordEnd c.args.text.now c.in-Some.end = word_end c.args.text.now c.in-Some.end (omega arith) (λ k less. not-false (is_name_byte (get_or c.args.text.now k 0)) (found.2 k less)) (λ less. not-true (is_name_byte (get_or c.args.text.now c.in-Some.end 0)) found.1) in
    record { within = omega arith; front = w.front; behind = w.behind }

pub returns-in-None : goal.returns-in-None
returns-in-None c =
    let w : WordEnd c.args.text.now (length c.args.text.now) = word_end c.args.text.now (length c.args.text.now) (omega arith) (none_fails is_name_byte c.args.text.now (sym c.first_other.ensures ∙ c.in-None.is)) (λ less. absurd (omega arith)) in
    record { within = omega arith; front = w.front; behind = w.behind }
