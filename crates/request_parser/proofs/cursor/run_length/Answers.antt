use Rattle.std.proofs.Common.{◌<◌, not, length, get_or, sym, ◌∙◌, arith}
use Rattle.std.proofs.lemmas.Bool.{not-true, not-false}
use Rattle.std.proofs.lemmas.List.Quantifiers.{position-Some}
use Rattle.request_parser.specs.Runs.{has}
use Rattle.request_parser.proofs.RunLemmas.{RunEnd, run_end, none_fails}
use Rattle.request_parser.proofs.cursor.run_length.Goals as goal

pub returns-in-Some : goal.returns-in-Some
returns-in-Some c =
    let test = has c.args.class in
    let text = c.args.text.now in
    let found = position-Some (λ b. not (test b)) text c.in-Some.end 0 (sym c.first_other.ensures ∙ c.in-Some.is) in
    let lt : c.in-Some.end < length text = found.0 in
    let w : RunEnd test text c.in-Some.end = run_end test text c.in-Some.end (omega arith) (λ k less. not-false (test (get_or text k 0)) (found.2 k less)) (λ less. not-true (test (get_or text c.in-Some.end 0)) found.1) in
    record { within = omega arith; each = w.each; past = w.past }

pub returns-in-None : goal.returns-in-None
returns-in-None c =
    let test = has c.args.class in
    let text = c.args.text.now in
    let w : RunEnd test text (length text) = run_end test text (length text) (omega arith) (none_fails test text (sym c.first_other.ensures ∙ c.in-None.is)) (λ less. absurd (omega arith)) in
    record { within = omega arith; each = w.each; past = w.past }
