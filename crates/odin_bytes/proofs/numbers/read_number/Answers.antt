use Rattle.std.proofs.Common.{◌∙◌}
use Rattle.odin_bytes.proofs.NumberLemmas.{spelling_is_text, no_error, its_spelling}
use Rattle.odin_bytes.proofs.numbers.read_number.Goals as goal

pub returns-in_default-clause-none : goal.returns-in_default-clause-none
returns-in_default-clause-none c number small is = c.in_default.ensures.cases.0 (spelling_is_text _ number small is)

pub returns-in_default-parse-clause-none : goal.returns-in_default-parse-clause-none
returns-in_default-parse-clause-none c number small is = no_error _ number c.in_default-parse.field-0 small (c.in-Ok.ensures.cases.0 ∙ is) c.in_default-parse.ensures.value.0

pub returns-else-eq-clause-none : goal.returns-else-eq-clause-none
returns-else-eq-clause-none c number small is =
    its_spelling _ _ _ number c.in-Ok-parse.number small is c.in-Ok.ensures.cases.0 c.in-Ok-parse.ensures.value.0 (c.as_bytes.ensures.value ∙ c.format.ensures.text) c.if-eq.ensures
