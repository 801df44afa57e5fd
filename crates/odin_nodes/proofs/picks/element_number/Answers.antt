use Rattle.std.proofs.Common.{◌∙◌, sym}
use Rattle.odin_nodes.proofs.PickLemmas.{number_is, number_is_none}
use Rattle.odin_nodes.proofs.picks.element_number.Goals as goal

pub returns-then-numbers_an_element-clause-is : goal.returns-then-numbers_an_element-clause-is
returns-then-numbers_an_element-clause-is c =
    number_is c.args.key.now c.in_ok-number.number c.in_ok-number.ensures.some c.in_ok-number.ensures.small (sym c.numbers_an_element.ensures ∙ c.if-numbers_an_element.true)

pub returns-else-numbers_an_element-clause-is : goal.returns-else-numbers_an_element-clause-is
returns-else-numbers_an_element-clause-is c =
    number_is_none c.args.key.now c.in_ok-number.number c.in_ok-number.ensures.some c.in_ok-number.ensures.small (sym c.numbers_an_element.ensures ∙ c.if-numbers_an_element.false)
