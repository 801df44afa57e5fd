use Rattle.std.proofs.Common.{arith}
use Rattle.odin_memory.proofs.NumberLemmas.{by_bound, number_missing}
use Rattle.odin_memory.proofs.directives.status_of.Goals as goal

pub returns-in-Some : goal.returns-in-Some
returns-in-Some c = by_bound 256 c.in-Some.status c.args.text.now (omega arith) c.in-Some.ensures.small c.in-Some.ensures.some (λ below is. omega (arith, is)) (λ past is. omega (arith, is))

pub returns-in_default : goal.returns-in_default
returns-in_default c = by_bound 256 c.in-Some.status c.args.text.now (omega arith) c.in-Some.ensures.small c.in-Some.ensures.some (λ below is. omega (arith, is)) (λ past is. omega (arith, is))

pub returns-in_default-2 : goal.returns-in_default-2
returns-in_default-2 c = let none = number_missing 256 c.args.text.now (λ n below. c.in_default.ensures.none n (omega arith)) in omega (arith, none)
