use Rattle.meaning_derive.proofs.Formed.{calls_formed}
use Rattle.meaning_derive.proofs.checked_laws.calls_well_formed.Goals as goal

pub returns-clause-met : goal.returns-clause-met
returns-clause-met c = calls_formed

pub returns-clause-frontier : goal.returns-clause-frontier
returns-clause-frontier c = λ g spellable checked s sources outcomes fitted n f call e. calls_formed g spellable checked s sources outcomes fitted n f call e.from
