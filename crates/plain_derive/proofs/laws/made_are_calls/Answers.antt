use Rattle.plain_derive.proofs.MadeLemmas.{made_are_calls as are_calls, made_are_once, all_are_made}
use Rattle.plain_derive.proofs.laws.made_are_calls.Goals as goal

pub returns-clause-each : goal.returns-clause-each
returns-clause-each c = are_calls

pub returns-clause-once : goal.returns-clause-once
returns-clause-once c = made_are_once

pub returns-clause-all : goal.returns-clause-all
returns-clause-all c = all_are_made
