use Rattle.plain_derive.proofs.KeptLemmas.{given_are_calls as are_calls, given_are_new, given_are_all, none_is_given}
use Rattle.plain_derive.proofs.laws.given_are_calls.Goals as goal

pub returns-clause-each : goal.returns-clause-each
returns-clause-each c = are_calls

pub returns-clause-new : goal.returns-clause-new
returns-clause-new c = given_are_new

pub returns-clause-all : goal.returns-clause-all
returns-clause-all c = given_are_all

pub returns-clause-none : goal.returns-clause-none
returns-clause-none c = none_is_given
