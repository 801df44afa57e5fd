use Rattle.meaning_derive.proofs.Over.{short_at, elements_at}
use Rattle.meaning_derive.proofs.checked_laws.derived_is_short.Goals as goal

pub returns-clause-bodies : goal.returns-clause-bodies
returns-clause-bodies c = short_at

pub returns-clause-elements : goal.returns-clause-elements
returns-clause-elements c = elements_at
