use Rattle.meaning_derive.proofs.Heights.{as_settled, from_settled}
use Rattle.meaning_derive.proofs.Present.{needs_at, needs_listed, names_reached}
use Rattle.meaning_derive.specs.Derive.{derive, names_for}
use Rattle.meaning_tasks.specs.Needs.{values_of}
use Rattle.meaning_tasks.specs.Tasks.{task_of}
use Rattle.meaning_tasks.specs.Calls.{call_of}
use Rattle.std.proofs.Common.{refl}
use Rattle.meaning_derive.proofs.laws.derive_by_needs.Goals as goal

pub returns-clause-needs : goal.returns-clause-needs
returns-clause-needs c = λ g s outcomes h n. record {
  needs = needs_at g s outcomes h n;
  listed = needs_listed g s outcomes h n;
  call = call_of g (task_of g n) (values_of (derive g s outcomes h)) (names_for g s n (derive g s outcomes h));
  called = record { names = names_for g s n (derive g s outcomes h); reached = names_reached g s outcomes h n; is = refl };
}

pub returns-clause-settled : goal.returns-clause-settled
returns-clause-settled c = λ g s outcomes h n view. (as_settled g s outcomes h n view, from_settled g s outcomes h n view)
