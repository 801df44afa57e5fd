-- What is more of a call that went well.
use Rattle.std.proofs.Common.{List, subst, ◌≡◌, ◌++◌, Result, Ok, Err}
use Rattle.std.specs.Prelude.{OnOk}
use Rattle.object_values.specs.declared.nodes.Node.{Node}
use Rattle.meaning_tasks.specs.Needs.{Results}
use Rattle.task_needs.specs.declared.taken.Taken.{Taken}
use Rattle.task_needs.specs.TakingOver.{TakesOver}
use Rattle.task_needs.proofs.TakenLemmas.{takes_more}

-- needs after needs
pub takes_then : {T E : Type 0} (seen : Results) (first more slice : List Node) (old between new : Taken) (r : Result T E) → TakesOver seen first old between → slice ≡ more → OnOk r (TakesOver seen slice between new) → OnOk r (TakesOver seen (first ++ more) old new)
takes_then seen first more slice old between new (Ok u) a s b = takes_more seen first more old between new a (subst (λ (l : List Node). TakesOver seen l between new) s b)
takes_then seen first more slice old between new (Err e) a s b = tt
