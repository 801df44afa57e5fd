-- A search through the pairs of a table from the front.
use Rattle.std.proofs.Common.{◌≡◌, ℕ, ◌+◌, ◌<◌, ◌≤◌, List, ◌∷◌, true, false, cond, ap, sym, ◌∙◌, subst, length, get_or, drop, Result}
use Rattle.std.specs.Prelude.{IfOk}
use Rattle.std.proofs.lemmas.List.{at_drop_more, at_drop_all}
use Rattle.object_values.specs.declared.jobs.Job.{Job}
use Rattle.object_values.specs.declared.jobs.Raw.{Raw}
use Rattle.object_values.specs.contracts.jobs.JobPartialEq.TheImpl.{ghosts as job_eq}
use Rattle.odin_memory.specs.declared.answers.JobRaw.{JobRaw}
use Rattle.odin_memory.specs.Tools.{answer_among}

at_place : (pairs : List JobRaw) (other : Raw) (job : Job) (at : ℕ) (pair : JobRaw) → at < length pairs → pair ≡ get_or pairs at pair → answer_among (drop at pairs) other job ≡ answer_among (pair ∷ drop (at + 1) pairs) other job
at_place pairs other job at pair inside is =
    at_drop_more (λ rest. answer_among rest other job) pairs at pair inside
    ∙ ap (λ here. answer_among (here ∷ drop (at + 1) pairs) other job) (sym is)

pub answered : (pairs : List JobRaw) (other : Raw) (job : Job) (at : ℕ) (pair : JobRaw) → at < length pairs → pair ≡ get_or pairs at pair → job_eq.eq pair.job job ≡ true → answer_among (drop at pairs) other job ≡ pair.raw
answered pairs other job at pair inside is eq =
    at_place pairs other job at pair inside is ∙ ap (λ b. cond b pair.raw (answer_among (drop (at + 1) pairs) other job)) eq

pub passed : (pairs : List JobRaw) (other : Raw) (job : Job) (at : ℕ) (pair : JobRaw) → at < length pairs → pair ≡ get_or pairs at pair → job_eq.eq pair.job job ≡ false → answer_among (drop at pairs) other job ≡ answer_among (drop (at + 1) pairs) other job
passed pairs other job at pair inside is eq =
    at_place pairs other job at pair inside is ∙ ap (λ b. cond b pair.raw (answer_among (drop (at + 1) pairs) other job)) eq

pub past : (pairs : List JobRaw) (other : Raw) (job : Job) (at : ℕ) → length pairs ≤ at → answer_among (drop at pairs) other job ≡ other
past pairs other job at end = at_drop_all (λ rest. answer_among rest other job) pairs at end

-- a copy of one value is one of its equal
pub copied_along : {X E : Type 0} (result : Result X E) (a b : X) → IfOk result (λ copy. copy ≡ a) → a ≡ b → IfOk result (λ copy. copy ≡ b)
copied_along {X = X} result a b copied e = subst (λ (x : X). IfOk result (λ copy. copy ≡ x)) e copied
