-- A record of a node that may be noted reads as what it says.
use Rattle.std.proofs.Common.{◌≡◌, ℕ, [], ◌∷◌, ◌++◌, Option, Some, None, refl, ap, is_some}
use Rattle.std.specs.Prelude.{◌↔◌, IsSome, IsNone}
use Rattle.object_values.specs.declared.messages.Status.{Status}
use Rattle.object_values.specs.declared.messages.Status.TheVariants.{Abort}
use Rattle.object_values.specs.declared.facts.Fact.{Fact}
use Rattle.object_values.specs.declared.items.StoredRecord.{StoredRecord}
use Rattle.object_values.specs.declared.items.Item.TheVariants.{Node}
use Rattle.meaning_records.specs.Tables.{MayBeNoted, with_fact}
use Rattle.meaning_records.specs.States.{State, TakesOne}

-- what is kept then
abbrev pub with_noted : State → Fact → State
with_noted old fact = record { tables = with_fact fact old.tables; sources = old.sources; graph = old.graph; noted = old.noted ++ fact ∷ [] }

pub note_taken : (old : State) (stored : StoredRecord) (fact : Fact) → IsSome old.graph
    → MayBeNoted old.tables.contents stored fact → TakesOne old (Node stored) (with_noted old fact)
note_taken old stored fact some may = record { loads = (fact, may, refl); edits = refl; graph = refl; ground = some; noted = (fact, may.says, refl) }

-- a value at a status that isn't abort, and none at abort
pub valued_at : (number : ℕ) (status : Status) → ¬ (status ≡ Abort) → IsNone (Some number) ↔ (status ≡ Abort)
valued_at number status not_abort = (λ e. let n : ⊥ = cc in absurd n, λ abort. absurd (not_abort abort))

pub none_at_abort : (number : Option ℕ) → number ≡ None → IsNone number ↔ (Abort ≡ Abort)
none_at_abort number none = (λ e. refl, λ e. ap is_some none)
