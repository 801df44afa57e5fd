use Rattle.std.proofs.Common.{◌≡◌, ℕ, ◌≤◌, List, Some, refl, arith}
use Rattle.object_values.specs.declared.messages.Status.TheVariants.{Error}
use Rattle.object_values.specs.declared.records.Role.{Role}
use Rattle.object_values.specs.declared.records.Role.TheVariants.{Needed, Reached}
use Rattle.object_values.specs.declared.facts.FactDep.{FactDep}
use Rattle.meaning_records.specs.Tables.{role_before, AreDepsOf}
use Rattle.meaning_records.specs.NoteExamples.{graphed, first_node, noted_record, three_deps, three_facts, fact_over, notes_over, IsNotedAs}
use Rattle.meaning_records.proofs.Noting.{note_taken, valued_at}
use Rattle.meaning_records.proofs.examples.deps_that_read.Goals as goal

noted : (reached : ℕ) (deps : List FactDep) → reached ≤ 3 → AreDepsOf graphed.tables.contents reached three_deps deps
    → IsNotedAs (notes_over three_deps reached) (fact_over deps)
noted reached deps within are = (
  _,
  note_taken graphed (noted_record first_node three_deps reached (Some 0) Error 2) (fact_over deps) refl (record {
    says = record { node = refl; deps = are; value = refl; own_status = refl; own_messages = refl };
    reached = within;
    least = omega arith;
    most = omega arith;
    valued = valued_at 0 Error (λ e. let n : ⊥ = cc in n);
  }),
  refl,
)

are : (a b x : Role) (reached : ℕ) → a ≡ role_before 2 reached → b ≡ role_before 1 reached → x ≡ role_before 0 reached
    → AreDepsOf graphed.tables.contents reached three_deps (three_facts a b x)
are a b x reached first second third = (
  record { node = refl; role = first; value = refl },
  (record { node = refl; role = second; value = refl }, (record { node = refl; role = third; value = refl }, tt)),
)

pub returns : goal.returns
returns c = record {
  none_reached = noted 0 (three_facts Needed Needed Needed) (omega arith) (are Needed Needed Needed 0 refl refl refl);
  one_reached = noted 1 (three_facts Needed Needed Reached) (omega arith) (are Needed Needed Reached 1 refl refl refl);
  two_reached = noted 2 (three_facts Needed Reached Reached) (omega arith) (are Needed Reached Reached 2 refl refl refl);
  all_reached = noted 3 (three_facts Reached Reached Reached) (omega arith) (are Reached Reached Reached 3 refl refl refl);
}
