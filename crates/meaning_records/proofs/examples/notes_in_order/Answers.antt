use Rattle.std.proofs.Common.{◌≡◌, Some, None, [], ◌∷◌, refl, arith}
use Rattle.object_values.specs.declared.messages.Status.TheVariants.{Ok, Abort}
use Rattle.meaning_records.specs.NoteExamples.{graphed, with_notes, first_node, second_node, noted_record, first_fact, second_fact, later_fact, ex_both_noted}
use Rattle.meaning_records.proofs.Noting.{note_taken, valued_at, none_at_abort}
use Rattle.meaning_records.proofs.examples.notes_in_order.Goals as goal

ok : ¬ (Ok ≡ Abort)
ok e = let n : ⊥ = cc in n

pub returns : goal.returns
returns c = record {
  both = (
    with_notes (first_fact ∷ []) (first_fact ∷ []),
    note_taken graphed (noted_record first_node [] 0 (Some 0) Ok 2) first_fact refl (record {
      says = record { node = refl; deps = tt; value = refl; own_status = refl; own_messages = refl };
      reached = omega arith;
      least = omega arith;
      most = omega arith;
      valued = valued_at 0 Ok ok;
    }),
    (
      _,
      note_taken (with_notes (first_fact ∷ []) (first_fact ∷ [])) (noted_record second_node [] 0 (Some 1) Ok 3) second_fact refl (record {
        says = record { node = refl; deps = tt; value = refl; own_status = refl; own_messages = refl };
        reached = omega arith;
        least = omega arith;
        most = omega arith;
        valued = valued_at 1 Ok ok;
      }),
      refl,
    ),
  );
  again = (
    _,
    note_taken ex_both_noted (noted_record first_node [] 0 None Abort 2) later_fact refl (record {
      says = record { node = refl; deps = tt; value = refl; own_status = refl; own_messages = refl };
      reached = omega arith;
      least = omega arith;
      most = omega arith;
      valued = none_at_abort None refl;
    }),
    refl,
  );
  forgotten = (graphed, record { loads = refl; edits = refl; graph = refl; ground = tt; noted = refl }, refl);
  left = (_, record { loads = (omega arith, refl); edits = refl; graph = refl; ground = tt; noted = refl }, refl);
}
