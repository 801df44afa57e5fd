use Rattle.std.proofs.Common.{◌≡◌, ℕ, ◌≤◌, Some, None, [], ◌∷◌, refl, arith}
use Rattle.std.specs.Prelude.{IsSome, slice_get}
use Rattle.object_values.specs.declared.messages.Status.{Status}
use Rattle.object_values.specs.declared.messages.Status.TheVariants.{Ok, Error, Abort}
use Rattle.object_values.specs.declared.views.Value.{Value}
use Rattle.object_values.specs.declared.views.Value.TheVariants.{Simple, List as Listed, Compound}
use Rattle.meaning_records.specs.Tables.{MayBeNoted}
use Rattle.meaning_records.specs.States.{State, TakesOne}
use Rattle.meaning_records.specs.NoteExamples.{text_value, noting, some_graph, graphed, first_node, noted_record, notes, fact_of}
use Rattle.meaning_records.proofs.Noting.{with_noted, note_taken, valued_at, none_at_abort}
use Rattle.meaning_records.proofs.examples.notes_that_read.Goals as goal

may : (state : State) (number : ℕ) (value : Value) (status : Status) (height : ℕ) → IsSome state.graph → slice_get state.tables.contents number ≡ Some value
    → ¬ (status ≡ Abort) → 1 ≤ height → height ≤ 64
    → TakesOne state (notes first_node (Some number) status height) (with_noted state (fact_of first_node (Some value)))
may state number value status height some there not_abort least most =
    note_taken state (noted_record first_node [] 0 (Some number) status height) (fact_of first_node (Some value)) some (record {
      says = record { node = refl; deps = tt; value = there; own_status = refl; own_messages = refl };
      reached = omega arith;
      least = least;
      most = most;
      valued = valued_at number status not_abort;
    })

none : MayBeNoted graphed.tables.contents (noted_record first_node [] 0 None Abort 2) (fact_of first_node None)
none = record {
  says = record { node = refl; deps = tt; value = refl; own_status = refl; own_messages = refl };
  reached = omega arith;
  least = omega arith;
  most = omega arith;
  valued = none_at_abort None refl;
}

ok : ¬ (Ok ≡ Abort)
ok e = let n : ⊥ = cc in n

error : ¬ (Error ≡ Abort)
error e = let n : ⊥ = cc in n

with_content : State
with_content = noting some_graph (Simple [] ∷ []) [] []

pub returns : goal.returns
unfolding with_content
returns c = record {
  simple = (_, may graphed 0 text_value Ok 2 refl refl ok (omega arith) (omega arith), refl);
  list = (_, may graphed 1 (Listed []) Error 2 refl refl error (omega arith) (omega arith), refl);
  compound = (_, may graphed 2 (Compound []) Error 2 refl refl error (omega arith) (omega arith), refl);
  aborted = (_, note_taken graphed (noted_record first_node [] 0 None Abort 2) (fact_of first_node None) refl none, refl);
  lowest = (_, may graphed 0 text_value Ok 1 refl refl ok (omega arith) (omega arith), refl);
  highest = (_, may graphed 0 text_value Ok 64 refl refl ok (omega arith) (omega arith), refl);
  after_graph = (
    graphed,
    record { loads = refl; edits = refl; graph = refl; ground = tt; noted = refl },
    (_, may graphed 0 text_value Ok 2 refl refl ok (omega arith) (omega arith), refl),
  );
  after_content = (
    with_content,
    record { loads = (omega arith, refl); edits = refl; graph = refl; ground = tt; noted = refl },
    (_, may with_content 3 (Simple []) Ok 2 refl refl ok (omega arith) (omega arith), refl),
  );
}
