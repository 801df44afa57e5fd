use Rattle.std.proofs.Common.{inl, inr, ◌≡◌, zero, suc, List, [], ◌∷◌, Some, None, refl, sym, subst, arith, codes}
use Rattle.std.specs.FinMap as names
use Rattle.std.specs.Ordering.{nat_cmp}
use Rattle.std.specs.Cmp.Lexicographic.{slice_cmp}
use Rattle.std.proofs.lemmas.List.Elements.{All-nil, All-cons}
use Rattle.object_values.specs.declared.messages.Status.TheVariants.{Ok, Error}
use Rattle.object_values.specs.declared.views.Value.{Value}
use Rattle.object_values.specs.declared.views.Value.TheVariants.{Simple}
use Rattle.object_values.specs.Texts.{Text}
use Rattle.meaning_texts.specs.Lists.{IsIn}
use Rattle.meaning_records.specs.Tables.{IsNoContent, IsNoText}
use Rattle.meaning_records.specs.Batches.{IsCallBatch, needed_texts, needed_values}
use Rattle.meaning_records.specs.Live.{AreLive, AreSourceBatches, IsRecordBatch}
use Rattle.meaning_records.specs.ItemExamples.{stored_call, call, ex_made_outcome, made_outcome}
use Rattle.meaning_records.specs.NoteExamples.{first_node, second_node, noted_record, stored_dep}
use Rattle.meaning_records.specs.BatchExamples.{known, kept_by}
use Rattle.meaning_records.specs.NoteBatchExamples.{fresh_text}
use Rattle.meaning_records.specs.LiveExamples.{ex_live_named, ex_live, ex_first_fresh, ex_second_fresh, ex_value_stored, ex_live_contents}
use Rattle.meaning_records.specs.LiveExamples.{ex_live_batches, ex_put_batches, ex_keep_batch, ex_first_batch, ex_second_batch}
use Rattle.meaning_records.proofs.NewNotes.{other_text}
use Rattle.meaning_records.proofs.LiveReads.{live_read}
use Rattle.meaning_records.proofs.LiveStore.{ex_may_live, ex_live_fit}
use Rattle.meaning_records.proofs.examples.rewritten_store.Goals as goal

contents : List Value
contents = Simple known ∷ []

no_text : IsNoText [] known
no_text number is = let n : ⊥ = cc in n

sourced : AreSourceBatches [] ex_live_named ex_put_batches contents
unfolding contents
sourced = (inr (no_text, refl), (inl (0, refl, refl), refl))

kept : IsCallBatch contents (call (Some known)) made_outcome (kept_by 0 ∷ [])
unfolding contents
kept = record {
  added = [];
  once = tt;
  needed = All-nil (λ (t : Text). IsIn t (needed_texts (call (Some known)) made_outcome));
  new = All-nil (IsNoText contents);
  stored = stored_call (codes "cc") (Some 0);
  given = ex_made_outcome;
  called = record { tool = refl; version = refl; words = refl; params = refl; parts = (record { slot = refl; label = refl; body = refl }, tt); outs = refl };
  came = record { status = refl; lines = refl; outputs = (record { name = refl; body = refl }, (record { name = refl; body = refl }, tt)) };
  items_are = refl;
}

-- ---- records of nodes

value_is_new : IsNoContent contents fresh_text
unfolding contents
value_is_new zero is = other_text (let same : fresh_text ≡ Simple known = cc in same)
value_is_new (suc number) is = let n : ⊥ = cc in n

first_noted : IsRecordBatch contents ex_first_fresh ex_first_batch
unfolding contents
first_noted = record {
  added = fresh_text ∷ [];
  once = (λ none. none, tt);
  needed = All-cons (λ (v : Value). IsIn v (needed_values (ex_first_fresh ∷ []))) fresh_text [] (inl refl)
      (All-nil (λ (v : Value). IsIn v (needed_values (ex_first_fresh ∷ []))));
  new = All-cons (IsNoContent contents) fresh_text [] value_is_new (All-nil (IsNoContent contents));
  stored = noted_record first_node (stored_dep (codes "a.c") (Some 0) ∷ []) 0 (Some 1) Error 2 ∷ [];
  records = (
    record {
      says = record { node = refl; deps = (record { node = refl; role = refl; value = refl }, tt); value = refl; own_status = refl; own_messages = refl };
      reached = omega arith;
      status = refl;
      messages = refl;
      height = refl;
    },
    tt,
  );
  items_are = refl;
}

second_noted : IsRecordBatch ex_live_contents ex_second_fresh ex_second_batch
second_noted = record {
  added = [];
  once = tt;
  needed = All-nil (λ (v : Value). IsIn v (needed_values (ex_second_fresh ∷ [])));
  new = All-nil (IsNoContent ex_live_contents);
  stored = noted_record second_node (ex_value_stored ∷ stored_dep (codes "x.h") None ∷ []) 1 (Some 0) Ok 3 ∷ [];
  records = (
    record {
      says = record {
        node = refl;
        deps = (record { node = refl; role = refl; value = refl }, (record { node = refl; role = refl; value = refl }, tt));
        value = refl;
        own_status = refl;
        own_messages = refl;
      };
      reached = omega arith;
      status = refl;
      messages = refl;
      height = refl;
    },
    tt,
  );
  items_are = refl;
}

live : AreLive ex_live ex_live_batches ex_live_contents
unfolding contents
live = record {
  puts = ex_put_batches;
  keeps = ex_keep_batch ∷ [];
  notes = ex_first_batch ∷ ex_second_batch ∷ [];
  put = contents;
  kept = contents;
  sourced = subst (λ (l : List (Text × Text)). AreSourceBatches [] l ex_put_batches contents)
      (sym (names.entries-from_sorted (slice_cmp nat_cmp) ex_live_named tt)) sourced;
  called = (kept, refl);
  noted = (first_noted, (second_noted, refl));
  batches_are = refl;
}

pub returns : goal.returns
returns c = record {
  live = live;
  payloads = refl;
  size = refl;
  may = ex_may_live;
  reads = live_read ex_live ex_live_batches ex_live_contents ex_may_live ex_live_fit live;
}
