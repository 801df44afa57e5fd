use Rattle.std.proofs.Common.{rules, refl, inl, inr, arith, [], ◌∷◌}
use Rattle.meaning_records.specs.Images.{IsStore, IsRecord, BreaksAt, with_record}
use Rattle.meaning_records.specs.States.{nothing, spell_batch}
use Rattle.meaning_records.specs.ImageExamples.{empty_store, broken, graph_kept}
use Rattle.meaning_records.proofs.RecordFronts.{no_item_from}
use Rattle.meaning_records.proofs.Refusals.{unbatched, no_front}
use Rattle.meaning_records.proofs.Stores.{graph_payload, drop_items, drop_store, graph_reads, drop_unread}
use Rattle.meaning_records.proofs.examples.worked_faults.Goals as goal

bad_record : IsRecord (with_record 64 (9 ∷ []) empty_store) 64 (9 ∷ [])
bad_record = record { opened = record { within = search rules; one = refl }; short = search rules; body = record { in_range = search rules; bytes = refl }; next = search rules }

bad_store : IsStore (with_record 64 (9 ∷ []) empty_store) ((9 ∷ []) ∷ []) 70
bad_store = record {
  written = record { within = search rules; some = search rules; marked = λ e. cc };
  front = record { name = refl; zeros = refl; more_zeros = refl; starts_behind = search rules; starts_within = search rules };
  whole = (bad_record, refl);
  closed = record { within = search rules; other = λ e. cc };
}

first_of_broken : IsRecord broken 64 (9 ∷ [])
first_of_broken = record { opened = record { within = search rules; one = refl }; short = search rules; body = record { in_range = search rules; bytes = refl }; next = search rules }

breaks : BreaksAt broken 70
breaks = record {
  written = record { within = search rules; some = search rules; marked = λ e. cc };
  front = record { name = refl; zeros = refl; more_zeros = refl; starts_behind = search rules; starts_within = search rules };
  records = (9 ∷ []) ∷ [];
  whole = (first_of_broken, refl);
  opened = record { within = search rules; one = refl };
  none = λ payload there. let next = there.next in omega (arith, next);
}

pub returns : goal.returns
returns c = record {
  front = inl (inr (inl (record { within = search rules; some = search rules; marked = λ e. cc }, λ front. omega (arith, front.starts_behind, front.starts_within), refl)));
  payload = inr (record { before = []; payload = 9 ∷ []; rest = []; end = 70; store = bad_store; state = nothing; read = refl; unread = λ next. unbatched (9 ∷ []) (no_front 9 [] (no_item_from 2 [])) nothing next; place = refl });
  place = inr (record { before = graph_payload ∷ []; payload = spell_batch drop_items; rest = []; end = 101; store = drop_store; state = graph_kept; read = (graph_kept, graph_reads, refl); unread = drop_unread; place = refl });
  order = inl (inr (inr breaks));
}
