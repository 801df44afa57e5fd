use Rattle.std.proofs.Common.{◌≡◌, ℕ, List, [], ◌∷◌, ◌++◌, length, ap, arith}
use Rattle.std.proofs.lemmas.List.Elements.{All-head}
use Rattle.object_values.specs.declared.messages.Status.TheVariants.{Error}
use Rattle.object_values.specs.declared.items.Item.{Item}
use Rattle.object_values.specs.declared.items.Item.TheVariants.{Content}
use Rattle.meaning_records.specs.Batches.{IsNotable}
use Rattle.meaning_records.specs.NoteBatchExamples.{fresh_of, fresh_text}
use Rattle.meaning_records.specs.LiveExamples.{ex_live_first, ex_first_note, ex_graph_batch, ex_put_batches, ex_keep_batch, ex_first_batch, ex_second_batch}
use Rattle.meaning_records.proofs.LiveKinds.{kind_at}
use Rattle.meaning_records.proofs.examples.no_rewritten_store.Goals as goal

pub returns : goal.returns
returns c = record {
  graph_last = λ contents are.
      let n : ◌≡◌ {A = ℕ} 3 1 = kind_at 0 (ex_put_batches ++ ex_keep_batch ∷ ex_first_batch ∷ ex_second_batch ∷ ex_graph_batch ∷ []) contents are in
      omega (arith, n);
  call_first = λ contents are.
      let n : ◌≡◌ {A = ℕ} 5 3 = kind_at 1 (ex_graph_batch ∷ ex_keep_batch ∷ (ex_put_batches ++ ex_first_batch ∷ ex_second_batch ∷ [])) contents are in
      omega (arith, n);
  records_first = λ contents are.
      let n : ◌≡◌ {A = ℕ} 7 5 = kind_at 3 (ex_graph_batch ∷ (ex_put_batches ++ ex_first_batch ∷ ex_second_batch ∷ ex_keep_batch ∷ [])) contents are in
      omega (arith, n);
  turned = λ contents are.
      let n : ◌≡◌ {A = ℕ} 8 7 = kind_at 4 (ex_graph_batch ∷ (ex_put_batches ++ ex_keep_batch ∷ ex_second_batch ∷ ex_first_batch ∷ [])) contents are in
      omega (arith, n);
  first_alone = λ contents are.
      let n : ◌≡◌ {A = ℕ} 0 8 = kind_at 5 (ex_graph_batch ∷ (ex_put_batches ++ ex_keep_batch ∷ ex_first_batch ∷ [])) contents are in
      omega (arith, n);
  together = λ contents are.
      let n : ◌≡◌ {A = ℕ} 8 7 = kind_at 4 (ex_graph_batch ∷ (ex_put_batches ++ ex_keep_batch ∷ (ex_first_batch ++ ex_second_batch) ∷ [])) contents are in
      omega (arith, n);
  content_later = λ contents are.
      let late : List Item = ex_first_note ∷ Content fresh_text ∷ [] in
      let n : ◌≡◌ {A = ℕ} 2 7 = kind_at 4 (ex_graph_batch ∷ (ex_put_batches ++ ex_keep_batch ∷ late ∷ ex_second_batch ∷ [])) contents are in
      omega (arith, n);
  twice = λ may. let size : ◌≡◌ {A = ℕ} 2 3 = ap length may.once in omega (arith, size);
  too_high = λ may. let most = (All-head IsNotable (fresh_of ex_live_first Error 65) [] may.records).most in omega (arith, most);
}
