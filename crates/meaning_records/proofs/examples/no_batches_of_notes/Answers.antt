use Rattle.std.proofs.Common.{◌≡◌, ℕ, List, [], ◌∷◌, length, Some, None, inl, inr, refl, ap, arith, codes}
use Rattle.std.proofs.lemmas.List.Elements.{All-head}
use Rattle.object_values.specs.declared.messages.Status.{Status}
use Rattle.object_values.specs.declared.messages.Status.TheVariants.{Ok, Warning, Error}
use Rattle.object_values.specs.declared.nodes.Node.{Node as PlainNode}
use Rattle.object_values.specs.declared.views.Value.{Value}
use Rattle.meaning_texts.specs.Lists.{IsIn}
use Rattle.object_values.specs.declared.items.StoredRecord.{StoredRecord}
use Rattle.meaning_records.specs.Tables.{IsNoContent}
use Rattle.meaning_records.specs.Batches.{needed_values}
use Rattle.meaning_records.specs.NoteExamples.{text_value, graphed, first_node, second_node, noted_record, stored_dep}
use Rattle.meaning_records.specs.NoteBatchExamples.{fresh_text, fresh_list, two_made, known_made}
use Rattle.meaning_records.proofs.NewNotes.{other_text, written}
use Rattle.meaning_records.proofs.examples.no_batches_of_notes.Goals as goal

abbrev contents : List Value
contents = graphed.tables.contents

abbrev first_record : ℕ → ℕ → StoredRecord
first_record value reached = noted_record first_node (stored_dep (codes "a.c") (Some 0) ∷ stored_dep (codes "x.h") None ∷ []) reached (Some value) Error 2

abbrev second_record : ℕ → ℕ → StoredRecord
second_record value dep = noted_record second_node (stored_dep (codes "b.c") (Some dep) ∷ []) 0 (Some value) Ok 3

abbrev known_record : PlainNode → ℕ → Status → ℕ → StoredRecord
known_record node value status height = noted_record node [] 0 (Some value) status height

abbrev added : List Value
added = fresh_text ∷ fresh_list ∷ []

other_node : first_node ≡ second_node → ⊥
other_node same = let steps : 1 ≡ 2 = ap (λ (n : PlainNode). length n.steps) same in omega (arith, steps)

pub returns : goal.returns
returns c = record {
  twice = λ b. (written contents two_made (fresh_text ∷ fresh_text ∷ fresh_list ∷ []) (first_record 3 1 ∷ second_record 4 5 ∷ []) b).once.0 (inl refl);
  not_needed = λ b.
      let w = written contents known_made (fresh_text ∷ []) (known_record first_node 0 Ok 2 ∷ []) b in
      elim (All-head (λ (v : Value). IsIn v (needed_values known_made)) fresh_text [] w.needed) [ inl same ↦ other_text same | inr none ↦ none ];
  known_again = λ b.
      let w = written contents known_made (text_value ∷ []) (known_record first_node 3 Ok 2 ∷ []) b in
      All-head (IsNoContent contents) text_value [] w.new 0 refl;
  missing = λ b.
      let w = written contents two_made (fresh_text ∷ []) (first_record 3 1 ∷ second_record 3 4 ∷ []) b in
      let there = w.records.1.0.says.deps.0.value in
      let n : ⊥ = cc in n;
  other_number = λ b.
      let w = written contents two_made added (first_record 4 1 ∷ second_record 3 4 ∷ []) b in
      let there = w.records.0.says.value in
      let n : ⊥ = cc in n;
  turned = λ b. other_node (written contents two_made added (second_record 3 4 ∷ first_record 3 1 ∷ []) b).records.0.says.node;
  first_alone = λ b. (written contents two_made added (first_record 3 1 ∷ []) b).records.1;
  again = λ b. (written contents known_made [] (known_record first_node 0 Ok 2 ∷ known_record first_node 0 Ok 2 ∷ []) b).records.1;
  other_node = λ b. other_node (written contents known_made [] (known_record second_node 0 Ok 2 ∷ []) b).records.0.says.node;
  other_status = λ b.
      let same = (written contents known_made [] (known_record first_node 0 Warning 2 ∷ []) b).records.0.status in
      let n : ⊥ = cc in n;
  other_height = λ b.
      let same = (written contents known_made [] (known_record first_node 0 Ok 3 ∷ []) b).records.0.height in
      omega (arith, same);
  other_messages = λ b.
      let same = (written contents _ [] (known_record first_node 0 Ok 2 ∷ []) b).records.0.messages in
      let n : ⊥ = cc in n;
  none_reached = λ b.
      let w = written contents two_made added (first_record 3 0 ∷ second_record 3 4 ∷ []) b in
      let roles = w.records.0.says.deps.1.0.role in
      let n : ⊥ = cc in n;
  too_many_reached = λ b.
      let within = (written contents _ [] (noted_record first_node [] 1 (Some 0) Error 2 ∷ []) b).records.0.reached in
      omega (arith, within);
}
