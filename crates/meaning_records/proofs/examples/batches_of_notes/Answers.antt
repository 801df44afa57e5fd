use Rattle.std.proofs.Common.{◌≡◌, ℕ, List, [], ◌∷◌, ◌++◌, Some, None, All, inl, inr, refl, arith, codes}
use Rattle.std.specs.Prelude.{slice_get}
use Rattle.std.proofs.lemmas.List.Elements.{All-nil, All-cons}
use Rattle.object_values.specs.declared.messages.Status.TheVariants.{Ok, Error}
use Rattle.object_values.specs.declared.views.Value.{Value}
use Rattle.meaning_texts.specs.Lists.{IsIn}
use Rattle.object_values.specs.declared.items.StoredRecord.{StoredRecord}
use Rattle.meaning_records.specs.Tables.{IsNoContent}
use Rattle.meaning_records.specs.Batches.{needed_values, IsRecordOf}
use Rattle.meaning_records.specs.NoteExamples.{graphed, first_node, second_node, noted_record, stored_dep}
use Rattle.meaning_records.specs.NoteBatchExamples.{fresh_of, fresh_text, fresh_list, first_made, second_made, two_made, known_made}
use Rattle.meaning_records.proofs.NewNotes.{text_is_new, list_is_new}
use Rattle.meaning_records.proofs.examples.batches_of_notes.Goals as goal

abbrev IsNeeded : Value → Type 0
IsNeeded value = IsIn value (needed_values two_made)

abbrev IsNew : Value → Type 0
IsNew = IsNoContent graphed.tables.contents

-- a batch of two values
both : (P : Value → Type 0) (a b : Value) → P a → P b → All P (a ∷ b ∷ [])
both P a b is also = All-cons P a (b ∷ []) is (All-cons P b [] also (All-nil P))

abbrev first_record : ℕ → StoredRecord
first_record value = noted_record first_node (stored_dep (codes "a.c") (Some 0) ∷ stored_dep (codes "x.h") None ∷ []) 1 (Some value) Error 2

abbrev second_record : ℕ → ℕ → StoredRecord
second_record value dep = noted_record second_node (stored_dep (codes "b.c") (Some dep) ∷ []) 0 (Some value) Ok 3

first_is : (contents : List Value) (value : ℕ) → slice_get (graphed.tables.contents ++ contents) value ≡ Some fresh_text
    → IsRecordOf (graphed.tables.contents ++ contents) (first_record value) (fresh_of first_made Error 2)
first_is contents value there = record {
  says = record {
    node = refl;
    deps = (record { node = refl; role = refl; value = refl }, (record { node = refl; role = refl; value = refl }, tt));
    value = there;
    own_status = refl;
    own_messages = refl;
  };
  reached = omega arith;
  status = refl;
  messages = refl;
  height = refl;
}

second_is : (contents : List Value) (value dep : ℕ) → slice_get contents value ≡ Some fresh_text → slice_get contents dep ≡ Some fresh_list
    → IsRecordOf contents (second_record value dep) (fresh_of second_made Ok 3)
second_is contents value dep there dep_there = record {
  says = record { node = refl; deps = (record { node = refl; role = refl; value = dep_there }, tt); value = there; own_status = refl; own_messages = refl };
  reached = omega arith;
  status = refl;
  messages = refl;
  height = refl;
}

pub returns : goal.returns
returns c = record {
  nothing = record {
    added = [];
    once = tt;
    needed = All-nil (λ (v : Value). IsIn v []);
    new = All-nil IsNew;
    stored = [];
    records = tt;
    items_are = refl;
  };
  of_known = record {
    added = [];
    once = tt;
    needed = All-nil (λ (v : Value). IsIn v (needed_values known_made));
    new = All-nil IsNew;
    stored = noted_record first_node [] 0 (Some 0) Ok 2 ∷ [];
    records = (
      record {
        says = record { node = refl; deps = tt; value = refl; own_status = refl; own_messages = refl };
        reached = omega arith;
        status = refl;
        messages = refl;
        height = refl;
      },
      tt,
    );
    items_are = refl;
  };
  of_fresh = record {
    added = fresh_text ∷ fresh_list ∷ [];
    once = (λ there. elim there [ inl same ↦ (let n : ⊥ = cc in n) | inr none ↦ none ], (λ none. none, tt));
    needed = both IsNeeded fresh_text fresh_list (inl refl) (inr (inr (inr (inl refl))));
    new = both IsNew fresh_text fresh_list text_is_new list_is_new;
    stored = first_record 3 ∷ second_record 3 4 ∷ [];
    records = (first_is (fresh_text ∷ fresh_list ∷ []) 3 refl, (second_is (graphed.tables.contents ++ fresh_text ∷ fresh_list ∷ []) 3 4 refl refl, tt));
    items_are = refl;
  };
  of_turned = record {
    added = fresh_list ∷ fresh_text ∷ [];
    once = (λ there. elim there [ inl same ↦ (let n : ⊥ = cc in n) | inr none ↦ none ], (λ none. none, tt));
    needed = both IsNeeded fresh_list fresh_text (inr (inr (inr (inl refl)))) (inl refl);
    new = both IsNew fresh_list fresh_text list_is_new text_is_new;
    stored = first_record 4 ∷ second_record 4 3 ∷ [];
    records = (first_is (fresh_list ∷ fresh_text ∷ []) 4 refl, (second_is (graphed.tables.contents ++ fresh_list ∷ fresh_text ∷ []) 4 3 refl refl, tt));
    items_are = refl;
  };
}
