-- Batches of records of nodes that a store writes after what the examples of records keep, and batches that it doesn't.
use Rattle.std.specs.Prelude.{◌≡◌, ℕ, List, [], ◌∷◌, length, Some, None, codes}
use Rattle.object_values.specs.declared.messages.Message.{Message}
use Rattle.object_values.specs.declared.messages.Status.{Status}
use Rattle.object_values.specs.declared.messages.Status.TheVariants.{Ok, Warning, Error, Abort}
use Rattle.object_values.specs.declared.records.Role.TheVariants.{Needed, Reached}
use Rattle.object_values.specs.declared.facts.Fact.{Fact}
use Rattle.object_values.specs.declared.facts.Fresh.{Fresh}
use Rattle.object_values.specs.declared.views.Value.{Value}
use Rattle.object_values.specs.declared.views.Value.TheVariants.{Simple, List as Listed}
use Rattle.object_values.specs.Texts.{Text}
use Rattle.object_values.specs.declared.items.Item.{Item}
use Rattle.object_values.specs.declared.items.Item.TheVariants.{Content, Node}
use Rattle.meaning_records.specs.Batches.{IsNotable, IsNotesBatch}
use Rattle.meaning_records.specs.NoteExamples.{text_value, graphed, first_node, second_node, present_note, noted_record, noted_fact, notes, notes_over, fact_of, fact_over, stored_dep, fact_dep}

-- ---- what is to be noted

abbrev pub fresh_with : Fact → Status → List Message → ℕ → Fresh
fresh_with fact status messages height = record { fact = fact; present = record { status = status; messages = messages; height = height; tight = None } }

abbrev pub fresh_of : Fact → Status → ℕ → Fresh
fresh_of fact status height = fresh_with fact status (present_note ∷ []) height

-- values that are no contents
abbrev pub fresh_text : Value
fresh_text = Simple (codes "y")

abbrev pub fresh_list : Value
fresh_list = Listed (first_node ∷ [])

-- a node over a source that was there and one that was absent, and another with the same value over a fresh one
abbrev pub first_made : Fact
first_made = noted_fact first_node (fact_dep (codes "a.c") Needed (Some text_value) ∷ fact_dep (codes "x.h") Reached None ∷ []) (Some fresh_text)

abbrev pub second_made : Fact
second_made = noted_fact second_node (fact_dep (codes "b.c") Needed (Some fresh_list) ∷ []) (Some fresh_text)

abbrev pub two_made : List Fresh
two_made = fresh_of first_made Error 2 ∷ fresh_of second_made Ok 3 ∷ []

-- one that needs a text that is a content
abbrev pub known_made : List Fresh
known_made = fresh_of (fact_of first_node (Some text_value)) Ok 2 ∷ []

-- ---- what may be noted

pub record NotableFacts : Type 0 where
  pub over_deps : IsNotable (fresh_of first_made Error 2)
  pub aborted : IsNotable (fresh_of (fact_of first_node None) Abort 2)
  pub lowest : IsNotable (fresh_of (fact_of first_node (Some text_value)) Ok 1)
  pub highest : IsNotable (fresh_of (fact_of first_node (Some text_value)) Ok 64)
  pub too_low : ¬ IsNotable (fresh_of (fact_of first_node (Some text_value)) Ok 0)
  pub too_high : ¬ IsNotable (fresh_of (fact_of first_node (Some text_value)) Ok 65)
  pub valued_abort : ¬ IsNotable (fresh_of (fact_of first_node (Some text_value)) Abort 2)
  pub no_value : ¬ IsNotable (fresh_of (fact_of first_node None) Warning 2)
  -- a reached source stands before a need
  pub reached_first : ¬ IsNotable (fresh_of (fact_over (fact_dep (codes "x.h") Reached None ∷ fact_dep (codes "a.c") Needed (Some text_value) ∷ [])) Ok 2)
  -- a text of one byte too many, as the value, and of a dep
  pub long_value : (text : Text) → length text ≡ 16777217 → ¬ IsNotable (fresh_of (fact_of first_node (Some (Simple text))) Ok 2)
  pub long_dep : (text : Text) → length text ≡ 16777217 → ¬ IsNotable (fresh_of (fact_over (fact_dep (codes "a.c") Needed (Some (Simple text)) ∷ [])) Ok 2)

-- ---- batches

abbrev pub IsBatch : List Fresh → List Item → Type 0
IsBatch fresh items = IsNotesBatch graphed.tables.contents fresh items

-- the records, by the numbers of the value and of the first dep, and with so many that are reached
abbrev pub notes_first : ℕ → ℕ → ℕ → Item
notes_first value dep reached =
    Node (noted_record first_node (stored_dep (codes "a.c") (Some dep) ∷ stored_dep (codes "x.h") None ∷ []) reached (Some value) Error 2)

abbrev pub notes_second : ℕ → ℕ → Item
notes_second value dep = Node (noted_record second_node (stored_dep (codes "b.c") (Some dep) ∷ []) 0 (Some value) Ok 3)

pub record BatchesOfNotes : Type 0 where
  pub nothing : IsBatch [] []
  pub of_known : IsBatch known_made (notes first_node (Some 0) Ok 2 ∷ [])
  -- what both need stands there once, and in any order
  pub of_fresh : IsBatch two_made (Content fresh_text ∷ Content fresh_list ∷ notes_first 3 0 1 ∷ notes_second 3 4 ∷ [])
  pub of_turned : IsBatch two_made (Content fresh_list ∷ Content fresh_text ∷ notes_first 4 0 1 ∷ notes_second 4 3 ∷ [])

pub record NoBatchesOfNotes : Type 0 where
  -- contents
  pub twice : ¬ IsBatch two_made (Content fresh_text ∷ Content fresh_text ∷ Content fresh_list ∷ notes_first 3 0 1 ∷ notes_second 4 5 ∷ [])
  pub not_needed : ¬ IsBatch known_made (Content fresh_text ∷ notes first_node (Some 0) Ok 2 ∷ [])
  pub known_again : ¬ IsBatch known_made (Content text_value ∷ notes first_node (Some 3) Ok 2 ∷ [])
  pub missing : ¬ IsBatch two_made (Content fresh_text ∷ notes_first 3 0 1 ∷ notes_second 3 4 ∷ [])
  pub other_number : ¬ IsBatch two_made (Content fresh_text ∷ Content fresh_list ∷ notes_first 4 0 1 ∷ notes_second 3 4 ∷ [])
  -- records
  pub turned : ¬ IsBatch two_made (Content fresh_text ∷ Content fresh_list ∷ notes_second 3 4 ∷ notes_first 3 0 1 ∷ [])
  pub first_alone : ¬ IsBatch two_made (Content fresh_text ∷ Content fresh_list ∷ notes_first 3 0 1 ∷ [])
  pub again : ¬ IsBatch known_made (notes first_node (Some 0) Ok 2 ∷ notes first_node (Some 0) Ok 2 ∷ [])
  pub other_node : ¬ IsBatch known_made (notes second_node (Some 0) Ok 2 ∷ [])
  pub other_status : ¬ IsBatch known_made (notes first_node (Some 0) Warning 2 ∷ [])
  pub other_height : ¬ IsBatch known_made (notes first_node (Some 0) Ok 3 ∷ [])
  pub other_messages : ¬ IsBatch (fresh_with (fact_of first_node (Some text_value)) Ok [] 2 ∷ []) (notes first_node (Some 0) Ok 2 ∷ [])
  -- reached sources: too few, and more than there are
  pub none_reached : ¬ IsBatch two_made (Content fresh_text ∷ Content fresh_list ∷ notes_first 3 0 0 ∷ notes_second 3 4 ∷ [])
  pub too_many_reached : ¬ IsBatch (fresh_of (fact_over []) Error 2 ∷ []) (notes_over [] 1 ∷ [])
