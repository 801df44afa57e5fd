-- Batches that a store writes after what the examples of items keep, and batches that it doesn't.
use Rattle.std.specs.Prelude.{ℕ, List, [], ◌∷◌, Some, codes}
use Rattle.object_values.specs.declared.views.Value.{Value}
use Rattle.object_values.specs.declared.views.Value.TheVariants.{Simple}
use Rattle.object_values.specs.declared.items.Item.{Item}
use Rattle.object_values.specs.declared.items.Item.TheVariants.{Content, Put, Kept}
use Rattle.meaning_records.specs.Batches.{IsPutBatch, IsCallBatch}
use Rattle.meaning_records.specs.ItemExamples.{old, stored_call, call, ex_made_outcome, made_outcome}

-- a text that is a content, and texts that are none
abbrev pub known : List ℕ
known = codes "x=1"

abbrev pub fresh : List ℕ
fresh = codes "y"

abbrev pub unneeded : List ℕ
unneeded = codes ""

abbrev pub contents : List Value
contents = old.tables.contents

pub record BatchesOfPuts : Type 0 where
  pub of_known : IsPutBatch contents (codes "b.c") known (Put (codes "b.c") 0 ∷ [])
  pub of_fresh : IsPutBatch contents (codes "b.c") fresh (Content (Simple fresh) ∷ Put (codes "b.c") 2 ∷ [])
  pub known_again : ¬ IsPutBatch contents (codes "b.c") known (Content (Simple known) ∷ Put (codes "b.c") 2 ∷ [])

-- the outputs are the known text
abbrev pub kept_by : ℕ → Item
kept_by number = Kept (stored_call (codes "cc") (Some number)) ex_made_outcome

pub record BatchesOfCalls : Type 0 where
  pub of_known : IsCallBatch contents (call (Some known)) made_outcome (kept_by 0 ∷ [])
  pub of_fresh : IsCallBatch contents (call (Some fresh)) made_outcome (Content (Simple fresh) ∷ kept_by 2 ∷ [])
  pub known_again : ¬ IsCallBatch contents (call (Some known)) made_outcome (Content (Simple known) ∷ kept_by 0 ∷ [])
  pub not_needed : ¬ IsCallBatch contents (call (Some known)) made_outcome (Content (Simple unneeded) ∷ kept_by 0 ∷ [])
  pub twice : ¬ IsCallBatch contents (call (Some fresh)) made_outcome (Content (Simple fresh) ∷ Content (Simple fresh) ∷ kept_by 2 ∷ [])
