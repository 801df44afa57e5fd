-- How what a walk tells of nodes is kept: what is to be noted in one batch, and after it what records came to, which no file has.
use Rattle.std.specs.Prelude.{◌≡◌, ℕ, List, [], ◌∷◌}
use Rattle.object_values.specs.declared.facts.Fresh.{Fresh}
use Rattle.object_values.specs.declared.facts.RenewedNode.{RenewedNode}
use Rattle.object_values.specs.declared.nodes.Node.{Node}
use Rattle.object_values.specs.declared.records.NodeRecord.{NodeRecord}
use Rattle.odin_outside.specs.Disk.{Telling}
use Rattle.meaning_texts.specs.Lists.{IsIn}
use Rattle.meaning_derive.specs.Chains.{AreDifferent}
use Rattle.meaning_records.specs.Batches.{facts_of}
use Rattle.kept_records.specs.Records.{renew_record}
use Rattle.kept_tables.specs.Holdings.{Holding, MayRenew}
use Rattle.odin_store.specs.declared.store.Store.{Store}
use Rattle.odin_store.specs.Changes.{StoreMayNote}
use Rattle.odin_store.specs.Going.{Performs}
use Rattle.derive_walk.specs.Knowing.{records_with}
use Rattle.derive_walk.specs.Told.{fresh_nodes, renewed_nodes}
use Rattle.kept_derive.specs.Knowing.{store_records}
use Rattle.kept_derive.specs.Telling.{notes_of}

-- with what these records came to at the epoch, one after another
abbrev pub renew_records : ℕ → List RenewedNode → List NodeRecord → List NodeRecord
renew_records epoch [] records = records
renew_records epoch (r ∷ renewed) records = renew_records epoch renewed (renew_record r.node r.present epoch records)

-- each of them may have come to it
abbrev pub MayRenewEach : Holding → List RenewedNode → Type 0
MayRenewEach kept renewed = (r : RenewedNode) → IsIn r renewed → MayRenew kept r.node r.present

-- What is to be noted may be, and the other records may have come to what is told; no node is told of twice.
pub record MayKeepTold (store : Store) (size : ℕ) (fresh : List Fresh) (renewed : List RenewedNode) : Type 0 where
  pub note : StoreMayNote store size fresh
  pub renew : MayRenewEach store.kept renewed
  pub once : AreDifferent (fresh_nodes fresh)
  pub kept_once : AreDifferent (renewed_nodes renewed)
  pub apart : (n : Node) → IsIn n (fresh_nodes fresh) → IsIn n (renewed_nodes renewed) → ⊥

-- What was to be noted was, and nothing else changed on the disk. The records are those that were, with what was told.
pub record KeepsTold {D : Type 0} (told : D → Telling) (fresh : List Fresh) (renewed : List RenewedNode) (store next : Store) (disk after : D) : Type 0 where
  pub goes : Performs told (notes_of (facts_of fresh)) store next disk after
  pub epoch : next.epoch ≡ store.epoch
  pub records : store_records next ≡ records_with fresh renewed (store_records store)
