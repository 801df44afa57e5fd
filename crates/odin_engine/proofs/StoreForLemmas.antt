-- That the store of an engine stays one for its graph, and that what is known of it is still known.
use Rattle.std.proofs.Common.{◌≡◌, ℕ, ◌+◌, suc, Bool, true, false, IsTrue, List, [], ◌∷◌, Result, Ok, Err, IfOk, IfErr, ◌∙◌, refl, sym, ap, subst, arith}
use Rattle.object_values.specs.declared.graph.Decl.{Decl}
use Rattle.object_values.specs.declared.items.Item.{Item}
use Rattle.object_values.specs.declared.nodes.Node.{Node}
use Rattle.object_values.specs.Texts.{Text}
use Rattle.odin_outside.specs.Disk.{Telling}
use Rattle.meaning_graph.specs.Grammar.{GraphText}
use Rattle.odin_journal.specs.Faults.{IsRefused}
use Rattle.odin_journal.specs.Trails.{after_changes}
use Rattle.odin_journal.specs.declared.fault.JournalFault.{JournalFault}
use Rattle.odin_journal.specs.declared.fault.JournalFault.TheVariants as fault
use Rattle.odin_store.specs.declared.store.Store.{Store}
use Rattle.odin_store.specs.Changes.{EditsWhere}
use Rattle.odin_store.specs.Going.{Performs}
use Rattle.odin_store.specs.Held.{Held, Change, puts, drops, keeps, notes, apply}
use Rattle.odin_store.specs.Keeping.{store_keeping}
use Rattle.odin_store.specs.OnDisk.{held_in, IsSame, KeepsNodes, StoreAfter}
use Rattle.odin_store.specs.Stamps.{AreUnchecked}
use Rattle.odin_store.proofs.Lemmas.{unchecked_stays}
use Rattle.derive_walk.specs.declared.found.Found.{Found}
use Rattle.kept_derive.specs.declared.fault.KeptFault.{KeptFault}
use Rattle.kept_derive.specs.declared.fault.KeptFault.TheVariants as stop
use Rattle.kept_derive.specs.Faults.{StoreAfterDerive as IsKeptLeft}
use Rattle.kept_derive.specs.Knowing.{StaysKnown}
use Rattle.kept_derive.specs.Runs.{At, HasFound}
use Rattle.kept_derive.specs.Stops.{IsStopped}
use Rattle.kept_derive.proofs.Lemmas.{known_same}
use Rattle.odin_engine.specs.Engaged.{IsStoreFor}
use Rattle.odin_engine.specs.Opened.{Settles}

-- ---- the graph of a store

text_stays : (change : Change) (held : Held) → (apply change held).text ≡ held.text
text_stays (puts name text) held = refl
text_stays (drops name) held = refl
text_stays (keeps call outcome) held = refl
text_stays (notes facts) held = refl

text_after : (changes : List Change) (held : Held) → (after_changes store_keeping changes held).text ≡ held.text
text_after [] held = refl
text_after (change ∷ changes) held = text_after changes (apply change held) ∙ text_stays change held

-- no change touches it
graph_after : {D : Type 0} (told : D → Telling) (changes : List Change) (store next : Store) (disk after : D) → Performs told changes store next disk after → next.graph ≡ store.graph
graph_after told changes store next disk after goes = ap (λ (h : Held). h.text) goes.holds ∙ text_after changes (held_in store)

module _ (g : List Decl) where
  store_stays : (store next : Store) → next.graph ≡ store.graph → GraphText store.graph g → IsStoreFor g next
  store_stays store next same spelled fresh = subst (λ (text : Text). GraphText text g) (sym same) spelled

  store_spent : (next : Store) → IsTrue next.journal.spent → IsStoreFor g next
  store_spent next spent fresh = let no : ⊥ = cc in absurd no

  -- after an edit
  module _ {D : Type 0} (told : D → Telling) (Changes : Type 0) (IsBatch : List Item → Type 0) (change : Change) (store next : Store) (disk after : D) where
    edited_graph : (changed : Bool) → EditsWhere told Changes IsBatch change store next disk after changed → next.graph ≡ store.graph
    edited_graph true edits = ap (λ (h : Held). h.text) (edits.edits refl).holds ∙ text_stays change (held_in store)
    edited_graph false edits = (edits.same refl).store_is.graph

    pub edited_for : (size : ℕ) (r : Result Bool JournalFault) → GraphText store.graph g → IfOk r (EditsWhere told Changes IsBatch change store next disk after)
        → (IsRefused r → IsSame store next disk after) → StoreAfter next size r → IsStoreFor g next
    edited_for size (Ok changed) spelled edits same left = store_stays store next (edited_graph changed edits) spelled
    edited_for size (Err fault.Disk) spelled edits same left = store_spent next (left.spent refl)
    edited_for size (Err (fault.NotOurs at)) spelled edits same left = store_stays store next (same tt).store_is.graph spelled
    edited_for size (Err (fault.Full end count)) spelled edits same left = store_stays store next (same tt).store_is.graph spelled
    edited_for size (Err fault.Memory) spelled edits same left = store_stays store next (same tt).store_is.graph spelled

  -- after a derivation
  pub derived_for : {D : Type 0} (told : D → Telling) (n : Node) (limit : ℕ) (old new : At D) (size : ℕ) (r : Result Found KeptFault) → GraphText old.store.graph g
      → IfOk r (HasFound told g n limit old new) → IfErr r (IsStopped told g n limit old new) → IsKeptLeft new.store size r → IsStoreFor g new.store
  derived_for told n limit old new size (Ok found) spelled has stopped left =
      store_stays old.store new.store (graph_after told _ old.store new.store old.disk new.disk has.goes) spelled
  derived_for told n limit old new size (Err stop.Spawn) spelled has stopped left =
      store_stays old.store new.store (graph_after told _ old.store new.store old.disk new.disk stopped.goes) spelled
  derived_for told n limit old new size (Err stop.Disk) spelled has stopped left = store_spent new.store left.left
  derived_for told n limit old new size (Err (stop.Full end count)) spelled has stopped left =
      store_stays old.store new.store (stopped.failed.1.0.store_is.graph ∙ graph_after told _ old.store stopped.mid.store old.disk stopped.mid.disk stopped.goes) spelled
  derived_for told n limit old new size (Err stop.Memory) spelled has stopped left =
      store_stays old.store new.store (graph_after told _ old.store new.store old.disk new.disk stopped.goes) spelled

  -- after an opening
  pub settled_for : {D : Type 0} (told : D → Telling) (first store : Store) (mid new : D) → Settles told first store mid new → GraphText first.graph g → IsStoreFor g store
  settled_for told first store mid new (Settles.let_be sparing same) spelled = store_stays first store same.store_is.graph spelled
  settled_for told first store mid new (Settles.no_room wasteful full same) spelled = store_stays first store same.store_is.graph spelled
  settled_for told first store mid new (Settles.compacted wasteful compacts leaves) spelled = store_stays first store compacts.graph spelled

-- ---- what is known of nodes

-- An opened store counts nothing as checked, compacted or not.
pub settled_unchecked : {D : Type 0} (told : D → Telling) (first store : Store) (mid new : D) → Settles told first store mid new → AreUnchecked first.kept.records.records
    → AreUnchecked store.kept.records.records
settled_unchecked told first store mid new (Settles.let_be sparing same) unchecked = subst AreUnchecked (sym same.nodes) unchecked
settled_unchecked told first store mid new (Settles.no_room wasteful full same) unchecked = subst AreUnchecked (sym same.nodes) unchecked
settled_unchecked told first store mid new (Settles.compacted wasteful compacts leaves) unchecked = unchecked_stays first.kept store.kept compacts.memory unchecked

-- What is known is known after an edit, which leaves the calls and what is noted of nodes; and where nothing changed.
pub known_edited : {D : Type 0} (told : D → Telling) (Changes : Type 0) (IsBatch : List Item → Type 0) (change : Change) (store next : Store) (disk after : D) (changed : Bool)
    → EditsWhere told Changes IsBatch change store next disk after changed → ((held : Held) → (apply change held).calls ≡ held.calls) → ((held : Held) → (apply change held).records ≡ held.records)
    → (KeepsNodes store next → next.kept.tables.calls ≡ store.kept.tables.calls → next.kept.tables.records ≡ store.kept.tables.records → next.epoch ≡ suc store.epoch → StaysKnown store next)
    → StaysKnown store next
known_edited told Changes IsBatch change store next disk after true edits calls records known =
    let edit = edits.edits refl in
    let epoch : next.epoch ≡ store.epoch + 1 = edit.epoch in
    known edit.nodes (ap (λ (h : Held). h.calls) edit.holds ∙ calls (held_in store)) (ap (λ (h : Held). h.records) edit.holds ∙ records (held_in store)) (omega (arith, epoch))
known_edited told Changes IsBatch change store next disk after false edits calls records known = let same = edits.same refl in known_same store next same.store_is same.nodes
