-- A batch that is ready to be added to a store, and what its adding does.
use Rattle.std.proofs.Common.{◌≡◌, ◌≢◌, inl, inr, ℕ, ◌+◌, ◌≤◌, List, [], ◌∷◌, length, IsTrue, IsSome, refl, sym, ap, subst, ◌∙◌}
use Rattle.std.specs.FinMap as map
use Rattle.odin_outside.specs.Disk.{Telling, MayLeave}
use Rattle.odin_journal.specs.WorkLemmas.{no_work}
use Rattle.object_values.specs.declared.calls.Call.{Call}
use Rattle.object_values.specs.declared.calls.Outcome.{Outcome}
use Rattle.object_values.specs.declared.facts.Fact.{Fact}
use Rattle.object_values.specs.declared.facts.Fresh.{Fresh}
use Rattle.object_values.specs.Texts.{Text, Texts}
use Rattle.meaning_texts.specs.Classes.{IsName}
use Rattle.meaning_records.specs.Front.{file_limit}
use Rattle.odin_journal.specs.Faults.{IsAddFault}
use Rattle.odin_journal.specs.Moments.{Works}
use Rattle.odin_journal.specs.Rest.{AddsRecord, KeepsOrAdds, RestsOnMore}
use Rattle.odin_journal.specs.declared.journal.Journal.{Journal}
use Rattle.odin_journal.specs.declared.fault.JournalFault.{JournalFault}
use Rattle.object_values.specs.declared.items.Item.{Item}
use Rattle.meaning_records.specs.Batches.{drop_batch, facts_of}
use Rattle.meaning_records.specs.Tables.{Tables, LoadsAll}
use Rattle.meaning_records.specs.States.{spell_batch}
use Rattle.meaning_records.specs.Laws.{BatchesRead, ReadsInOneWay}
use Rattle.meaning_graph.specs.TextLaws.{GraphIsOne}
use Rattle.kept_tables.specs.Holdings as kept
use Rattle.odin_store.specs.declared.store.Store.{Store}
use Rattle.odin_store.specs.Held.{Change, puts, drops, keeps, notes, apply, IsDue}
use Rattle.odin_store.specs.OnDisk.{held_in, LeavesChange, AddsBatch, IsChangeFault, HoldsOn, BeginsOnce}
use Rattle.odin_store.specs.Changes.{PutBatch, DropBatch, CallBatch, NotesBatch, StoreMayNote}
use Rattle.odin_store.proofs.StoreLemmas.{Makes, held_with, leaves_change, appends, change_fault}
use Rattle.odin_store.proofs.BatchLemmas.{put_makes, drop_makes, call_makes}
use Rattle.odin_store.proofs.NoteLemmas.{notes_makes}
use Rattle.odin_store.proofs.RecordTrails.{adds_first, nothing_first}
use Rattle.odin_store.proofs.WrittenLemmas.{works_for_one}

-- these bytes are such a batch, which makes a change of what the store holds and notes these facts
pub record Ready (IsBatch : List Item → Type 0) (change : Change) (store : Store) (payload : List ℕ) (next : Tables) (edited : Texts) : Type 0 where
  pub noted : List Fact
  pub items : List Item
  pub batch : IsBatch items
  pub spelled : payload ≡ spell_batch items
  pub makes : Makes store.graph change store.kept.tables store.sources.texts (spell_batch items) next edited noted

pub put_ready : (name text : Text) (store mid : Store) (prepared : kept.Batch) → HoldsOn store mid → (some : kept.PreparesSome (PutBatch store name text) mid.kept prepared)
    → Ready (PutBatch store name text) (puts name text) store prepared.payload some.2.next (map.insert store.sources.texts name text)
put_ready name text store mid prepared same some = record {
  noted = [];
  items = some.0;
  batch = some.1;
  spelled = some.2.spelled;
  makes = put_makes store.graph name text store.kept.tables some.2.next store.sources.texts some.0 some.1 some.2.fit (subst (λ (t : Tables). LoadsAll t some.0 some.2.next) same.tables some.2.loads);
}

pub drop_ready : (name : Text) (store : Store) (payload : List ℕ) → IsName name → IsSome (map.get store.sources.texts name) → payload ≡ spell_batch (drop_batch name)
    → Ready (DropBatch name) (drops name) store payload store.kept.tables (map.remove store.sources.texts name)
drop_ready name store payload named there spelled = record {
  noted = [];
  items = drop_batch name;
  batch = refl;
  spelled = spelled;
  makes = drop_makes store.graph name store.kept.tables store.sources.texts named there;
}

pub call_ready : ReadsInOneWay → (call : Call) (outcome : Outcome) (store : Store) (mid : kept.Holding) (prepared : kept.Batch) → mid.tables ≡ store.kept.tables → kept.MayKeep store.kept.tables call outcome
    → (some : kept.PreparesSome (CallBatch store call outcome) mid prepared) → Ready (CallBatch store call outcome) (keeps call outcome) store prepared.payload some.2.next store.sources.texts
call_ready law call outcome store mid prepared same may some = record {
  noted = [];
  items = some.0;
  batch = some.1;
  spelled = some.2.spelled;
  makes = call_makes law store.graph call outcome store.kept.tables some.2.next store.sources.texts some.0 may some.1 some.2.fit (subst (λ (t : Tables). LoadsAll t some.0 some.2.next) same some.2.loads);
}

pub notes_ready : ReadsInOneWay → BatchesRead → GraphIsOne → (fresh : List Fresh) (store : Store) (size : ℕ) (mid : kept.Holding) (prepared : kept.Batch) → fresh ≢ [] → StoreMayNote store size fresh → mid.tables ≡ store.kept.tables
    → (some : kept.PreparesSome (NotesBatch store fresh) mid prepared) → Ready (NotesBatch store fresh) (notes (facts_of fresh)) store prepared.payload some.2.next store.sources.texts
notes_ready law batches graphs fresh store size mid prepared there may same some = record {
  noted = facts_of fresh;
  items = some.0;
  batch = some.1;
  spelled = some.2.spelled;
  makes =
      notes_makes law batches fresh there may.notable store.kept.tables some.2.next store.sources.texts some.0 some.1 some.2.fit (subst (λ (t : Tables). LoadsAll t some.0 some.2.next) same some.2.loads)
      graphs store.graph may.graph may.spelled may.fit;
}

-- nothing is done, and no batch is begun
pub begins_none : (IsBatch : List Item → Type 0) (store : Store) (disk : Telling) → ((image : List ℕ) → IsTrue disk.follows → disk.left_since disk.moment image → MayLeave disk image) → BeginsOnce IsBatch store disk disk
begins_none IsBatch store disk only_now = record { begun = []; one = inl refl; works = no_work disk.work; leaves = nothing_first store disk only_now }

-- ---- its adding, over a journal that is as it was

module _ (IsBatch : List Item → Type 0) (change : Change) (store : Store) (payload bytes : List ℕ) (next : Tables) (edited : Texts) (ready : Ready IsBatch change store payload next edited) (is : bytes ≡ payload) where
  spelled : bytes ≡ spell_batch ready.items
  spelled = is ∙ ready.spelled

  pub ready_leaves : (journal : Journal) (old new : Telling) → journal ≡ store.journal → KeepsOrAdds journal.end bytes old new → LeavesChange change store old new
  ready_leaves journal old new same leaves =
      leaves_change change store old new (spell_batch ready.items) next edited ready.noted ready.makes
      (subst (λ (j : Journal). KeepsOrAdds j.end (spell_batch ready.items) old new) same (subst (λ b. KeepsOrAdds journal.end b old new) spelled leaves))

  pub ready_fault : (journal : Journal) → journal ≡ store.journal → IsDue change (held_in store) → (e : JournalFault) → IsAddFault journal.end (length bytes) e → IsChangeFault IsBatch change store e
  ready_fault journal same due e told = change_fault IsBatch ready.items change store bytes spelled ready.batch due e (subst (λ (j : Journal). IsAddFault j.end (length bytes) e) same told)

  pub ready_begins : (journal : Journal) (old new : Telling) → journal ≡ store.journal → KeepsOrAdds journal.end bytes old new → Works (length bytes + 6) 4 old new → BeginsOnce IsBatch store old new
  ready_begins journal old new same leaves works = record {
    begun = spell_batch ready.items ∷ [];
    one = inr (ready.items, ready.batch, refl);
    works = works_for_one (spell_batch ready.items) old new (subst (λ b. Works (length b + 6) 4 old new) spelled works);
    leaves =
        adds_first store (spell_batch ready.items) old new
        (subst (λ (j : Journal). KeepsOrAdds j.end (spell_batch ready.items) old new) same (subst (λ b. KeepsOrAdds journal.end b old new) spelled leaves));
  }

  pub ready_adds : (journal : Journal) (after : Store) (old new : Telling) → journal ≡ store.journal → after.graph ≡ store.graph → AddsRecord journal.end after.journal.end bytes old new → RestsOnMore journal after.journal bytes old new → journal.end + 6 + length bytes ≤ file_limit
      → KeepsOrAdds journal.end bytes old new → Works (length bytes + 6) 4 old new → after.kept.tables ≡ next → after.sources.texts ≡ edited → AddsBatch IsBatch store after old new
  ready_adds journal after old new same stays adds more room leaves works tables sources = (
    ready.items,
    ready.batch,
    appends change ready.items store after old new bytes ready.noted spelled
        (subst (λ (t : Tables). Makes store.graph change store.kept.tables store.sources.texts (spell_batch ready.items) t after.sources.texts ready.noted) (sym tables)
        (subst (λ (s : Texts). Makes store.graph change store.kept.tables store.sources.texts (spell_batch ready.items) next s ready.noted) (sym sources) ready.makes))
        stays
        (subst (λ (j : Journal). AddsRecord j.end after.journal.end bytes old new) same adds)
        (subst (λ (j : Journal). RestsOnMore j after.journal bytes old new) same more)
        (subst (λ (j : Journal). j.end + 6 + length bytes ≤ 1073741824) same room)
        (subst (λ (j : Journal). KeepsOrAdds j.end bytes old new) same leaves) works,
  )

  pub ready_holds : (tables : Tables) (sources : Texts) → tables ≡ next → sources ≡ edited → held_with store.graph tables sources ≡ apply change (held_in store)
  ready_holds tables sources same put = ap (λ (t : Tables). held_with store.graph t sources) same ∙ ap (held_with store.graph next) put ∙ ready.makes.holds
