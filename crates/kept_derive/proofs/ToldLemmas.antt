-- What is kept of what a walk tells.
use Rattle.std.proofs.Common.{◌≡◌, ◌≢◌, ◌≤◌, ◌<◌, ◌++◌, ℕ, zero, suc, Bool, true, false, cond, List, [], ◌∷◌, length, inl, inr, refl, sym, ap, subst, ◌∙◌, arith}
use Rattle.std.specs.Prelude.{◌↔◌, Option, Some, None, IsNone, IsSome, is_some, option_map, slice_get}
use Rattle.std.specs.List.{All}
use Rattle.std.proofs.lemmas.List.Elements.{All-nil}
use Rattle.object_values.specs.Exact.{node_exact}
use Rattle.object_values.specs.Texts.{Texts}
use Rattle.object_values.specs.declared.facts.Fact.{Fact}
use Rattle.object_values.specs.declared.facts.Fresh.{Fresh}
use Rattle.object_values.specs.declared.facts.RenewedNode.{RenewedNode}
use Rattle.object_values.specs.declared.items.Item.{Item}
use Rattle.object_values.specs.declared.messages.Status.TheVariants.{Abort}
use Rattle.object_values.specs.declared.nodes.Node.{Node}
use Rattle.object_values.specs.contracts.nodes.NodePartialEq.TheImpl.{ghosts as node_eq}
use Rattle.object_values.specs.declared.records.NodeRecord.{NodeRecord}
use Rattle.object_values.specs.declared.records.Renewed.{Renewed}
use Rattle.object_values.specs.declared.views.Value.{Value}
use Rattle.object_values.specs.declared.views.View.{View}
use Rattle.odin_outside.specs.Disk.{Telling}
use Rattle.meaning_texts.specs.Limits.{height_limit}
use Rattle.meaning_texts.specs.Lists.{IsIn}
use Rattle.meaning_texts.proofs.Lemmas.{all_in, from_map, in_all, in_map, never_both, same_some, some_or_none, value_of_some}
use Rattle.meaning_graph.specs.Graphs.{Graph}
use Rattle.meaning_derive.specs.Chains.{AreDifferent}
use Rattle.meaning_records.specs.Batches.{IsNotable, facts_of}
use Rattle.meaning_records.specs.Tables.{Calls, kept_outcome}
use Rattle.meaning_true.specs.Facts.{RecordIsTrue}
use Rattle.meaning_true.specs.Knowing.{IsChecked, KeptRecord, KeptRecords, Knows}
use Rattle.meaning_true.specs.Numbered.{kept_by, value_at}
use Rattle.validator.specs.Fitting.{FactFits}
use Rattle.odin_journal.specs.declared.fault.JournalFault.{JournalFault}
use Rattle.odin_journal.specs.declared.fault.JournalFault.TheVariants as fault_of
use Rattle.odin_journal.specs.declared.journal.Journal.{Journal}
use Rattle.odin_journal.specs.Rest.{RestsOn}
use Rattle.odin_journal.specs.TrailLemmas.{untouched_grows}
use Rattle.odin_journal.specs.WorkLemmas.{no_work}
use Rattle.kept_notes.specs.Facts.{IsNumberIn, IsRecordIn}
use Rattle.kept_records.specs.Records.{record_of}
use Rattle.odin_store.specs.declared.store.Store.{Store}
use Rattle.odin_store.specs.Changes.{NotesBatch, NotesWhereSome}
use Rattle.odin_store.specs.Edited.{EditsAreTold, HasFailed}
use Rattle.odin_store.specs.Going.{AreBatches, ChangesFollow, IsBatchOf, Performs}
use Rattle.odin_store.specs.Held.{Held, notes}
use Rattle.odin_store.specs.Keeping.{store_keeping}
use Rattle.odin_store.specs.OnDisk.{BeginsOnce, HoldsOn, IsChangeFault, IsSame, LeavesChange, state_in}
use Rattle.odin_store.specs.Written.{record_keeping}
use Rattle.odin_store.proofs.Lemmas.{goes_on, nothing_behind, on_there, same_held, same_on}
use Rattle.derive_walk.specs.declared.found.Found.{Found}
use Rattle.derive_walk.specs.declared.found.Found.TheVariants.{Answer, Circular, Deep}
use Rattle.derive_walk.specs.Founds.{IsChain}
use Rattle.derive_walk.specs.Knowing.{noted_of, noted_or, present_of, records_with, renewed_if}
use Rattle.derive_walk.specs.Laws.{ToldIsKnown}
use Rattle.derive_walk.specs.Tables.{done_in}
use Rattle.derive_walk.specs.Told.{AreTold, fresh_nodes, noted_record, renewed_nodes}
use Rattle.derive_walk.specs.Worlds.{World}
use Rattle.derive_walk.specs.Walks.{IsPlacedIn, IsRight, Walked}
use Rattle.kept_derive.specs.Faults.{of_store}
use Rattle.kept_derive.specs.Knowing.{IsRecorded, KnowsStore, known_in, store_records}
use Rattle.kept_derive.specs.Noting.{KeepsTold, MayKeepTold, MayRenewEach, renew_records}
use Rattle.kept_derive.specs.Runs.{MayNoteFor}
use Rattle.kept_derive.specs.Telling.{FailsToTell, HasTold, IsRightlyTold, MayTell, notes_of, world_now}
use Rattle.kept_derive.proofs.CallLemmas.{same_here}
use Rattle.kept_derive.proofs.KnowLemmas.{SaysFacts, contents_in, kept_of, record_in}
use Rattle.kept_derive.proofs.NotedLemmas.{noted_in, others_there, records_noted, records_told, same_record_may}

-- ---- changes

module _ {Disk : Type 0} (told : Disk → Telling) where
  -- What changes in memory alone is no change of what is held.
  held_goes : (store next : Store) (disk : Disk) → HoldsOn store next → Performs told [] store next disk disk
  held_goes store next disk same = record {
    holds = same_held store next same;
    grows = untouched_grows store_keeping told disk disk store next refl (λ held rests. record {
      records = rests.records;
      graph = rests.graph;
      on = same_on (told disk) store next rests.records rests.graph same rests.on;
      holds = rests.holds ∙ sym (same_held store next same);
    });
    batches = λ records graph on. record {
      payloads = [];
      on = on_there (told disk) (told disk) next records (records ++ []) graph refl (nothing_behind records)
          (same_on (told disk) store next records graph same on);
      are = subst (AreBatches (state_in store graph on.noted) [] [])
          (λ i. record { tables = sym same.tables i; sources = sym same.sources i; graph = graph; noted = on.noted }) AreBatches.no_batches;
      end = ap (λ (j : Journal). j.end) same.journal;
      bytes = refl;
      grows = untouched_grows record_keeping told disk disk store next refl (λ kept rests. subst (λ (j : Journal). RestsOn (told disk) kept j)
          (sym same.journal) rests);
      works = no_work (told disk).work;
    };
  }

  -- What is noted in one batch, where there is something.
  notes_go : ChangesFollow told → (fresh : List Fresh) (store next : Store) (disk after : Disk) → NotesWhereSome told fresh store next disk after
      → LeavesChange (notes (facts_of fresh)) store (told disk) (told after) → Performs told (notes_of (facts_of fresh)) store next disk after
  notes_go law [] store next disk after noted leaves = law.none store next disk after (noted.none refl)
  notes_go law (f ∷ fresh) store next disk after noted leaves = law.note (f ∷ fresh) store next disk after (noted.some (λ e. let no : ⊥ = cc in no)) leaves

  then_held : (facts : List Fact) (store mid next : Store) (disk after : Disk) → Performs told (notes_of facts) store mid disk after → HoldsOn mid next
      → Performs told (notes_of facts) store next disk after
  then_held facts store mid next disk after goes same =
      subst (λ l. Performs told l store next disk after) (nothing_behind (notes_of facts)) (goes_on told (notes_of facts) [] store mid next disk after
      after goes (held_goes mid next after same))

  -- Notes leave the calls and the sources.
  notes_calls : (facts : List Fact) (store next : Store) (disk after : Disk) → Performs told (notes_of facts) store next disk after
      → next.kept.tables.calls ≡ store.kept.tables.calls
  notes_calls [] store next disk after goes = ap (λ (h : Held). h.calls) goes.holds
  notes_calls (f ∷ facts) store next disk after goes = ap (λ (h : Held). h.calls) goes.holds

  notes_sources : (facts : List Fact) (store next : Store) (disk after : Disk) → Performs told (notes_of facts) store next disk after
      → next.sources.texts ≡ store.sources.texts
  notes_sources [] store next disk after goes = ap (λ (h : Held). h.sources) goes.holds
  notes_sources (f ∷ facts) store next disk after goes = ap (λ (h : Held). h.sources) goes.holds

  -- ---- what is kept of what is told

  module _ (fresh : List Fresh) (store mid : Store) (disk after : Disk) (noted : NotesWhereSome told fresh store mid disk after) where
    noted_epoch : mid.epoch ≡ store.epoch
    noted_epoch = by fresh noted
      where
        by : (l : List Fresh) → NotesWhereSome told l store mid disk after → mid.epoch ≡ store.epoch
        by [] n = (n.none refl).store_is.epoch
        by (f ∷ l) n = (n.some (λ e. let no : ⊥ = cc in no)).epoch

    -- what its records say then
    noted_says : SaysFacts store → SaysFacts mid → AreDifferent (fresh_nodes fresh) → (n : Node)
        → option_map (kept_by (contents_in mid) mid.epoch) (record_of n mid.kept.records.records) ≡ noted_or (noted_of fresh n) (store_records store n)
    noted_says said says once n = by fresh noted once
      where
        by : (l : List Fresh) → NotesWhereSome told l store mid disk after → AreDifferent (fresh_nodes l)
            → option_map (kept_by (contents_in mid) mid.epoch) (record_of n mid.kept.records.records) ≡ noted_or (noted_of l n) (store_records store n)
        by [] w once =
            let same = w.none refl in
            λ i. option_map (kept_by (λ number. slice_get (same.store_is.tables i).contents number) (same.store_is.epoch i)) (record_of n (same.nodes i))
        by (f ∷ l) w once =
            let now = w.some (λ e. let no : ⊥ = cc in no) in
            ap (λ e. option_map (kept_by (contents_in mid) e) (record_of n mid.kept.records.records)) now.epoch
            ∙ records_noted store mid (f ∷ l) once now.memory said says (ap (λ (h : Held). h.records) now.holds) n

    -- a node of which nothing is noted has the same record
    noted_leaves : AreDifferent (fresh_nodes fresh) → (n : Node) → ¬ IsIn n (fresh_nodes fresh)
        → record_of n mid.kept.records.records ≡ record_of n store.kept.records.records
    noted_leaves once n out = by fresh noted once out
      where
        by : (l : List Fresh) → NotesWhereSome told l store mid disk after → AreDifferent (fresh_nodes l) → ¬ IsIn n (fresh_nodes l)
            → record_of n mid.kept.records.records ≡ record_of n store.kept.records.records
        by [] w once out = ap (record_of n) (w.none refl).nodes
        by (f ∷ l) w once out = others_there store mid (f ∷ l) once (w.some (λ e. let no : ⊥ = cc in no)).memory n out

    module _ (renewed : List RenewedNode) (size : ℕ) (may : MayKeepTold store size fresh renewed) where
      -- the other records may come to what is told
      pub still_may : MayRenewEach mid.kept renewed
      still_may r i =
          same_record_may store.kept mid.kept r.node r.present
          (noted_leaves may.once r.node (λ j. may.apart r.node j (in_map (λ (x : RenewedNode). x.node) r renewed i))) (may.renew r i)

      pub keeps_told : ChangesFollow told → LeavesChange (notes (facts_of fresh)) store (told disk) (told after) → SaysFacts store → SaysFacts mid
          → (next : Store) → HoldsOn mid next → next.kept.records.records ≡ renew_records mid.epoch renewed mid.kept.records.records
          → KeepsTold told fresh renewed store next disk after
      keeps_told law leaves said says next same records = record {
        goes = then_held (facts_of fresh) store mid next disk after (notes_go law fresh store mid disk after noted leaves) same;
        epoch = same.epoch ∙ noted_epoch;
        records = records_told fresh renewed may.apart store mid next may.kept_once (noted_says said says may.once) same records;
      }

-- ---- what may be kept of what is told

-- a number of a content has a value
value_none : (contents : List Value) (number : Option ℕ) → IsNumberIn (length contents) number → IsNone (value_at (λ n. slice_get contents n) number)
    → IsNone number
value_none contents None within none = refl
value_none contents (Some n) within none = absurd (there contents n within none)
  where
    there : (l : List Value) (k : ℕ) → k < length l → IsNone (slice_get l k) → ⊥
    there [] k within none = omega (arith, within)
    there (v ∷ l) zero within none = let no : ⊥ = cc in no
    there (v ∷ l) (suc k) within none = there l k (omega (arith, within)) none

none_value : (contents : List Value) (number : Option ℕ) → IsNone number → IsNone (value_at (λ n. slice_get contents n) number)
none_value contents None none = refl
none_value contents (Some n) none = let no : ⊥ = cc in absurd no

none_is : {A : Type 0} (o : Option A) → IsNone o → o ≡ None
none_is None e = refl
none_is (Some x) e = let no : ⊥ = cc in absurd no

module _ (g : Graph) (store : Store) (size : ℕ) (walked : Walked) (may : MayTell g store size walked)
    (named : All (IsRecordIn (length store.kept.tables.contents)) store.kept.records.records) where
  fresh_fit : All (FactFits g) (facts_of walked.fresh)
  fresh_fit = all_in (FactFits g) (facts_of walked.fresh) (λ fact i.
      let f = from_map (λ (x : Fresh). x.fact) fact walked.fresh i in
      subst (FactFits g) (sym f.2) (may.formed.told.noted f.0 f.1).fits)

  renews : MayRenewEach store.kept walked.renewed
  renews r i =
      let told = may.formed.told.kept r i in
      let entry = may.formed.done.each r.node told.entry told.is in
      let x = kept_of (contents_in store) store.epoch (record_of r.node store.kept.records.records) told.kept told.has in
      let within = in_all (IsRecordIn (length store.kept.tables.contents)) store.kept.records.records named x.0
      (record_in r.node store.kept.records.records x.0 x.1).0 in
      let said : value_at (contents_in store) x.0.value ≡ told.entry.view.value = ap (λ (k : KeptRecord). k.fact.value) (sym x.2) ∙ told.value in
      let abort : IsNone x.0.value ↔ (r.present.status ≡ Abort) = (
        λ none. told.comes.status
            ∙ entry.result.result.valued.0 (sym said ∙ none_is (value_at (contents_in store) x.0.value) (none_value store.kept.tables.contents x.0.value none)),
        λ status. value_none store.kept.tables.contents x.0.value within.value (ap is_some (said
            ∙ entry.result.result.valued.1 (sym told.comes.status ∙ status))),
      ) in
      record {
        has = ap is_some x.1;
        least = omega (arith, entry.low, told.comes.height);
        most = subst (λ h. h ≤ height_limit) (sym told.comes.height) entry.high;
        valued = λ y at. subst (λ (z : NodeRecord). IsNone z.value ↔ (r.present.status ≡ Abort)) (same_some (sym x.1 ∙ at)) abort;
      }

  pub may_keep : MayKeepTold store size walked.fresh walked.renewed
  may_keep = record {
    note = record {
      journal = may.ready;
      notable = all_in IsNotable walked.fresh (λ f i. (may.formed.told.noted f i).notable);
      graph = g;
      spelled = may.spelled;
      fit = fresh_fit;
    };
    renew = renews;
    once = may.formed.told.once;
    kept_once = may.formed.told.kept_once;
    apart = may.formed.told.apart;
  }

-- ---- which records are checked then

noted_some : (fresh : List Fresh) (n : Node) → IsIn n (fresh_nodes fresh) → (k : KeptRecord) × (noted_of fresh n ≡ Some k) × (k.checked ≡ true)
noted_some [] n i = absurd i
noted_some (f ∷ fresh) n i = by (node_eq.eq n f.fact.node) refl i (noted_some fresh n)
  where
    by : (t : Bool) → node_eq.eq n f.fact.node ≡ t → IsIn n (fresh_nodes (f ∷ fresh))
        → (IsIn n (fresh_nodes fresh) → (k : KeptRecord) × (noted_of fresh n ≡ Some k) × (k.checked ≡ true))
        → (k : KeptRecord) × (cond t (Some (noted_record f)) (noted_of fresh n) ≡ Some k) × (k.checked ≡ true)
    by true e j rest = (noted_record f, refl, refl)
    by false e (inl is) rest = never_both (node_eq.eq n f.fact.node) ((node_exact n f.fact.node).1 is) e
    by false e (inr j) rest = rest j

present_some : (renewed : List RenewedNode) (n : Node) → IsIn n (renewed_nodes renewed) → (p : Renewed) × (present_of renewed n ≡ Some p)
present_some [] n i = absurd i
present_some (r ∷ renewed) n i = by (node_eq.eq n r.node) refl i (present_some renewed n)
  where
    by : (t : Bool) → node_eq.eq n r.node ≡ t → IsIn n (renewed_nodes (r ∷ renewed))
        → (IsIn n (renewed_nodes renewed) → (p : Renewed) × (present_of renewed n ≡ Some p))
        → (p : Renewed) × (cond t (Some r.present) (present_of renewed n) ≡ Some p)
    by true e j rest = (r.present, refl)
    by false e (inl is) rest = never_both (node_eq.eq n r.node) ((node_exact n r.node).1 is) e
    by false e (inr j) rest = rest j

module _ (w : World) (walked : Walked) (told : AreTold w walked.done walked.fresh walked.renewed) where
  abbrev later : KeptRecords
  later = records_with walked.fresh walked.renewed w.records

  noted_checked : (n : Node) → IsIn n (fresh_nodes walked.fresh) → IsChecked later n
  noted_checked n i =
      let k = noted_some walked.fresh n i in
      record { kept = k.0; is = ap (λ o. noted_or o (option_map (renewed_if (present_of walked.renewed n)) (w.records n))) k.1; checked = k.2 }

  came_checked : (n : Node) (k : KeptRecord) → w.records n ≡ Some k → (renewed_if (present_of walked.renewed n) k).checked ≡ true → IsChecked later n
  came_checked n k there checked = elim (some_or_none (noted_of walked.fresh n)) [
    | inl x ↦ noted_checked n (noted_in walked.fresh n x.0 x.1)
    | inr none ↦ record {
      kept = renewed_if (present_of walked.renewed n) k;
      is = ap (λ o. noted_or o (option_map (renewed_if (present_of walked.renewed n)) (w.records n))) none
          ∙ ap (option_map (renewed_if (present_of walked.renewed n))) there;
      checked = checked;
    }
  ]

  still_checked : (p : Option Renewed) (k : KeptRecord) → k.checked ≡ true → (renewed_if p k).checked ≡ true
  still_checked None k e = e
  still_checked (Some present) k e = refl

  -- A node with steps that has a result has one.
  done_checked : (n : Node) → IsSome (done_in walked.done n) → n.steps ≢ [] → IsChecked later n
  done_checked n done stepped =
      let d = value_of_some (done_in walked.done n) done in
      elim (told.all n d.0 d.1 stepped) [
        | inl c ↦ came_checked n c.kept c.is (still_checked (present_of walked.renewed n) c.kept c.checked)
        | inr one ↦ elim one [
          | inl i ↦ noted_checked n i
          | inr i ↦
              let r = from_map (λ (x : RenewedNode). x.node) n walked.renewed i in
              let kept = told.kept r.0 r.1 in
              let p = present_some walked.renewed n i in
              came_checked n kept.kept (ap w.records r.2 ∙ kept.has) (ap (λ o. (renewed_if o kept.kept).checked) p.1)
        ]
      ]

-- ---- what is told

module _ (g : Graph) (store : Store) (walked : Walked) (right : IsRight (world_now g store) walked) where
  -- what is noted is true beside the calls that are kept
  noted_true : (outcomes : Calls) → outcomes ≡ store.kept.tables.calls → All (RecordIsTrue g (kept_outcome outcomes)) (facts_of walked.fresh)
  noted_true outcomes same = all_in (RecordIsTrue g (kept_outcome outcomes)) (facts_of walked.fresh) (λ fact i.
      let f = from_map (λ (x : Fresh). x.fact) fact walked.fresh i in
      subst (RecordIsTrue g (kept_outcome outcomes)) (sym f.2) (subst (λ l. RecordIsTrue g (kept_outcome l) f.0.fact) (sym same)
      (right.told.noted f.0 f.1).truth))

  module _ {D : Type 0} (told : D → Telling) (next : Store) (disk after : D) (keeps : KeepsTold told walked.fresh walked.renewed store next disk after) where
    calls_stay : next.kept.tables.calls ≡ store.kept.tables.calls
    calls_stay = notes_calls told (facts_of walked.fresh) store next disk after keeps.goes

    known_told : ToldIsKnown → KnowsStore g next
    known_told law =
        let sources = notes_sources told (facts_of walked.fresh) store next disk after keeps.goes in
        subst (λ (z : Texts × Calls × KeptRecords). Knows g z.0 (kept_outcome z.1) z.2) (λ i. (sym sources i, sym calls_stay i, sym keeps.records i))
        (law (world_now g store) walked right)

    root_checked : IsSome (done_in walked.done walked.root) → walked.root.steps ≢ [] → IsChecked (store_records next) walked.root
    root_checked placed stepped =
        subst (λ (k : KeptRecords). IsChecked k walked.root) (sym keeps.records) (done_checked (world_now g store) walked right.told walked.root placed
        stepped)

    rightly_told : ToldIsKnown → (view : View) → (walked.root.steps ≢ [] → IsSome (done_in walked.done walked.root))
        → IsRightlyTold g walked next (facts_of walked.fresh) (Answer view)
    rightly_told law view placed = record {
      truth = noted_true next.kept.tables.calls calls_stay;
      knows = known_told law;
      recorded = λ stepped. root_checked (placed stepped) stepped;
    }

-- A view, once what the walk tells is kept.
pub has_told : {D : Type 0} (told : D → Telling) (g : Graph) (store next : Store) (disk after : D) (walked : Walked) (view : View) → ToldIsKnown
    → walked.result ≡ Some (Answer view)
    → IsPlacedIn walked.root walked.done walked.result → KeepsTold told walked.fresh walked.renewed store next disk after
    → HasTold told g walked store next disk after (Answer view)
has_told told g store next disk after walked view law is placed keeps = record {
  is = is;
  placed = placed;
  noted = facts_of walked.fresh;
  may = tt;
  goes = keeps.goes;
  epoch = keeps.epoch;
  right = λ right. rightly_told g store walked right told next disk after keeps law view (placed view is);
}

-- A chain, for which nothing is.
pub chain_told : {D : Type 0} (told : D → Telling) (g : Graph) (store : Store) (disk : D) (walked : Walked) (found : Found) → ChangesFollow told
    → walked.result ≡ Some found → IsPlacedIn walked.root walked.done walked.result → IsChain found
    → HasTold told g walked store store disk disk found
chain_told told g store disk walked found law is placed chain = record {
  is = is;
  placed = placed;
  noted = [];
  may = none_noted found;
  goes = law.none store store disk disk (same_here store disk);
  epoch = refl;
  right = λ right. record { truth = All-nil (RecordIsTrue g (known_in store)); knows = right.knows; recorded = unrecorded found chain };
}
  where
    none_noted : (f : Found) → MayNoteFor f []
    none_noted (Answer view) = tt
    none_noted (Circular nodes) = refl
    none_noted (Deep nodes) = refl

    unrecorded : (f : Found) → IsChain f → IsRecorded f walked.root store
    unrecorded (Answer view) c = absurd c
    unrecorded (Circular nodes) c = tt
    unrecorded (Deep nodes) c = tt

-- ---- what is not kept

module _ {D : Type 0} (told : D → Telling) (g : Graph) (store next : Store) (disk after : D) (walked : Walked) where
  pub fails_to_tell : (fault : JournalFault) → HasFailed told (notes (facts_of walked.fresh)) store next disk after fault
      → FailsToTell told g walked store next disk after (of_store fault)
  fails_to_tell fault_of.Disk failed = record {
    facts = facts_of walked.fresh;
    failed = failed;
    right = λ right. noted_true g store walked right
        store.kept.tables.calls refl;
  }
  fails_to_tell (fault_of.NotOurs place) failed = absurd failed
  fails_to_tell (fault_of.Full end count) failed = record {
    facts = facts_of walked.fresh;
    failed = failed;
    right = λ right. noted_true g store walked
        right store.kept.tables.calls refl;
  }
  fails_to_tell fault_of.Memory failed = failed

-- ---- a fault of a noting

module _ {D : Type 0} (told : D → Telling) (fresh : List Fresh) (store next : Store) (disk after : D) where
  abbrev IsNoteOf : List Item → Type 0
  IsNoteOf = IsBatchOf store.kept.tables.contents (notes (facts_of fresh))

  note_fault : (fault : JournalFault) → IsChangeFault (NotesBatch store fresh) (notes (facts_of fresh)) store fault
      → IsChangeFault IsNoteOf (notes (facts_of fresh)) store fault
  note_fault fault_of.Disk due = due
  note_fault (fault_of.NotOurs place) never = never
  note_fault (fault_of.Full end count) (due, over) = (due, (over.0, (fresh, refl, over.1), over.2))
  note_fault fault_of.Memory any = any

  note_begins : BeginsOnce (NotesBatch store fresh) store (told disk) (told after) → BeginsOnce IsNoteOf store (told disk) (told after)
  note_begins begins = record {
    begun = begins.begun;
    one = elim begins.one [ inl none ↦ inl none | inr some ↦ inr (some.0, (fresh, refl, some.1), some.2) ];
    works = begins.works;
    leaves = begins.leaves;
  }

  pub not_noted : EditsAreTold told → (fault : JournalFault) → IsChangeFault (NotesBatch store fresh) (notes (facts_of fresh)) store fault
      → (fault ≢ fault_of.Disk → IsSame store next disk after)
      → LeavesChange (notes (facts_of fresh)) store (told disk) (told after) → BeginsOnce (NotesBatch store fresh) store (told disk) (told after)
      → HasFailed told (notes (facts_of fresh)) store next disk after fault
  not_noted law fault is same leaves begins = law.failed (notes (facts_of fresh)) store next disk after fault (note_fault fault is) same leaves
      (note_begins begins)
