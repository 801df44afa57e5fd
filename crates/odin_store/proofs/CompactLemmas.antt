-- What a compaction makes of a store, and what it leaves of what was kept.
use Rattle.std.proofs.Common.{◌≡◌, ◌⊎◌, inl, inr, ℕ, ◌+◌, ◌-◌, ◌*◌, ◌<◌, ◌≤◌, List, [], ◌∷◌, ◌++◌, length, map, All, length-append, cond, Option, Some, Bool, true, false, IsTrue, IsFalse, nat_lt, refl, sym, ap, subst, ◌∙◌, arith, rules}
use Rattle.std.proofs.lemmas.List.{take_all}
use Rattle.odin_outside.specs.Disk.{Telling, MayLeave, LeavesOnly}
use Rattle.odin_outside.specs.Moments.{no_call, then, weaker}
use Rattle.object_values.specs.declared.views.Value.{Value}
use Rattle.object_values.specs.declared.facts.Fact.{Fact}
use Rattle.object_values.specs.declared.records.NodeRecord.{NodeRecord}
use Rattle.object_values.specs.Texts.{Text, Texts}
use Rattle.validator.specs.Fitting.{FactFits}
use Rattle.meaning_derive.specs.Given.{AreSources}
use Rattle.meaning_graph.specs.Graphs.{Graph}
use Rattle.meaning_graph.specs.Grammar.{GraphText}
use Rattle.meaning_texts.specs.Lists.{IsIn}
use Rattle.meaning_records.specs.Batches.{facts_of}
use Rattle.meaning_records.specs.Images.{Stored}
use Rattle.meaning_records.specs.Laws.{LastWereNoted, LiveTextIsOne, ReadsInOneWay, StandsForOne}
use Rattle.meaning_records.specs.Live.{batch_text, IsLiveText, Live, MayBeSources, live_state}
use Rattle.meaning_records.specs.States.{nothing, ReadsAll}
use Rattle.kept_notes.specs.Facts as said
use Rattle.kept_tables.specs.Live.{LivePayloads, CopiesLive, ReadsAsLive, live_in}
use Rattle.odin_journal.specs.declared.journal.Journal.{Journal}
use Rattle.odin_journal.specs.Moments.{Works}
use Rattle.odin_journal.specs.Rewrites.{copy_size, OldOrNew, LeavesReplaced, Replaces, ReplacesWhere}
use Rattle.odin_journal.specs.Trails as trails
use Rattle.odin_store.specs.declared.store.Store.{Store}
use Rattle.odin_store.specs.Held.{Held, NotedFit, counts, held_of, StandsFor}
use Rattle.odin_store.specs.OnDisk.{held_in, state_in, IsOn}
use Rattle.odin_store.specs.Keeping.{Rests, store_keeping}
use Rattle.odin_store.specs.Opening.{graph_record, EndsFirst, LeavesHeld, LeavesOpening, OpensQuietStore}
use Rattle.odin_store.proofs.OpenLemmas.{opening_keeps_held}
use Rattle.odin_store.specs.Compacting.{IsWasteful, AreLiveRecords, Compacts, HasLive, LeavesCompacted, StaysInMemory, live_of}
use Rattle.odin_store.proofs.GoingLemmas.{nothing_behind}
use Rattle.odin_store.proofs.FitLemmas.{of_some}
use Rattle.odin_store.proofs.RecordTrails.{rests_leave}
use Rattle.odin_store.proofs.StoreLemmas.{counted, stands_in}

-- ---- which store is wasteful

pub may_be_sources : (sources : Texts) → AreSources sources → MayBeSources sources
may_be_sources sources are name text there = let source = are name text there in (source.named, source.short)

-- a number is less than what is left of another without it exactly where twice the number is less than the other
pub little_text : (text end left : ℕ) → left ≡ end - text → IsTrue (nat_lt text left) → 2 * text < end
little_text text end left is less = let below : text < left = search rules in omega arith

pub much_text : (text end left : ℕ) → left ≡ end - text → IsFalse (nat_lt text left) → 2 * text < end → ⊥
much_text text end left is not_less little = let above : left ≤ text = search rules in absurd (omega arith)

-- where the live batch text is not little, the store is not wasteful
pub not_wasteful : (store : Store) (text : ℕ) → LiveTextIsOne → IsLiveText (live_of store) text → (2 * text < store.journal.end → ⊥) → IsWasteful store → ⊥
not_wasteful store text one live much wasteful =
    let same : wasteful.text ≡ text = one (live_of store) text wasteful.text live wasteful.live in
    much (subst (λ n. 2 * n < store.journal.end) same wasteful.little)

-- the batch of the graph lives
live_text_long : (live : Live) (text : ℕ) → IsLiveText live text → 5 + length live.graph ≤ text
live_text_long live text (batches, contents, are, is) =
    let record_long : length (graph_record live.graph) ≡ 5 + length live.graph = omega (arith, length-append live.graph []) in
    let whole : text ≡ length (graph_record live.graph) + batch_text (are.puts ++ are.keeps ++ are.notes) = is ∙ ap batch_text are.batches_are in
    omega arith

-- a store with no record but that of its graph is not wasteful
pub first_not_wasteful : (graph : Text) (store : Store) → store.graph ≡ graph → EndsFirst graph store → IsWasteful store → ⊥
first_not_wasteful graph store same ends wasteful =
    let record_long : length (graph_record graph) ≡ 5 + length graph = omega (arith, length-append graph []) in
    let end : store.journal.end ≤ 64 + 5 + length (graph_record graph) = ends in
    let long : 1048576 ≤ store.journal.end = wasteful.long in
    let live : 5 + length graph ≤ wasteful.text = subst (λ g. 5 + length g ≤ wasteful.text) same (live_text_long (live_of store) wasteful.text wasteful.live) in
    let little : 2 * wasteful.text < store.journal.end = wasteful.little in
    absurd (omega arith)

-- ---- the records

-- the last of each node fit where all that was noted does
live_fit : LastWereNoted → (disk : Telling) (store : Store) (before : List (List ℕ)) (graph : Option Text) → IsOn disk store before graph
    → (contents : List Value) (records : List (List ℕ)) → AreLiveRecords store contents records → (g : Graph) → GraphText store.graph g
    → All (FactFits g) (facts_of (live_of store).records)
live_fit law disk store before graph on contents records live g spelled =
    let noted : All (λ fact. IsIn fact on.noted) store.kept.tables.records = law before (state_in store graph on.noted) on.read in
    let fit : All (FactFits g) on.noted = on.fit g spelled (counted store.graph graph on.last) in
    subst (All (FactFits g)) (sym live.noted) (of_some (FactFits g) on.noted store.kept.tables.records fit noted)

-- the live records read as what the store holds then
live_read : (store next : Store) (records : List (List ℕ)) → AreLiveRecords store next.kept.tables.contents records → held_in next ≡ held_in store
    → ReadsAll nothing records (state_in next (Some store.graph) (facts_of (live_of store).records))
live_read store next records live holds =
    let noted : facts_of (live_of store).records ≡ next.kept.tables.records = live.noted ∙ sym (ap (λ (h : Held). h.records) holds) in
    let same : live_state (live_of store) next.kept.tables.contents ≡ state_in next (Some store.graph) (facts_of (live_of store).records) = λ i. record {
      tables = record { contents = next.kept.tables.contents; calls = (sym holds i).calls; records = noted i };
      sources = (sym holds i).sources;
      graph = Some store.graph;
      noted = facts_of (live_of store).records;
    } in
    subst (ReadsAll nothing records) same live.read

compacts_on : LastWereNoted → (store next : Store) (old new : Telling) (records : List (List ℕ)) → AreLiveRecords store next.kept.tables.contents records
    → held_in next ≡ held_in store → next.graph ≡ store.graph → Replaces store.journal next.journal records old new
    → (before : List (List ℕ)) (graph : Option Text) → IsOn old store before graph → IsOn new next records graph
compacts_on law store next old new records live holds same replaces before graph on =
    let facts = facts_of (live_of store).records in
    record {
      noted = facts;
      rests = replaces.rests before on.rests;
      read = subst (λ g. ReadsAll nothing records (state_in next g facts)) (sym on.last) (live_read store next records live holds);
      last = on.last ∙ ap Some (sym same);
      fit = subst (λ t. (g : Graph) → GraphText t g → counts t graph ≡ true → All (FactFits g) facts) (sym same)
          (λ g spelled counts. live_fit law old store before graph on next.kept.tables.contents records live g spelled);
    }

-- what is live of records says what they say
facts_fresh : (contents : List Value) (records : List NodeRecord) → facts_of (map (said.fresh_of contents) records) ≡ said.facts_of contents records
facts_fresh contents [] = refl
facts_fresh contents (r ∷ records) = ap (λ l. said.fact_of contents r ∷ l) (facts_fresh contents records)

-- a copy of what lives has the live records
pub copy_lives : (store : Store) (graph : Text) (copy : LivePayloads)
    → store.kept.tables.records ≡ said.facts_of store.kept.tables.contents store.kept.records.records → graph ≡ store.graph
    → CopiesLive (live_in graph store.sources.texts store.kept) copy → ReadsAsLive (live_in graph store.sources.texts store.kept) copy
    → AreLiveRecords store copy.contents copy.payloads
copy_lives store graph copy says same lives reads =
    let own : CopiesLive (live_of store) copy = subst (λ g. CopiesLive (live_in g store.sources.texts store.kept) copy) same lives in
    record {
      batches = own.batches;
      live = own.live;
      noted = facts_fresh store.kept.tables.contents store.kept.records.records ∙ sym says;
      spelled = own.payloads;
      read = subst (λ g. ReadsAsLive (live_in g store.sources.texts store.kept) copy) same reads;
    }

pub replaced : (journal next : Journal) (records : List (List ℕ)) (old new : Telling) (done : Bool) → IsTrue done → ReplacesWhere journal next records old new done → Replaces journal next records old new
replaced journal next records old new true done replaces = replaces
replaced journal next records old new false done replaces = let no : ⊥ = cc in absurd no

-- the store with the contents of a copy, over a journal whose records were replaced
pub compacts : LastWereNoted → (store next : Store) (old new : Telling) (records : List (List ℕ)) (contents : List Value)
    → AreLiveRecords store contents records → next.kept.tables.contents ≡ contents → held_in next ≡ held_in store → next.graph ≡ store.graph
    → next.epoch ≡ store.epoch → StaysInMemory store.kept next.kept → Replaces store.journal next.journal records old new
    → Works (copy_size records + 9) 8 old new → Compacts store next old new
compacts law store next old new records contents live same holds graph epoch memory replaces works =
    let own : AreLiveRecords store next.kept.tables.contents records = subst (λ l. AreLiveRecords store l records) (sym same) live in
    record {
      records = records;
      live = own;
      holds = holds;
      graph = graph;
      epoch = epoch;
      memory = memory;
      replaces = replaces;
      on = compacts_on law store next old new records own holds graph replaces;
      works = works;
    }

-- ---- what a crash leaves

pub replaced_leaves : (store : Store) (contents : List Value) (records : List (List ℕ)) (old new : Telling) → AreLiveRecords store contents records
    → LeavesReplaced store.journal records old new → LeavesCompacted store old new
replaced_leaves store contents records old new live leaves before graph on =
    weaker old new (OldOrNew before records) (λ image. Stored before image ⊎ HasLive store image) (leaves before on.rests) each
  where
    each : (image : List ℕ) → OldOrNew before records image → Stored before image ⊎ HasLive store image
    each image (inl stored) = inl stored
    each image (inr stored) = inr (records, contents, live, stored)

pub nothing_compacted : (store : Store) (disk : Telling) → ((image : List ℕ) → IsTrue disk.follows → disk.left_since disk.moment image → MayLeave disk image) → LeavesCompacted store disk disk
nothing_compacted store disk only_now before graph on =
    let there : (image : List ℕ) → MayLeave disk image → Stored before image ⊎ HasLive store image =
    λ image left. inl (rests_leave disk store before on.rests image left) in
    no_call disk (λ image. Stored before image ⊎ HasLive store image) (λ image left. there image (only_now image on.rests.rests.quiet.follows left)) there

-- what live records read as is what is held
live_held : (store : Store) (contents : List Value) (records : List (List ℕ)) → AreLiveRecords store contents records
    → held_of store.graph (live_state (live_of store) contents) ≡ held_in store
live_held store contents records live =
    let noted : cond (counts store.graph (Some store.graph)) (facts_of (live_of store).records) [] ≡ store.kept.tables.records =
    ap (λ (b : Bool). cond b (facts_of (live_of store).records) []) (counted store.graph (Some store.graph) refl) ∙ live.noted in
    ap (λ (l : List Fact). record { text = store.graph; sources = store.sources.texts; calls = store.kept.tables.calls; records = l }) noted

-- each of these images stands for what the store holds
pub held_leaves : LastWereNoted → (store : Store) (old new : Telling) (held : Held) → LeavesCompacted store old new → Rests old store held
    → LeavesOnly old new (StandsFor held)
held_leaves law store old new held leaves rests =
    weaker old new (λ image. Stored rests.records image ⊎ HasLive store image) (StandsFor held) (leaves rests.records rests.graph rests.on) each
  where
    each : (image : List ℕ) → Stored rests.records image ⊎ HasLive store image → StandsFor held image
    each image (inl stored) = subst (λ h. StandsFor h image) (sym rests.holds) (stands_in store image rests.records rests.graph rests.on.noted stored rests.on.read rests.on.last rests.on.fit)
    each image (inr (records, contents, live, stored)) =
        let state = live_state (live_of store) contents in
        let fit : NotedFit store.graph state = λ g spelled counts. live_fit law old store rests.records rests.graph rests.on contents records live g spelled in
        subst (λ h. StandsFor h image) (sym rests.holds) (
          state,
          record { records = records; stored = stored; read = live.read },
          fit,
          live_held store contents records live,
        )

-- ---- trails

prefix_all : (first : Held) (least : ℕ) (before : List _) (image : List ℕ) → least ≤ length before → StandsFor (trails.after_changes store_keeping before first) image → trails.IsPrefix store_keeping first least before image
prefix_all first least before image le stands = record {
  k = length before;
  at_least = le;
  at_most = omega arith;
  stands = subst (λ l. StandsFor (trails.after_changes store_keeping l first) image) (sym (take_all (length before) before (omega arith))) stands;
}

module _ (law : LastWereNoted) {Disk : Type 0} (told : Disk → Telling) where
  compaction_crash : (store : Store) (old new : Disk) → LeavesCompacted store (told old) (told new) → (first : Held) (start : Disk) (before : List _) → trails.Trail store_keeping first (told start) before store (told old)
      → LeavesOnly (told start) (told new) (trails.IsPrefix store_keeping first 0 before)
  compaction_crash store old new leaves first start before trail =
      let held = trails.after_changes store_keeping before first in
      then (told start) (told old) (told new) (trails.IsPrefix store_keeping first 0 before) (StandsFor held) (trails.IsPrefix store_keeping first 0 before)
      trail.crash (held_leaves law store (told old) (told new) held leaves trail.rests) (λ image some. some) (λ image stands. prefix_all first 0 before image (omega arith) stands)

  pub compaction_goes : (store next : Store) (old new : Disk) → Compacts store next (told old) (told new) → LeavesCompacted store (told old) (told new) → trails.ExtendsTrail store_keeping told [] old store new next
  compaction_goes store next old new compacts leaves first start before trail =
      let rests = trail.rests in
      subst (λ l. trails.Trail store_keeping first (told start) l next (told new)) (sym (nothing_behind before)) (record {
        rests = record {
          records = compacts.records;
          graph = rests.graph;
          on = compacts.on rests.records rests.graph rests.on;
          holds = rests.holds ∙ sym compacts.holds;
        };
        crash = compaction_crash store old new leaves first start before trail;
      })

  pub compaction_stops : (store : Store) (old new : Disk) → LeavesCompacted store (told old) (told new) → trails.StopsWithin store_keeping told [] old store new
  compaction_stops store old new leaves first start before trail =
      let held = trails.after_changes store_keeping before first in
      let now = held_leaves law store (told old) (told new) held leaves trail.rests in
      subst (λ l. trails.LeavesPrefix store_keeping first (told start) before l (told new)) (sym (nothing_behind before)) (record {
        crash = compaction_crash store old new leaves first start before trail;
        durable = λ image left. prefix_all first (length before) before image (omega arith) (now.now image left);
      })

  -- since the opening
  pub compaction_opened : ReadsInOneWay → StandsForOne → (graph : Text) (store : Store) (old mid new : Disk) → length graph ≤ 1048576 → OpensQuietStore graph (told old) (told mid) store → LeavesOpening graph (told old) (told mid)
      → LeavesCompacted store (told mid) (told new) → LeavesHeld graph (told old) (told new)
  compaction_opened reads stands graph store old mid new short opens crash leaves state quiet stood fit =
      let opened = opens quiet in
      let held = held_of graph state in
      let same : state ≡ opened.state = stands.one (told old).seen opened.state state (record { records = opened.records; stored = opened.stored; read = opened.read }) stood in
      let rests : Rests (told mid) store held = record {
        records = opened.records ++ opened.opening;
        graph = Some graph;
        on = opened.on;
        holds = ap (held_of graph) same ∙ sym opened.holds;
      } in
      then (told old) (told mid) (told new) (StandsFor held) (StandsFor held) (StandsFor held)
      (opening_keeps_held reads graph (told old) (told mid) short crash state quiet stood fit) (held_leaves law store (told mid) (told new) held leaves rests) (λ image left. left) (λ image left. left)
