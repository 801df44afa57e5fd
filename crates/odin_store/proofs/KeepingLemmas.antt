-- A store keeps changes on a disk, one after another.
use Rattle.std.proofs.Common.{◌≡◌, ◌⊎◌, inl, inr, true, All, List, [], ◌∷◌, ◌++◌, ℕ, Option, Some, refl, sym, ap, subst, ◌∙◌, arith}
use Rattle.odin_outside.specs.Disk.{Telling, MayLeave, LeavesOnly, IsQuiet}
use Rattle.odin_outside.specs.Moments.{weaker}
use Rattle.odin_journal.specs.Trails as trails
use Rattle.odin_journal.specs.TrailLemmas.{opened_trail}
use Rattle.object_values.specs.declared.facts.Fact.{Fact}
use Rattle.object_values.specs.Texts.{Text, Texts}
use Rattle.meaning_graph.specs.Graphs.{Graph}
use Rattle.meaning_graph.specs.Grammar.{GraphText}
use Rattle.validator.specs.Fitting.{FactFits}
use Rattle.odin_journal.specs.declared.journal.Journal.{Journal}
use Rattle.odin_journal.specs.Rest.{RestsOn}
use Rattle.object_values.specs.declared.items.Item.{Item}
use Rattle.meaning_records.specs.Tables.{Tables}
use Rattle.meaning_records.specs.Laws.{ReadsInOneWay}
use Rattle.meaning_records.specs.States.{State, nothing, ReadsAll, spell_batch}
use Rattle.odin_store.specs.declared.store.Store.{Store}
use Rattle.odin_store.specs.Held.{Held, counts, NotedFit, Change, apply, StandsFor}
use Rattle.odin_store.specs.OnDisk.{held_in, state_in, IsOn, LeavesChange, Appends, HoldsOn, IsSame}
use Rattle.odin_store.specs.Opening.{graph_record, IsOpening, OpensStore, HaveOther, HasOpening, LeavesOpening}
use Rattle.odin_store.specs.Written.{record_keeping}
use Rattle.odin_store.specs.Keeping.{Rests, store_keeping}
use Rattle.odin_store.proofs.LoadLemmas.{read_once}
use Rattle.odin_store.proofs.StoreLemmas.{held_left, held_with, stands_in}
use Rattle.odin_store.proofs.RecordTrails.{after_records}

pub stops_in : (change : Change) (store : Store) (old new : Telling) → LeavesChange change store old new → trails.StopsIn store_keeping change old store new
stops_in change store old new leaves held rests =
    subst (λ h. LeavesOnly old new (λ image. StandsFor h image ⊎ StandsFor (apply change h) image)) (sym rests.holds) (leaves rests.records rests.graph rests.on)

pub kept_on : (items : List Item) (change : Change) (store next : Store) (old new : Telling) → held_in next ≡ apply change (held_in store) → Appends items store next old new → LeavesChange change store old new
    → trails.KeepsChange store_keeping change old store new next
kept_on items change store next old new holds appends leaves = record {
  rests = λ held rests. record {
    records = rests.records ++ spell_batch items ∷ [];
    graph = rests.graph;
    on = appends.on rests.records rests.graph rests.on;
    holds = ap (apply change) rests.holds ∙ sym holds;
  };
  crash = stops_in change store old new leaves;
}

-- a store that is as it was rests as it did
abbrev pub same_on : (disk : Telling) (store next : Store) (records : List (List ℕ)) (graph : Option Text) → HoldsOn store next → IsOn disk store records graph → IsOn disk next records graph
same_on disk store next records graph same on = record {
  noted = on.noted;
  rests = subst (λ (j : Journal). RestsOn disk records j) (sym same.journal) on.rests;
  read =
      subst (λ (t : Tables). ReadsAll nothing records (record { tables = t; sources = next.sources.texts; graph = graph; noted = on.noted })) (sym same.tables)
      (subst (λ (s : Texts). ReadsAll nothing records (record { tables = store.kept.tables; sources = s; graph = graph; noted = on.noted })) (sym same.sources) on.read);
  last = on.last ∙ ap Some (sym same.graph);
  fit = subst (λ t. (g : Graph) → GraphText t g → counts t graph ≡ true → All (FactFits g) on.noted) (sym same.graph) on.fit;
}

pub same_state : (store next : Store) (graph : Option Text) (noted : List Fact) → HoldsOn store next → state_in next graph noted ≡ state_in store graph noted
same_state store next graph noted same =
    ap (λ (t : Tables). record { tables = t; sources = next.sources.texts; graph = graph; noted = noted }) same.tables
    ∙ ap (λ (s : Texts). record { tables = store.kept.tables; sources = s; graph = graph; noted = noted }) same.sources

pub same_held : (store next : Store) → HoldsOn store next → held_in next ≡ held_in store
same_held store next same =
    ap (λ (t : Tables). held_with next.graph t next.sources.texts) same.tables
    ∙ ap (held_with next.graph store.kept.tables) same.sources ∙ ap (λ t. held_with t store.kept.tables store.sources.texts) same.graph

pub same_rests : {Disk : Type 0} (told : Disk → Telling) (store next : Store) (disk after : Disk) (held : Held) → IsSame store next disk after → Rests (told disk) store held → Rests (told after) next held
same_rests told store next disk after held same rests =
    subst (λ d. Rests (told d) next held) (sym same.disk_is)
    (record { records = rests.records; graph = rests.graph; on = same_on (told disk) store next rests.records rests.graph same.store_is rests.on; holds = rests.holds ∙ sym (same_held store next same.store_is) })

pub left_durably : (disk : Telling) (store : Store) (held : Held) → Rests disk store held → (image : List ℕ) → MayLeave disk image → StandsFor held image
left_durably disk store held rests image left = subst (λ h. StandsFor h image) (sym rests.holds) (held_left disk store rests.records rests.graph rests.on image left)

-- ---- an opened store

-- a store that is as it was opened is opened so
pub opens_same : (graph : Text) (old new : Telling) (store next : Store) → HoldsOn store next → OpensStore graph old new store → OpensStore graph old new next
opens_same graph old new store next same opens = record {
  records = opens.records;
  state = opens.state;
  stored = opens.stored;
  read = opens.read;
  fit = opens.fit;
  holds = same_held store next same ∙ opens.holds;
  opening = opens.opening;
  opens = opens.opens;
  on = same_on new store next (opens.records ++ opens.opening) (Some graph) same opens.on;
  made = opens.made;
  is_made = opens.is_made;
  gate = opens.gate;
  whole = opens.whole;
  end = ap (λ (j : Journal). j.end) same.journal ∙ opens.end;
  bytes = opens.bytes;
  works = opens.works;
}

opened_rests : (graph : Text) (store : Store) (old new : Telling) → OpensStore graph old new store → Rests new store (held_in store)
opened_rests graph store old new opens = record { records = opens.records ++ opens.opening; graph = Some graph; on = opens.on; holds = refl }

-- what the last graph is has no other batch due
none_due : ReadsInOneWay → (graph : Text) (records : List (List ℕ)) (state : State) → ReadsAll nothing records state → state.graph ≡ Some graph → HaveOther graph records → ⊥
none_due law graph records state read known (found, reads, other) = other (ap (λ (s : State). s.graph) (read_once law records nothing state found read reads) ∙ known)

module _ (law : ReadsInOneWay) (graph : Text) (store : Store) (old new : Telling) (quiet : IsQuiet old) (opens : OpensStore graph old new store) (leaves : LeavesOpening graph old new) where
  -- an image that a crash within the opening may leave stands for what the store holds
  opening_holds : (opening : List (List ℕ)) → IsOpening graph opens.state.graph opening → (noted : List Fact) → ReadsAll nothing (opens.records ++ opening) (state_in store (Some graph) noted) → NotedFit store.graph (state_in store (Some graph) noted) → (image : List ℕ) → HasOpening graph opens.records image
      → StandsFor (held_in store) image
  opening_holds opening opened noted read fit image (inl there) =
      subst (λ h. StandsFor h image) (sym opens.holds) (opens.state, record { records = opens.records; stored = there; read = opens.read }, opens.fit, refl)
  opening_holds opening (inl known) noted read fit image (inr added) = absurd (none_due law graph opens.records opens.state opens.read known.0 added.0)
  opening_holds opening (inr due) noted read fit image (inr added) =
      let reads = subst (λ l. ReadsAll nothing (opens.records ++ l) (state_in store (Some graph) noted)) due.1 read in
      stands_in store image (opens.records ++ graph_record graph ∷ []) (Some graph) noted added.1 reads opens.on.last fit

  pub opened : trails.Trail store_keeping (held_in store) old [] store new
  opened =
      opened_trail store_keeping (held_in store) old new store (opened_rests graph store old new opens)
      (weaker old new (HasOpening graph opens.records) (StandsFor (held_in store)) (leaves opens.records quiet opens.stored) (opening_holds opens.opening opens.opens opens.on.noted opens.on.read opens.on.fit))

  -- it has the records, and the batch of the opening after them or not
  opening_first : (opening : List (List ℕ)) → IsOpening graph opens.state.graph opening → (image : List ℕ) → HasOpening graph opens.records image → trails.IsPrefix record_keeping opens.records 0 opening image
  opening_first opening opened image (inl there) = record { k = 0; at_least = omega arith; at_most = omega arith; stands = there }
  opening_first opening (inl known) image (inr added) = absurd (none_due law graph opens.records opens.state opens.read known.0 added.0)
  opening_first opening (inr due) image (inr added) =
      subst (λ l. trails.IsPrefix record_keeping opens.records 0 l image) (sym due.1) (record { k = 1; at_least = omega arith; at_most = omega arith; stands = added.1 })

  pub opened_records : trails.Trail record_keeping opens.records old opens.opening store new
  opened_records = record {
    rests = subst (λ r. RestsOn new r store.journal) (sym (after_records opens.opening opens.records)) opens.on.rests;
    crash = weaker old new (HasOpening graph opens.records) (trails.IsPrefix record_keeping opens.records 0 opens.opening) (leaves opens.records quiet opens.stored) (opening_first opens.opening opens.opens);
  }
