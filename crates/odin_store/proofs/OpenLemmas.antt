-- The opening of a store over the opening of its journal.
use Rattle.std.specs.Prelude.{⊤}
use Rattle.std.proofs.Common.{◌≡◌, ◌≢◌, ◌⊎◌, inl, inr, ℕ, ◌+◌, ◌-◌, ◌*◌, ◌<◌, ◌≤◌, List, [], ◌∷◌, ◌++◌, length, length-append, All, Bool, true, false, IsTrue, IsFalse, cond, Option, Some, None, Err, refl, sym, ap, subst, ◌∙◌, arith}
use Rattle.std.specs.Str.{bytes_eq}
use Rattle.std.proofs.lemmas.List.Elements.{All-nil, All-push}
use Rattle.std.proofs.lemmas.Slice.Eq.{bytes_eq-Decides}
use Rattle.odin_outside.specs.Disk.{Telling, IsQuiet}
use Rattle.odin_outside.specs.Moments.{then, weaker}
use Rattle.object_values.specs.declared.facts.Fact.{Fact}
use Rattle.object_values.specs.Texts.{Text}
use Rattle.meaning_graph.specs.Graphs.{Graph}
use Rattle.meaning_graph.specs.Grammar.{GraphText}
use Rattle.meaning_graph.specs.TextLaws.{GraphIsOne}
use Rattle.meaning_records.specs.Front.{start_of, new_store}
use Rattle.meaning_records.specs.Images.{gate_after, IsNew, AreRecords, IsStore, Stored}
use Rattle.meaning_records.specs.ImageLemmas.{new_or_written, no_records, one_stored}
use Rattle.odin_journal.specs.Faults as journal
use Rattle.odin_journal.specs.WorkLemmas.{more_work, add_work}
use Rattle.odin_journal.specs.Moments.{Untouched, Works}
use Rattle.odin_journal.specs.Rest.{AtRest, BeforeOrAfter, OpensJournal, OnlyReads, KeepsRecords, AddsRecord, KeepsOrAdds, RestsOn, RestsOnMore}
use Rattle.odin_journal.specs.Starts.{IsStartOf}
use Rattle.odin_journal.specs.declared.journal.Journal.{Journal}
use Rattle.odin_journal.specs.declared.fault.JournalFault.{JournalFault}
use Rattle.odin_journal.specs.declared.fault.JournalFault.TheVariants as fault
use Rattle.object_values.specs.declared.items.Item.TheVariants.{Graph as GraphItem}
use Rattle.meaning_records.specs.Records.{item}
use Rattle.meaning_records.specs.Batches.{graph_batch}
use Rattle.meaning_records.specs.Tables.{without_records}
use Rattle.meaning_records.specs.States.{State, nothing, TakesAll, Reads, ReadsAll}
use Rattle.meaning_records.specs.Laws.{ReadsInOneWay}
use Rattle.meaning_records.specs.Stands.{gate_behind}
use Rattle.validator.specs.Fitting.{FactFits}
use Rattle.odin_store.specs.declared.store.Store.{Store}
use Rattle.odin_store.specs.Held.{counts, held_of, NotedFit, StandsFor}
use Rattle.odin_store.specs.Offsets.{AreGates, FirstUnfit, IsNotFor}
use Rattle.odin_store.specs.OnDisk.{held_in, state_in, IsOn}
use Rattle.odin_store.specs.Written.{written_in, StoreIsMade}
use Rattle.odin_store.specs.Loading.{records_size, RecordBreaksAt, RecordUnfitAt, TellsGraph, IsRecordLoadFault}
use Rattle.odin_store.specs.Opening as store
use Rattle.odin_store.specs.Opening.{graph_record, HaveOther, HasOpening, LeavesOpening, LeavesHeld, IsMadeNew, HasNoRoomForGraph, IsStoreOpenFault}
use Rattle.odin_store.proofs.LoadLemmas.{reads_on, read_once}
use Rattle.odin_store.proofs.OffsetLemmas.{one_batch}
use Rattle.odin_store.proofs.StoreLemmas.{held_is}
use Rattle.odin_store.proofs.WrittenLemmas.{works_wider}

-- ---- a graph

-- what is kept once this graph was added
abbrev pub with_graph : Text → State → State
with_graph graph state = record { tables = without_records state.tables; sources = state.sources; graph = Some graph; noted = [] }

graph_fits : (graph : Text) → length graph ≤ 1048576 → All item.fits (graph_batch graph)
graph_fits graph short =
    let fits : item.fits (GraphItem graph) = omega arith in
    All-push item.fits [] (GraphItem graph) (All-nil item.fits) fits

pub graph_reads : (graph : Text) (state : State) → length graph ≤ 1048576 → Reads state (graph_record graph) (with_graph graph state)
graph_reads graph state short = record {
  items = graph_batch graph;
  some = λ none. (let no : ⊥ = cc in no);
  fit = graph_fits graph short;
  spelled = refl;
  taken = (with_graph graph state, record { loads = refl; edits = refl; graph = refl; ground = tt; noted = refl }, refl);
}

-- after it nothing is noted
one_noted : (graph : Text) (old new : State) → length graph ≤ 1048576 → Reads old (graph_record graph) new → new.noted ≡ []
one_noted graph old new short reads =
    let items : graph_batch graph ≡ reads.items = one_batch (graph_batch graph) reads.items (graph_fits graph short) reads.fit reads.spelled in
    let taken : TakesAll old (graph_batch graph) new = subst (λ l. TakesAll old l new) (sym items) reads.taken in
    ap (λ (s : State). s.noted) taken.2 ∙ taken.1.noted

added_noted : (graph : Text) (records : List (List ℕ)) (first new : State) → length graph ≤ 1048576 → ReadsAll first (records ++ graph_record graph ∷ []) new → new.noted ≡ []
added_noted graph [] first new short read = ap (λ (s : State). s.noted) read.2 ∙ one_noted graph first read.0 short read.1
added_noted graph (payload ∷ records) first new short read = added_noted graph records read.0 new short read.2

pub first_noted : (graph : Text) (old new : Telling) (store_ : Store) → length graph ≤ 1048576 → (opens : store.OpensStore graph old new store_) → opens.opening ≡ graph_record graph ∷ [] → opens.on.noted ≡ []
first_noted graph old new store_ short opens is =
    added_noted graph opens.records nothing (state_in store_ (Some graph) opens.on.noted) short (subst (λ l. ReadsAll nothing (opens.records ++ l) (state_in store_ (Some graph) opens.on.noted)) is opens.on.read)

-- ---- gates

whole_size : (image : List ℕ) (gate end : ℕ) (records : List (List ℕ)) → AreRecords image gate records end → end ≡ gate + records_size records
whole_size image gate end [] whole = omega arith
whole_size image gate end (payload ∷ records) whole = omega (arith, whole_size image (gate_after gate payload) end records whole.1)

-- ---- what a crash leaves

-- the opening of the journal leaves the records
pub records_stay : (graph : Text) (old new : Telling) → KeepsRecords old new → LeavesOpening graph old new
records_stay graph old new keeps records quiet stored = weaker old new (Stored records) (HasOpening graph records) (keeps records quiet stored) (λ image there. inl there)

-- and the adding of a graph after it leaves them with it or without
pub graph_added : (graph : Text) (old mid new : Telling) (records : List (List ℕ)) (end : ℕ) (state : State) → ReadsAll nothing records state → state.graph ≢ Some graph → KeepsRecords old mid → (IsQuiet old → OpensJournal old mid records end)
    → KeepsOrAdds end (graph_record graph) mid new → LeavesOpening graph old new
graph_added graph old mid new records end state read other keeps opens adds found quiet stored =
    let opened = opens quiet in
    let same : records ≡ found = one_stored old.seen found records stored opened.stored in
    let rests : AtRest mid found end = subst (λ r. AtRest mid r end) same opened.rests in
    let due : HaveOther graph found = (state, subst (λ r. ReadsAll nothing r state) same read, other) in
    then old mid new (Stored found) (BeforeOrAfter found (graph_record graph)) (HasOpening graph found) (keeps found quiet stored) (adds found rests) (λ image there. inl there) (each found due)
  where
    each : (found : List (List ℕ)) → HaveOther graph found → (image : List ℕ) → BeforeOrAfter found (graph_record graph) image → HasOpening graph found image
    each found due image (inl there) = inl there
    each found due image (inr there) = inr (due, there)

-- nothing counts after another graph
not_counted : (text : Text) (last : Option Text) → last ≢ Some text → counts text last ≡ false
not_counted text None other = refl
not_counted text (Some last) other = by (bytes_eq last text) refl
  where
    by : (b : Bool) → bytes_eq last text ≡ b → bytes_eq last text ≡ false
    by true equal = absurd (other (ap Some ((bytes_eq-Decides last text).0 equal)))
    by false differ = differ

-- so with the graph just that is held which was held for it
same_with_graph : (graph : Text) (state : State) → state.graph ≢ Some graph → held_of graph (with_graph graph state) ≡ held_of graph state
same_with_graph graph state other =
    let none : cond (counts graph state.graph) state.tables.records [] ≡ [] = ap (λ (b : Bool). cond b state.tables.records []) (not_counted graph state.graph other) in
    ap (λ l. record { text = graph; sources = state.sources; calls = state.tables.calls; records = l }) (always (counts graph (Some graph)) ∙ sym none)
  where
    always : (b : Bool) → ◌≡◌ {A = List Fact} (cond b [] []) []
    always true = refl
    always false = refl

-- what the file stood for stays
pub opening_keeps_held : ReadsInOneWay → (graph : Text) (old new : Telling) → length graph ≤ 1048576 → LeavesOpening graph old new → LeavesHeld graph old new
opening_keeps_held law graph old new short leaves state quiet stands fit =
    weaker old new (HasOpening graph stands.records) (StandsFor (held_of graph state)) (leaves stands.records quiet stands.stored) each
  where
    each : (image : List ℕ) → HasOpening graph stands.records image → StandsFor (held_of graph state) image
    each image (inl there) = (state, record { records = stands.records; stored = there; read = stands.read }, fit, refl)
    each image (inr added) =
        let after : State = with_graph graph state in
        let found = added.0 in
        let same : found.0 ≡ state = read_once law stands.records nothing state found.0 stands.read found.1 in
        let other : state.graph ≢ Some graph = λ is. found.2 (ap (λ (s : State). s.graph) same ∙ is) in
        let reads = reads_on stands.records (graph_record graph) nothing state after stands.read (graph_reads graph state short) in (
          after,
          record { records = stands.records ++ graph_record graph ∷ []; stored = added.1; read = reads },
          λ g spelled counted. All-nil (FactFits g),
          same_with_graph graph state other,
        )

-- an opening of the journal wrote the front of a new file at most
made_at_most : (old mid : Telling) (records : List (List ℕ)) (end : ℕ) → OnlyReads old mid → (IsQuiet old → OpensJournal old mid records end) → IsQuiet old → Untouched old mid ⊎ IsMadeNew old mid
made_at_most old mid records end reads opens quiet = let opened = opens quiet in by opened opened.stored
  where
    by : OpensJournal old mid records end → Stored records old.seen → Untouched old mid ⊎ IsMadeNew old mid
    by opened (inl new) = inr (record { is_new = new.0; quiet = opened.rests.quiet; bytes = opened.made new.0 })
    by opened (inr store) = inl (reads quiet (λ is_new. new_or_written old.seen is_new store.1.written))

pub memory_fault : (graph : Text) (old mid : Telling) (records : List (List ℕ)) (end : ℕ) → OnlyReads old mid → (IsQuiet old → OpensJournal old mid records end) → IsStoreOpenFault graph old mid fault.Memory
memory_fault graph old mid records end reads opens = made_at_most old mid records end reads opens

-- ---- faults

pub journal_fault : (graph : Text) (old new : Telling) (e : JournalFault) → OnlyReads old new → journal.IsOpenFault old new e → IsStoreOpenFault graph old new e
journal_fault graph old new fault.Disk reads told = tt
journal_fault graph old new (fault.NotOurs at) reads told =
    λ quiet. (reads quiet (λ is_new. no_records old.seen at [] (told quiet) (inl (is_new, refl))), inl (told quiet))
journal_fault graph old new (fault.Full end count) reads told = absurd told
journal_fault graph old new fault.Memory reads told = λ quiet. inl (told quiet)

-- a file that holds records isn't new
written : (old mid : Telling) (records : List (List ℕ)) (end : ℕ) → OpensJournal old mid records end → (IsNew old.seen → ⊥) → OnlyReads old mid → IsQuiet old → IsStore old.seen records end
written old mid records end opened none reads quiet = subst (λ image. IsStore image records end) (reads quiet none).same opened.rests.store

not_empty : (before : List (List ℕ)) (payload : List ℕ) (rest : List (List ℕ)) → before ++ payload ∷ rest ≡ [] → ⊥
not_empty [] payload rest none = let no : ⊥ = cc in no
not_empty (first ∷ before) payload rest none = let no : ⊥ = cc in no

none_new : (image : List ℕ) (records : List (List ℕ)) → Stored records image → (records ≡ [] → ⊥) → IsNew image → ⊥
none_new image records (inl new) some is_new = some new.1
none_new image records (inr store) some is_new = new_or_written image is_new store.1.written

-- something was noted, so there are records
noted_some : (g : Graph) (before rest : List (List ℕ)) (state : State) (gates : List ℕ) (at : ℕ) → ReadsAll nothing before state → FirstUnfit g state.noted gates at → before ++ rest ≡ [] → ⊥
noted_some g [] rest state gates at read first none = subst (λ (s : State). FirstUnfit g s.noted gates at) read first
noted_some g (payload ∷ before) rest state gates at read first none = let no : ⊥ = cc in no

-- the first gate is where the records start
start_there : (image : List ℕ) (records : List (List ℕ)) (end start : ℕ) → AreRecords image (start_of image) records end → start ≡ end - records_size records → start ≡ start_of image
start_there image records end start whole is = let size = whole_size image (start_of image) end records whole in omega (arith, is, size)

-- what counts fits in the words of the text
pub all_fit : GraphIsOne → (g : Graph) (text : Text) (state : State) → GraphText text g → (counts text state.graph ≡ true → All (FactFits g) state.noted) → NotedFit text state
all_fit graphs g text state spelled fit other reads counted = subst (λ x. All (FactFits x) state.noted) (sym (graphs text g other spelled reads)) (fit counted)

module _ (graphs : GraphIsOne) (g : Graph) (graph : Text) (spelled : GraphText graph g) (old mid : Telling) (records : List (List ℕ)) (end start : ℕ) (reads : OnlyReads old mid) (opens : IsQuiet old → OpensJournal old mid records end) (first : start ≡ end - records_size records) where
  bad_record : (at : ℕ) → RecordBreaksAt g graph records start at → IsQuiet old → Untouched old mid × IsNotFor graph old.seen at
  bad_record at breaks quiet =
      let opened = opens quiet in
      let none : IsNew old.seen → ⊥ = none_new old.seen records opened.stored (λ empty. not_empty breaks.before breaks.payload breaks.rest (sym breaks.whole ∙ empty)) in
      let there : IsStore old.seen records end = written old mid records end opened none reads quiet in
      let gate : start ≡ start_of old.seen = start_there old.seen records end start there.whole first in (
        reads quiet none,
        inr (inl (
          record {
            before = breaks.before;
            payload = breaks.payload;
            rest = breaks.rest;
            end = end;
            store = subst (λ r. IsStore old.seen r end) breaks.whole there;
            state = breaks.state;
            read = breaks.read;
            unread = breaks.unread;
            place = breaks.place ∙ ap (λ n. gate_behind n breaks.before) gate;
          },
          all_fit graphs g graph breaks.state spelled breaks.fit,
        )),
      )

  unfit_record : (at : ℕ) → RecordUnfitAt g graph records start at → IsQuiet old → Untouched old mid × IsNotFor graph old.seen at
  unfit_record at unfit quiet =
      let opened = opens quiet in
      let none : IsNew old.seen → ⊥ = none_new old.seen records opened.stored (λ empty. noted_some g unfit.before unfit.rest unfit.state unfit.gates at unfit.read unfit.first (sym unfit.whole ∙ empty)) in
      let there : IsStore old.seen records end = written old mid records end opened none reads quiet in
      let gate : start ≡ start_of old.seen = start_there old.seen records end start there.whole first in (
        reads quiet none,
        inr (inr (record {
          before = unfit.before;
          rest = unfit.rest;
          end = end;
          store = subst (λ r. IsStore old.seen r end) unfit.whole there;
          state = unfit.state;
          read = unfit.read;
          stops = unfit.stops;
          graph = g;
          spelled = spelled;
          counted = unfit.counted;
          gates = unfit.gates;
          are = subst (λ n. AreGates n unfit.before [] unfit.gates) gate unfit.are;
          first = unfit.first;
        })),
      )

  pub load_fault : (e : JournalFault) → IsRecordLoadFault g graph records start e → IsStoreOpenFault graph old mid e
  load_fault fault.Disk told = tt
  load_fault (fault.NotOurs at) (inl breaks) = bad_record at breaks
  load_fault (fault.NotOurs at) (inr unfit) = unfit_record at unfit
  load_fault (fault.Full place count) told = absurd told
  load_fault fault.Memory told = memory_fault graph old mid records end reads opens

new_start : (image : List ℕ) → start_of (new_store image) ≡ 64
new_start image = refl

-- no graph is too long for a new store
new_fits : (graph : Text) (old mid : Telling) (records : List (List ℕ)) (end : ℕ) → length graph ≤ 1048576 → OpensJournal old mid records end → IsNew old.seen → records ≡ [] → 1073741824 < end + 6 + length (graph_record graph) → ⊥
new_fits graph old mid records end short opened is_new none over =
    let whole : AreRecords mid.seen (start_of mid.seen) [] end = subst (λ r. AreRecords mid.seen (start_of mid.seen) r end) none opened.rests.store.whole in
    let start : start_of mid.seen ≡ 64 = ap start_of (opened.made is_new) ∙ new_start old.seen in
    let place : end ≡ start_of mid.seen = whole in
    let long : length (graph_record graph) ≡ 5 + length graph = record_long graph in
    omega arith
  where
    record_long : (text : Text) → length (graph_record text) ≡ 5 + length text
    record_long text = omega (arith, length-append text [])

full_graph : (graph : Text) (old mid : Telling) (records : List (List ℕ)) (end at count : ℕ) (state : State) → ReadsAll nothing records state → state.graph ≢ Some graph → length graph ≤ 1048576 → OnlyReads old mid → OpensJournal old mid records end → IsQuiet old
    → (1073741824 < end + 6 + length (graph_record graph)) × (at ≡ end) × (count ≡ length (graph_record graph)) → Stored records old.seen → Untouched old mid × HasNoRoomForGraph graph old at count
full_graph graph old mid records end at count state read other short reads opened quiet told (inl new) = absurd (new_fits graph old mid records end short opened new.0 new.1 told.0)
full_graph graph old mid records end at count state read other short reads opened quiet told (inr store) =
    let none : IsNew old.seen → ⊥ = λ is_new. new_or_written old.seen is_new store.1.written in
    let there : IsStore old.seen records end = written old mid records end opened none reads quiet in (
      reads quiet none,
      record {
        records = records;
        rests = record { quiet = quiet; store = subst (λ e. IsStore old.seen records e) (sym told.1) there };
        state = state;
        read = read;
        other = other;
        count_is = told.2;
        over = subst (λ e. 1073741824 < e + 6 + count) (sym told.1) (subst (λ n. 1073741824 < end + 6 + n) (sym told.2) told.0);
      },
    )

abbrev pub NotDisk : JournalFault → Type 0
NotDisk fault.Disk = ⊥
NotDisk other = ⊤

pub refused_of : (T : Type 0) (e : JournalFault) → NotDisk e → journal.IsRefused {T = T} (Err e)
refused_of T fault.Disk other = absurd other
refused_of T (fault.NotOurs at) other = tt
refused_of T (fault.Full end count) other = tt
refused_of T fault.Memory other = tt

-- the disk is as it was before the adding, but where it failed
pub add_fault : (graph : Text) (old mid new : Telling) (records : List (List ℕ)) (end : ℕ) (e : JournalFault) (state : State) → ReadsAll nothing records state → state.graph ≢ Some graph → length graph ≤ 1048576 → OnlyReads old mid → (IsQuiet old → OpensJournal old mid records end)
    → (NotDisk e → IsStoreOpenFault graph old mid e → IsStoreOpenFault graph old new e)
    → journal.IsAddFault end (length (graph_record graph)) e → IsStoreOpenFault graph old new e
add_fault graph old mid new records end fault.Disk state read other short reads opens same told = tt
add_fault graph old mid new records end (fault.NotOurs at) state read other short reads opens same told = absurd told
add_fault graph old mid new records end (fault.Full at count) state read other short reads opens same told =
    same tt (λ quiet. full_graph graph old mid records end at count state read other short reads (opens quiet) quiet told (opens quiet).stored)
add_fault graph old mid new records end fault.Memory state read other short reads opens same told = same tt (memory_fault graph old mid records end reads opens)

-- ---- an opened store

-- a new file was made a store, and any other was only read
made_of : (old mid : Telling) (records : List (List ℕ)) (end : ℕ) → OnlyReads old mid → IsQuiet old → OpensJournal old mid records end → StoreIsMade old.seen mid.seen
made_of old mid records end reads quiet opened = by opened.stored
  where
    by : Stored records old.seen → StoreIsMade old.seen mid.seen
    by (inl new) = inl (new.0, opened.made new.0)
    by (inr store) = inr (store.1.written, (reads quiet (λ is_new. new_or_written old.seen is_new store.1.written)).same)

abbrev CountedFits : Text → Option Text → List Fact → Type 0
CountedFits text last noted = (g : Graph) → GraphText text g → counts text last ≡ true → All (FactFits g) noted

-- the store keeps the text of the graph
fit_own : (graph : Text) (store_ : Store) (last : Option Text) (noted : List Fact) → store_.graph ≡ graph → CountedFits graph last noted → CountedFits store_.graph last noted
fit_own graph store_ last noted kept fit = subst (λ t. CountedFits t last noted) (sym kept) fit

own_held : (graph : Text) (store_ : Store) (last : Option Text) (noted : List Fact) → store_.graph ≡ graph → last ≡ Some graph → held_in store_ ≡ held_of graph (state_in store_ last noted)
own_held graph store_ last noted kept is = sym (held_is store_ last noted (is ∙ ap Some (sym kept))) ∙ ap (λ t. held_of t (state_in store_ last noted)) kept

-- whether the last graph is this one, in the words of the text
pub has_it : (given text : Text) (last : Option Text) (answer : Bool) → given ≡ text → TellsGraph given last answer → IsTrue answer → last ≡ Some text
has_it given text last true same told answered = told ∙ ap Some same
has_it given text last false same told answered = let no : ⊥ = cc in absurd no

pub has_other : (given text : Text) (last : Option Text) (answer : Bool) → given ≡ text → TellsGraph given last answer → IsFalse answer → last ≢ Some text
has_other given text last false same told answered = λ is. told (is ∙ ap Some (sym same))
has_other given text last true same told answered = let no : ⊥ = cc in absurd no

-- the file's last graph is this one
pub opens_known : (graph : Text) (old mid : Telling) (store_ : Store) (records : List (List ℕ)) (journal_ : Journal) (state : State) → OnlyReads old mid → (IsQuiet old → OpensJournal old mid records journal_.end) → (IsQuiet old → IsStartOf mid.seen journal_.start)
    → ReadsAll nothing records state → NotedFit graph state → Works 66 (16 + 2 * length records) old mid → store_.journal ≡ journal_ → store_.graph ≡ graph → state_in store_ state.graph state.noted ≡ state → state.graph ≡ Some graph → store.OpensQuietStore graph old mid store_
opens_known graph old mid store_ records journal_ state reads opens starts read fit works same kept holds known quiet =
    let opened = opens quiet in
    let fits : NotedFit store_.graph (state_in store_ (Some graph) state.noted) = fit_own graph store_ (Some graph) state.noted kept (subst (λ l. CountedFits graph l state.noted) known fit) in
    record {
      records = records;
      state = state;
      stored = opened.stored;
      read = read;
      fit = fit;
      holds = own_held graph store_ state.graph state.noted kept known ∙ ap (held_of graph) holds;
      opening = [];
      opens = inl (known, refl);
      on = subst (λ r. IsOn mid store_ r (Some graph)) (sym (nothing_behind records)) (record {
        noted = state.noted;
        rests = subst (λ (j : Journal). RestsOn mid records j) (sym same) (record { rests = opened.rests; starts = starts quiet });
        read = subst (λ g. ReadsAll nothing records (state_in store_ g state.noted)) known (subst (λ s. ReadsAll nothing records s) (sym holds) read);
        last = ap Some (sym kept);
        fit = fits;
      });
      made = mid.seen;
      is_made = made_of old mid records journal_.end reads quiet opened;
      gate = journal_.end;
      whole = opened.rests.store;
      end = ap (λ (j : Journal). j.end) same;
      bytes = refl;
      works = works_wider 66 (16 + 2 * length records) [] old mid works;
    }
  where
    nothing_behind : {A : Type 0} (xs : List A) → xs ++ [] ≡ xs
    nothing_behind [] = refl
    nothing_behind (x ∷ xs) = ap (λ l. x ∷ l) (nothing_behind xs)

-- or it was added
pub opens_added : (graph : Text) (old mid new : Telling) (store_ : Store) (records : List (List ℕ)) (journal_ : Journal) (state : State) → length graph ≤ 1048576 → OnlyReads old mid → (IsQuiet old → OpensJournal old mid records journal_.end)
    → (IsQuiet old → IsStartOf mid.seen journal_.start) → ReadsAll nothing records state → NotedFit graph state
    → Works 66 (16 + 2 * length records) old mid → Works (length (graph_record graph) + 6) 4 mid new
    → AddsRecord journal_.end store_.journal.end (graph_record graph) mid new → RestsOnMore journal_ store_.journal (graph_record graph) mid new → store_.graph ≡ graph → state_in store_ (Some graph) [] ≡ with_graph graph state → state.graph ≢ Some graph → store.OpensQuietStore graph old new store_
opens_added graph old mid new store_ records journal_ state short reads opens starts read fit works added adds more kept holds other quiet =
    let opened = opens quiet in
    let after : State = with_graph graph state in
    record {
      records = records;
      state = state;
      stored = opened.stored;
      read = read;
      fit = fit;
      holds = own_held graph store_ (Some graph) [] kept refl ∙ ap (held_of graph) holds ∙ same_with_graph graph state other;
      opening = graph_record graph ∷ [];
      opens = inr (other, refl);
      on = record {
        noted = [];
        rests = more records (record { rests = opened.rests; starts = starts quiet });
        read = subst (λ s. ReadsAll nothing (records ++ graph_record graph ∷ []) s) (sym holds) (reads_on records (graph_record graph) nothing state after read (graph_reads graph state short));
        last = ap Some (sym kept);
        fit = λ g spelled counted. All-nil (FactFits g);
      };
      made = mid.seen;
      is_made = made_of old mid records journal_.end reads quiet opened;
      gate = journal_.end;
      whole = opened.rests.store;
      end = adds.next_is;
      bytes = adds.bytes opened.rests.quiet;
      works =
          more_work (66 + (length (graph_record graph) + 6)) (16 + 2 * length records + 4) (66 + written_in (graph_record graph ∷ [])) (16 + 2 * length records + 4 * length (graph_record graph ∷ [])) old.work new.work (omega arith) (omega arith)
          (add_work 66 (16 + 2 * length records) (length (graph_record graph) + 6) 4 old.work mid.work new.work works added);
    }
