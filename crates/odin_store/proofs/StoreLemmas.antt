-- What a batch makes of a store, and what crashes leave of it.
use Rattle.std.proofs.Common.{◌≡◌, ◌⊎◌, inl, inr, ℕ, ◌+◌, ◌<◌, ◌≤◌, List, [], ◌∷◌, ◌++◌, length, All, Bool, true, cond, Option, Some, IsSome, IsTrue, Result, Ok, Err, IsErrAnd, IfErr, refl, sym, ap, subst, ◌∙◌, arith}
use Rattle.std.proofs.lemmas.List.Elements.{All-append}
use Rattle.std.proofs.lemmas.Slice.Eq.{bytes_eq-Decides}
use Rattle.odin_outside.specs.Disk.{Telling, MayLeave}
use Rattle.odin_outside.specs.Moments.{no_call, weaker}
use Rattle.object_values.specs.declared.facts.Fact.{Fact}
use Rattle.object_values.specs.Texts.{Text, Texts}
use Rattle.meaning_graph.specs.Graphs.{Graph}
use Rattle.meaning_graph.specs.Grammar.{GraphText}
use Rattle.validator.specs.Fitting.{FactFits}
use Rattle.meaning_records.specs.Front.{file_limit}
use Rattle.meaning_records.specs.Images.{IsStore, Stored}
use Rattle.odin_journal.specs.Faults.{IsAddFault}
use Rattle.odin_journal.specs.Moments.{Works}
use Rattle.odin_journal.specs.Rest.{BeforeOrAfter, AddsRecord, KeepsOrAdds, RestsOnMore}
use Rattle.odin_journal.specs.declared.fault.JournalFault.{JournalFault}
use Rattle.odin_journal.specs.declared.fault.JournalFault.TheVariants as fault
use Rattle.object_values.specs.declared.items.Item.{Item}
use Rattle.meaning_records.specs.Tables.{Tables}
use Rattle.meaning_records.specs.Stands.{Stands}
use Rattle.meaning_records.specs.States.{State, nothing, Reads, ReadsAll, spell_batch}
use Rattle.odin_store.specs.declared.store.Store.{Store}
use Rattle.odin_store.specs.Held.{Held, counts, held_of, NotedFit, Change, apply, IsDue, StandsFor}
use Rattle.odin_store.specs.OnDisk.{held_in, state_in, IsOn, LeavesChange, Appends, IsChangeFault}
use Rattle.odin_store.proofs.LoadLemmas.{reads_on}
use Rattle.odin_store.proofs.RecordTrails.{adds_first}

-- ---- answers

-- a fault that is handed on
pub handed : {T : Type 0} (P : JournalFault → Type 0) (r : Result T JournalFault) (e : JournalFault) → IsErrAnd r (λ given. given ≡ e) → P e → IfErr r P
handed P (Ok x) e never there = tt
handed P (Err given) e is there = subst P (sym is) there

-- ---- a batch

-- what counts after a graph of the text
pub counted : (text : Text) (last : Option Text) → last ≡ Some text → counts text last ≡ true
counted text last is = subst (λ l. counts text l ≡ true) (sym is) ((bytes_eq-Decides text text).1 refl)

-- what a store holds is what its file reads as
pub held_is : (store : Store) (graph : Option Text) (noted : List Fact) → graph ≡ Some store.graph → held_of store.graph (state_in store graph noted) ≡ held_in store
held_is store graph noted last = ap (λ (b : Bool). record {
  text = store.graph;
  sources = store.sources.texts;
  calls = store.kept.tables.calls;
  records = cond b store.kept.tables.records [];
}) (counted store.graph graph last)

-- what is held of these tables and sources
abbrev pub held_with : Text → Tables → Texts → Held
held_with text tables sources = record { text = text; sources = sources; calls = tables.calls; records = tables.records }

-- an image of records that read as a store's
pub stands_in : (store : Store) (image : List ℕ) (records : List (List ℕ)) (graph : Option Text) (noted : List Fact) → Stored records image → ReadsAll nothing records (state_in store graph noted) → graph ≡ Some store.graph
    → NotedFit store.graph (state_in store graph noted) → StandsFor (held_in store) image
stands_in store image records graph noted stored read last fit = (state_in store graph noted, record { records = records; stored = stored; read = read }, fit, held_is store graph noted last)

abbrev pub state_with : Tables → Texts → Option Text → List Fact → State
state_with tables sources graph noted = record { tables = tables; sources = sources; graph = graph; noted = noted }

-- What a batch of these bytes makes of tables and sources, after any graph, is this change, and these facts are noted more, which fit the graph of the text.
pub record Makes (text : Text) (change : Change) (tables : Tables) (sources : Texts) (payload : List ℕ) (next : Tables) (edited : Texts) (more : List Fact) : Type 0 where
  pub reads : (graph : Option Text) (noted : List Fact) → IsSome graph → Reads (state_with tables sources graph noted) payload (state_with next edited graph (noted ++ more))
  pub holds : held_with text next edited ≡ apply change (held_with text tables sources)
  pub fit : (g : Graph) → GraphText text g → All (FactFits g) more

-- a store on a disk has a graph
has_graph : (graph : Option Text) (text : Text) → graph ≡ Some text → IsSome graph
has_graph graph text is = subst IsSome (sym is) refl

-- what was noted fits, and so does what is noted more
fit_more : (store : Store) (graph : Option Text) (noted more : List Fact) → NotedFit store.graph (state_in store graph noted) → ((g : Graph) → GraphText store.graph g → All (FactFits g) more)
    → (g : Graph) → GraphText store.graph g → counts store.graph graph ≡ true → All (FactFits g) (noted ++ more)
fit_more store graph noted more fit others g spelled counted = All-append (FactFits g) noted more (fit g spelled counted) (others g spelled)

held_more : (text : Text) (next : Tables) (edited : Texts) (graph : Option Text) (noted : List Fact) → graph ≡ Some text → held_of text (state_with next edited graph noted) ≡ held_with text next edited
held_more text next edited graph noted last = ap (λ (b : Bool). record { text = text; sources = edited; calls = next.calls; records = cond b next.records [] }) (counted text graph last)

-- a crash during its adding leaves what was held, or that with the change
pub leaves_change : (change : Change) (store : Store) (old new : Telling) (payload : List ℕ) (next : Tables) (edited : Texts) (more : List Fact)
    → Makes store.graph change store.kept.tables store.sources.texts payload next edited more → KeepsOrAdds store.journal.end payload old new → LeavesChange change store old new
leaves_change change store old new payload next edited more makes leaves records graph on =
    weaker old new (BeforeOrAfter records payload) (λ image. StandsFor (held_in store) image ⊎ StandsFor (apply change (held_in store)) image) (leaves records on.rests.rests) each
  where
    each : (image : List ℕ) → BeforeOrAfter records payload image → StandsFor (held_in store) image ⊎ StandsFor (apply change (held_in store)) image
    each image (inl stored) = inl (stands_in store image records graph on.noted stored on.read on.last on.fit)
    each image (inr stored) =
        let after : State = state_with next edited graph (on.noted ++ more) in
        let reads : Reads (state_in store graph on.noted) payload after = makes.reads graph on.noted (has_graph graph store.graph on.last) in
        let stands : Stands image after = record { records = records ++ payload ∷ []; stored = stored; read = reads_on records payload nothing (state_in store graph on.noted) after on.read reads } in
        inr (subst (λ h. StandsFor h image) makes.holds (after, stands, fit_more store graph on.noted more on.fit makes.fit, held_more store.graph next edited graph (on.noted ++ more) on.last))

-- nothing is done: a crash leaves what is held
pub held_left : (disk : Telling) (store : Store) (records : List (List ℕ)) (graph : Option Text) → IsOn disk store records graph → (image : List ℕ) → MayLeave disk image → StandsFor (held_in store) image
held_left disk store records graph on image left =
    let stored = inr (store.journal.end, subst (λ c. IsStore c records store.journal.end) (sym (on.rests.rests.quiet.only image left)) on.rests.rests.store) in
    stands_in store image records graph on.noted stored on.read on.last on.fit

pub leaves_same : (change : Change) (store : Store) (disk : Telling) → ((image : List ℕ) → IsTrue disk.follows → disk.left_since disk.moment image → MayLeave disk image) → LeavesChange change store disk disk
leaves_same change store disk only_now records graph on =
    no_call disk (λ image. StandsFor (held_in store) image ⊎ StandsFor (apply change (held_in store)) image)
    (λ image left. inl (held_left disk store records graph on image (only_now image on.rests.rests.quiet.follows left)))
    (λ image left. inl (held_left disk store records graph on image left))

-- the batch was added
pub appends : (change : Change) (items : List Item) (store next : Store) (old new : Telling) (payload : List ℕ) (facts : List Fact)
    → payload ≡ spell_batch items
    → Makes store.graph change store.kept.tables store.sources.texts (spell_batch items) next.kept.tables next.sources.texts facts
    → next.graph ≡ store.graph → AddsRecord store.journal.end next.journal.end payload old new → RestsOnMore store.journal next.journal payload old new → store.journal.end + 6 + length payload ≤ file_limit → KeepsOrAdds store.journal.end payload old new → Works (length payload + 6) 4 old new → Appends items store next old new
appends change items store next old new payload facts is makes same adds more room leaves works =
    let bytes = spell_batch items in
    let added : AddsRecord store.journal.end next.journal.end bytes old new = subst (λ p. AddsRecord store.journal.end next.journal.end p old new) is adds in
    let fits : store.journal.end + 6 + length bytes ≤ 1073741824 = subst (λ p. store.journal.end + 6 + length p ≤ 1073741824) is room in
    let place : next.journal.end ≡ store.journal.end + 5 + length bytes = added.next_is in
    record {
      end = added.next_is;
      room = omega arith;
      on = λ records graph on. record {
        noted = on.noted ++ facts;
        rests = subst (λ p. RestsOnMore store.journal next.journal p old new) is more records on.rests;
        read = reads_on records bytes nothing (state_in store graph on.noted) (state_in next graph (on.noted ++ facts)) on.read (makes.reads graph on.noted (has_graph graph store.graph on.last));
        last = on.last ∙ ap Some (sym same);
        fit = subst (λ t. (g : Graph) → GraphText t g → counts t graph ≡ true → All (FactFits g) (on.noted ++ facts)) (sym same) (fit_more store graph on.noted facts on.fit makes.fit);
      };
      bytes = added.bytes;
      leaves = adds_first store bytes old new (subst (λ p. KeepsOrAdds store.journal.end p old new) is leaves);
      works = subst (λ p. Works (length p + 6) 4 old new) is works;
    }

-- a fault of its adding
pub change_fault : (IsBatch : List Item → Type 0) (items : List Item) (change : Change) (store : Store) (payload : List ℕ) → payload ≡ spell_batch items → IsBatch items → IsDue change (held_in store)
    → (e : JournalFault) → IsAddFault store.journal.end (length payload) e → IsChangeFault IsBatch change store e
change_fault IsBatch items change store payload is batch due fault.Disk told = due
change_fault IsBatch items change store payload is batch due (fault.NotOurs at) told = told
change_fault IsBatch items change store payload is batch due (fault.Full at some) told =
    (due, (items, batch, record { at_is = told.1; some_is = told.2 ∙ ap length is; over = subst (λ p. 1073741824 < store.journal.end + 6 + length p) is told.0 }))
change_fault IsBatch items change store payload is batch due fault.Memory told = tt
