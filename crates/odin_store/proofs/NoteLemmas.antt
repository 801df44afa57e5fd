-- What a batch of records of nodes makes of a store.
use Rattle.std.specs.Prelude.{⊤}
use Rattle.std.proofs.Common.{◌≡◌, ◌≢◌, ℕ, List, [], ◌∷◌, ◌++◌, map, All, Option, Some, IsSome, refl, sym, ap, subst, ◌∙◌, append_assoc}
use Rattle.object_values.specs.declared.facts.Fact.{Fact}
use Rattle.object_values.specs.declared.facts.Fresh.{Fresh}
use Rattle.object_values.specs.declared.views.Value.{Value}
use Rattle.object_values.specs.Texts.{Text, Texts}
use Rattle.object_values.specs.declared.items.StoredRecord.{StoredRecord}
use Rattle.object_values.specs.declared.items.Item.{Item}
use Rattle.object_values.specs.declared.items.Item.TheVariants.{Graph as GraphItem, Content, Put, Dropped, Kept, Node}
use Rattle.meaning_graph.specs.Graphs.{Graph}
use Rattle.meaning_graph.specs.Grammar.{GraphText}
use Rattle.meaning_graph.specs.TextLaws.{GraphIsOne}
use Rattle.meaning_records.specs.Records.{item}
use Rattle.meaning_records.specs.Tables.{Tables, Loads, LoadsAll, put_facts}
use Rattle.meaning_records.specs.States.{State, TakesOne, TakesAll, Reads, spell_batch}
use Rattle.meaning_records.specs.Batches.{AreRecordsOf, IsNotable, IsNotesBatch, facts_of}
use Rattle.meaning_records.specs.Laws.{BatchesRead, ReadsInOneWay, Noted}
use Rattle.validator.specs.Fitting.{FactFits}
use Rattle.kept_records.specs.Records.{put_records}
use Rattle.kept_notes.specs.Facts as said
use Rattle.kept_tables.specs.Holdings as kept
use Rattle.odin_store.specs.Held.{notes}
use Rattle.odin_store.specs.Changes.{HasInMemory}
use Rattle.odin_store.proofs.StoreLemmas.{Makes, state_with}

-- ---- its items

-- contents and records of nodes
abbrev IsNote : Item → Type 0
IsNote (Content value) = ⊤
IsNote (Node stored) = ⊤
IsNote other = ⊥

abbrev AreNotes : List Item → Type 0
AreNotes [] = ⊤
AreNotes (it ∷ items) = IsNote it × AreNotes items

records_are : (stored : List StoredRecord) → AreNotes (map Node stored)
records_are [] = tt
records_are (first ∷ stored) = (tt, records_are stored)

notes_are : (values : List Value) (stored : List StoredRecord) → AreNotes (map Content values ++ map Node stored)
notes_are [] stored = records_are stored
notes_are (value ∷ values) stored = (tt, notes_are values stored)

stored_some : (contents : List Value) (stored : List StoredRecord) (fresh : List Fresh) → AreRecordsOf contents stored fresh → fresh ≢ [] → stored ≢ []
stored_some contents [] [] are some none = some refl
stored_some contents [] (first ∷ fresh) are some none = are
stored_some contents (one ∷ stored) fresh are some none = let no : ⊥ = cc in no

items_some : (values : List Value) (stored : List StoredRecord) → stored ≢ [] → map Content values ++ map Node stored ≢ []
items_some [] [] some none = some refl
items_some [] (one ∷ stored) some none = let no : ⊥ = cc in no
items_some (value ∷ values) stored some none = let no : ⊥ = cc in no

-- ---- what they make

nothing_more : (noted : List Fact) → noted ++ [] ≡ noted
nothing_more [] = refl
nothing_more (fact ∷ noted) = ap (λ l. fact ∷ l) (nothing_more noted)

module _ (sources : Texts) (graph : Option Text) (has : IsSome graph) where
  note_taken : (it : Item) (tables next : Tables) (noted : List Fact) → IsNote it → Loads tables it next → (more : List Fact) × TakesOne (state_with tables sources graph noted) it (state_with next sources graph (noted ++ more))
  note_taken (GraphItem text) tables next noted note loads = absurd note
  note_taken (Content value) tables next noted note loads = ([], record { loads = loads; edits = refl; graph = refl; ground = tt; noted = nothing_more noted })
  note_taken (Put name number) tables next noted note loads = absurd note
  note_taken (Dropped name) tables next noted note loads = absurd note
  note_taken (Kept call outcome) tables next noted note loads = absurd note
  note_taken (Node stored) tables next noted note loads = (loads.0 ∷ [], record { loads = loads; edits = refl; graph = refl; ground = has; noted = (loads.0, loads.1.says, refl) })

  notes_taken : (items : List Item) (tables next : Tables) (noted : List Fact) → AreNotes items → LoadsAll tables items next
      → (more : List Fact) × TakesAll (state_with tables sources graph noted) items (state_with next sources graph (noted ++ more))
  notes_taken [] tables next noted are loads = ([], (λ i. record { tables = loads i; sources = sources; graph = graph; noted = nothing_more noted i }))
  notes_taken (it ∷ items) tables next noted are loads =
      let first = note_taken it tables loads.0 noted are.0 loads.1 in
      let rest = notes_taken items loads.0 next (noted ++ first.0) are.1 loads.2 in
      let mid : State = state_with loads.0 sources graph (noted ++ first.0) in (
        first.0 ++ rest.0,
        (mid, first.1, subst (λ (l : List Fact). TakesAll mid items (state_with next sources graph l)) (append_assoc noted first.0 rest.0) rest.1),
      )

module _ (law : ReadsInOneWay) (batches : BatchesRead) (fresh : List Fresh) (some : fresh ≢ []) (notable : All IsNotable fresh) (tables next : Tables) (sources : Texts) (items : List Item) (batch : IsNotesBatch tables.contents fresh items)
    (fit : All item.fits items) (loads : LoadsAll tables items next) where
  -- after a graph it reads as what is noted
  record ReadsAsNoted (graph : Option Text) (noted : List Fact) : Type 0 where
    reads : Reads (state_with tables sources graph noted) (spell_batch items) (state_with next sources graph (noted ++ facts_of fresh))
    calls : next.calls ≡ tables.calls
    records : next.records ≡ put_facts (facts_of fresh) tables.records

  read_as : (graph : Option Text) (noted : List Fact) → IsSome graph → ReadsAsNoted graph noted
  read_as graph noted has =
      let old : State = state_with tables sources graph noted in
      let told = batches.notes old fresh items has notable batch in
      let mine = notes_taken sources graph has items tables next noted (subst AreNotes (sym batch.items_are) (notes_are batch.added batch.stored)) loads in
      let there : items ≢ [] = λ none. items_some batch.added batch.stored (stored_some (tables.contents ++ batch.added) batch.stored fresh batch.records some) (sym batch.items_are ∙ none) in
      let end : State = state_with next sources graph (noted ++ mine.0) in
      let own : Reads old (spell_batch items) end = record { items = items; some = there; fit = fit; spelled = refl; taken = mine.1 } in
      let same : told.new ≡ end = law old (spell_batch items) end told.new own (record { items = items; some = there; fit = fit; spelled = refl; taken = told.taken }) in
      let all : noted ++ mine.0 ≡ noted ++ facts_of fresh = sym (ap (λ (s : State). s.noted) same) ∙ ap (λ (n : Noted). n.all) told.noted_is in
      record {
        reads = subst (λ (l : List Fact). Reads old (spell_batch items) (state_with next sources graph l)) all own;
        calls = sym (ap (λ (s : State). s.tables.calls) same) ∙ told.calls_are;
        records = sym (ap (λ (s : State). s.tables.records) same) ∙ ap (λ (n : Noted). n.records) told.noted_is;
      }

  pub notes_makes : GraphIsOne → (of : Text) (g : Graph) → GraphText of g → All (FactFits g) (facts_of fresh) → Makes of (notes (facts_of fresh)) tables sources (spell_batch items) next sources (facts_of fresh)
  notes_makes graphs of g spelled fits =
      let told = read_as (Some of) [] refl in
      record {
        reads = λ graph noted has. (read_as graph noted has).reads;
        holds = λ i. record { text = of; sources = sources; calls = told.calls i; records = told.records i };
        fit = λ other reads. subst (λ x. All (FactFits x) (facts_of fresh)) (sym (graphs of g other spelled reads)) fits;
      }

-- ---- in memory

pub in_memory : (epoch : ℕ) (fresh : List Fresh) (old mid new : kept.Holding) (batch : kept.Batch) (next : Tables)
    → kept.HasNotes epoch mid fresh batch → kept.Commits mid batch next → new.tables ≡ next
    → new.records.records ≡ put_records batch.notes mid.records.records → mid.records.records ≡ old.records.records → HasInMemory epoch fresh old new
in_memory epoch fresh old mid new batch next has commits tables records same =
    let contents = ap (λ (t : Tables). t.contents) (tables ∙ commits.next_is) in
    record {
      noted = batch.notes;
      records = records ∙ ap (put_records batch.notes) same;
      say = ap (λ (c : List Value). said.facts_of c batch.notes) contents ∙ has.say;
      present = has.present;
      checked = has.checked;
    }

-- what is to be noted has facts
pub facts_some : (fresh : List Fresh) → fresh ≢ [] → facts_of fresh ≢ []
facts_some [] some none = some refl
facts_some (first ∷ fresh) some none = let no : ⊥ = cc in no
