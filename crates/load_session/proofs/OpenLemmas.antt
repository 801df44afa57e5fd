-- The opening of a store over the empty file: it keeps nothing, and only the disk or want of memory is in the way.
use Rattle.std.proofs.Common.{◌≡◌, ◌≢◌, ℕ, ◌+◌, ◌≤◌, List, [], length, sym, ap, ◌∙◌, subst, refl, arith, inl, inr}
use Rattle.std.proofs.Math.Path.{subst₂}
use Rattle.std.proofs.lemmas.List.{length-append}
use Rattle.std.proofs.lemmas.List.Elements.{All-nil}
use Rattle.object_values.specs.Texts.{Text}
use Rattle.odin_outside.specs.Disk.{Telling, IsQuiet}
use Rattle.odin_outside.specs.Steps.{synced_only}
use Rattle.odin_memory.specs.File.{image_of}
use Rattle.odin_memory.specs.Tools as tools
use Rattle.odin_memory.specs.declared.answers.Answers.TheVariants.{Toys}
use Rattle.meaning_texts.specs.Limits.{graph_limit}
use Rattle.meaning_graph.specs.Graphs.{Graph}
use Rattle.meaning_records.specs.Images.{Stored}
use Rattle.meaning_records.specs.States.{State, nothing, ReadsAll}
use Rattle.meaning_records.specs.Stands.{Stands}
use Rattle.meaning_records.specs.Laws.{StandsForOne}
use Rattle.dg_reader.specs.Files.{IsRead}
use Rattle.odin_journal.specs.Faults.{CountAfterJournalFault}
use Rattle.odin_journal.specs.Moments.{Works}
use Rattle.odin_journal.specs.declared.fault.JournalFault.{JournalFault}
use Rattle.odin_journal.specs.declared.fault.JournalFault.TheVariants as fault
use Rattle.odin_store.specs.declared.store.Store.{Store}
use Rattle.odin_store.specs.Held.{Held, held_of}
use Rattle.odin_store.specs.Offsets.{IsNotFor}
use Rattle.odin_store.specs.Opening.{OpensQuietStore, graph_record}
use Rattle.kept_derive.specs.Knowing.{known_in, AreTrueBeside, KnowsStore}
use Rattle.odin_engine.specs.Opened as engine
use Rattle.load_session.specs.declared.session.Session.{Session}
use Rattle.load_session.specs.Graph.{graph_text}
use Rattle.load_session.specs.Room.{LoadFile, empty_disk, told_of_disk, PassesRoom}
use Rattle.load_session.specs.Loads.{IsOpeningFault}
use Rattle.load_session.specs.Moments.{SessionIsNew}

pub quiet : IsQuiet (told_of_disk empty_disk)
quiet = record { follows = refl; only = λ c left. synced_only [] c left }

pub empty_records : (records : List (List ℕ)) → Stored records [] → records ≡ []
empty_records records (inl new) = new.1
empty_records records (inr store) = let some = store.1.written.some in absurd (omega arith)

pub empty_state : (records : List (List ℕ)) (state : State) → records ≡ [] → ReadsAll nothing records state → state ≡ nothing
empty_state records state none read = subst (λ (l : List (List ℕ)). ReadsAll nothing l state) none read

none_kept : (graph : Text) (new : Telling) (store : Store) → OpensQuietStore graph (told_of_disk empty_disk) new store → store.kept.tables.calls ≡ []
none_kept graph new store opens =
    let opened = opens quiet in
    ap (λ (h : Held). h.calls) opened.holds ∙ ap (λ (s : State). s.tables.calls) (empty_state opened.records opened.state (empty_records opened.records opened.stored) opened.read)

none_noted : (graph : Text) (new : Telling) (store : Store) → OpensQuietStore graph (told_of_disk empty_disk) new store → store.kept.tables.records ≡ []
none_noted graph new store opens =
    let opened = opens quiet in
    ap (λ (h : Held). h.records) opened.holds
    ∙ ap (λ (s : State). (held_of graph s).records) (empty_state opened.records opened.state (empty_records opened.records opened.stored) opened.read)

-- a session over a store that was opened just now
pub opened_new : (session : Session) (text : Text) (graph : Graph) (old : LoadFile) → text ≡ graph_text → old ≡ empty_disk → IsRead graph_text graph
    → OpensQuietStore text (told_of_disk old) (told_of_disk session.disk) session.engine.store → engine.EngineIsNew graph 1 (length (image_of session.disk.file)) session.engine
    → session.tools ≡ tools.new_tools Toys [] → SessionIsNew session
opened_new session text graph old text_is empty read opens new same =
    let opened : OpensQuietStore graph_text (told_of_disk empty_disk) (told_of_disk session.disk) session.engine.store =
    subst₂ (λ t f. OpensQuietStore t (told_of_disk f) (told_of_disk session.disk) session.engine.store) text_is empty opens in
    let none = none_kept graph_text (told_of_disk session.disk) session.engine.store opened in
    let noted = none_noted graph_text (told_of_disk session.disk) session.engine.store opened in
    record {
      opened = record { read = subst (IsRead graph_text) (sym new.graph_is) read; opened = opened; tools_are = ap tools.tools_view same };
      rests = record {
        jobs = new.jobs_is;
        idle = record { ready = new.ready; none = ap (λ (t : tools.Tools). t.running) same };
        knows = subst (λ g. KnowsStore g session.engine.store) (sym new.graph_is)
            (new.knows (subst (AreTrueBeside graph (known_in session.engine.store)) (sym noted) (All-nil _)));
        counted = ap (λ (t : tools.Tools). t.starts) same ∙ ap length (sym none);
      };
      none_kept = none;
      first = new.first;
    }

empty_stands : Stands [] nothing
empty_stands = record { records = []; stored = inl (record { within = omega arith; blank = inl (omega arith) }, refl); read = refl }

-- it is a store's for any graph
empty_is_ours : (text : Text) (at : ℕ) → StandsForOne → IsNotFor text [] at → ⊥
empty_is_ours text at one (inl broken) = one.none [] at nothing (inl broken) empty_stands
empty_is_ours text at one (inr (inl bad)) = one.none [] at nothing (inr bad.0) empty_stands
empty_is_ours text at one (inr (inr unfit)) = let some = unfit.store.written.some in absurd (omega arith)

-- its size
pub none_written : (old : LoadFile) → old ≡ empty_disk → length (image_of old.file) ≡ 0
none_written old empty = subst (λ (f : LoadFile). length (image_of f.file) ≡ 0) (sym empty) refl

-- how long the record of a graph is
record_long : (text : Text) → length (graph_record text) ≡ 5 + length text
record_long text = omega (arith, length-append text [])

fails_empty : (text : Text) (after : LoadFile) (e : JournalFault) → StandsForOne → length text ≤ graph_limit → engine.IsEngineOpenFault told_of_disk text empty_disk after e
    → Works (72 + length (graph_record text)) 20 (told_of_disk empty_disk) (told_of_disk after) → CountAfterJournalFault 0 after.file.faults e → (after.file.faults ≢ 0 → PassesRoom after) → IsOpeningFault e
fails_empty text after fault.Disk one short fails works cause past = elim (past (λ zero. absurd (omega arith))) [
  | inl bytes ↦ let long = record_long text in absurd (omega (arith, works.0, bytes))
  | inr calls ↦ absurd (omega (arith, works.1, calls))
]
fails_empty text after (fault.NotOurs at) one short fails works cause past = absurd (empty_is_ours text at one (fails quiet).1)
fails_empty text after (fault.Full end count) one short fails works cause past = let some = (fails quiet).1.rests.store.written.some in absurd (omega arith)
fails_empty text after fault.Memory one short fails works cause past = tt

pub opening_fault : (text : Text) (old after : LoadFile) (e : JournalFault) → StandsForOne → length text ≤ graph_limit → old ≡ empty_disk
    → engine.IsEngineOpenFault told_of_disk text old after e → (length (image_of old.file) ≡ 0 → Works (72 + length (graph_record text)) 20 (told_of_disk old) (told_of_disk after))
    → CountAfterJournalFault old.file.faults after.file.faults e → (after.file.faults ≢ 0 → PassesRoom after) → IsOpeningFault e
opening_fault text old after e one short empty fails works cause past =
    fails_empty text after e one short (subst (λ f. engine.IsEngineOpenFault told_of_disk text f after e) empty fails)
    (subst (λ (f : LoadFile). length (image_of f.file) ≡ 0 → Works (72 + length (graph_record text)) 20 (told_of_disk f) (told_of_disk after)) empty works refl)
    (subst (λ (f : LoadFile). CountAfterJournalFault f.file.faults after.file.faults e) empty cause) past
