-- A run over sound words, a sound graph, a sound store and a sound input comes to its end.
use Rattle.std.proofs.Common.{◌≡◌, ◌⊎◌, ℕ, ◌<◌, ◌≤◌, List, length, IfSome, arith, ap, sym, refl, ◌∙◌, subst, inl, inr}
use Rattle.std.specs.Prelude.{⊤, Option, Some}
use Rattle.odin_outside.specs.Disk.{IsQuiet}
use Rattle.odin_outside.specs.Files.{IsGiven, given_of}
use Rattle.meaning_graph.specs.Graphs.{Text, Graph}
use Rattle.meaning_commands.specs.Endings.{input_limit}
use Rattle.meaning_commands.specs.Objects.{SinkTold}
use Rattle.odin_journal.specs.declared.fault.JournalFault.{JournalFault}
use Rattle.odin_journal.specs.declared.fault.JournalFault.TheVariants as fault
use Rattle.odin_store.specs.Held.{NotedFit}
use Rattle.odin_store.specs.Offsets.{IsNotFor, OneOffset}
use Rattle.odin_words.specs.Asked.{Serve, Load}
use Rattle.odin_words.specs.Laws.{AskedIsOne}
use Rattle.odin_answers.specs.Edits.{TreeTold}
use Rattle.odin_shell.specs.declared.ending.Ending.{Ending}
use Rattle.odin_shell.specs.declared.ending.Ending.TheVariants.{Whole, CutShort, BadGraph, Disk, Memory, Output, Input, NotOurs, Full, Usage, TooLong, Loaded, Room}
use Rattle.odin_shell.specs.declared.graph.Opened.TheVariants.{Ready, Refused}
use Rattle.odin_shell.specs.Endings.{ending_status}
use Rattle.odin_outside.specs.declared.disk.Disk.{Ghosts as DiskView}
use Rattle.odin_shell.specs.Laws.{NoFault}
use Rattle.odin_shell.specs.Objects.{SourceTold, Outside, Views}
use Rattle.odin_shell.specs.Machine.{Told}
use Rattle.odin_shell.specs.Opened.{GraphIsRefused}
use Rattle.odin_shell.specs.Run as run
use Rattle.odin_shell.specs.Run.{AllowedBy, OutputCount, DiskCount, Closes, ClosesFor, SessionEnds}
use Rattle.odin_shell.specs.Complete.{IsServable, RunsComplete}
use Rattle.odin_shell.proofs.OpenedLemmas.{opened_is_one}
use Rattle.odin_shell.proofs.StoreLemmas.{at_end}
use Rattle.odin_shell.proofs.TranscriptLemmas.{not_counted}

-- the endings of a run whose words, graph and store are sound
abbrev CanEnd : Ending → Type 0
CanEnd BadGraph = ⊥
CanEnd (NotOurs at) = ⊥
CanEnd Usage = ⊥
CanEnd Loaded = ⊥
CanEnd Room = ⊥
CanEnd other = ⊤

-- a file that is full
full_ends : (at size : ℕ) (before now : SinkTold) (ending : Ending) → Closes (Full at size) before now ending → CanEnd ending
full_ends at size before now ending (inl line) = at_end _ _ before now ending CanEnd line tt tt
full_ends at size before now ending (inr memory) = subst CanEnd (sym memory.1) tt

session_ends : {D : Type 0} (disk : DiskView D) (g : Graph) (text : Text) (limit : ℕ) (input left : SourceTold) (start now : Told D) (before after : SinkTold) (due ending : Ending)
    → SessionEnds disk g text limit input left start now due → Closes due before after ending → CanEnd ending
session_ends disk g text limit input left start now before after Whole ending ends closes = subst CanEnd (sym closes.1) tt
session_ends disk g text limit input left start now before after CutShort ending ends closes = subst CanEnd (sym closes.1) tt
session_ends disk g text limit input left start now before after BadGraph ending ends closes = absurd ends.leaves
session_ends disk g text limit input left start now before after Disk ending ends closes = subst CanEnd (sym closes.1) tt
session_ends disk g text limit input left start now before after Memory ending ends closes = subst CanEnd (sym closes.1) tt
session_ends disk g text limit input left start now before after Output ending ends closes = subst CanEnd (sym closes.1) tt
session_ends disk g text limit input left start now before after Input ending ends closes = subst CanEnd (sym closes.1) tt
session_ends disk g text limit input left start now before after (NotOurs at) ending ends closes = absurd ends.leaves
session_ends disk g text limit input left start now before after (Full at size) ending ends closes = full_ends at size before after ending closes
session_ends disk g text limit input left start now before after Usage ending ends closes = absurd ends.leaves
session_ends disk g text limit input left start now before after TooLong ending ends closes = subst CanEnd (sym closes.1) tt
session_ends disk g text limit input left start now before after Loaded ending ends closes = absurd ends.leaves
session_ends disk g text limit input left start now before after Room ending ends closes = absurd ends.leaves

module _ {I O T S D : Type 0} (m : Views I O T S D) (words : List Text) (before after : Outside I O T S D) (can : IsServable m words before after) where
  -- ---- by how it ended

  module _ (one : AskedIsOne) (offsets : OneOffset) where
    -- the file of the graph is not refused
    not_refused : (opened : TreeTold) (given : Option Text) (line : Text) → run.TreeGives m words before after opened given → GraphIsRefused given line → ⊥
    not_refused told given line gives refused =
        let work : Serve gives.asks.name ≡ Serve can.name = (one words (Serve can.name) (Serve gives.asks.name) can.jobs gives.asks.jobs can.asks gives.asks.named).0 in
        let name : gives.asks.name ≡ can.name = cc in
        let is : given ≡ given_of can.files gives.asks.name = subst (λ f. IsGiven f gives.asks.name given) can.files_are gives.is in
        let there : given ≡ Some can.text = is ∙ ap (given_of can.files) name ∙ can.reads.there in
        let same : Refused line ≡ Ready can.text can.graph = opened_is_one given (Ready can.text can.graph) (Refused line) (record { there = there; read = can.reads.read }) refused in
        cc

    -- the graph is that of the file
    same_text : (opened : TreeTold) (text : Text) (g : Graph) → run.GivesGraph m words before after opened text g → text ≡ can.text
    same_text told text g given =
        let gives = given.gives in
        let work : Serve gives.asks.name ≡ Serve can.name = (one words (Serve can.name) (Serve gives.asks.name) can.jobs gives.asks.jobs can.asks gives.asks.named).0 in
        let name : gives.asks.name ≡ can.name = cc in
        let is : given.given ≡ given_of can.files gives.asks.name = subst (λ f. IsGiven f gives.asks.name given.given) can.files_are gives.is in
        let there : given.given ≡ Some can.text = is ∙ ap (given_of can.files) name ∙ can.reads.there in
        let both : Some text ≡ Some can.text = sym given.reads.there ∙ there in
        cc

    -- the store's file is ours
    is_ours : (mid : Outside I O T S D) → mid.disk ≡ before.disk → (text : Text) (at : ℕ) → text ≡ can.text → run.IsUnopened m text mid after (fault.NotOurs at) → ⊥
    is_ours mid same text at own unopened =
        let quiet : IsQuiet (m.disk.told mid.disk) = subst (λ d. IsQuiet (m.disk.told d)) (sym same) can.quiet in
        let image = (m.disk.told before.disk).seen in
        let not : IsNotFor text image at = subst (λ d. IsNotFor text (m.disk.told d).seen at) same (unopened.refused quiet).1 in
        let fit : NotedFit text can.stands.0 = subst (λ t. NotedFit t can.stands.0) (can.own ∙ sym own) can.stands.2 in
        offsets.apart text image at can.stands.0 not (can.stands.1, fit)

    unopened_ends : (mid : Outside I O T S D) → mid.disk ≡ before.disk → (text : Text) → text ≡ can.text → (f : JournalFault) (sink now : SinkTold) (ending : Ending) → run.IsUnopened m text mid after f → ClosesFor f sink now ending → CanEnd ending
    unopened_ends mid same text own fault.Disk sink now ending unopened closes = subst CanEnd (sym closes.1) tt
    unopened_ends mid same text own (fault.NotOurs at) sink now ending unopened closes = absurd (is_ours mid same text at own unopened)
    unopened_ends mid same text own (fault.Full at size) sink now ending unopened closes = full_ends at size sink now ending closes
    unopened_ends mid same text own fault.Memory sink now ending unopened closes = subst CanEnd (sym closes.1) tt

    store_ends : (mid : Outside I O T S D) → mid.disk ≡ before.disk → (text : Text) → text ≡ can.text → (g : Graph) (limit : ℕ) (ending : Ending) → run.StoreEnds m text g limit mid after ending → CanEnd ending
    store_ends mid same text own g limit ending (run.unopened f unopened closes is) = unopened_ends mid same text own f _ _ ending unopened closes
    store_ends mid same text own g limit ending (run.served due written ends closes) = session_ends m.disk g text limit _ _ _ _ _ _ due ending ends closes

    how_ends : (opened : TreeTold) (ending : Ending) → run.EndsAs m words before after opened ending → CanEnd ending
    how_ends opened ending (run.words_refused not line is same) = absurd (not (Serve can.name) can.jobs can.asks)
    how_ends opened ending (run.words_unread memory is same) = subst CanEnd (sym memory) tt
    how_ends opened ending (run.load_ended units jobs asks ends is same) =
        let work : Load units ≡ Serve can.name = (one words (Serve can.name) (Load units) can.jobs jobs can.asks asks).0 in
        absurd (let no : ⊥ = cc in no)
    how_ends opened ending (run.tree_failed input asks rose is same) = subst CanEnd (sym input) tt
    how_ends opened ending (run.graph_unread memory asks stayed is same) = subst CanEnd (sym memory) tt
    how_ends opened ending (run.graph_refused given line gives refused last is same) = absurd (not_refused opened given line gives refused)
    how_ends opened ending (run.graph_read text g mid given same is ends) = store_ends mid (ap (λ (o : Outside I O T S D). o.disk) same) text (same_text opened text g given) g given.gives.asks.jobs ending ends

  -- ---- by what was counted

  abbrev Comes : ℕ → Type 0
  Comes status = (status ≡ 0) ⊎ ((status ≡ 4) ⊎ (status ≡ 8))

  allowed : (ending : Ending) → IfSome (m.source.left before.input) (AllowedBy ending) → AllowedBy ending can.input
  allowed ending exact = subst (λ i. IfSome i (AllowedBy ending)) can.left exact

  module _ (opened : TreeTold) (input : NoFault (m.source.faults before.input) (m.source.faults after.input)) (output : NoFault (m.sink.faults before.output) (m.sink.faults after.output))
      (disk : NoFault (m.disk.faults before.disk) (m.disk.faults after.disk)) (tree : NoFault (m.tree.faults before.tree) opened.faults) where
    comes : (ending : Ending) → CanEnd ending → IfSome (m.source.left before.input) (AllowedBy ending) → OutputCount ending (m.sink.faults before.output) (m.sink.faults after.output)
        → run.ReadCounts m words before after opened ending → DiskCount ending (m.disk.faults before.disk) (m.disk.faults after.disk) → Comes (ending_status ending)
    comes Whole may exact written read kept = inl refl
    comes CutShort may exact written read kept = absurd (can.whole (allowed CutShort exact).1)
    comes BadGraph may exact written read kept = absurd may
    comes Disk may exact written read kept = absurd (not_counted _ _ disk kept)
    comes Memory may exact written read kept = inr (inl refl)
    comes Output may exact written read kept = absurd (not_counted _ _ output written)
    comes Input may exact written read kept = elim read [
      | inl rose ↦ absurd (not_counted _ _ input rose.0)
      | inr rose ↦ absurd (not_counted _ _ tree rose.1)
    ]
    comes (NotOurs at) may exact written read kept = absurd may
    comes (Full at size) may exact written read kept = inr (inr refl)
    comes Usage may exact written read kept = absurd may
    comes TooLong may exact written read kept =
        let long : input_limit ≤ length can.input = (allowed TooLong exact).0 in
        let short : length can.input < input_limit = can.short in
        absurd (omega (arith, long, short))
    comes Loaded may exact written read kept = absurd may
    comes Room may exact written read kept = absurd may

pub runs_complete : AskedIsOne → OneOffset → {I O T S D : Type 0} (m : Views I O T S D) → RunsComplete m
runs_complete one offsets m words before after can status ends none =
    subst (λ n. (n ≡ 0) ⊎ ((n ≡ 4) ⊎ (n ≡ 8))) (sym ends.status_is)
    (comes m words before after can ends.ended.opened none.input none.output none.disk none.tree ends.ending (how_ends m words before after can one offsets ends.ended.opened ends.ending ends.ended.how) ends.exact ends.output
    ends.reads ends.disk)
