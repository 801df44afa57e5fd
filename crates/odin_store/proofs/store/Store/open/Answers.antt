use Rattle.std.proofs.Common.{◌≡◌, ℕ, ◌+◌, ◌-◌, [], length, Some, None, IsTrue, IsFalse, sym, ap, ap₂, subst, ◌∙◌, arith, rules}
use Rattle.std.proofs.lemmas.List.Elements.{All-nil}
use Rattle.object_values.specs.declared.records.NodeRecord.{NodeRecord}
use Rattle.object_values.specs.Texts.{SourceStock}
use Rattle.odin_journal.specs.WorkLemmas.{more_work, add_work, few_reads}
use Rattle.odin_outside.specs.Worked.{WorkedWithin}
use Rattle.odin_journal.specs.Faults.{IsAddFault}
use Rattle.odin_journal.specs.Moments.{Works}
use Rattle.odin_journal.specs.Rest.{AddsRecord, KeepsOrAdds, RestsOnMore}
use Rattle.odin_journal.specs.declared.journal.Journal.{Journal}
use Rattle.odin_journal.specs.declared.fault.JournalFault.TheVariants as fault
use Rattle.meaning_derive.specs.Given.{AreSources}
use Rattle.meaning_records.specs.States.{State}
use Rattle.meaning_records.specs.Tables.{Tables, without_records}
use Rattle.kept_tables.specs.Holdings.{Holding}
use Rattle.odin_store.specs.Held.{NotedFits}
use Rattle.odin_store.specs.Loading.{state_of, records_size}
use Rattle.odin_store.specs.OnDisk.{state_in}
use Rattle.odin_store.specs.Opening.{graph_record, IsOpened, IsStoreOpenFault}
use Rattle.odin_store.specs.Stamps.{AreUnchecked}
use Rattle.odin_store.proofs.FitLemmas.{loaded_fit, none_fit}
use Rattle.odin_store.proofs.StoreLemmas.{state_with, handed}
use Rattle.odin_store.proofs.SourceLemmas.{sources_read}
use Rattle.odin_store.proofs.OpenLemmas.{records_stay, graph_added, journal_fault, load_fault, memory_fault, add_fault, refused_of, with_graph, all_fit, has_it, has_other, opens_known, opens_added}
use Rattle.odin_store.proofs.store.Store.open.Goals as goal

pub returns-in_err-journal-clause-any_moment : goal.returns-in_err-journal-clause-any_moment
returns-in_err-journal-clause-any_moment g c = records_stay c.args.text.now (g.D.Disk.told c.args.disk.now) (g.D.Disk.told c.open.new.disk) c.open.ensures.any_moment

pub returns-in_err-loading-clause-any_moment : goal.returns-in_err-loading-clause-any_moment
returns-in_err-loading-clause-any_moment g c = records_stay c.args.text.now (g.D.Disk.told c.args.disk.now) (g.D.Disk.told c.open.new.disk) c.open.ensures.any_moment

pub returns-in_err-loading-clause-refused : goal.returns-in_err-loading-clause-refused
returns-in_err-loading-clause-refused g c =
    let old = g.D.Disk.told c.args.disk.now in
    let mid = g.D.Disk.told c.open.new.disk in
    let e = c.in_err-loading.field-0.0 in
    let records = c.in_ok-journal.records in
    let end = c.in_ok-journal.journal.end in
    handed (IsStoreOpenFault c.args.text.now old mid) c.from_residual-in_err-loading.result e c.from_residual-in_err-loading.ensures.1
    (load_fault c.graph_is_one.ensures c.args.graph.now c.args.text.now c.requires.spelled old mid records end c.first_gate-start.result c.open.ensures.untouched c.in_ok-journal.ensures.opened.opens
    (c.first_gate-start.ensures ∙ ap₂ (λ n l. n - records_size l) c.end.ensures c.as_slice.ensures) e c.in_err-loading.ensures.fault)

pub returns-then-has_graph-clause-any_moment : goal.returns-then-has_graph-clause-any_moment
returns-then-has_graph-clause-any_moment g c = records_stay c.args.text.now (g.D.Disk.told c.args.disk.now) (g.D.Disk.told c.open.new.disk) c.open.ensures.any_moment

pub returns-then-has_graph-clause-opened : goal.returns-then-has_graph-clause-opened
returns-then-has_graph-clause-opened g c =
    let old = g.D.Disk.told c.args.disk.now in
    let mid = g.D.Disk.told c.open.new.disk in
    let read = c.in_ok-loading.ensures.read in
    let state : State = state_of c.in_ok-loading.loading read.past in
    let answered : IsTrue c.has_graph.result = search rules in
    let store = c.of-known.result in
    let holds : state_in store state.graph state.noted ≡ state =
    ap₂ (λ (k : Holding) (s : SourceStock). record { tables = k.tables; sources = s.texts; graph = state.graph; noted = state.noted }) c.of-known.ensures.kept c.of-known.ensures.sources in
    opens_known c.args.text.now old mid store c.in_ok-journal.records c.in_ok-journal.journal state c.open.ensures.untouched c.in_ok-journal.ensures.opened.opens c.in_ok-journal.ensures.opened.starts read.read (all_fit c.graph_is_one.ensures c.args.graph.now c.args.text.now state c.requires.spelled read.fit)
    (few_reads 66 14 (length c.in_ok-journal.records) _ old.work mid.work c.in_ok-journal.ensures.reads) c.of-known.ensures.journal (c.of-known.ensures.opened.graph_is ∙ c.in_ok-kept.ensures) holds (has_it c.in_ok-loading.loading.text.now c.args.text.now read.past.last c.has_graph.result read.text_is (c.has_graph.ensures read.past read.is) answered)

pub returns-in_err-kept-clause-any_moment : goal.returns-in_err-kept-clause-any_moment
returns-in_err-kept-clause-any_moment g c = records_stay c.args.text.now (g.D.Disk.told c.args.disk.now) (g.D.Disk.told c.open.new.disk) c.open.ensures.any_moment

pub returns-in_err-kept-clause-refused : goal.returns-in_err-kept-clause-refused
returns-in_err-kept-clause-refused g c =
    handed (IsStoreOpenFault c.args.text.now (g.D.Disk.told c.args.disk.now) (g.D.Disk.told c.open.new.disk)) c.from_residual-in_err-kept.result fault.Memory c.from_residual-in_err-kept.ensures.1
    (memory_fault c.args.text.now (g.D.Disk.told c.args.disk.now) (g.D.Disk.told c.open.new.disk) c.in_ok-journal.records c.in_ok-journal.journal.end c.open.ensures.untouched c.in_ok-journal.ensures.opened.opens)

pub returns-in_err-payload-clause-any_moment : goal.returns-in_err-payload-clause-any_moment
returns-in_err-payload-clause-any_moment g c = records_stay c.args.text.now (g.D.Disk.told c.args.disk.now) (g.D.Disk.told c.open.new.disk) c.open.ensures.any_moment

pub returns-in_err-payload-clause-refused : goal.returns-in_err-payload-clause-refused
returns-in_err-payload-clause-refused g c =
    handed (IsStoreOpenFault c.args.text.now (g.D.Disk.told c.args.disk.now) (g.D.Disk.told c.open.new.disk)) c.from_residual-in_err-payload.result fault.Memory c.from_residual-in_err-payload.ensures.1
    (memory_fault c.args.text.now (g.D.Disk.told c.args.disk.now) (g.D.Disk.told c.open.new.disk) c.in_ok-journal.records c.in_ok-journal.journal.end c.open.ensures.untouched c.in_ok-journal.ensures.opened.opens)

pub returns-in_err-append-clause-any_moment : goal.returns-in_err-append-clause-any_moment
returns-in_err-append-clause-any_moment g c =
    let mid = g.D.Disk.told c.open.new.disk in
    let new = g.D.Disk.told c.append.new.disk in
    let end = c.in_ok-journal.journal.end in
    let answered : IsFalse c.has_graph.result = search rules in
    let read = c.in_ok-loading.ensures.read in
    graph_added c.args.text.now (g.D.Disk.told c.args.disk.now) mid new c.in_ok-journal.records end (state_of c.in_ok-loading.loading read.past) read.read (has_other c.in_ok-loading.loading.text.now c.args.text.now read.past.last c.has_graph.result read.text_is (c.has_graph.ensures read.past read.is) answered) c.open.ensures.any_moment
    c.in_ok-journal.ensures.opened.opens
    (subst (λ b. KeepsOrAdds end b mid new) (c.as_slice-2.ensures ∙ c.in_ok-payload.ensures) c.append.ensures.any_moment)

pub returns-clause-any_moment : goal.returns-clause-any_moment
returns-clause-any_moment g c =
    let mid = g.D.Disk.told c.open.new.disk in
    let new = g.D.Disk.told c.append.new.disk in
    let end = c.in_ok-journal.journal.end in
    let answered : IsFalse c.has_graph.result = search rules in
    let read = c.in_ok-loading.ensures.read in
    graph_added c.args.text.now (g.D.Disk.told c.args.disk.now) mid new c.in_ok-journal.records end (state_of c.in_ok-loading.loading read.past) read.read (has_other c.in_ok-loading.loading.text.now c.args.text.now read.past.last c.has_graph.result read.text_is (c.has_graph.ensures read.past read.is) answered) c.open.ensures.any_moment
    c.in_ok-journal.ensures.opened.opens
    (subst (λ b. KeepsOrAdds end b mid new) (c.as_slice-2.ensures ∙ c.in_ok-payload.ensures) c.append.ensures.any_moment)

pub returns-in_err-append-clause-refused : goal.returns-in_err-append-clause-refused
returns-in_err-append-clause-refused g c =
    let old = g.D.Disk.told c.args.disk.now in
    let mid = g.D.Disk.told c.open.new.disk in
    let new = g.D.Disk.told c.append.new.disk in
    let e = c.in_err-append.field-0.0 in
    let records = c.in_ok-journal.records in
    let end = c.in_ok-journal.journal.end in
    let graph = c.args.text.now in
    let read = c.in_ok-loading.ensures.read in
    let answered : IsFalse c.has_graph.result = search rules in
    let told : IsAddFault end (length (graph_record graph)) e = subst (λ b. IsAddFault end (length b) e) (c.as_slice-2.ensures ∙ c.in_ok-payload.ensures) c.in_err-append.ensures.full.err in
    handed (IsStoreOpenFault graph old new) c.from_residual-in_err-append.result e c.from_residual-in_err-append.ensures.1
    (add_fault graph old mid new records end e (state_of c.in_ok-loading.loading read.past) read.read (has_other c.in_ok-loading.loading.text.now c.args.text.now read.past.last c.has_graph.result read.text_is (c.has_graph.ensures read.past read.is) answered) c.requires.short c.open.ensures.untouched c.in_ok-journal.ensures.opened.opens
    (λ other there. subst (λ d. IsStoreOpenFault graph old (g.D.Disk.told d) e) (sym (c.in_err-append.ensures.same (refused_of ℕ e other)).0) there) told)

-- over an empty file the work is that of the front and of the batch of the graph
pub returns-in_err-append-clause-works : goal.returns-in_err-append-clause-works
returns-in_err-append-clause-works g c = λ empty.
    let old = (g.D.Disk.told c.args.disk.now).work in
    let mid = (g.D.Disk.told c.open.new.disk).work in
    let new = (g.D.Disk.told c.append.new.disk).work in
    let size : ℕ = length (graph_record c.args.text.now) in
    let added : WorkedWithin (size + 6) 4 mid new = subst (λ b. WorkedWithin (length b + 6) 4 mid new) (c.as_slice-2.ensures ∙ c.in_ok-payload.ensures) c.append.ensures.works in
    more_work (66 + (size + 6)) 20 (72 + size) 20 old new (omega arith) (omega arith) (add_work 66 16 (size + 6) 4 old mid new (c.open.ensures.empty empty).works added)

pub returns-clause-opened : goal.returns-clause-opened
returns-clause-opened g c =
    let old = g.D.Disk.told c.args.disk.now in
    let mid = g.D.Disk.told c.open.new.disk in
    let new = g.D.Disk.told c.append.new.disk in
    let graph = c.args.text.now in
    let end = c.in_ok-journal.journal.end in
    let read = c.in_ok-loading.ensures.read in
    let state : State = state_of c.in_ok-loading.loading read.past in
    let answered : IsFalse c.has_graph.result = search rules in
    let store = c.of-added.result in
    let forgotten : store.kept.tables ≡ without_records c.in_ok-loading.loading.kept.tables = ap (λ (k : Holding). k.tables) c.of-added.ensures.kept ∙ c.forget_records.ensures.tables in
    let holds : state_with store.kept.tables store.sources.texts (Some graph) [] ≡ with_graph graph state =
    ap₂ (λ (t : Tables) (s : SourceStock). state_with t s.texts (Some graph) []) forgotten (c.of-added.ensures.sources ∙ c.forget_records.ensures.sources) in
    let adds : AddsRecord end store.journal.end (graph_record graph) mid new =
    subst (λ (j : Journal). AddsRecord end j.end (graph_record graph) mid new) (sym c.of-added.ensures.journal)
    (subst (λ b. AddsRecord end c.append.new.self.end b mid new) (c.as_slice-2.ensures ∙ c.in_ok-payload.ensures) c.in_ok-append.ensures.added) in
    let work : Works (length (graph_record graph) + 6) 4 mid new = subst (λ b. Works (length b + 6) 4 mid new) (c.as_slice-2.ensures ∙ c.in_ok-payload.ensures) c.in_ok-append.ensures.works in
    let more : RestsOnMore c.in_ok-journal.journal store.journal (graph_record graph) mid new =
    subst (λ (j : Journal). RestsOnMore c.in_ok-journal.journal j (graph_record graph) mid new) (sym c.of-added.ensures.journal)
    (subst (λ b. RestsOnMore c.in_ok-journal.journal c.append.new.self b mid new) (c.as_slice-2.ensures ∙ c.in_ok-payload.ensures) c.in_ok-append.ensures.state.rests) in
    opens_added graph old mid new _ c.in_ok-journal.records c.in_ok-journal.journal state c.requires.short c.open.ensures.untouched c.in_ok-journal.ensures.opened.opens c.in_ok-journal.ensures.opened.starts read.read (all_fit c.graph_is_one.ensures c.args.graph.now c.args.text.now state c.requires.spelled read.fit)
    (few_reads 66 14 (length c.in_ok-journal.records) _ old.work mid.work c.in_ok-journal.ensures.reads) work adds more (c.of-added.ensures.opened.graph_is ∙ c.in_ok-kept.ensures) holds (has_other c.in_ok-loading.loading.text.now c.args.text.now read.past.last c.has_graph.result read.text_is (c.has_graph.ensures read.past read.is) answered)

pub returns-in_err-journal-clause-refused : goal.returns-in_err-journal-clause-refused
returns-in_err-journal-clause-refused g c =
    let old = g.D.Disk.told c.args.disk.now in
    let new = g.D.Disk.told c.open.new.disk in
    handed (IsStoreOpenFault c.args.text.now old new) c.from_residual.result c.in_err-journal.field-0.0 c.from_residual.ensures.1
    (journal_fault c.args.text.now old new c.in_err-journal.field-0.0 c.open.ensures.untouched c.in_err-journal.ensures.refused)

pub of-known-requires : goal.of-known-requires
of-known-requires g c =
    let read = c.in_ok-loading.ensures.read in
    let text = c.args.text.now in
    let state : State = state_of c.in_ok-loading.loading read.past in
    let answered : IsTrue c.has_graph.result = search rules in
    let last = has_it c.in_ok-loading.loading.text.now text read.past.last c.has_graph.result read.text_is (c.has_graph.ensures read.past read.is) answered in
    let fits = loaded_fit c.last_were_noted.ensures c.graph_is_one.ensures c.args.graph.now text c.requires.spelled c.in_ok-journal.records state read.read last read.fit in
    record {
      sources = sources_read c.in_ok-journal.records state read.read;
      unchecked = read.unchecked;
      fits = subst (λ t. NotedFits t state.tables.records) (sym c.in_ok-kept.ensures) fits;
    }

pub of-added-requires : goal.of-added-requires
of-added-requires g c =
    let read = c.in_ok-loading.ensures.read in
    let forgotten = c.forget_records.new.self in
    record {
      sources = subst (λ (s : SourceStock). AreSources s.texts) (sym c.forget_records.ensures.sources) (sources_read c.in_ok-journal.records (state_of c.in_ok-loading.loading read.past) read.read);
      unchecked = subst AreUnchecked (sym c.forget_records.ensures.records) (All-nil (λ (r : NodeRecord). r.checked ≡ None));
      fits = none_fit c.in_ok-kept.kept forgotten.kept.tables.records (ap (λ (t : Tables). t.records) c.forget_records.ensures.tables);
    }

pub returns-clause-works : goal.returns-clause-works
returns-clause-works g c empty =
    let old = g.D.Disk.told c.args.disk.now in
    let mid = g.D.Disk.told c.open.new.disk in
    let new = g.D.Disk.told c.append.new.disk in
    let bytes = graph_record c.args.text.now in
    let added : Works (length bytes + 6) 4 mid new = subst (λ b. Works (length b + 6) 4 mid new) (c.as_slice-2.ensures ∙ c.in_ok-payload.ensures) c.in_ok-append.ensures.works in
    more_work (66 + (length bytes + 6)) 20 (72 + length bytes) 20 old.work new.work (omega arith) (omega arith) (add_work 66 16 (length bytes + 6) 4 old.work mid.work new.work (c.open.ensures.empty empty).works added)

pub returns-then-has_graph-clause-first : goal.returns-then-has_graph-clause-first
returns-then-has_graph-clause-first g c = record {
  opened = subst (λ text. IsOpened text c.of-known.result) c.in_ok-kept.ensures c.of-known.ensures.opened;
  empty = λ zero.
      let end = ap (λ (j : Journal). j.end) c.of-known.ensures.journal ∙ (c.in_ok-journal.ensures.empty zero).end in
      omega (arith, end);
}

pub returns-then-has_graph-clause-works : goal.returns-then-has_graph-clause-works
returns-then-has_graph-clause-works g c empty =
    let old = g.D.Disk.told c.args.disk.now in
    let mid = g.D.Disk.told c.open.new.disk in
    let size : ℕ = length (graph_record c.args.text.now) in
    more_work 66 16 (72 + size) 20 old.work mid.work (omega arith) (omega arith) (c.open.ensures.empty empty).works

pub returns-clause-first : goal.returns-clause-first
returns-clause-first g c = record {
  opened = subst (λ text. IsOpened text c.of-added.result) c.in_ok-kept.ensures c.of-added.ensures.opened;
  empty = λ zero.
      let first = (c.in_ok-journal.ensures.empty zero).end in
      let next = ap (λ (j : Journal). j.end) c.of-added.ensures.journal ∙ c.in_ok-append.ensures.added.next_is in
      let long = ap length (c.as_slice-2.ensures ∙ c.in_ok-payload.ensures) in
      omega (arith, first, next, long);
}
