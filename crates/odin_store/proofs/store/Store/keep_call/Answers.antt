use Rattle.std.proofs.Common.{◌≡◌, refl, sym, ap, subst, ◌∙◌}
use Rattle.odin_store.specs.Held.{Held, keeps}
use Rattle.odin_store.specs.Changes.{CallBatch}
use Rattle.odin_store.specs.Stamps.{AreStampedBy}
use Rattle.odin_store.proofs.FitLemmas.{same_fit}
use Rattle.odin_store.proofs.StoreLemmas.{leaves_same}
use Rattle.odin_store.proofs.StampLemmas.{nothing_noted}
use Rattle.odin_store.proofs.ReadyLemmas.{begins_none, call_ready, ready_leaves, ready_begins, ready_adds, ready_holds}
use Rattle.odin_store.proofs.store.Store.keep_call.Goals as goal

pub returns-in_err-prepared-clause-any_moment : goal.returns-in_err-prepared-clause-any_moment
returns-in_err-prepared-clause-any_moment g c =
    leaves_same (keeps c.args.call.now c.args.outcome.now) c.args.self.now (g.D.Disk.told c.args.disk.now) (λ image follows left. g.met.D.Disk.only_now c.args.disk.now image follows left)

pub returns-in_err-append_framed-clause-any_moment : goal.returns-in_err-append_framed-clause-any_moment
returns-in_err-append_framed-clause-any_moment g c =
    let store = c.args.self.now in
    let call = c.args.call.now in
    let outcome = c.args.outcome.now in
    let prepared = c.in_ok-prepared.prepared in
    let batch = c.in_ok-prepared.ensures.ok in
    let ready = call_ready c.reads_in_one_way.ensures call outcome store c.prepare_call.new.self prepared c.prepare_call.ensures.same c.requires.new batch in
    ready_leaves (CallBatch store call outcome) (keeps call outcome) store prepared.payload c.framed.result.now batch.2.next store.sources.texts ready c.framed.ensures
    store.journal (g.D.Disk.told c.args.disk.now) (g.D.Disk.told c.append_framed.new.disk) refl c.append_framed.ensures.any_moment

pub returns-clause-any_moment : goal.returns-clause-any_moment
returns-clause-any_moment g c =
    let store = c.args.self.now in
    let call = c.args.call.now in
    let outcome = c.args.outcome.now in
    let prepared = c.in_ok-prepared.prepared in
    let batch = c.in_ok-prepared.ensures.ok in
    let ready = call_ready c.reads_in_one_way.ensures call outcome store c.prepare_call.new.self prepared c.prepare_call.ensures.same c.requires.new batch in
    ready_leaves (CallBatch store call outcome) (keeps call outcome) store prepared.payload c.framed.result.now batch.2.next store.sources.texts ready c.framed.ensures
    store.journal (g.D.Disk.told c.args.disk.now) (g.D.Disk.told c.append_framed.new.disk) refl c.append_framed.ensures.any_moment

pub returns-clause-keeps : goal.returns-clause-keeps
returns-clause-keeps g c =
    let store = c.args.self.now in
    let call = c.args.call.now in
    let outcome = c.args.outcome.now in
    let prepared = c.in_ok-prepared.prepared in
    let batch = c.in_ok-prepared.ensures.ok in
    let ready = call_ready c.reads_in_one_way.ensures call outcome store c.prepare_call.new.self prepared c.prepare_call.ensures.same c.requires.new batch in
    let tables : c.commit.new.self.tables ≡ batch.2.next = c.commit.ensures.tables batch.2.next batch.2.commits in
    record {
      holds = ready_holds (CallBatch store call outcome) (keeps call outcome) store prepared.payload c.framed.result.now batch.2.next store.sources.texts ready c.framed.ensures c.commit.new.self.tables store.sources.texts tables refl;
      epoch = refl;
      nodes = nothing_noted prepared.notes c.prepare_call.new.self.records.records c.commit.new.self.records.records c.commit.ensures.records c.in_ok-prepared.ensures.notes ∙ c.prepare_call.ensures.records;
      adds =
          ready_adds (CallBatch store call outcome) (keeps call outcome) store prepared.payload c.framed.result.now batch.2.next store.sources.texts ready c.framed.ensures store.journal _
          (g.D.Disk.told c.args.disk.now) (g.D.Disk.told c.append_framed.new.disk) refl refl c.in_ok-append_framed.ensures.added c.in_ok-append_framed.ensures.state.rests c.in_ok-append_framed.ensures.full.room c.append_framed.ensures.any_moment c.in_ok-append_framed.ensures.works tables refl;
    }

pub returns-in_err-append_framed-clause-begins : goal.returns-in_err-append_framed-clause-begins
returns-in_err-append_framed-clause-begins g c =
    let store = c.args.self.now in
    let call = c.args.call.now in
    let outcome = c.args.outcome.now in
    let prepared = c.in_ok-prepared.prepared in
    let batch = c.in_ok-prepared.ensures.ok in
    let ready = call_ready c.reads_in_one_way.ensures call outcome store c.prepare_call.new.self prepared c.prepare_call.ensures.same c.requires.new batch in
    ready_begins (CallBatch store call outcome) (keeps call outcome) store prepared.payload c.framed.result.now batch.2.next store.sources.texts ready c.framed.ensures
    store.journal (g.D.Disk.told c.args.disk.now) (g.D.Disk.told c.append_framed.new.disk) refl c.append_framed.ensures.any_moment c.append_framed.ensures.works

pub returns-clause-begins : goal.returns-clause-begins
returns-clause-begins g c =
    let store = c.args.self.now in
    let call = c.args.call.now in
    let outcome = c.args.outcome.now in
    let prepared = c.in_ok-prepared.prepared in
    let batch = c.in_ok-prepared.ensures.ok in
    let ready = call_ready c.reads_in_one_way.ensures call outcome store c.prepare_call.new.self prepared c.prepare_call.ensures.same c.requires.new batch in
    ready_begins (CallBatch store call outcome) (keeps call outcome) store prepared.payload c.framed.result.now batch.2.next store.sources.texts ready c.framed.ensures
    store.journal (g.D.Disk.told c.args.disk.now) (g.D.Disk.told c.append_framed.new.disk) refl c.append_framed.ensures.any_moment c.append_framed.ensures.works

pub returns-in_err-prepared-clause-begins : goal.returns-in_err-prepared-clause-begins
returns-in_err-prepared-clause-begins g c =
    begins_none (CallBatch c.args.self.now c.args.call.now c.args.outcome.now) c.args.self.now (g.D.Disk.told c.args.disk.now) (λ image follows left. g.met.D.Disk.only_now c.args.disk.now image follows left)

pub invariant_of-self-2 : goal.invariant_of-self-2
invariant_of-self-2 g c =
    let store = c.args.self.now in
    let call = c.args.call.now in
    let outcome = c.args.outcome.now in
    let prepared = c.in_ok-prepared.prepared in
    let batch = c.in_ok-prepared.ensures.ok in
    let ready = call_ready c.reads_in_one_way.ensures call outcome store c.prepare_call.new.self prepared c.prepare_call.ensures.same c.requires.new batch in
    let holds = ready_holds (CallBatch store call outcome) (keeps call outcome) store prepared.payload c.framed.result.now batch.2.next store.sources.texts ready c.framed.ensures c.commit.new.self.tables store.sources.texts (c.commit.ensures.tables batch.2.next batch.2.commits) refl in
    let nodes = nothing_noted prepared.notes c.prepare_call.new.self.records.records c.commit.new.self.records.records c.commit.ensures.records c.in_ok-prepared.ensures.notes ∙ c.prepare_call.ensures.records in
    record {
      are = store.are;
      stamped = subst (AreStampedBy store.epoch) (sym nodes) store.stamped;
      fits = same_fit store.graph store.graph store.kept.tables.records c.commit.new.self.tables.records refl (ap (λ (h : Held). h.records) holds) store.fits;
    }
