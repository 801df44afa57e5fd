use Rattle.std.proofs.Common.{◌≡◌, ◌≢◌, [], refl, ap, ◌∙◌, arith}
use Rattle.kept_records.specs.Records.{put_records}
use Rattle.std.proofs.lemmas.Grind.{common_steps}
use Rattle.std.proofs.lemmas.Bool.Decides.{nat_tests}
use Rattle.meaning_records.specs.Batches.{facts_of}
use Rattle.odin_store.specs.Held.{Held, notes}
use Rattle.odin_store.specs.Changes.{NotesBatch}
use Rattle.odin_store.proofs.FitLemmas.{noted_fit}
use Rattle.odin_store.proofs.StampLemmas.{noted_stamped}
use Rattle.odin_store.proofs.StoreLemmas.{leaves_same}
use Rattle.odin_store.proofs.NoteLemmas.{in_memory}
use Rattle.odin_store.proofs.ReadyLemmas.{begins_none, notes_ready, ready_leaves, ready_begins, ready_adds, ready_holds}
use Rattle.odin_store.proofs.store.Store.keep_nodes.Goals as goal

pub returns-in_err-prepared-clause-any_moment : goal.returns-in_err-prepared-clause-any_moment
returns-in_err-prepared-clause-any_moment g c =
    leaves_same (notes (facts_of c.args.fresh.now)) c.args.self.now (g.D.Disk.told c.args.disk.now) (λ image follows left. g.met.D.Disk.only_now c.args.disk.now image follows left)

pub returns-in_err-append_framed-clause-any_moment : goal.returns-in_err-append_framed-clause-any_moment
returns-in_err-append_framed-clause-any_moment g c =
    let store = c.args.self.now in
    let fresh = c.args.fresh.now in
    let some : fresh ≢ [] = λ empty. grind (arith, common_steps, nat_tests) in
    let prepared = c.in_ok-prepared.prepared in
    let batch = c.in_ok-prepared.ensures.ok in
    let ready = notes_ready c.reads_in_one_way.ensures c.batches_read.ensures c.graph_is_one.ensures fresh store (g.D.Disk.size_of c.args.disk.now) c.prepare_nodes.new.self prepared some c.requires c.prepare_nodes.ensures.same batch in
    ready_leaves (NotesBatch store fresh) (notes (facts_of fresh)) store prepared.payload c.framed.result.now batch.2.next store.sources.texts ready c.framed.ensures
    store.journal (g.D.Disk.told c.args.disk.now) (g.D.Disk.told c.append_framed.new.disk) refl c.append_framed.ensures.any_moment

pub returns-clause-any_moment : goal.returns-clause-any_moment
returns-clause-any_moment g c =
    let store = c.args.self.now in
    let fresh = c.args.fresh.now in
    let some : fresh ≢ [] = λ empty. grind (arith, common_steps, nat_tests) in
    let prepared = c.in_ok-prepared.prepared in
    let batch = c.in_ok-prepared.ensures.ok in
    let ready = notes_ready c.reads_in_one_way.ensures c.batches_read.ensures c.graph_is_one.ensures fresh store (g.D.Disk.size_of c.args.disk.now) c.prepare_nodes.new.self prepared some c.requires c.prepare_nodes.ensures.same batch in
    ready_leaves (NotesBatch store fresh) (notes (facts_of fresh)) store prepared.payload c.framed.result.now batch.2.next store.sources.texts ready c.framed.ensures
    store.journal (g.D.Disk.told c.args.disk.now) (g.D.Disk.told c.append_framed.new.disk) refl c.append_framed.ensures.any_moment

pub returns-clause-notes : goal.returns-clause-notes
returns-clause-notes g c =
    let store = c.args.self.now in
    let fresh = c.args.fresh.now in
    let prepared = c.in_ok-prepared.prepared in
    let batch = c.in_ok-prepared.ensures.ok in
    let mid = c.prepare_nodes.new.self in
    let some : fresh ≢ [] = λ empty. grind (arith, common_steps, nat_tests) in
    let ready = notes_ready c.reads_in_one_way.ensures c.batches_read.ensures c.graph_is_one.ensures fresh store (g.D.Disk.size_of c.args.disk.now) mid prepared some c.requires c.prepare_nodes.ensures.same batch in
    let tables : c.commit.new.self.tables ≡ batch.2.next = c.commit.ensures.tables batch.2.next batch.2.commits in
    record {
      some = λ there. record {
        holds = ready_holds (NotesBatch store fresh) (notes (facts_of fresh)) store prepared.payload c.framed.result.now batch.2.next store.sources.texts ready c.framed.ensures c.commit.new.self.tables store.sources.texts tables refl;
        epoch = refl;
        memory = in_memory store.epoch fresh store.kept mid c.commit.new.self prepared batch.2.next c.in_ok-prepared.ensures.notes batch.2.commits tables c.commit.ensures.records c.prepare_nodes.ensures.records;
        adds =
            ready_adds (NotesBatch store fresh) (notes (facts_of fresh)) store prepared.payload c.framed.result.now batch.2.next store.sources.texts ready c.framed.ensures store.journal _
            (g.D.Disk.told c.args.disk.now) (g.D.Disk.told c.append_framed.new.disk) refl refl c.in_ok-append_framed.ensures.added c.in_ok-append_framed.ensures.state.rests c.in_ok-append_framed.ensures.full.room c.append_framed.ensures.any_moment c.in_ok-append_framed.ensures.works tables refl;
      };
      none = λ empty. absurd (some empty);
    }

pub returns-in_err-append_framed-clause-begins : goal.returns-in_err-append_framed-clause-begins
returns-in_err-append_framed-clause-begins g c =
    let store = c.args.self.now in
    let fresh = c.args.fresh.now in
    let some : fresh ≢ [] = λ empty. grind (arith, common_steps, nat_tests) in
    let prepared = c.in_ok-prepared.prepared in
    let batch = c.in_ok-prepared.ensures.ok in
    let ready = notes_ready c.reads_in_one_way.ensures c.batches_read.ensures c.graph_is_one.ensures fresh store (g.D.Disk.size_of c.args.disk.now) c.prepare_nodes.new.self prepared some c.requires c.prepare_nodes.ensures.same batch in
    ready_begins (NotesBatch store fresh) (notes (facts_of fresh)) store prepared.payload c.framed.result.now batch.2.next store.sources.texts ready c.framed.ensures
    store.journal (g.D.Disk.told c.args.disk.now) (g.D.Disk.told c.append_framed.new.disk) refl c.append_framed.ensures.any_moment c.append_framed.ensures.works

pub returns-clause-begins : goal.returns-clause-begins
returns-clause-begins g c =
    let store = c.args.self.now in
    let fresh = c.args.fresh.now in
    let some : fresh ≢ [] = λ empty. grind (arith, common_steps, nat_tests) in
    let prepared = c.in_ok-prepared.prepared in
    let batch = c.in_ok-prepared.ensures.ok in
    let ready = notes_ready c.reads_in_one_way.ensures c.batches_read.ensures c.graph_is_one.ensures fresh store (g.D.Disk.size_of c.args.disk.now) c.prepare_nodes.new.self prepared some c.requires c.prepare_nodes.ensures.same batch in
    ready_begins (NotesBatch store fresh) (notes (facts_of fresh)) store prepared.payload c.framed.result.now batch.2.next store.sources.texts ready c.framed.ensures
    store.journal (g.D.Disk.told c.args.disk.now) (g.D.Disk.told c.append_framed.new.disk) refl c.append_framed.ensures.any_moment c.append_framed.ensures.works

pub returns-in_err-prepared-clause-begins : goal.returns-in_err-prepared-clause-begins
returns-in_err-prepared-clause-begins g c =
    begins_none (NotesBatch c.args.self.now c.args.fresh.now) c.args.self.now (g.D.Disk.told c.args.disk.now) (λ image follows left. g.met.D.Disk.only_now c.args.disk.now image follows left)

pub returns-then-is_empty-clause-any_moment : goal.returns-then-is_empty-clause-any_moment
returns-then-is_empty-clause-any_moment g c =
    leaves_same (notes (facts_of c.args.fresh.now)) c.args.self.now (g.D.Disk.told c.args.disk.now) (λ image follows left. g.met.D.Disk.only_now c.args.disk.now image follows left)

pub returns-then-is_empty-clause-begins : goal.returns-then-is_empty-clause-begins
returns-then-is_empty-clause-begins g c =
    begins_none (NotesBatch c.args.self.now c.args.fresh.now) c.args.self.now (g.D.Disk.told c.args.disk.now) (λ image follows left. g.met.D.Disk.only_now c.args.disk.now image follows left)

pub invariant_of-self-2 : goal.invariant_of-self-2
invariant_of-self-2 g c =
    let store = c.args.self.now in
    let noted = c.in_ok-prepared.prepared.notes in
    let new = c.commit.new.self.records.records in
    let is : new ≡ put_records noted store.kept.records.records = c.commit.ensures.records ∙ ap (put_records noted) c.prepare_nodes.ensures.records in
    let fresh = c.args.fresh.now in
    let prepared = c.in_ok-prepared.prepared in
    let batch = c.in_ok-prepared.ensures.ok in
    let some : fresh ≢ [] = λ empty. grind (arith, common_steps, nat_tests) in
    let ready = notes_ready c.reads_in_one_way.ensures c.batches_read.ensures c.graph_is_one.ensures fresh store (g.D.Disk.size_of c.args.disk.now) c.prepare_nodes.new.self prepared some c.requires c.prepare_nodes.ensures.same batch in
    let holds = ready_holds (NotesBatch store fresh) (notes (facts_of fresh)) store prepared.payload c.framed.result.now batch.2.next store.sources.texts ready c.framed.ensures c.commit.new.self.tables store.sources.texts (c.commit.ensures.tables batch.2.next batch.2.commits) refl in
    record {
      are = store.are;
      stamped = noted_stamped store.epoch noted store.kept.records.records new is c.in_ok-prepared.ensures.notes.checked store.stamped;
      fits =
          noted_fit c.fitting_is_tested.ensures c.graph_is_one.ensures store.graph c.requires.graph c.requires.spelled (facts_of fresh) store.kept.tables.records c.commit.new.self.tables.records
          (ap (λ (h : Held). h.records) holds) c.requires.fit store.fits;
    }
