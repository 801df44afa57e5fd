use Rattle.std.proofs.Common.{◌≡◌, ◌+◌, IsTrue, refl, sym, ap, subst, ◌∙◌, arith, rules}
use Rattle.std.specs.FinMap as map
use Rattle.meaning_derive.specs.Given.{AreSources}
use Rattle.odin_store.specs.Held.{drops}
use Rattle.odin_store.specs.Changes.{DropBatch}
use Rattle.odin_store.proofs.SourceLemmas.{drop_stays}
use Rattle.odin_store.specs.OnDisk.{IsChangeFault}
use Rattle.odin_store.proofs.StampLemmas.{later_stamped}
use Rattle.odin_store.proofs.StoreLemmas.{handed}
use Rattle.odin_store.proofs.ReadyLemmas.{drop_ready, ready_leaves, ready_begins, ready_fault, ready_adds, ready_holds}
use Rattle.odin_store.proofs.store.Store.drop_source.Goals as goal

pub returns-in_err-append-clause-any_moment : goal.returns-in_err-append-clause-any_moment
returns-in_err-append-clause-any_moment g c =
    let store = c.args.self.now in
    let name = c.args.name.now in
    let payload = c.in_ok-payload.payload in
    let answered : IsTrue c.has_source.result = search rules in
    let ready = drop_ready name store payload c.drop_payload.ensures.named (c.has_source.ensures.yes answered) c.in_ok-payload.ensures.bytes in
    ready_leaves (DropBatch name) (drops name) store payload c.as_slice.result.now store.kept.tables (map.remove store.sources.texts name) ready c.as_slice.ensures
    store.journal (g.D.Disk.told c.args.disk.now) (g.D.Disk.told c.append.new.disk) refl c.append.ensures.any_moment

pub returns-in_err-append-clause-fault : goal.returns-in_err-append-clause-fault
returns-in_err-append-clause-fault g c =
    let store = c.args.self.now in
    let name = c.args.name.now in
    let payload = c.in_ok-payload.payload in
    let e = c.in_err-append.field-0.0 in
    let answered : IsTrue c.has_source.result = search rules in
    let there = c.has_source.ensures.yes answered in
    let ready = drop_ready name store payload c.drop_payload.ensures.named there c.in_ok-payload.ensures.bytes in
    handed (IsChangeFault (DropBatch name) (drops name) store) c.from_residual-in_err-append.result e c.from_residual-in_err-append.ensures.1
    (ready_fault (DropBatch name) (drops name) store payload c.as_slice.result.now store.kept.tables (map.remove store.sources.texts name) ready c.as_slice.ensures store.journal refl there e c.in_err-append.ensures.full.err)

pub returns-clause-any_moment : goal.returns-clause-any_moment
returns-clause-any_moment g c =
    let store = c.args.self.now in
    let name = c.args.name.now in
    let payload = c.in_ok-payload.payload in
    let answered : IsTrue c.has_source.result = search rules in
    let ready = drop_ready name store payload c.drop_payload.ensures.named (c.has_source.ensures.yes answered) c.in_ok-payload.ensures.bytes in
    ready_leaves (DropBatch name) (drops name) store payload c.as_slice.result.now store.kept.tables (map.remove store.sources.texts name) ready c.as_slice.ensures
    store.journal (g.D.Disk.told c.args.disk.now) (g.D.Disk.told c.append.new.disk) refl c.append.ensures.any_moment

pub returns-clause-drops : goal.returns-clause-drops
returns-clause-drops g c =
    let store = c.args.self.now in
    let name = c.args.name.now in
    let payload = c.in_ok-payload.payload in
    let answered : IsTrue c.has_source.result = search rules in
    let there = c.has_source.ensures.yes answered in
    let ready = drop_ready name store payload c.drop_payload.ensures.named there c.in_ok-payload.ensures.bytes in
    let edited = map.remove store.sources.texts name in
    let removed : c.remove.new.self.texts ≡ edited = c.remove.ensures.removed ∙ ap (λ n. map.remove store.sources.texts n) c.as_slice-2.ensures.bytes in
    record {
      exact = (λ yes. there, λ some. search rules);
      edits = λ yes. record {
        holds = ready_holds (DropBatch name) (drops name) store payload c.as_slice.result.now store.kept.tables edited ready c.as_slice.ensures store.kept.tables c.remove.new.self.texts refl removed;
        epoch = omega arith;
        nodes = refl;
        adds =
            ready_adds (DropBatch name) (drops name) store payload c.as_slice.result.now store.kept.tables edited ready c.as_slice.ensures store.journal _
            (g.D.Disk.told c.args.disk.now) (g.D.Disk.told c.append.new.disk) refl refl c.in_ok-append.ensures.added c.in_ok-append.ensures.state.rests c.in_ok-append.ensures.full.room c.append.ensures.any_moment c.in_ok-append.ensures.works refl removed;
      };
      same = λ no. (let absurdity : ⊥ = cc in absurd absurdity);
    }

pub invariant_of-self-2 : goal.invariant_of-self-2
invariant_of-self-2 g c =
    let texts = c.args.self.now.sources.texts in
    let removed : c.remove.new.self.texts ≡ map.remove texts c.args.name.now = c.remove.ensures.removed ∙ ap (map.remove texts) c.as_slice-2.ensures.bytes in
    let store = c.args.self.now in
    record {
      are = subst AreSources (sym removed) (drop_stays texts c.args.name.now store.are);
      stamped = later_stamped store.epoch (store.epoch + 1) store.kept.records.records (omega arith) store.stamped;
      fits = store.fits;
    }

pub returns-in_err-append-clause-begins : goal.returns-in_err-append-clause-begins
returns-in_err-append-clause-begins g c =
    let store = c.args.self.now in
    let name = c.args.name.now in
    let payload = c.in_ok-payload.payload in
    let answered : IsTrue c.has_source.result = search rules in
    let ready = drop_ready name store payload c.drop_payload.ensures.named (c.has_source.ensures.yes answered) c.in_ok-payload.ensures.bytes in
    ready_begins (DropBatch name) (drops name) store payload c.as_slice.result.now store.kept.tables (map.remove store.sources.texts name) ready c.as_slice.ensures
    store.journal (g.D.Disk.told c.args.disk.now) (g.D.Disk.told c.append.new.disk) refl c.append.ensures.any_moment c.append.ensures.works

pub returns-clause-begins : goal.returns-clause-begins
returns-clause-begins g c =
    let store = c.args.self.now in
    let name = c.args.name.now in
    let payload = c.in_ok-payload.payload in
    let answered : IsTrue c.has_source.result = search rules in
    let ready = drop_ready name store payload c.drop_payload.ensures.named (c.has_source.ensures.yes answered) c.in_ok-payload.ensures.bytes in
    ready_begins (DropBatch name) (drops name) store payload c.as_slice.result.now store.kept.tables (map.remove store.sources.texts name) ready c.as_slice.ensures
    store.journal (g.D.Disk.told c.args.disk.now) (g.D.Disk.told c.append.new.disk) refl c.append.ensures.any_moment c.append.ensures.works
