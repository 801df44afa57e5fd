use Rattle.std.proofs.Common.{◌≡◌, ◌≢◌, ◌+◌, Some, IsFalse, sym, ap, ap₂, subst, refl, ◌∙◌, arith, rules}
use Rattle.std.specs.FinMap as map
use Rattle.meaning_derive.specs.Given.{AreSources}
use Rattle.odin_store.specs.Held.{Held, puts}
use Rattle.odin_store.specs.OnDisk.{IsChangeFault}
use Rattle.odin_store.specs.Changes.{PutBatch}
use Rattle.odin_store.proofs.SourceLemmas.{put_stays}
use Rattle.odin_store.specs.Stamps.{AreStampedBy}
use Rattle.odin_store.proofs.FitLemmas.{same_fit}
use Rattle.odin_store.proofs.StampLemmas.{later_stamped, nothing_noted}
use Rattle.odin_store.proofs.StoreLemmas.{held_with, handed}
use Rattle.odin_store.proofs.ReadyLemmas.{put_ready, ready_leaves, ready_begins, ready_fault, ready_adds, ready_holds}
use Rattle.odin_store.proofs.store.Store.put_source.Goals as goal

pub returns-in_err-append_framed-clause-any_moment : goal.returns-in_err-append_framed-clause-any_moment
returns-in_err-append_framed-clause-any_moment g c =
    let store = c.args.self.now in
    let mid = c.prepare_put.new.self in
    let same = c.prepare_put.ensures.same in
    let prepared = c.in_ok-source.prepared in
    let ready = put_ready c.args.name.now c.args.text.now store mid prepared same c.in_ok-source.ensures.batch in
    ready_leaves (PutBatch store c.args.name.now c.args.text.now) (puts c.args.name.now c.args.text.now) store prepared.payload c.framed.result.now c.in_ok-source.ensures.batch.2.next
    (map.insert store.sources.texts c.args.name.now c.args.text.now) ready c.framed.ensures mid.journal (g.D.Disk.told c.args.disk.now) (g.D.Disk.told c.append_framed.new.disk) same.journal c.append_framed.ensures.any_moment

pub returns-in_err-append_framed-clause-fault : goal.returns-in_err-append_framed-clause-fault
returns-in_err-append_framed-clause-fault g c =
    let store = c.args.self.now in
    let mid = c.prepare_put.new.self in
    let same = c.prepare_put.ensures.same in
    let prepared = c.in_ok-source.prepared in
    let e = c.in_err-append_framed.field-0.0 in
    let ready = put_ready c.args.name.now c.args.text.now store mid prepared same c.in_ok-source.ensures.batch in
    let answered : IsFalse c.has_text.result = search rules in
    handed (IsChangeFault (PutBatch store c.args.name.now c.args.text.now) (puts c.args.name.now c.args.text.now) store) c.from_residual-in_err-append_framed.result e c.from_residual-in_err-append_framed.ensures.1
    (ready_fault (PutBatch store c.args.name.now c.args.text.now) (puts c.args.name.now c.args.text.now) store prepared.payload c.framed.result.now c.in_ok-source.ensures.batch.2.next
    (map.insert store.sources.texts c.args.name.now c.args.text.now) ready c.framed.ensures mid.journal same.journal (c.has_text.ensures.no answered) e c.in_err-append_framed.ensures.full.err)

pub returns-clause-any_moment : goal.returns-clause-any_moment
returns-clause-any_moment g c =
    let store = c.args.self.now in
    let mid = c.prepare_put.new.self in
    let same = c.prepare_put.ensures.same in
    let prepared = c.in_ok-source.prepared in
    let ready = put_ready c.args.name.now c.args.text.now store mid prepared same c.in_ok-source.ensures.batch in
    ready_leaves (PutBatch store c.args.name.now c.args.text.now) (puts c.args.name.now c.args.text.now) store prepared.payload c.framed.result.now c.in_ok-source.ensures.batch.2.next
    (map.insert store.sources.texts c.args.name.now c.args.text.now) ready c.framed.ensures mid.journal (g.D.Disk.told c.args.disk.now) (g.D.Disk.told c.append_framed.new.disk) same.journal c.append_framed.ensures.any_moment

pub returns-clause-puts : goal.returns-clause-puts
returns-clause-puts g c =
    let store = c.args.self.now in
    let name = c.args.name.now in
    let text = c.args.text.now in
    let mid = c.prepare_put.new.self in
    let same = c.prepare_put.ensures.same in
    let prepared = c.in_ok-source.prepared in
    let batch = c.in_ok-source.ensures.batch in
    let ready = put_ready name text store mid prepared same batch in
    let edited = map.insert store.sources.texts name text in
    let tables : c.commit.new.self.tables ≡ batch.2.next = c.commit.ensures.tables batch.2.next batch.2.commits in
    let put : c.put.new.self.texts ≡ edited =
    c.put.ensures.put ∙ ap (λ m. map.insert m c.in_ok-source.source c.in_ok-source.shared) same.sources
    ∙ ap₂ (λ n t. map.insert store.sources.texts n t) c.in_ok-source.ensures.name.0 c.in_ok-source.ensures.text in
    let answered : IsFalse c.has_text.result = search rules in
    let other : map.get store.sources.texts name ≢ Some text = c.has_text.ensures.no answered in
    record {
      exact = (λ yes. other, λ differ. search rules);
      edits = λ yes. record {
        holds = ap (λ t. held_with t c.commit.new.self.tables c.put.new.self.texts) same.graph
            ∙ ready_holds (PutBatch store name text) (puts name text) store prepared.payload c.framed.result.now batch.2.next edited ready c.framed.ensures c.commit.new.self.tables c.put.new.self.texts tables put;
        epoch = omega (arith, same.epoch);
        nodes = nothing_noted prepared.notes mid.kept.records.records c.commit.new.self.records.records c.commit.ensures.records c.in_ok-source.ensures.notes ∙ c.prepare_put.ensures.nodes;
        adds =
            ready_adds (PutBatch store name text) (puts name text) store prepared.payload c.framed.result.now batch.2.next edited ready c.framed.ensures mid.journal _
            (g.D.Disk.told c.args.disk.now) (g.D.Disk.told c.append_framed.new.disk) same.journal same.graph c.in_ok-append_framed.ensures.added c.in_ok-append_framed.ensures.state.rests c.in_ok-append_framed.ensures.full.room c.append_framed.ensures.any_moment c.in_ok-append_framed.ensures.works tables put;
      };
      same = λ no. (let absurdity : ⊥ = cc in absurd absurdity);
    }

pub invariant_of-self-2 : goal.invariant_of-self-2
invariant_of-self-2 g c =
    let store = c.args.self.now in
    let name = c.args.name.now in
    let text = c.args.text.now in
    let put : c.put.new.self.texts ≡ map.insert store.sources.texts name text =
    c.put.ensures.put ∙ ap (λ m. map.insert m c.in_ok-source.source c.in_ok-source.shared) c.prepare_put.ensures.same.sources
    ∙ ap₂ (λ n t. map.insert store.sources.texts n t) c.in_ok-source.ensures.name.0 c.in_ok-source.ensures.text in
    let mid = c.prepare_put.new.self in
    let same = c.prepare_put.ensures.same in
    let prepared = c.in_ok-source.prepared in
    let batch = c.in_ok-source.ensures.batch in
    let edited = map.insert store.sources.texts name text in
    let holds = ready_holds (PutBatch store name text) (puts name text) store prepared.payload c.framed.result.now batch.2.next edited (put_ready name text store mid prepared same batch) c.framed.ensures c.commit.new.self.tables edited (c.commit.ensures.tables batch.2.next batch.2.commits) refl in
    let nodes = nothing_noted c.in_ok-source.prepared.notes mid.kept.records.records c.commit.new.self.records.records c.commit.ensures.records c.in_ok-source.ensures.notes in
    record {
      are = subst AreSources (sym put) (put_stays store.sources.texts name text store.are c.in_ok-source.ensures.name.1 c.requires.short);
      stamped = later_stamped mid.epoch (mid.epoch + 1) _ (omega arith) (subst (AreStampedBy mid.epoch) (sym nodes) mid.stamped);
      fits = same_fit store.graph mid.graph store.kept.tables.records c.commit.new.self.tables.records same.graph (ap (λ (h : Held). h.records) holds) store.fits;
    }

pub returns-in_err-append_framed-clause-begins : goal.returns-in_err-append_framed-clause-begins
returns-in_err-append_framed-clause-begins g c =
    let store = c.args.self.now in
    let mid = c.prepare_put.new.self in
    let same = c.prepare_put.ensures.same in
    let prepared = c.in_ok-source.prepared in
    let ready = put_ready c.args.name.now c.args.text.now store mid prepared same c.in_ok-source.ensures.batch in
    ready_begins (PutBatch store c.args.name.now c.args.text.now) (puts c.args.name.now c.args.text.now) store prepared.payload c.framed.result.now c.in_ok-source.ensures.batch.2.next
    (map.insert store.sources.texts c.args.name.now c.args.text.now) ready c.framed.ensures mid.journal (g.D.Disk.told c.args.disk.now) (g.D.Disk.told c.append_framed.new.disk) same.journal c.append_framed.ensures.any_moment c.append_framed.ensures.works

pub returns-clause-begins : goal.returns-clause-begins
returns-clause-begins g c =
    let store = c.args.self.now in
    let mid = c.prepare_put.new.self in
    let same = c.prepare_put.ensures.same in
    let prepared = c.in_ok-source.prepared in
    let ready = put_ready c.args.name.now c.args.text.now store mid prepared same c.in_ok-source.ensures.batch in
    ready_begins (PutBatch store c.args.name.now c.args.text.now) (puts c.args.name.now c.args.text.now) store prepared.payload c.framed.result.now c.in_ok-source.ensures.batch.2.next
    (map.insert store.sources.texts c.args.name.now c.args.text.now) ready c.framed.ensures mid.journal (g.D.Disk.told c.args.disk.now) (g.D.Disk.told c.append_framed.new.disk) same.journal c.append_framed.ensures.any_moment c.append_framed.ensures.works
