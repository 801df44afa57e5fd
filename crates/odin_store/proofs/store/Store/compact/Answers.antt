use Rattle.std.proofs.Common.{◌≡◌, ◌+◌, inr, IsTrue, IsFalse, map, refl, ap, subst, ◌∙◌, rules}
use Rattle.odin_journal.specs.Moments.{Works}
use Rattle.odin_journal.specs.Rewrites.{copy_size, FitsNowhere, LeavesReplaced, Replaces}
use Rattle.meaning_records.specs.Tables.{Tables}
use Rattle.object_values.specs.declared.records.NodeRecord.{NodeRecord}
use Rattle.kept_records.specs.Records.{RecordStock}
use Rattle.kept_notes.specs.Facts.{fresh_of}
use Rattle.kept_tables.specs.Holdings.{fresh_in}
use Rattle.odin_store.specs.Compacting.{AreLiveRecords, StaysInMemory}
use Rattle.odin_store.specs.OnDisk.{held_in}
use Rattle.odin_store.proofs.FitLemmas.{same_fit}
use Rattle.odin_store.proofs.StampLemmas.{same_stamped}
use Rattle.odin_store.proofs.StoreLemmas.{held_with}
use Rattle.odin_store.proofs.CompactLemmas.{may_be_sources, nothing_compacted, copy_lives, replaced, replaced_leaves, compacts}
use Rattle.odin_store.proofs.store.Store.compact.Goals as goal

pub copy_live-requires : goal.copy_live-requires
copy_live-requires g c = may_be_sources c.args.self.now.sources.texts c.args.self.now.are

pub returns-in_err-copy-clause-any_moment : goal.returns-in_err-copy-clause-any_moment
returns-in_err-copy-clause-any_moment g c = nothing_compacted c.args.self.now (g.D.Disk.told c.args.disk.now) (λ image follows left. g.met.D.Disk.only_now c.args.disk.now image follows left)

pub returns-in_err-rewrite-clause-any_moment : goal.returns-in_err-rewrite-clause-any_moment
returns-in_err-rewrite-clause-any_moment g c =
    let store = c.args.self.now in
    let copy = c.in_ok-copy.copy in
    let lives : AreLiveRecords store copy.contents copy.payloads =
    copy_lives store c.as_slice.result.now copy c.records_fit.ensures.says c.as_slice.ensures c.in_ok-copy.ensures.live c.in_ok-copy.ensures.reads in
    let old = g.D.Disk.told c.args.disk.now in
    let new = g.D.Disk.told c.rewrite.new.disk in
    replaced_leaves store copy.contents copy.payloads old new lives
    (subst (λ p. LeavesReplaced store.journal p old new) c.payloads.ensures c.rewrite.ensures.any_moment)

pub returns-in_err-rewrite-clause-works : goal.returns-in_err-rewrite-clause-works
returns-in_err-rewrite-clause-works g c =
    let store = c.args.self.now in
    let copy = c.in_ok-copy.copy in
    let lives : AreLiveRecords store copy.contents copy.payloads =
    copy_lives store c.as_slice.result.now copy c.records_fit.ensures.says c.as_slice.ensures c.in_ok-copy.ensures.live c.in_ok-copy.ensures.reads in
    let old = g.D.Disk.told c.args.disk.now in
    let new = g.D.Disk.told c.rewrite.new.disk in
    inr (
      record { records = copy.payloads; contents = copy.contents; are = lives },
      subst (λ p. Works (copy_size p + 9) 8 old new) c.payloads.ensures c.rewrite.ensures.works,
    )

pub returns-then-not-branch-clause-compacts : goal.returns-then-not-branch-clause-compacts
returns-then-not-branch-clause-compacts g c =
    let store = c.args.self.now in
    let copy = c.in_ok-copy.copy in
    let lives : AreLiveRecords store copy.contents copy.payloads =
    copy_lives store c.as_slice.result.now copy c.records_fit.ensures.says c.as_slice.ensures c.in_ok-copy.ensures.live c.in_ok-copy.ensures.reads in
    let answered : IsFalse c.in_ok-rewrite.field-0 = search rules in
    record {
      live = record { records = copy.payloads; contents = copy.contents; are = lives };
      nowhere = subst (λ p. FitsNowhere store.journal.start.place store.journal.end (copy_size p)) c.payloads.ensures (c.in_ok-rewrite.ensures.fits.let_be answered);
    }

pub returns-then-not-branch-clause-any_moment : goal.returns-then-not-branch-clause-any_moment
returns-then-not-branch-clause-any_moment g c =
    let store = c.args.self.now in
    let copy = c.in_ok-copy.copy in
    let lives : AreLiveRecords store copy.contents copy.payloads =
    copy_lives store c.as_slice.result.now copy c.records_fit.ensures.says c.as_slice.ensures c.in_ok-copy.ensures.live c.in_ok-copy.ensures.reads in
    let old = g.D.Disk.told c.args.disk.now in
    let new = g.D.Disk.told c.rewrite.new.disk in
    replaced_leaves store copy.contents copy.payloads old new lives
    (subst (λ p. LeavesReplaced store.journal p old new) c.payloads.ensures c.rewrite.ensures.any_moment)

pub returns-clause-compacts : goal.returns-clause-compacts
returns-clause-compacts g c =
    let store = c.args.self.now in
    let copy = c.in_ok-copy.copy in
    let lives : AreLiveRecords store copy.contents copy.payloads =
    copy_lives store c.as_slice.result.now copy c.records_fit.ensures.says c.as_slice.ensures c.in_ok-copy.ensures.live c.in_ok-copy.ensures.reads in
    let old = g.D.Disk.told c.args.disk.now in
    let new = g.D.Disk.told c.rewrite.new.disk in
    let answered : IsTrue c.in_ok-rewrite.field-0 = search rules in
    let calls : c.renumber.new.self.tables.calls ≡ store.kept.tables.calls = c.renumber.ensures.calls ∙ ap (λ (t : Tables). t.calls) c.copy_live.ensures.tables in
    let records : c.renumber.new.self.tables.records ≡ store.kept.tables.records =
    c.renumber.ensures.records ∙ ap (λ (t : Tables). t.records) c.copy_live.ensures.tables in
    let holds : held_with store.graph c.renumber.new.self.tables store.sources.texts ≡ held_in store =
    λ i. record { text = store.graph; sources = store.sources.texts; calls = calls i; records = records i } in
    let replaces : Replaces store.journal c.rewrite.new.self copy.payloads old new =
    subst (λ p. Replaces store.journal c.rewrite.new.self p old new) c.payloads.ensures (replaced store.journal c.rewrite.new.self c.payloads.result.now old new c.in_ok-rewrite.field-0 answered c.in_ok-rewrite.ensures.replaced) in
    let fresh : fresh_in c.copy_live.new.self ≡ fresh_in store.kept =
    λ i. map (fresh_of (c.copy_live.ensures.tables i).contents) (c.copy_live.ensures.records i).records in
    let checked = ap (λ (s : RecordStock). map (λ (r : NodeRecord). r.checked) s.records) c.copy_live.ensures.records in
    let memory : StaysInMemory store.kept c.renumber.new.self =
    record { fresh = c.renumber.ensures.fresh ∙ fresh; checked = c.renumber.ensures.checked ∙ checked } in
    compacts c.last_were_noted.ensures store _ old new copy.payloads copy.contents lives
    c.renumber.ensures.contents holds refl refl memory replaces (subst (λ p. Works (copy_size p + 9) 8 old new) c.payloads.ensures c.rewrite.ensures.works)

pub returns-clause-any_moment : goal.returns-clause-any_moment
returns-clause-any_moment g c =
    let store = c.args.self.now in
    let copy = c.in_ok-copy.copy in
    let lives : AreLiveRecords store copy.contents copy.payloads =
    copy_lives store c.as_slice.result.now copy c.records_fit.ensures.says c.as_slice.ensures c.in_ok-copy.ensures.live c.in_ok-copy.ensures.reads in
    let old = g.D.Disk.told c.args.disk.now in
    let new = g.D.Disk.told c.rewrite.new.disk in
    replaced_leaves store copy.contents copy.payloads old new lives
    (subst (λ p. LeavesReplaced store.journal p old new) c.payloads.ensures c.rewrite.ensures.any_moment)

pub returns-clause-works : goal.returns-clause-works
returns-clause-works g c =
    let store = c.args.self.now in
    let copy = c.in_ok-copy.copy in
    let lives : AreLiveRecords store copy.contents copy.payloads =
    copy_lives store c.as_slice.result.now copy c.records_fit.ensures.says c.as_slice.ensures c.in_ok-copy.ensures.live c.in_ok-copy.ensures.reads in
    let old = g.D.Disk.told c.args.disk.now in
    let new = g.D.Disk.told c.rewrite.new.disk in
    inr (
      record { records = copy.payloads; contents = copy.contents; are = lives },
      subst (λ p. Works (copy_size p + 9) 8 old new) c.payloads.ensures c.rewrite.ensures.works,
    )

pub invariant_of-self-2 : goal.invariant_of-self-2
invariant_of-self-2 g c =
    let store = c.args.self.now in
    let checked = c.renumber.ensures.checked ∙ ap (λ (s : RecordStock). map (λ (r : NodeRecord). r.checked) s.records) c.copy_live.ensures.records in
    let records : c.renumber.new.self.tables.records ≡ store.kept.tables.records =
    c.renumber.ensures.records ∙ ap (λ (t : Tables). t.records) c.copy_live.ensures.tables in
    record {
      are = store.are;
      stamped = same_stamped store.epoch store.kept.records.records c.renumber.new.self.records.records checked store.stamped;
      fits = same_fit store.graph store.graph store.kept.tables.records c.renumber.new.self.tables.records refl records store.fits;
    }
