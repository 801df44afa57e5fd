use Rattle.std.proofs.Common.{◌≡◌, ◌^◌, ◌<◌, List, length, ap, refl, sym, subst, ◌∙◌, IfErr, rules}
use Rattle.object_values.specs.Texts.{SourceStock}
use Rattle.meaning_derive.specs.Given.{AreSources}
use Rattle.odin_journal.specs.declared.fault.JournalFault.TheVariants as fault
use Rattle.odin_store.specs.declared.store.Store.{Store}
use Rattle.odin_store.specs.Held.{Change}
use Rattle.odin_store.specs.Going.{StopsPerforming}
use Rattle.fresh_build.specs.Edits.{changes_of, changes_to}
use Rattle.fresh_build.specs.Sets.{FailsToMake}
use Rattle.fresh_build.proofs.SetLemmas.{handed, may_set, none_failed, none_stops, on_set, stops}
use Rattle.fresh_build.proofs.set.set_sources.Goals as goal

pub edits_to-requires-clause-old : goal.edits_to-requires-clause-old
edits_to-requires-clause-old g c =
    let store = c.args.engine.now.store in
    subst (λ (s : SourceStock). AreSources s.texts) (sym (c.sources.ensures ∙ ap (λ (s : Store). s.sources) c.store.ensures)) store.are

pub returns-in_err-edits-clause-err : goal.returns-in_err-edits-clause-err
returns-in_err-edits-clause-err g c =
    let store = c.args.engine.now.store in
    let changes = changes_to c.args.wanted.now.texts store.sources.texts in
    handed (FailsToMake g.D.Disk.told changes store store c.args.disk.now c.args.disk.now) c.from_residual.result fault.Memory c.from_residual.ensures.1
    (none_failed g.D.Disk.told c.changes_follow.ensures changes store c.args.disk.now fault.Memory refl)

pub returns-in_err-edits-clause-any_moment : goal.returns-in_err-edits-clause-any_moment
returns-in_err-edits-clause-any_moment g c =
    let store = c.args.engine.now.store in
    none_stops g.D.Disk.told c.changes_follow.ensures c.changes_stop.ensures (changes_to c.args.wanted.now.texts store.sources.texts) store c.args.disk.now

pub make_edits-requires : goal.make_edits-requires
make_edits-requires g c =
    let store = c.args.engine.now.store in
    let wanted = c.args.wanted.now.texts in
    let edits = c.as_slice.result.now in
    let few : length edits < 2 ^ 62 = search rules in
    let are : changes_of edits ≡ changes_to wanted store.sources.texts =
    ap changes_of c.as_slice.ensures ∙ c.in_ok-edits.ensures ∙ ap (λ (s : SourceStock). changes_to wanted s.texts) (c.sources.ensures
    ∙ ap (λ (s : Store). s.sources) c.store.ensures) in
    may_set store _ wanted edits c.requires are few

pub returns-clause-ok : goal.returns-clause-ok
returns-clause-ok g c =
    let store = c.args.engine.now.store in
    let wanted = c.args.wanted.now.texts in
    let edits = c.as_slice.result.now in
    let are : changes_of edits ≡ changes_to wanted store.sources.texts =
    ap changes_of c.as_slice.ensures ∙ c.in_ok-edits.ensures ∙ ap (λ (s : SourceStock). changes_to wanted s.texts) (c.sources.ensures
    ∙ ap (λ (s : Store). s.sources) c.store.ensures) in
    on_set g.D.Disk.told wanted store c.make_edits.new.engine.store c.args.disk.now c.make_edits.new.disk
    (changes_of edits) c.make_edits.result are c.make_edits.ensures.ok

pub returns-clause-err : goal.returns-clause-err
returns-clause-err g c =
    let store = c.args.engine.now.store in
    let wanted = c.args.wanted.now.texts in
    let edits = c.as_slice.result.now in
    let are : changes_of edits ≡ changes_to wanted store.sources.texts =
    ap changes_of c.as_slice.ensures ∙ c.in_ok-edits.ensures ∙ ap (λ (s : SourceStock). changes_to wanted s.texts) (c.sources.ensures
    ∙ ap (λ (s : Store). s.sources) c.store.ensures) in
    subst (λ (l : List Change). IfErr c.make_edits.result
    (FailsToMake g.D.Disk.told l store c.make_edits.new.engine.store c.args.disk.now c.make_edits.new.disk)) are c.make_edits.ensures.err

pub returns-clause-any_moment : goal.returns-clause-any_moment
returns-clause-any_moment g c =
    let store = c.args.engine.now.store in
    let wanted = c.args.wanted.now.texts in
    let edits = c.as_slice.result.now in
    let are : changes_of edits ≡ changes_to wanted store.sources.texts =
    ap changes_of c.as_slice.ensures ∙ c.in_ok-edits.ensures ∙ ap (λ (s : SourceStock). changes_to wanted s.texts) (c.sources.ensures
    ∙ ap (λ (s : Store). s.sources) c.store.ensures) in
    subst (λ (l : List Change). StopsPerforming g.D.Disk.told l store c.args.disk.now c.make_edits.new.disk) are
    (stops g.D.Disk.told c.changes_follow.ensures c.changes_stop.ensures
    (changes_of edits) store c.make_edits.new.engine.store c.args.disk.now c.make_edits.new.disk c.make_edits.result
    c.make_edits.ensures.ok c.make_edits.ensures.err)
