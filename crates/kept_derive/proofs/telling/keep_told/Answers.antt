use Rattle.std.proofs.Common.{◌≡◌, List, ap, length, subst, sym, ◌∙◌}
use Rattle.std.specs.Prelude.{Some}
use Rattle.std.specs.List.{All}
use Rattle.object_values.specs.declared.facts.Fresh.{Fresh}
use Rattle.object_values.specs.declared.facts.RenewedNode.{RenewedNode}
use Rattle.meaning_records.specs.Batches.{facts_of}
use Rattle.kept_notes.specs.Facts.{IsRecordIn}
use Rattle.kept_tables.specs.Holdings.{Holding}
use Rattle.odin_store.specs.Edited.{HasFailed}
use Rattle.odin_store.specs.Held.{notes}
use Rattle.derive_walk.specs.declared.found.Found.{Found}
use Rattle.derive_walk.specs.declared.found.Found.TheVariants.{Answer, Circular, Deep}
use Rattle.kept_derive.specs.declared.fault.KeptFault.{KeptFault}
use Rattle.kept_derive.specs.Noting.{KeepsTold, MayKeepTold}
use Rattle.kept_derive.specs.Telling.{FailsToTell}
use Rattle.kept_derive.proofs.ToldLemmas.{chain_told, fails_to_tell, has_told, may_keep}
use Rattle.kept_derive.proofs.telling.keep_told.Goals as goal

pub keep-requires : goal.keep-requires
keep-requires g c =
    let named = subst (λ (k : Holding). All (IsRecordIn (length k.tables.contents)) k.records.records) c.kept.ensures c.records_fit.ensures.named in
    let fresh = c.as_slice.ensures ∙ c.into_told-found.ensures.fresh in
    subst (λ (z : List Fresh × List RenewedNode). MayKeepTold c.args.store.now (g.D.Disk.size_of c.args.disk.now) z.0 z.1)
    (λ i. (sym fresh i, sym c.into_told-found.ensures.renewed i))
    (may_keep c.args.planned.now c.args.store.now (g.D.Disk.size_of c.args.disk.now) c.args.core c.requires named)

pub returns-in-Ok-clause-told : goal.returns-in-Ok-clause-told
returns-in-Ok-clause-told g c =
    let told = c.into_told-found.ensures in
    let view = c.in-Some-Answer.view in
    let is : c.args.core.result ≡ Some (Answer view) = sym told.found ∙ c.in-Some-Answer.is ∙ ap (λ (f : Found). Some f) c.in-Some-Answer.field-0-is in
    let keeps = subst (λ (z : List Fresh × List RenewedNode). KeepsTold g.D.Disk.told z.0 z.1 c.args.store.now c.keep.new.store c.args.disk.now
    c.keep.new.disk)
    (λ i. ((c.as_slice.ensures ∙ told.fresh) i, told.renewed i)) c.in-Ok.ensures.keeps in
    has_told g.D.Disk.told c.args.planned.now c.args.store.now c.keep.new.store c.args.disk.now c.keep.new.disk c.args.core view c.told_is_known.ensures
    is told.placed keeps

pub returns-in-Some-Answer-clause-fails : goal.returns-in-Some-Answer-clause-fails
returns-in-Some-Answer-clause-fails g c =
    let fresh = c.as_slice.ensures ∙ c.into_told-found.ensures.fresh in
    let failed = subst (λ (l : List Fresh). HasFailed g.D.Disk.told (notes (facts_of l)) c.args.store.now c.keep.new.store c.args.disk.now c.keep.new.disk
    c.in-Err.fault) fresh c.in-Err.ensures.fails in
    subst (λ (f : KeptFault). FailsToTell g.D.Disk.told c.args.planned.now c.args.core c.args.store.now c.keep.new.store c.args.disk.now c.keep.new.disk
    f) (sym c.of_change.ensures)
    (fails_to_tell g.D.Disk.told c.args.planned.now c.args.store.now c.keep.new.store c.args.disk.now c.keep.new.disk c.args.core c.in-Err.fault failed)

pub returns-in-Some-Circular-clause-told : goal.returns-in-Some-Circular-clause-told
returns-in-Some-Circular-clause-told g c =
    chain_told g.D.Disk.told c.args.planned.now c.args.store.now c.args.disk.now c.args.core (Circular c.in-Some-Circular.chain) c.changes_follow.ensures
    (sym c.into_told-found.ensures.found ∙ c.in-Some-Circular.is ∙ ap (λ (f : Found). Some f) c.in-Some-Circular.field-0-is) c.into_told-found.ensures.placed tt

pub returns-in-Some-Deep-clause-told : goal.returns-in-Some-Deep-clause-told
returns-in-Some-Deep-clause-told g c =
    chain_told g.D.Disk.told c.args.planned.now c.args.store.now c.args.disk.now c.args.core (Deep c.in-Some-Deep.chain) c.changes_follow.ensures
    (sym c.into_told-found.ensures.found ∙ c.in-Some-Deep.is ∙ ap (λ (f : Found). Some f) c.in-Some-Deep.field-0-is) c.into_told-found.ensures.placed tt
