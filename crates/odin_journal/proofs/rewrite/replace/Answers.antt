use Rattle.std.proofs.Common.{◌≡◌, ℕ, ◌+◌, inl, inr, length, ap, ◌∙◌, arith}
use Rattle.std.proofs.lemmas.Result.{on_ok_weaker}
use Rattle.odin_outside.specs.Moments.{then, weaker}
use Rattle.meaning_records.specs.Images.{Stored}
use Rattle.odin_journal.specs.Rewrites.{size_of_records, with_start, without_rest, OldOrNew}
use Rattle.odin_journal.proofs.RewriteLemmas.{copy_long}
use Rattle.odin_journal.proofs.rewrite.replace.Goals as goal

pub returns-in_err-put_copy-clause-any_moment : goal.returns-in_err-put_copy-clause-any_moment
returns-in_err-put_copy-clause-any_moment g c before records may =
    weaker (g.D.Disk.told c.args.disk.now) (g.D.Disk.told c.put_copy.new.disk) (Stored before) (OldOrNew before records) (c.put_copy.ensures.any_moment before records may) (λ image stored. inl stored)

pub returns-in_err-switch_start-clause-any_moment : goal.returns-in_err-switch_start-clause-any_moment
returns-in_err-switch_start-clause-any_moment g c before records may =
    then (g.D.Disk.told c.args.disk.now) (g.D.Disk.told c.put_copy.new.disk) (g.D.Disk.told c.switch_start.new.disk) (Stored before) (OldOrNew before records) (OldOrNew before records)
    (c.put_copy.ensures.any_moment before records may)
    (c.switch_start.ensures.any_moment before records (c.args.start.place + size_of_records records) (c.in_ok-put_copy.ensures.ok before records may)) (λ image stored. inl stored) (λ image either. either)

pub returns-clause-any_moment : goal.returns-clause-any_moment
returns-clause-any_moment g c before records may =
    let last : ℕ = c.args.start.place + size_of_records records in
    let has = c.in_ok-put_copy.ensures.ok before records may in
    let old = g.D.Disk.told c.args.disk.now in
    let copied = g.D.Disk.told c.put_copy.new.disk in
    let switched = g.D.Disk.told c.switch_start.new.disk in
    let size : length c.args.copy.now ≡ size_of_records records + 1 = ap length may.copy_is ∙ copy_long records in
    let behind_is : last + 1 ≡ c.args.start.place + length c.args.copy.now = omega arith in
    then old switched (g.D.Disk.told c.shorten.new.disk) (OldOrNew before records) (Stored records) (OldOrNew before records)
    (then old copied switched (Stored before) (OldOrNew before records) (OldOrNew before records) (c.put_copy.ensures.any_moment before records may)
    (c.switch_start.ensures.any_moment before records last has) (λ image stored. inl stored) (λ image either. either))
    (c.shorten.ensures.any_moment records last behind_is (c.in_ok-switch_start.ensures.ok before records last has).rests) (λ image either. either) (λ image stored. inr stored)

pub returns-clause-ok : goal.returns-clause-ok
returns-clause-ok g c =
    on_ok_weaker c.shorten.result (λ shortens before records may.
    let last : ℕ = c.args.start.place + size_of_records records in
    let size : length c.args.copy.now ≡ size_of_records records + 1 = ap length may.copy_is ∙ copy_long records in
    let behind_is : last + 1 ≡ c.args.start.place + length c.args.copy.now = omega arith in
    shortens.starts c.args.start records last behind_is (c.in_ok-switch_start.ensures.ok before records last (c.in_ok-put_copy.ensures.ok before records may)))
    c.shorten.ensures.ok

pub returns-clause-bytes : goal.returns-clause-bytes
returns-clause-bytes g c =
    on_ok_weaker c.shorten.result (λ shortens quiet.
    let put = c.in_ok-put_copy.ensures.written quiet in
    let switched = c.in_ok-switch_start.ensures.bytes put.0 in
    shortens.bytes switched.0 ∙ ap (without_rest c.args.start.place (length c.args.copy.now)) (switched.1 ∙ ap (with_start c.args.start) put.1))
    c.shorten.ensures.ok
