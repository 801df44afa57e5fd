use Rattle.std.proofs.Common.{◌≡◌, refl}
use Rattle.std.specs.Prelude.{None, nat_eq}
use Rattle.std.specs.Cmp.Lexicographic.{pointwise, bytes_decides}
use Rattle.std.specs.HashMap.{get}
use Rattle.content_store.proofs.MarkLemmas.{digests_kept, leads_still}
use Rattle.content_store.proofs.marks.Marks.put.Goals as goal

pub returns-in-Digest-clause-kept : goal.returns-in-Digest-clause-kept
returns-in-Digest-clause-kept c =
    let before = get (pointwise nat_eq) c.args.self.now.digests in
    let free : before c.in-Digest.digest ≡ None = rw c.in-Digest.is at c.requires.free in
    digests_kept c.args.self.now (record { quick = c.args.self.now.quick; digests = c.insert_within-in-Digest.new.map; clashing = c.args.self.now.clashing }) (λ hash. refl) (leads_still (pointwise nat_eq) bytes_decides before (get (pointwise nat_eq) c.insert_within-in-Digest.new.map) c.in-Digest.digest c.args.number free c.insert_within-in-Digest.ensures.updates.0)
