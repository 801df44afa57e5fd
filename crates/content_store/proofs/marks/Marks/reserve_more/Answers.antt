use Rattle.std.proofs.Common.{ap, refl}
use Rattle.std.specs.Prelude.{nat_eq}
use Rattle.std.specs.Cmp.Lexicographic.{pointwise}
use Rattle.std.specs.Map.{lookup}
use Rattle.content_store.proofs.MarkLemmas.{looks_alike}
use Rattle.content_store.proofs.marks.Marks.reserve_more.Goals as goal

pub returns-in_err-reserve-clause-kept : goal.returns-in_err-reserve-clause-kept
returns-in_err-reserve-clause-kept c = looks_alike c.args.self.now (record { quick = c.reserve.new.self; digests = c.args.self.now.digests; clashing = c.args.self.now.clashing }) c.reserve.ensures.entries.2 (λ digest. refl) refl

pub returns-in_err-reserve-2-clause-kept : goal.returns-in_err-reserve-2-clause-kept
returns-in_err-reserve-2-clause-kept c = looks_alike c.args.self.now (record { quick = c.reserve.new.self; digests = c.reserve-2.new.self; clashing = c.args.self.now.clashing }) c.reserve.ensures.entries.2 c.reserve-2.ensures.entries.2 refl

pub returns-in_err-reserve-3-clause-kept : goal.returns-in_err-reserve-3-clause-kept
returns-in_err-reserve-3-clause-kept c = looks_alike c.args.self.now (record { quick = c.reserve.new.self; digests = c.reserve-2.new.self; clashing = c.reserve-3.new.self }) c.reserve.ensures.entries.2 c.reserve-2.ensures.entries.2 c.reserve-3.ensures.items

pub returns-clause-kept : goal.returns-clause-kept
returns-clause-kept c = looks_alike c.args.self.now (record { quick = c.reserve.new.self; digests = c.reserve-2.new.self; clashing = c.reserve-3.new.self }) c.reserve.ensures.entries.2 c.reserve-2.ensures.entries.2 c.reserve-3.ensures.items
