use Rattle.kept_tables.proofs.OnceLemmas.{all_come, each_distinct}
use Rattle.kept_tables.proofs.kept.Kept.come_one_by_one.Goals as goal

pub returns : goal.returns
returns c =
    let entries = c.self.inside.calls.entries.items in
    rw (← c.self.view_is)
    (all_come c.self.inside.heads c.self.inside.contents.texts entries (each_distinct entries c.self.invariant.0.1.once) c.self.invariant.0.0)
