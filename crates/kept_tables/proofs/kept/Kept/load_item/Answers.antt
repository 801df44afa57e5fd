use Rattle.kept_tables.proofs.LoadLemmas.{nothing_taken}
use Rattle.kept_tables.proofs.kept.Kept.load_item.Goals as goal

pub returns-in-None-clause-none : goal.returns-in-None-clause-none
returns-in-None-clause-none c =
    let stood = rw c.in-Some.is at c.in_ok-item.ensures.some in
    let none = rw c.in-None.is at c.in_ok-loaded.ensures.none in
    nothing_taken c.args.payload.now c.args.at c.args.self.now.tables c.in-Some.end c.in-Some.item stood none
