use Rattle.std.proofs.Common.{sym, subst}
use Rattle.meaning_graph.specs.Graphs.{Graph}
use Rattle.dg_reader.specs.Files.{IsRead}
use Rattle.project_build.proofs.graph.read_text.Goals as goal

pub returns-in-Ok-clause-ok : goal.returns-in-Ok-clause-ok
returns-in-Ok-clause-ok c =
    let ok = rw c.as_slice.ensures at c.in-Ok.ensures.ok in
    subst (λ (g : Graph). IsRead c.args.text g) (sym c.into_graph.ensures) (record { short = ok.short; spelled = ok.spelled; checked = c.checked.ensures })
