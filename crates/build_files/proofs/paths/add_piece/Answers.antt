use Rattle.std.proofs.Common.{sym}
use Rattle.std.proofs.lemmas.Result.{on_ok_weaker}
use Rattle.build_files.proofs.PathLemmas.{leading, not_leading}
use Rattle.build_files.proofs.paths.add_piece.Goals as goal

pub returns-then-leads : goal.returns-then-leads
returns-then-leads c = on_ok_weaker c.add_step.result (leading c.args.path.now c.add_step.new.path c.args.piece.now (sym c.if-leads.ensures)) c.add_step.ensures

pub returns-else-leads : goal.returns-else-leads
returns-else-leads c = not_leading c.args.path.now c.args.piece.now (sym c.if-leads.ensures)
