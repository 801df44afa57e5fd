use Rattle.std.proofs.Common.{length}
use Rattle.dg_reader.specs.Files.{ReadsDecls}
use Rattle.dg_reader.proofs.read.read_decls.Given as goal

abbrev pub invariant-decls : goal.invariant-decls
invariant-decls l = ReadsDecls l.decls l.starts l.text l.cursor

abbrev pub decreases-decls : goal.decreases-decls
decreases-decls l = length l.cursor
