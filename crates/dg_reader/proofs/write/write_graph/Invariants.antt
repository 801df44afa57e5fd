use Rattle.std.proofs.Common.{◌≡◌, take, true}
use Rattle.meaning_graph.specs.Spelling.{graph_spelling}
use Rattle.dg_reader.proofs.write.write_graph.Given as goal

abbrev pub invariant-decls : goal.invariant-decls
invariant-decls l = (l.writer.out ≡ graph_spelling (take l.decl-index l.decl-items)) × (l.writer.glued ≡ true)
