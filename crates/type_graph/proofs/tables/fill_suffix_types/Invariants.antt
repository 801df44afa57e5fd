-- The types of the suffixes so far.
use Rattle.std.proofs.Common.{◌≡◌, map, take}
use Rattle.meaning_graph.specs.Graphs.{suffixes}
use Rattle.type_graph.specs.Tables.{suffix_number}
use Rattle.type_graph.proofs.tables.fill_suffix_types.Given as goal

abbrev pub invariant-loop-decl : goal.invariant-loop-decl
invariant-loop-decl l = l.made ≡ map (suffix_number l.decls) (suffixes (take l.decl-index l.decls))
