-- The places of the makers so far.
use Rattle.std.proofs.Common.{◌≡◌, map, take}
use Rattle.std.specs.Prelude.{Some}
use Rattle.meaning_graph.specs.Graphs.{makers}
use Rattle.type_graph.specs.Tables.{maker_at}
use Rattle.type_graph.proofs.tables.fill_maker_places.Given as goal

abbrev pub invariant-loop-place : goal.invariant-loop-place
invariant-loop-place l = map (maker_at l.decls) l.places ≡ map Some (makers (take l.place l.decls))
