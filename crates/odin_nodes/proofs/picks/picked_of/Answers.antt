use Rattle.std.proofs.Common.{◌∙◌, ap, sym}
use Rattle.std.specs.Prelude.{Some, bytes_eq, find}
use Rattle.object_values.specs.declared.graph.PartDecl.{PartDecl}
use Rattle.object_values.specs.declared.graph.Kind.{Kind}
use Rattle.meaning_graph.specs.Graphs.{type_named}
use Rattle.meaning_tasks.specs.Nodes.{picked_type}
use Rattle.odin_nodes.proofs.PickLemmas.{part_picked}
use Rattle.odin_nodes.proofs.picks.picked_of.Goals as goal

pub returns-in_ok-part-in-Compound : goal.returns-in_ok-part-in-Compound
returns-in_ok-part-in-Compound c =
    let g = c.args.graph.now in
    let key = c.args.key.now in
    c.type_named-in-Compound.ensures ∙ ap (type_named g) c.as_slice-in-Compound-2.ensures
    ∙ part_picked g key c.in-Compound.parts c.in_ok-part-in-Compound.part.now (c.in_ok-part-in-Compound.ensures ∙ ap (find (λ (p : PartDecl). bytes_eq p.name key)) c.as_slice-in-Compound.ensures)
    ∙ ap (λ (k : Kind). picked_type g key (Some k)) (sym c.in-Compound.is)
