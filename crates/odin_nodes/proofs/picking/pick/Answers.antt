use Rattle.std.proofs.Common.{◌∙◌, ap}
use Rattle.std.specs.Prelude.{bytes_eq, find}
use Rattle.object_values.specs.declared.views.Part.{Part}
use Rattle.odin_nodes.proofs.PickLemmas.{body_picked}
use Rattle.odin_nodes.proofs.picking.pick.Goals as goal

pub returns-in_ok-part-in-Compound : goal.returns-in_ok-part-in-Compound
returns-in_ok-part-in-Compound c =
    body_picked c.args.value.now c.args.key.now c.in-Compound.parts c.in_ok-part-in-Compound.part.now c.in-Compound.is
    (c.in_ok-part-in-Compound.ensures ∙ ap (find (λ (p : Part). bytes_eq p.name c.args.key.now)) c.as_slice-in-Compound.ensures)
