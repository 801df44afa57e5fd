-- One maker is the chosen path.
use Rattle.std.proofs.Common.{◌∙◌, ◌∷◌, [], sym}
use Rattle.object_values.specs.declared.nodes.Step.TheVariants.{Maker}
use Rattle.meaning_tasks.specs.Nodes.{step_type}
use Rattle.meaning_tasks.proofs.Lemmas.{type_after_none}
use Rattle.odin_nodes.proofs.TypeLemmas.{reached_below}
use Rattle.odin_nodes.proofs.MakeLemmas.{made_by_path}
use Rattle.odin_nodes.proofs.making.Reached.go_to.Goals as goal

pub direct-requires-clause-from : goal.direct-requires-clause-from
direct-requires-clause-from c = reached_below c.args.planned.now c.args.self.now.node c.args.self.now.at c.requires.typed

pub returns-clause-ok : goal.returns-clause-ok
returns-clause-ok c =
    made_by_path c.args.planned.now c.args.self.now.node c.args.self.now.at c.requires.typed c.args.number c.args.to (c.in-Some.maker ∷ []) c.push.new.self c.in-Some.at
    c.in_ok-push.ensures.ok
    (sym c.in-Some.ensures.path)
    (c.in-Some.ensures.makes ∙ sym (type_after_none c.args.planned.now (step_type c.args.planned.now c.args.self.now.at (Maker c.in-Some.maker))))
