use Rattle.std.proofs.Common.{◌≡◌, List, Some, None, ap, sym, ◌∙◌}
use Rattle.object_values.specs.declared.jobs.FileBody.{FileBody}
use Rattle.project_kits.specs.Trees.{made_of}
use Rattle.project_kits.proofs.TreeLemmas.{gives_made, result_under}
use Rattle.project_kits.proofs.tree.MadeTreeTree.read.Goals as goal

pub returns-in_ok-given_of-in-Some-clause-ok : goal.returns-in_ok-given_of-in-Some-clause-ok
returns-in_ok-given_of-in-Some-clause-ok g c =
    let name = c.args.name.now in
    let found : made_of c.args.self.now.made name ≡ Some c.in-Some.file.now = ap (λ (m : List FileBody). made_of m name) (sym c.as_slice.ensures) ∙ sym c.in-Some.ensures in
    gives_made c.args.self.now.made (g.T.Tree.files c.args.self.now.under) name _ _ found c.in_ok-given_of-in-Some.ensures

pub returns-in-None-clause-ok : goal.returns-in-None-clause-ok
returns-in-None-clause-ok g c =
    let name = c.args.name.now in
    let none : made_of c.args.self.now.made name ≡ None = ap (λ (m : List FileBody). made_of m name) (sym c.as_slice.ensures) ∙ sym c.in-None.ensures in
    result_under c.args.self.now.made (g.T.Tree.files c.args.self.now.under) name c.read.result none c.read.ensures.ok
