use Rattle.std.proofs.Common.{rules}
use Rattle.std.proofs.lemmas.Result.{IfOk-weaker, IfErr-weaker}
use Rattle.odin_outside.specs.Files.{IsGiven}
use Rattle.fresh_build.proofs.ListLemmas.{given_text, given_fault}
use Rattle.fresh_build.proofs.listed.read_file.Goals as goal

pub returns-in-Ok-clause-ok : goal.returns-in-Ok-clause-ok
returns-in-Ok-clause-ok g c =
    let given : IsGiven (g.T.Tree.files c.args.tree.now) c.args.name.now c.in-Ok.file = search rules in
    IfOk-weaker c.text_of.result _ _ (λ text is. given_text _ c.args.name.now text c.in-Ok.file given is) c.text_of.ensures.ok

pub returns-in-Ok-clause-err : goal.returns-in-Ok-clause-err
returns-in-Ok-clause-err g c =
    let given : IsGiven (g.T.Tree.files c.args.tree.now) c.args.name.now c.in-Ok.file = search rules in
    IfErr-weaker c.text_of.result _ _ (λ e is. given_fault _ c.args.name.now c.in-Ok.file e given is) c.text_of.ensures.err
