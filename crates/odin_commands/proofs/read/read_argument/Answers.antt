use Rattle.std.proofs.Common.{rules, ◌∙◌, ◌≢◌, [], ap, subst}
use Rattle.meaning_texts.specs.Classes.{IsName}
use Rattle.meaning_texts.specs.Lists.{HasNo}
use Rattle.odin_commands.specs.declared.read.Argument.TheVariants.{Name}
use Rattle.odin_commands.proofs.Behind.{names_it, names_none, may_name}
use Rattle.odin_commands.proofs.read.read_argument.Goals as goal

pub returns-in-Some : goal.returns-in-Some
returns-in-Some c =
    let named = rw c.in-Some.is at c.in_ok-name.ensures in
    let some : c.args.word.now ≢ [] = search rules in
    let spaceless : HasNo 32 c.args.word.now = search rules in
    ap Name named.0 ∙ names_it c.args.word.now (may_name c.args.word.now some spaceless) (subst IsName named.0 named.1)

pub returns-in-None : goal.returns-in-None
returns-in-None c =
    let none = rw c.in-None.is at c.in_ok-name.ensures in
    let some : c.args.word.now ≢ [] = search rules in
    let spaceless : HasNo 32 c.args.word.now = search rules in
    names_none c.args.word.now (may_name c.args.word.now some spaceless) none
