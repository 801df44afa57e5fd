use Rattle.std.proofs.Common.{rules, ◌≡◌, ◌∙◌, sym, ap, false, true}
use Rattle.meaning_texts.specs.Tests.{is_id}
use Rattle.meaning_texts.proofs.Lemmas.{id_decides}
use Rattle.odin_commands.specs.declared.verbs.Verb.TheVariants as verb
use Rattle.odin_commands.specs.Verbs.{identified}
use Rattle.odin_commands.proofs.TextLemmas.{behind_lf, no_line, not_identified}
use Rattle.odin_commands.proofs.VerbLemmas.{none_said, read_as}
use Rattle.odin_commands.proofs.said.read_identified.Goals as goal

pub returns-in_default : goal.returns-in_default
returns-in_default c = none_said (verb.Identified c.args.verb) c.args.text.now (λ name behind good. no_line c.args.text.now name behind c.in_default.ensures.none)

pub returns-then-not-is_id : goal.returns-then-not-is_id
returns-then-not-is_id c =
    let cut = c.in-Some.ensures.some in
    let wrong : is_id c.in-Some.name.now ≡ false = search rules in
    none_said (verb.Identified c.args.verb) c.args.text.now (not_identified c.args.text.now c.in-Some.name.now c.in-Some.behind.now cut.0 cut.1 wrong)

pub returns : goal.returns
returns c =
    let cut = c.in-Some.ensures.some in
    let right : is_id c.in-Some.name.now ≡ true = search rules in
    read_as (verb.Identified c.args.verb) c.in-Some.name.now c.reply.result c.args.text.now c.in-Some.behind.now
    (c.reply.ensures ∙ ap (identified c.args.verb) c.in_ok-from_slice.ensures)
    (cut.0 ∙ sym (behind_lf c.in-Some.name.now c.in-Some.behind.now))
    ((id_decides c.in-Some.name.now).0 right)
