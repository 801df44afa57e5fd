use Rattle.std.proofs.Common.{rules, ◌≡◌, ◌∙◌, sym, ap, false, true}
use Rattle.meaning_texts.specs.Classes.{is_name_byte}
use Rattle.meaning_texts.specs.Tests.{is_name}
use Rattle.meaning_texts.proofs.Lemmas.{word_decides}
use Rattle.odin_commands.specs.declared.verbs.Verb.TheVariants as verb
use Rattle.odin_commands.specs.Verbs.{named}
use Rattle.odin_commands.proofs.TextLemmas.{behind_lf, no_line, not_named}
use Rattle.odin_commands.proofs.VerbLemmas.{none_said, read_as}
use Rattle.odin_commands.proofs.said.read_named.Goals as goal

pub returns-in_default : goal.returns-in_default
returns-in_default c = none_said (verb.Named c.args.verb) c.args.text.now (λ name behind good. no_line c.args.text.now name behind c.in_default.ensures.none)

pub returns-then-not-is_name : goal.returns-then-not-is_name
returns-then-not-is_name c =
    let cut = c.in-Some.ensures.some in
    let wrong : is_name c.in-Some.name.now ≡ false = search rules in
    none_said (verb.Named c.args.verb) c.args.text.now (not_named c.args.text.now c.in-Some.name.now c.in-Some.behind.now cut.0 cut.1 wrong)

pub returns : goal.returns
returns c =
    let cut = c.in-Some.ensures.some in
    let right : is_name c.in-Some.name.now ≡ true = search rules in
    read_as (verb.Named c.args.verb) c.in-Some.name.now c.reply.result c.args.text.now c.in-Some.behind.now
    (c.reply.ensures ∙ ap (named c.args.verb) c.in_ok-from_slice.ensures)
    (cut.0 ∙ sym (behind_lf c.in-Some.name.now c.in-Some.behind.now))
    ((word_decides is_name_byte c.in-Some.name.now).0 right)
