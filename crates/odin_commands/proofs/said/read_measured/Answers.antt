use Rattle.std.proofs.Common.{rules, ◌≡◌, ◌∙◌, ap, false, true}
use Rattle.meaning_texts.specs.Classes.{is_name_byte}
use Rattle.meaning_texts.specs.Tests.{is_name}
use Rattle.meaning_texts.proofs.Lemmas.{word_decides}
use Rattle.odin_commands.specs.declared.verbs.Verb.TheVariants as verb
use Rattle.odin_commands.specs.Verbs.{measured}
use Rattle.odin_commands.proofs.TextLemmas.{no_measure_space, no_measure_name, no_measure, measure_read}
use Rattle.odin_commands.proofs.VerbLemmas.{none_said, read_as}
use Rattle.odin_commands.proofs.said.read_measured.Goals as goal

pub returns-in_default : goal.returns-in_default
returns-in_default c = none_said (verb.Measured c.args.verb) c.args.text.now (no_measure_space c.args.text.now c.in_default.ensures.none)

pub returns-then-not-is_name : goal.returns-then-not-is_name
returns-then-not-is_name c =
    let cut = c.in-Some.ensures.some in
    let wrong : is_name c.in-Some.name.now ≡ false = search rules in
    none_said (verb.Measured c.args.verb) c.args.text.now (no_measure_name c.args.text.now c.in-Some.name.now c.in-Some.rest.now cut.0 cut.1 wrong)

pub returns-in_default-cut_number : goal.returns-in_default-cut_number
returns-in_default-cut_number c =
    let cut = c.in-Some.ensures.some in
    none_said (verb.Measured c.args.verb) c.args.text.now (no_measure c.args.text.now c.in-Some.name.now c.in-Some.rest.now cut.0 cut.1 c.in_default-cut_number.ensures)

pub returns : goal.returns
returns c =
    let cut = c.in-Some.ensures.some in
    let number = c.in-Some-cut_number.ensures in
    let right : is_name c.in-Some.name.now ≡ true = search rules in
    read_as (verb.Measured c.args.verb) (c.in-Some.name.now, c.in-Some-cut_number.count) c.reply.result c.args.text.now c.in-Some-cut_number.behind.now
    (c.reply.ensures ∙ ap (λ name. measured c.args.verb name c.in-Some-cut_number.count) c.in_ok-from_slice.ensures)
    (measure_read c.args.text.now c.in-Some.name.now c.in-Some.rest.now c.in-Some-cut_number.behind.now c.in-Some-cut_number.count cut.0 number.0)
    (record { named = (word_decides is_name_byte c.in-Some.name.now).0 right; small = number.1 })
