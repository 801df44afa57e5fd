use Rattle.std.proofs.Common.{◌++◌, ◌∷◌, ◌∙◌, ap}
use Rattle.meaning_commands.specs.Replies.{status_word}
use Rattle.odin_commands.specs.declared.verbs.Verb.TheVariants as verb
use Rattle.odin_commands.proofs.VerbLemmas.{none_said}
use Rattle.odin_commands.proofs.ObjectLemmas.{no_object_status, no_object_messages}
use Rattle.odin_commands.proofs.shown.read_object.Goals as goal

pub returns-in_default-status_of : goal.returns-in_default-status_of
returns-in_default-status_of c =
    let cut = c.in-Some.ensures.some in
    none_said verb.Object c.args.text.now (no_object_status c.args.text.now c.in-Some.word.now c.in-Some.rest.now cut.0 cut.1 c.in_default-status_of.ensures.none)

pub returns-in_default-3 : goal.returns-in_default-3
returns-in_default-3 c =
    let cut = c.in-Some.ensures.some in
    let body = rw c.in-Some-2.is at c.in_ok-body.ensures in
    let status = c.in-Some-status_of.status in
    none_said verb.Object c.args.text.now (no_object_messages c.args.text.now status c.in-Some-2.body c.in-Some-2.rest.now
    (record {
      is = cut.0 ∙ ap (λ word. word ++ 32 ∷ c.in-Some.rest.now) c.in-Some-status_of.ensures.some ∙ ap (λ rest. status_word status ++ 32 ∷ rest) body.0;
      good = body.1;
    })
    (rw c.in_default-3.is at c.in_ok-messages.ensures))
