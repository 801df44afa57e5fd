use Rattle.std.proofs.Common.{rules, ◌≡◌, ◌∙◌, ◌++◌, sym, ap, subst, false, true, length}
use Rattle.meaning_texts.specs.Tests.{is_id}
use Rattle.meaning_texts.proofs.Lemmas.{id_decides}
use Rattle.meaning_commands.specs.Formed.{IsSmall}
use Rattle.odin_commands.proofs.TextLemmas.{no_size, no_sized, sized, sized_read}
use Rattle.odin_commands.proofs.ObjectLemmas.{no_part_space, no_part_name, no_part_body, part_read}
use Rattle.odin_commands.proofs.items.PartItem.read.Goals as goal

pub returns-in_default : goal.returns-in_default
returns-in_default c = no_part_space c.args.text.now c.in_default.ensures.none

pub returns-then-not-is_id : goal.returns-then-not-is_id
returns-then-not-is_id c =
    let cut = c.in-Some.ensures.some in
    let wrong : is_id c.in-Some.name.now ≡ false = search rules in
    no_part_name c.args.text.now c.in-Some.name.now c.in-Some.rest.now cut.0 cut.1 wrong

pub returns-in_default-cut_number : goal.returns-in_default-cut_number
returns-in_default-cut_number c =
    let cut = c.in-Some.ensures.some in
    no_part_body c.args.text.now c.in-Some.name.now c.in-Some.rest.now cut.0 cut.1 (no_size c.in-Some.rest.now c.in_default-cut_number.ensures)

pub returns-in_default-cut_body : goal.returns-in_default-cut_body
returns-in_default-cut_body c =
    let cut = c.in-Some.ensures.some in
    let number = c.in-Some-cut_number.ensures in
    no_part_body c.args.text.now c.in-Some.name.now c.in-Some.rest.now cut.0 cut.1
    (no_sized c.in-Some.rest.now c.in-Some-cut_number.rest.now c.in-Some-cut_number.size number.0 number.1 c.in_default-cut_body.ensures.none)

pub returns : goal.returns
returns c =
    let cut = c.in-Some.ensures.some in
    let number = c.in-Some-cut_number.ensures in
    let right : is_id c.in-Some.name.now ≡ true = search rules in
    let body_is : c.in_ok-body.body ≡ c.in-Some-cut_body.body.now = c.in_ok-body.ensures ∙ c.in_ok-from_slice.ensures in
    let rest_is = sized_read c.in-Some.rest.now c.in-Some-cut_number.rest.now c.in-Some-cut_body.body.now c.in-Some-cut_body.behind.now c.in-Some-cut_number.size number.0 c.in-Some-cut_body.ensures.size c.in-Some-cut_body.ensures.some in
    part_read c.args.text.now c.in-Some.name.now c.in-Some.rest.now c.in-Some-cut_body.behind.now (record { name = c.in_ok-name.name; body = c.in_ok-body.body })
    cut.0 c.in_ok-name.ensures ((id_decides c.in-Some.name.now).0 right)
    (rest_is ∙ ap (λ body. sized body ++ c.in-Some-cut_body.behind.now) (sym body_is))
    (subst IsSmall (sym (ap length body_is ∙ c.in-Some-cut_body.ensures.size)) number.1)
