-- The answers after the name say what the words are, and nothing of what is given: that it is the same is what the clause asks for.
use Rattle.std.proofs.Common.{◌∙◌, sym}
use Rattle.odin_commands.proofs.Behind.{no_put_space, no_put_number, put_is}
use Rattle.odin_commands.proofs.read.read_put.Goals as goal

pub returns-in_default : goal.returns-in_default
returns-in_default c = no_put_space c.args.rest.now c.in_default.ensures.none

pub returns-in_default-read_number : goal.returns-in_default-read_number
returns-in_default-read_number c = no_put_number c.args.rest.now c.in-Some.word.now c.in-Some.digits.now c.in-Some.ensures.some.0 c.in-Some.ensures.some.1 c.in_default-read_number.ensures.none

pub returns-in-Name : goal.returns-in-Name
returns-in-Name c =
    let known = put_is c.args.rest.now c.in-Some.word.now c.in-Some.digits.now c.in-Some-read_number.count _ c.in-Some.ensures.some.0 c.in-Some.ensures.some.1 c.in-Some-read_number.ensures.small c.in-Some-read_number.ensures.some
    (sym c.in_ok-name.ensures ∙ c.in-Name.is) in
    rw known

pub returns-in-Other : goal.returns-in-Other
returns-in-Other c =
    let known = put_is c.args.rest.now c.in-Some.word.now c.in-Some.digits.now c.in-Some-read_number.count _ c.in-Some.ensures.some.0 c.in-Some.ensures.some.1 c.in-Some-read_number.ensures.small c.in-Some-read_number.ensures.some
    (sym c.in_ok-name.ensures ∙ c.in-Other.is) in
    rw known

pub returns-in-NoWord : goal.returns-in-NoWord
returns-in-NoWord c =
    let known = put_is c.args.rest.now c.in-Some.word.now c.in-Some.digits.now c.in-Some-read_number.count _ c.in-Some.ensures.some.0 c.in-Some.ensures.some.1 c.in-Some-read_number.ensures.small c.in-Some-read_number.ensures.some
    (sym c.in_ok-name.ensures ∙ c.in-NoWord.is) in
    rw known
