use Rattle.std.proofs.Common.{◌≡◌, ◌++◌, ◌∙◌, sym, ap, codes, Some, None}
use Rattle.std.proofs.lemmas.Bool.Decides.{Decides-eqb}
use Rattle.std.proofs.lemmas.Slice.Eq.{strip_prefix_is}
use Rattle.std.proofs.lemmas.Result.{IfOk-weaker}
use Rattle.meaning_commands.specs.Reading.{formed_command}
use Rattle.odin_commands.proofs.Behind.{behind_put, behind_take, behind_drop, behind_ask, behind_plan, single}
use Rattle.odin_commands.proofs.read.read_formed.Goals as goal

pub returns-in-Some : goal.returns-in-Some
returns-in-Some c =
    let front : c.args.line.now ≡ codes "put " ++ c.in-Some.rest.now = strip_prefix_is Decides-eqb c.args.line.now (codes "put ") (Some c.in-Some.rest) c.in-Some.ensures.cases in
    IfOk-weaker c.read_put.result _ _ (λ command is. is ∙ behind_put c.in-Some.rest.now ∙ ap formed_command (sym front)) c.read_put.ensures

pub returns-in-Some-strip_prefix : goal.returns-in-Some-strip_prefix
returns-in-Some-strip_prefix c =
    let front : c.args.line.now ≡ codes "take " ++ c.in-Some-strip_prefix.word.now = strip_prefix_is Decides-eqb c.args.line.now (codes "take ") (Some c.in-Some-strip_prefix.word) c.in-Some-strip_prefix.ensures.cases in
    IfOk-weaker c.read_take.result _ _ (λ command is. is ∙ behind_take c.in-Some-strip_prefix.word.now ∙ ap formed_command (sym front)) c.read_take.ensures

pub returns-in-Some-strip_prefix-2 : goal.returns-in-Some-strip_prefix-2
returns-in-Some-strip_prefix-2 c =
    let front : c.args.line.now ≡ codes "drop " ++ c.in-Some-strip_prefix-2.word.now = strip_prefix_is Decides-eqb c.args.line.now (codes "drop ") (Some c.in-Some-strip_prefix-2.word) c.in-Some-strip_prefix-2.ensures.cases in
    IfOk-weaker c.read_drop.result _ _ (λ command is. is ∙ behind_drop c.in-Some-strip_prefix-2.word.now ∙ ap formed_command (sym front)) c.read_drop.ensures

pub returns-in-Some-strip_prefix-3 : goal.returns-in-Some-strip_prefix-3
returns-in-Some-strip_prefix-3 c =
    let front : c.args.line.now ≡ codes "ask " ++ c.in-Some-strip_prefix-3.text.now = strip_prefix_is Decides-eqb c.args.line.now (codes "ask ") (Some c.in-Some-strip_prefix-3.text) c.in-Some-strip_prefix-3.ensures.cases in
    rw c.in_ok-from_slice.ensures (behind_ask c.in-Some-strip_prefix-3.text.now ∙ ap formed_command (sym front))

pub returns-in-Some-strip_prefix-4 : goal.returns-in-Some-strip_prefix-4
returns-in-Some-strip_prefix-4 c =
    let front : c.args.line.now ≡ codes "plan " ++ c.in-Some-strip_prefix-4.text.now = strip_prefix_is Decides-eqb c.args.line.now (codes "plan ") (Some c.in-Some-strip_prefix-4.text) c.in-Some-strip_prefix-4.ensures.cases in
    rw c.in_ok-from_slice-2.ensures (behind_plan c.in-Some-strip_prefix-4.text.now ∙ ap formed_command (sym front))

pub returns : goal.returns
returns c =
    c.read_single.ensures ∙ single c.args.line.now (record {
      put = strip_prefix_is Decides-eqb c.args.line.now (codes "put ") None c.in_default.ensures.cases;
      take = strip_prefix_is Decides-eqb c.args.line.now (codes "take ") None c.in_default-strip_prefix.ensures.cases;
      drop = strip_prefix_is Decides-eqb c.args.line.now (codes "drop ") None c.in_default-strip_prefix-2.ensures.cases;
      ask = strip_prefix_is Decides-eqb c.args.line.now (codes "ask ") None c.in_default-strip_prefix-3.ensures.cases;
      plan = strip_prefix_is Decides-eqb c.args.line.now (codes "plan ") None c.in_default-strip_prefix-4.ensures.cases;
    })
