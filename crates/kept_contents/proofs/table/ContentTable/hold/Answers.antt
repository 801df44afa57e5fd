use Rattle.std.proofs.Common.{◌<◌, ◌++◌, List, ap, ◌∙◌, arith, length}
use Rattle.std.specs.Prelude.{Option, ℕ}
use Rattle.content_store.specs.Bodies.{Bodies, with_body}
use Rattle.content_store.proofs.Lemmas.{goes_behind}
use Rattle.kept_contents.specs.Stocks.{ContentStock, values_of_contents}
use Rattle.kept_contents.proofs.Contents.{held_with}
use Rattle.kept_contents.proofs.Numbers.{held_new}
use Rattle.kept_contents.proofs.table.ContentTable.hold.Goals as goal

pub invariant_of-self-in-Continue-branch-3 : goal.invariant_of-self-in-Continue-branch-3
invariant_of-self-in-Continue-branch-3 c =
    let items = c.self.inside.contents.items in
    let texts = c.self.inside.texts in
    let lent = ap (λ (l : List (Option ℕ)). length l) c.as_slice.ensures.value in
    let kept = ap (λ (l : List (Option ℕ)). length l) c.reserve.ensures.items in
    let made = ap (λ (b : Bodies). length b) c.in_ok-id.ensures.bodies in
    let longer : length c.self.inside.numbers.items < length (with_body c.args.text.now texts) = omega (arith, lent, kept, made) in (
      rw (c.in_ok-id.ensures.bodies, c.in_ok-push.ensures.items, c.reserve.ensures.items) (held_new (values_of_contents items) texts c.self.inside.numbers.items c.self.invariant.0 c.args.text.now longer),
      rw c.in_ok-id.ensures.bodies (held_with c.args.text.now texts items c.self.invariant.1),
      c.self.invariant.2,
    )

pub returns-in_ok-push-clause-texts : goal.returns-in_ok-push-clause-texts
returns-in_ok-push-clause-texts c =
    let behind = goes_behind c.args.text.now c.self.inside.texts in
    (behind.0, c.in_ok-id.ensures.bodies ∙ behind.1 ∙ ap (λ (s : ContentStock). s.texts ++ behind.0) c.self.view_is)
