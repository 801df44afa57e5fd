use Rattle.std.proofs.Common.{◌≡◌, ◌∙◌, ap, sym, arith, true≢false}
use Rattle.std.specs.Prelude.{None, Some, nat_eq, slice_get}
use Rattle.std.specs.Cmp.Lexicographic.{pointwise, bytes_decides}
use Rattle.std.proofs.lemmas.Grind.{common_steps}
use Rattle.std.proofs.lemmas.Option.{gets, none-some, same_Some}
use Rattle.content_store.proofs.sought.SoughtBodySought.is_at.Goals as goal

pub returns-in-Some : goal.returns-in-Some
returns-in-Some g c =
    let body = c.args.self.now.body.now in
    let here = c.in-Some.text.now in
    let at : slice_get c.args.self.now.bodies.now c.args.number ≡ Some here = grind (arith, common_steps, gets) in
    let test : c.eq.result ≡ pointwise nat_eq here body = c.eq.ensures ∙ ap (λ b. pointwise nat_eq b body) c.as_slice.ensures in
    let decides = bytes_decides here body in (
      λ yes. at ∙ ap Some (decides.0 (sym test ∙ yes)),
      λ is. test ∙ decides.1 (same_Some here body (sym at ∙ is)),
    )

pub returns-in-None : goal.returns-in-None
returns-in-None g c =
    let at : slice_get c.args.self.now.bodies.now c.args.number ≡ None = grind (arith, common_steps, gets) in (
      λ no. absurd (true≢false (sym no)),
      λ is. absurd (none-some c.args.self.now.body.now (sym at ∙ is)),
    )
