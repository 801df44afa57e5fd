use Rattle.std.proofs.Common.{rules, ◌≡◌, ap, ◌∙◌, inl, inr, subst, refl, sym}
use Rattle.std.specs.Prelude.{Some, Err, slice_get}
use Rattle.std.proofs.lemmas.Result.{err_from_is_err_and}
use Rattle.meaning_texts.specs.Lists.{IsIn}
use Rattle.derive_walk.specs.Keeping.{outcomes_alone}
use Rattle.derive_walk.specs.Outcomes.{nothing_known}
use Rattle.plain_derive.proofs.OnLemmas.{first_in, goes_on, stops, stopped_at}
use Rattle.plain_derive.proofs.running.run_first.Goals as goal

pub returns-in_err-call-clause-stops : goal.returns-in_err-call-clause-stops
returns-in_err-call-clause-stops g c =
    let given = err_from_is_err_and _ c.from_residual.ensures.1 in
    stopped_at _ _ _ _ _ (given.1 ∙ ap (λ f. Err f) given.2) (stops _ _ _ _ (inl (record { memory = refl; same = refl })))

pub returns-in_err-outcome-clause-stops : goal.returns-in_err-outcome-clause-stops
returns-in_err-outcome-clause-stops g c =
    let given = err_from_is_err_and _ c.from_residual-in_err-outcome.ensures.1 in
    let first : slice_get c.args.walker.now.wanted 0 ≡ Some c.in-Some.first.now = search rules in
    let there = subst (λ z. IsIn z c.args.walker.now.wanted) (sym c.in_ok-call.ensures) (first_in _ _ first) in
    stopped_at _ _ _ _ _ (given.1 ∙ ap (λ f. Err f) given.2) (stops _ _ _ _ (inr (c.in_ok-call.call, there, c.in_err-outcome.ensures.cut)))

pub returns-in_err-give-clause-stops : goal.returns-in_err-give-clause-stops
returns-in_err-give-clause-stops g c =
    let given = err_from_is_err_and _ c.from_residual-in_err-give.ensures.1 in
    let first : slice_get c.args.walker.now.wanted 0 ≡ Some c.in-Some.first.now = search rules in
    let there = subst (λ z. IsIn z c.args.walker.now.wanted) (sym c.in_ok-call.ensures) (first_in _ _ first) in
    stopped_at _ _ _ _ _ (given.1 ∙ ap (λ f. Err f) given.2) (stops _ _ _ _ (inr (c.in_ok-call.call, there, inr (inr c.in_ok-outcome.ensures.made))))

pub returns-clause-on : goal.returns-clause-on
returns-clause-on g c g' s n before so =
    let first : slice_get c.args.walker.now.wanted 0 ≡ Some c.in-Some.first.now = search rules in
    let there = subst (λ z. IsIn z c.args.walker.now.wanted) (sym c.in_ok-call.ensures) (first_in _ _ first) in
    goes_on g' s n before c.args.walker.now _ so _ _ _ _ there c.in_ok-outcome.ensures.outcome c.in_ok-outcome.ensures.made c.in_ok-give.ensures.ok (c.in_ok-give.ensures.right g' s (outcomes_alone nothing_known) so.right)
