use Rattle.std.proofs.Common.{◌∙◌, sym, subst}
use Rattle.meaning_texts.specs.Lists.{IsIn}
use Rattle.derive_walk.proofs.CallLemmas.{found_in, in_found}
use Rattle.derive_walk.proofs.wanted.Wanted.contains.Goals as goal

pub returns : goal.returns
returns c =
    let call = c.args.call.now in
    let keys = c.self.inside.calls.keys in (
      λ h. subst (λ l. IsIn call l) c.self.view_is (found_in keys call (sym c.contains.ensures ∙ h)),
      λ i. c.contains.ensures ∙ in_found keys call (subst (λ l. IsIn call l) (sym c.self.view_is) i),
    )
