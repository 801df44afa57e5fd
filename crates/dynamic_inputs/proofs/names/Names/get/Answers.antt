use Rattle.std.proofs.Common.{◌≡◌, slice_get, ◌∙◌, subst, arith}
use Rattle.std.specs.Prelude.{IfSome}
use Rattle.std.specs.Option.{option_copied}
use Rattle.meaning_texts.specs.Lists.{IsIn}
use Rattle.dynamic_inputs.proofs.Found.{got_in}
use Rattle.dynamic_inputs.proofs.Asked.{looked_up}
use Rattle.dynamic_inputs.proofs.names.Names.get.Goals as goal

pub returns-clause-one : goal.returns-clause-one
returns-clause-one c =
    let there : option_copied c.get.result ≡ slice_get c.as_slice.result.now c.args.place = grind (arith, looked_up) in
    subst (λ l. IfSome c.get.result (λ name. IsIn name.now l)) (c.as_slice.ensures.keys ∙ c.self.view_is) (got_in c.as_slice.result.now c.args.place c.get.result there)
