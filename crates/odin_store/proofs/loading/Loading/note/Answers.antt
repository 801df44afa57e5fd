use Rattle.std.proofs.Common.{◌≡◌, None, Some, refl, rules, arith}
use Rattle.std.proofs.lemmas.Grind.{common_steps}
use Rattle.odin_store.specs.declared.loading.Ground.TheVariants as ground_is
use Rattle.odin_store.specs.Loading.{FitsAt, UnfitAt}
use Rattle.odin_store.proofs.PastLemmas.{notes_other, notes_this, unfit_before, fits_too, unfit_here}
use Rattle.odin_store.proofs.loading.Loading.note.Goals as goal

pub returns-in-Other-clause-noted : goal.returns-in-Other-clause-noted
returns-in-Other-clause-noted c answered fact there =
    let old = c.args.self.now in
    let other : old.ground ≡ ground_is.Other = grind (arith, common_steps) in
    notes_other fact old old (record { graph = refl; text = refl }) other other

pub returns-in-This-Some-clause-noted : goal.returns-in-This-Some-clause-noted
returns-in-This-Some-clause-noted c answered fact there =
    let old = c.args.self.now in
    let at = c.in-This-Some.field-0-0 in
    let this : old.ground ≡ ground_is.This (Some at) = grind (arith, common_steps) in
    notes_this fact old old (Some at) (Some at) (record { graph = refl; text = refl }) this this (λ past many first. unfit_before old.graph.now fact old.gate at past first)

pub returns-then-not-branch-clause-noted : goal.returns-then-not-branch-clause-noted
returns-then-not-branch-clause-noted c answered fact there =
    let old = c.args.self.now in
    let this : old.ground ≡ ground_is.This None = grind (arith, common_steps) in
    let unfit : UnfitAt c.args.place old = search rules in
    notes_this fact old _ None (Some old.gate) (record { graph = refl; text = refl }) this refl (λ past many all. unfit_here old.graph.now fact old.gate past many (unfit fact there) all)

pub returns-else-not-branch-clause-noted : goal.returns-else-not-branch-clause-noted
returns-else-not-branch-clause-noted c answered fact there =
    let old = c.args.self.now in
    let this : old.ground ≡ ground_is.This None = grind (arith, common_steps) in
    let fits : FitsAt c.args.place old = search rules in
    notes_this fact old old None None (record { graph = refl; text = refl }) this this (λ past many all. fits_too old.graph.now fact old.gate past (fits.fits fact there) all)
