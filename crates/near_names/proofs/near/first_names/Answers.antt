use Rattle.std.proofs.Common.{ℕ, List, map, Bor, ap, sym, ◌∙◌, arith}
use Rattle.std.proofs.lemmas.List.{length-take-le, take_all, take-map}
use Rattle.near_names.proofs.near.first_names.Goals as goal

abbrev texts : List (Bor (List ℕ)) → List (List ℕ)
texts names = map (λ (name : Bor (List ℕ)). name.now) names

pub returns-then-names-le-MOST : goal.returns-then-names-le-MOST
returns-then-names-le-MOST c =
    let names = c.args.names.now in
    sym (take-map (λ (name : Bor (List ℕ)). name.now) 1000 names ∙ ap texts (take_all 1000 names c.if-names-le-MOST.true))

pub slice_bounds-result-end : goal.slice_bounds-result-end
slice_bounds-result-end c = sym (length-take-le 1000 c.args.names.now (omega (arith, c.if-names-le-MOST.false)))

pub returns : goal.returns
returns c = sym (take-map (λ (name : Bor (List ℕ)). name.now) 1000 c.args.names.now)
