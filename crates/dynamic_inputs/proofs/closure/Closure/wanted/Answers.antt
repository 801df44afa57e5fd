use Rattle.std.proofs.Common.{◌≡◌, ℕ, true, false, List, [], length, slice_get, ◌∙◌, refl, arith}
use Rattle.std.specs.Prelude.{◌↔◌, IsTrue}
use Rattle.std.specs.Option.{option_copied}
use Rattle.dynamic_inputs.proofs.Asked.{looked_up, first_wanted, root_wanted, next_wanted, wanted_some, wanted_none}
use Rattle.dynamic_inputs.proofs.closure.Closure.wanted.Goals as goal

some : (told : List (List ℕ)) → IsTrue false ↔ (told ≡ []) → told ≡ [] → ⊥
some told is e = let k : false ≡ true = is.1 e in cc

pub returns-then-is_empty-clause-first : goal.returns-then-is_empty-clause-first
returns-then-is_empty-clause-first c = first_wanted c.self.inside.root c.self.inside.names c.self.inside.told c.args.self.now c.self.view_is (c.if-is_empty.ensures.0 refl)

pub returns-then-is_empty-clause-some : goal.returns-then-is_empty-clause-some
returns-then-is_empty-clause-some c = root_wanted c.self.inside.root c.self.inside.names c.self.inside.told c.args.self.now c.self.view_is (c.if-is_empty.ensures.0 refl)

pub returns-clause-first : goal.returns-clause-first
returns-clause-first c =
    let next : option_copied c.get.result ≡ slice_get c.self.inside.names (length c.self.inside.told) = grind (arith, looked_up) in
    next ∙ next_wanted c.self.inside.root c.self.inside.names c.self.inside.told c.args.self.now c.self.invariant c.self.view_is (some c.self.inside.told c.if-is_empty.ensures)

pub returns-clause-some : goal.returns-clause-some
returns-clause-some c =
    let next : option_copied c.get.result ≡ slice_get c.self.inside.names (length c.self.inside.told) = grind (arith, looked_up) in
    wanted_some c.self.inside.root c.self.inside.names c.self.inside.told c.args.self.now c.self.invariant c.self.view_is (some c.self.inside.told c.if-is_empty.ensures) c.get.result next

pub returns-clause-none : goal.returns-clause-none
returns-clause-none c =
    let next : option_copied c.get.result ≡ slice_get c.self.inside.names (length c.self.inside.told) = grind (arith, looked_up) in
    wanted_none c.self.inside.root c.self.inside.names c.self.inside.told c.args.self.now c.self.invariant c.self.view_is (some c.self.inside.told c.if-is_empty.ensures) c.get.result next
