use Rattle.std.proofs.Common.{◌≡◌, ◌-◌, length, slice_get, subst, refl}
use Rattle.std.specs.Prelude.{Some}
use Rattle.meaning_texts.proofs.Lemmas.{some_is_none}
use Rattle.derive_walk.specs.Paths.{IsNextDown}
use Rattle.derive_walk.specs.Settings.{world_in}
use Rattle.derive_walk.proofs.DownLemmas.{last_fits, longer_fits, last_node, next_there, one_lower}
use Rattle.derive_walk.proofs.DownLooks.{steps_down, never_ok}
use Rattle.derive_walk.proofs.deep.step_down.Goals as goal

pub next_down-requires-clause-fits : goal.next_down-requires-clause-fits
next_down-requires-clause-fits g c =
    let got : Some c.in-Some.last.now ≡ slice_get c.args.chain.now (length c.args.chain.now - 1) = cc (c.in-Some.ensures.value, c.as_slice.ensures) in
    let w = world_in g.K.Known.keeps c.args.setting.now in
    last_fits w c.requires.set c.args.walk.now c.requires.formed c.args.chain.now c.requires.fit c.in-Some.last.now got

pub returns-in_default-2-clause-longer : goal.returns-in_default-2-clause-longer
returns-in_default-2-clause-longer g c = λ down.
    let w = world_in g.K.Known.keeps c.args.setting.now in
    let got : Some c.in-Some.last.now ≡ slice_get c.args.chain.now (length c.args.chain.now - 1) = cc (c.in-Some.ensures.value, c.as_slice.ensures) in
    let same : c.in-Some.last.now ≡ down.last = last_node c.args.chain.now down.front down.last c.in-Some.last.now down.is got in
    let next = c.in_ok-next.field-0 in
    let is : IsNextDown w c.args.walk.now down.last c.args.height next = subst (λ z. IsNextDown w c.args.walk.now z c.args.height next) same c.in_ok-next.ensures.next in
    let there = next_there w c.requires.set c.args.walk.now c.args.chain.now c.args.height down c.requires.high next is in
    some_is_none next there.0 there.1 c.in_default-2.is

pub returns-in_default-2-clause-down : goal.returns-in_default-2-clause-down
returns-in_default-2-clause-down g c = λ down.
    let w = world_in g.K.Known.keeps c.args.setting.now in
    let got : Some c.in-Some.last.now ≡ slice_get c.args.chain.now (length c.args.chain.now - 1) = cc (c.in-Some.ensures.value, c.as_slice.ensures) in
    let same : c.in-Some.last.now ≡ down.last = last_node c.args.chain.now down.front down.last c.in-Some.last.now down.is got in
    let next = c.in_ok-next.field-0 in
    let is : IsNextDown w c.args.walk.now down.last c.args.height next = subst (λ z. IsNextDown w c.args.walk.now z c.args.height next) same c.in_ok-next.ensures.next in
    let there = next_there w c.requires.set c.args.walk.now c.args.chain.now c.args.height down c.requires.high next is in
    some_is_none next there.0 there.1 c.in_default-2.is

pub returns-clause-fit : goal.returns-clause-fit
returns-clause-fit g c =
    let w = world_in g.K.Known.keeps c.args.setting.now in
    let got : Some c.in-Some.last.now ≡ slice_get c.args.chain.now (length c.args.chain.now - 1) = cc (c.in-Some.ensures.value, c.as_slice.ensures) in
    longer_fits w c.requires.set c.args.walk.now c.requires.formed c.args.chain.now c.requires.fit c.in-Some.last.now got c.args.height
    c.in_ok-next.field-0 c.in_ok-next.ensures.next c.in-Some-2.next c.in-Some-2.is c.push.new.self c.in_ok-push.ensures.ok

pub returns-clause-down : goal.returns-clause-down
returns-clause-down g c = λ down.
    let w = world_in g.K.Known.keeps c.args.setting.now in
    let got : Some c.in-Some.last.now ≡ slice_get c.args.chain.now (length c.args.chain.now - 1) = cc (c.in-Some.ensures.value, c.as_slice.ensures) in
    let same : c.in-Some.last.now ≡ down.last = last_node c.args.chain.now down.front down.last c.in-Some.last.now down.is got in
    let next = c.in_ok-next.field-0 in
    let is : IsNextDown w c.args.walk.now down.last c.args.height next = subst (λ z. IsNextDown w c.args.walk.now z c.args.height next) same c.in_ok-next.ensures.next in
    one_lower w c.requires.set c.args.walk.now c.args.chain.now c.args.height down c.requires.high next is c.in-Some-2.next c.in-Some-2.is c.push.new.self
    c.in_ok-push.ensures.ok

pub returns-in_err-next-clause-counted : goal.returns-in_err-next-clause-counted
returns-in_err-next-clause-counted g c =
    let got : Some c.in-Some.last.now ≡ slice_get c.args.chain.now (length c.args.chain.now - 1) = cc (c.in-Some.ensures.value, c.as_slice.ensures) in
    steps_down c.args.walk.now.looked c.args.chain.now _ c.in-Some.last.now c.args.steps.now _ got c.next_down.ensures.counted c.from_residual.result
    (never_ok c.from_residual.result _ _ c.from_residual.ensures.1)

pub returns-in_default-2-clause-counted : goal.returns-in_default-2-clause-counted
returns-in_default-2-clause-counted g c =
    let got : Some c.in-Some.last.now ≡ slice_get c.args.chain.now (length c.args.chain.now - 1) = cc (c.in-Some.ensures.value, c.as_slice.ensures) in
    steps_down c.args.walk.now.looked c.args.chain.now c.args.chain.now c.in-Some.last.now c.args.steps.now _ got c.in_ok-next.ensures.counted _ refl

pub returns-in_err-push-clause-counted : goal.returns-in_err-push-clause-counted
returns-in_err-push-clause-counted g c =
    let got : Some c.in-Some.last.now ≡ slice_get c.args.chain.now (length c.args.chain.now - 1) = cc (c.in-Some.ensures.value, c.as_slice.ensures) in
    steps_down c.args.walk.now.looked c.args.chain.now _ c.in-Some.last.now c.args.steps.now _ got c.in_ok-next.ensures.counted c.from_residual-in_err-push.result
    (never_ok c.from_residual-in_err-push.result _ _ c.from_residual-in_err-push.ensures.1)

pub returns-clause-counted : goal.returns-clause-counted
returns-clause-counted g c =
    let got : Some c.in-Some.last.now ≡ slice_get c.args.chain.now (length c.args.chain.now - 1) = cc (c.in-Some.ensures.value, c.as_slice.ensures) in
    steps_down c.args.walk.now.looked c.args.chain.now c.push.new.self c.in-Some.last.now c.args.steps.now _ got c.in_ok-next.ensures.counted _
    (c.in-Some-2.next, c.in_ok-push.ensures.ok)
