use Rattle.std.proofs.Common.{◌≡◌, [], ◌∷◌, ◌++◌, sym, ap, ◌∙◌}
use Rattle.std.specs.Prelude.{None}
use Rattle.derive_walk.specs.Places.{place_in}
use Rattle.derive_walk.specs.Settings.{world_in}
use Rattle.derive_walk.proofs.Lookups.{looks_more, look_there, look_formed, look_holds, place_says}
use Rattle.derive_walk.proofs.looked.look_up.Goals as goal

pub returns-clause-only : goal.returns-clause-only
returns-clause-only g c =
    let walk = c.args.walk.now in
    let none : place_in walk.looked c.args.node.now ≡ None = sym c.place.ensures ∙ c.in_default.is in
    looks_more (world_in g.K.Known.keeps c.args.setting.now) walk c.args.node.now none c.find-place.result c.add.new.self
    (c.in_ok-add.ensures.ok ∙ ap (λ z. walk.looked ++ (z, c.find-place.result) ∷ []) c.in_ok-copy.ensures)

pub returns-clause-formed : goal.returns-clause-formed
returns-clause-formed g c =
    let walk = c.args.walk.now in
    let none : place_in walk.looked c.args.node.now ≡ None = sym c.place.ensures ∙ c.in_default.is in
    look_formed (world_in g.K.Known.keeps c.args.setting.now) walk c.args.node.now none c.find-place.result c.add.new.self
    (c.in_ok-add.ensures.ok ∙ ap (λ z. walk.looked ++ (z, c.find-place.result) ∷ []) c.in_ok-copy.ensures) c.requires.formed c.requires.stepped
    (place_says (g.K.Known.keeps c.args.setting.now.known.now) c.args.node.now c.find-place.result c.find-place.ensures.is)

pub returns-clause-holds : goal.returns-clause-holds
returns-clause-holds g c =
    let walk = c.args.walk.now in
    let none : place_in walk.looked c.args.node.now ≡ None = sym c.place.ensures ∙ c.in_default.is in
    look_holds (world_in g.K.Known.keeps c.args.setting.now) walk c.args.node.now none c.find-place.result c.add.new.self
    (c.in_ok-add.ensures.ok ∙ ap (λ z. walk.looked ++ (z, c.find-place.result) ∷ []) c.in_ok-copy.ensures)

pub returns-clause-there : goal.returns-clause-there
returns-clause-there g c =
    let walk = c.args.walk.now in
    let none : place_in walk.looked c.args.node.now ≡ None = sym c.place.ensures ∙ c.in_default.is in
    look_there (world_in g.K.Known.keeps c.args.setting.now) walk c.args.node.now none c.find-place.result c.add.new.self
    (c.in_ok-add.ensures.ok ∙ ap (λ z. walk.looked ++ (z, c.find-place.result) ∷ []) c.in_ok-copy.ensures)
