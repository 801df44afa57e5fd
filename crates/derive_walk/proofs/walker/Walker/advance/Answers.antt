use Rattle.std.proofs.Common.{arith, sym, subst, refl, ◌∙◌}
use Rattle.std.proofs.lemmas.Result.{err_from_is_err_and}
use Rattle.derive_walk.specs.Keeping.{records_in}
use Rattle.derive_walk.specs.Outcomes.{after}
use Rattle.derive_walk.specs.Walks.{Walked, IsFormed, IsRight}
use Rattle.derive_walk.specs.Settings.{world_by}
use Rattle.derive_walk.proofs.AdvanceLemmas.{goes_on, stays_formed, stays_right, still_found}
use Rattle.derive_walk.proofs.LooksLemmas.{looks_lost, looks_seen, looks_wider, no_step}
use Rattle.derive_walk.proofs.RootLemmas.{seen_so, formed_at_start, holds_at_start, found_of}
use Rattle.derive_walk.proofs.walker.Walker.advance.Goals as goal

pub walk_from_root-requires-clause-set : goal.walk_from_root-requires-clause-set
walk_from_root-requires-clause-set g c =
    let keeping = g.K.Known.keeps c.args.known.now in
    let w = world_by keeping c.args.planned.now c.args.sources.now.texts c.self.inside.given in
    let formed : IsFormed w (seen_so c.self.inside.walk c.self.inside.given c.self.inside.result) = subst
    (λ (s : Walked). IsFormed (world_by keeping c.args.planned.now c.args.sources.now.texts s.given) s) (sym c.self.view_is) c.requires.formed in
    record { spellable = c.requires.ground.spellable; checked = rw c.graph.ensures at c.checked.ensures; sources = c.requires.ground.sources; fit = formed.fit; readable = c.requires.ground.readable }

pub walk_from_root-requires-clause-formed : goal.walk_from_root-requires-clause-formed
walk_from_root-requires-clause-formed g c =
    let keeping = g.K.Known.keeps c.args.known.now in
    let w = world_by keeping c.args.planned.now c.args.sources.now.texts c.self.inside.given in
    let formed : IsFormed w (seen_so c.self.inside.walk c.self.inside.given c.self.inside.result) = subst
    (λ (s : Walked). IsFormed (world_by keeping c.args.planned.now c.args.sources.now.texts s.given) s) (sym c.self.view_is) c.requires.formed in
    formed_at_start w
    (seen_so c.self.inside.walk c.self.inside.given c.self.inside.result) formed _ refl refl refl refl refl refl c.new.ensures

-- ---- after want of memory

pub returns-in_err-self-inside-clause-on : goal.returns-in_err-self-inside-clause-on
returns-in_err-self-inside-clause-on g c =
    goes_on _ c.walk_from_root.new.walk c.walk_from_root.ensures.on c.self.inside.given c.self.inside.result (sym c.is_some.ensures ∙ c.if-is_some.false) c.self.inside.result c.args.self.now c.self.view_is

pub returns-in_err-self-inside-clause-formed : goal.returns-in_err-self-inside-clause-formed
returns-in_err-self-inside-clause-formed g c =
    let keeping = g.K.Known.keeps c.args.known.now in
    let w = world_by keeping c.args.planned.now c.args.sources.now.texts c.self.inside.given in
    let formed : IsFormed w (seen_so c.self.inside.walk c.self.inside.given c.self.inside.result) = subst
    (λ (s : Walked). IsFormed (world_by keeping c.args.planned.now c.args.sources.now.texts s.given) s) (sym c.self.view_is) c.requires.formed in
    stays_formed _ c.walk_from_root.new.walk c.walk_from_root.ensures.on c.self.inside.given c.self.inside.result w formed.fit c.walk_from_root.ensures.formed
    c.self.inside.result formed.found

pub returns-in_err-self-inside-clause-right : goal.returns-in_err-self-inside-clause-right
returns-in_err-self-inside-clause-right g c = λ right.
    let keeping = g.K.Known.keeps c.args.known.now in
    let w = world_by keeping c.args.planned.now c.args.sources.now.texts c.self.inside.given in
    let before : IsRight w (seen_so c.self.inside.walk c.self.inside.given c.self.inside.result) = subst
    (λ (s : Walked). IsRight (world_by keeping c.args.planned.now c.args.sources.now.texts s.given) s) (sym c.self.view_is) right in
    let at_start = holds_at_start w (seen_so c.self.inside.walk c.self.inside.given c.self.inside.result) before _ refl refl refl refl refl refl c.new.ensures in
    let holds = c.walk_from_root.ensures.holds at_start in
    stays_right _ c.walk_from_root.new.walk c.walk_from_root.ensures.on c.self.inside.given c.self.inside.result w before c.walk_from_root.ensures.formed holds
    (c.walk_from_root.ensures.counted.taken at_start before.taken) c.self.inside.result
    (still_found _ c.walk_from_root.new.walk c.walk_from_root.ensures.on c.self.inside.given c.self.inside.result w before)

-- ---- after all went well

pub returns-clause-on : goal.returns-clause-on
returns-clause-on g c =
    goes_on _ c.walk_from_root.new.walk c.walk_from_root.ensures.on c.self.inside.given c.self.inside.result (sym c.is_some.ensures ∙ c.if-is_some.false) c.in_ok-self-inside.field-0 c.args.self.now c.self.view_is

pub returns-clause-formed : goal.returns-clause-formed
returns-clause-formed g c =
    let keeping = g.K.Known.keeps c.args.known.now in
    let w = world_by keeping c.args.planned.now c.args.sources.now.texts c.self.inside.given in
    let formed : IsFormed w (seen_so c.self.inside.walk c.self.inside.given c.self.inside.result) = subst
    (λ (s : Walked). IsFormed (world_by keeping c.args.planned.now c.args.sources.now.texts s.given) s) (sym c.self.view_is) c.requires.formed in
    stays_formed _ c.walk_from_root.new.walk c.walk_from_root.ensures.on c.self.inside.given c.self.inside.result w formed.fit c.walk_from_root.ensures.formed
    c.in_ok-self-inside.field-0 c.in_ok-self-inside.ensures.after.fit

pub returns-clause-right : goal.returns-clause-right
returns-clause-right g c = λ right.
    let keeping = g.K.Known.keeps c.args.known.now in
    let w = world_by keeping c.args.planned.now c.args.sources.now.texts c.self.inside.given in
    let before : IsRight w (seen_so c.self.inside.walk c.self.inside.given c.self.inside.result) = subst
    (λ (s : Walked). IsRight (world_by keeping c.args.planned.now c.args.sources.now.texts s.given) s) (sym c.self.view_is) right in
    let at_start = holds_at_start w (seen_so c.self.inside.walk c.self.inside.given c.self.inside.result) before _ refl refl refl refl refl refl c.new.ensures in
    stays_right _ c.walk_from_root.new.walk c.walk_from_root.ensures.on c.self.inside.given c.self.inside.result w before
    c.walk_from_root.ensures.formed (c.walk_from_root.ensures.holds at_start)
    (c.walk_from_root.ensures.counted.taken at_start before.taken) c.in_ok-self-inside.field-0
    (found_of w c.walk_from_root.new.walk.root c.walk_from_root.new.walk.wanted c.in_ok-self-inside.field-0 (c.in_ok-self-inside.ensures.after.right at_start))

pub returns-clause-advanced : goal.returns-clause-advanced
returns-clause-advanced g c = λ right.
    let keeping = g.K.Known.keeps c.args.known.now in
    let w = world_by keeping c.args.planned.now c.args.sources.now.texts c.self.inside.given in
    let before : IsRight w (seen_so c.self.inside.walk c.self.inside.given c.self.inside.result) = subst
    (λ (s : Walked). IsRight (world_by keeping c.args.planned.now c.args.sources.now.texts s.given) s) (sym c.self.view_is) right in
    c.in_ok-self-inside.ensures.after.right
    (holds_at_start w (seen_so c.self.inside.walk c.self.inside.given c.self.inside.result) before _ refl refl refl refl refl refl c.new.ensures)

-- ---- looks

pub returns-then-is_some-clause-counted : goal.returns-then-is_some-clause-counted
returns-then-is_some-clause-counted g c = no_step _ _ _

pub returns-in_err-self-inside-clause-counted : goal.returns-in_err-self-inside-clause-counted
returns-in_err-self-inside-clause-counted g c =
    let given = err_from_is_err_and _ c.from_residual.ensures.1 in
    looks_lost _ _ _ _ _ _ _ given.1 (looks_seen c.self.inside.walk c.self.inside.given c.self.inside.result _ _ _ _ _ c.self.view_is c.in_err-self-inside.ensures.counted.steps)

pub returns-clause-counted : goal.returns-clause-counted
returns-clause-counted g c = looks_wider _ _ _ _ _ _ (omega arith) (looks_seen c.self.inside.walk c.self.inside.given c.self.inside.result _ _ _ _ _ c.self.view_is c.in_ok-self-inside.ensures.counted.steps)
