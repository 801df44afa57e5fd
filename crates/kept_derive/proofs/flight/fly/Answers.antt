use Rattle.std.proofs.Common.{rules, arith, ◌≡◌, ◌∙◌, false, true, inl, inr, sym, ap, subst, refl}
use Rattle.std.specs.Prelude.{None, Err}
use Rattle.std.proofs.lemmas.Result.{err_from_is_err_and}
use Rattle.meaning_graph.specs.Grammar.{GraphText}
use Rattle.derive_walk.specs.Looks.{looks_by}
use Rattle.derive_walk.specs.Walks.{Walked}
use Rattle.derive_core.specs.Kept.{keeping_of}
use Rattle.job_runner.specs.Flights.{InFlight}
use Rattle.plain_derive.specs.Flights.{on_course}
use Rattle.kept_derive.specs.declared.fault.KeptFault.TheVariants.{Memory}
use Rattle.kept_derive.specs.Runs.{at, store_world}
use Rattle.kept_derive.specs.Ways.{IsStartable, IsNextStart}
use Rattle.kept_derive.proofs.HeldLemmas.{kept_fit}
use Rattle.kept_derive.proofs.CallLemmas.{kept_is, lost_is}
use Rattle.kept_derive.proofs.KnowLemmas.{says_facts}
use Rattle.kept_derive.proofs.StayLemmas.{graph_after}
use Rattle.kept_derive.proofs.WayLemmas.{IsFresh, start, may_drain, may_wait}
use Rattle.kept_derive.proofs.TurnLemmas.{MayEndIf, IsFlying, flying_moves, lands, crashes, starts, refuses}
use Rattle.kept_derive.proofs.AdvanceLemmas.{formed_now, right_first, advanced_first, goes_on}
use Rattle.kept_derive.proofs.LookLemmas.{none_counted, any_spare, advance_counted, advance_found, still_counted, ends_counted, same_looked, same_taken, gives_up_halted, advance_halted, halts, halted_at}
use Rattle.kept_derive.proofs.flight.fly.Goals.{in-Some+in-Ok, in_default+then-is_full+else-running-eq0+in_ok-land+in-Kept, then-fresh, else-fresh, in_default+else-is_full+in_ok-advance+else-is_some}
use Rattle.kept_derive.proofs.flight.fly.Goals as goal

pub loop-init : goal.loop-init
loop-init g c = record {
  way = start g.D.Disk.told _ _ _ c.changes_follow.ensures _ _ refl c.requires.unbegun c.requires.derivable.fits (kept_fit _ (search (rules, c.fit.ensures))) c.requires.may.idle.none;
  still = ap (λ (z : Walked). z.result) c.requires.unbegun.walk;
  fresh = λ e. let no : false ≡ true = e in cc;
  ready = c.requires.may.idle.ready;
  limit = refl;
  cause = refl;
  counted = none_counted c.args.core.now _ (ap (λ (z : Walked). looks_by z) c.requires.unbegun.walk);
}

-- ---- a call is started

pub start-requires-clause-told : goal.start-requires-clause-told
start-requires-clause-told g c = c.loop.invariant.way.running

pub returns-in-Err-Spawn-clause-flown : goal.returns-in-Err-Spawn-clause-flown
returns-in-Err-Spawn-clause-flown g c =
    let next = subst (λ l. IsStartable l c.loop.jobs c.in-Some.call.now) c.wanted.ensures c.in-Some.ensures in
    record {
      comes = refuses g.D.Disk.told _ _ _ _ _ _ c.loop.invariant.way c.loop.invariant.still c.in-Some.call.now _ _ next c.in-Err-Spawn.ensures.same (search (rules, c.in-Err-Spawn.ensures.failed));
      limit = ap (λ (z : InFlight). z.limit) c.in-Err-Spawn.ensures.same ∙ c.loop.invariant.limit;
      counted = any_spare _ _ _ c.loop.core c.loop.invariant.counted;
    }

pub returns-in-Err-Memory-clause-halted : goal.returns-in-Err-Memory-clause-halted
returns-in-Err-Memory-clause-halted g c =
    gives_up_halted g.D.Disk.told _ _ _ _ _ _ _ c.loop.invariant.way _ _ c.loop.invariant.counted _ c.loop.invariant.limit _ (search (rules, c.in-Err-Memory.ensures.memory))

-- ---- an end is waited for

pub land-requires : goal.land-requires
land-requires g c = record {
  may = may_drain g.D.Disk.told _ _ _ _ _ _ _ c.loop.invariant.way _ c.loop.invariant.ready;
  one = grind (arith, c.if-running-eq0.false, c.running.ensures);
}

pub returns-then-running-eq0-clause-halted : goal.returns-then-running-eq0-clause-halted
returns-then-running-eq0-clause-halted g c = gives_up_halted g.D.Disk.told _ _ _ _ _ _ _ c.loop.invariant.way _ _ c.loop.invariant.counted _ c.loop.invariant.limit _ refl

pub returns-in_err-land-clause-halted : goal.returns-in_err-land-clause-halted
returns-in_err-land-clause-halted g c =
    let given = err_from_is_err_and _ c.from_residual.ensures.1 in
    let next = subst (λ l. IsNextStart l c.loop.jobs None) c.wanted.ensures c.in_default.ensures in
    let may : MayEndIf g.D.Disk.told c.args.planned.now c.args.core.now.root (at c.args.store.now c.args.disk.now (g.S.Spawner.told c.args.tools.now)) on_course c.loop.core c.loop.jobs (at c.loop.store c.loop.disk (g.S.Spawner.told c.loop.tools)) = λ knows.
    let fresh : IsFresh (store_world c.args.planned.now c.args.store.now c.loop.core.given) c.loop.core c.loop.jobs =
    elim c.if-fresh.branch [ then-fresh w ↦ inr (c.loop.invariant.fresh w.if-fresh.true knows) | else-fresh w ↦ inl (w.is_full.ensures.0 (sym w.value-is ∙ c.if-is_full.true)) ] in
    may_wait g.D.Disk.told _ _ _ _ _ _ _ c.loop.invariant.way (c.loop.invariant.way.right knows) c.loop.invariant.still next fresh in
    halted_at _ _ _ _ _ _ _ _ _ _ _ (given.1 ∙ ap (λ f. Err f) given.2) refl (halts g.D.Disk.told _ _ _ _ _ _ _ c.loop.invariant.way c.changes_follow.ensures may _ _ _ _ c.in_err-land.ensures.fails _ c.loop.invariant.limit _ _ (any_spare _ _ _ c.loop.core c.loop.invariant.counted))

pub returns-in-Lost-clause-flown : goal.returns-in-Lost-clause-flown
returns-in-Lost-clause-flown g c =
    let next = subst (λ l. IsNextStart l c.loop.jobs None) c.wanted.ensures c.in_default.ensures in
    let may : MayEndIf g.D.Disk.told c.args.planned.now c.args.core.now.root (at c.args.store.now c.args.disk.now (g.S.Spawner.told c.args.tools.now)) on_course c.loop.core c.loop.jobs (at c.loop.store c.loop.disk (g.S.Spawner.told c.loop.tools)) = λ knows.
    let fresh : IsFresh (store_world c.args.planned.now c.args.store.now c.loop.core.given) c.loop.core c.loop.jobs =
    elim c.if-fresh.branch [ then-fresh w ↦ inr (c.loop.invariant.fresh w.if-fresh.true knows) | else-fresh w ↦ inl (w.is_full.ensures.0 (sym w.value-is ∙ c.if-is_full.true)) ] in
    may_wait g.D.Disk.told _ _ _ _ _ _ _ c.loop.invariant.way (c.loop.invariant.way.right knows) c.loop.invariant.still next fresh in
    let lands = c.in_ok-land.ensures.lands in
    record {
      comes = crashes g.D.Disk.told _ _ _ _ _ _ _ c.loop.invariant.way may c.changes_follow.ensures _ _ _ (lost_is g.D.Disk.told _ _ _ _ _ _ _ c.in-Lost.is c.in_ok-land.ensures.lands);
      limit = c.in_ok-land.ensures.limit ∙ c.loop.invariant.limit;
      counted = any_spare _ _ _ c.land.new.core (ends_counted c.loop.core c.land.new.core (same_looked g.D.Disk.told _ _ _ _ _ _ _ lands) (same_taken g.D.Disk.told _ _ _ _ _ _ _ lands) _ _ 0 c.loop.invariant.counted);
    }

-- ---- the walk goes on

pub advance-requires-clause-spelled : goal.advance-requires-clause-spelled
advance-requires-clause-spelled g c = subst (λ text. GraphText text c.args.planned.now) (sym (graph_after g.D.Disk.told _ _ _ _ _ c.loop.invariant.way.goes)) c.requires.may.spelled

pub advance-requires-clause-formed : goal.advance-requires-clause-formed
advance-requires-clause-formed g c = formed_now g.D.Disk.told _ _ _ _ _ _ c.loop.invariant.way (says_facts c.args.store.now c.kept-2.result.now c.kept-2.ensures c.records_fit.ensures.says) (says_facts c.loop.store c.kept-else-is_full.result.now c.kept-else-is_full.ensures c.records_fit-else-is_full.ensures.says)

pub returns-in_err-advance-clause-halted : goal.returns-in_err-advance-clause-halted
returns-in_err-advance-clause-halted g c =
    let given = err_from_is_err_and _ c.from_residual-in_err-advance.ensures.1 in
    let on = c.in_err-advance.ensures.on in
    let right = right_first g.D.Disk.told _ _ _ _ _ _ c.loop.invariant.way (says_facts c.args.store.now c.kept-2.result.now c.kept-2.ensures c.records_fit.ensures.says) (says_facts c.loop.store c.kept-else-is_full.result.now c.kept-else-is_full.ensures c.records_fit-else-is_full.ensures.says) _ on c.in_err-advance.ensures.right in
    halted_at _ _ _ _ _ _ _ _ _ _ Memory (given.1 ∙ ap (λ f. Err f) given.2) c.loop.invariant.limit
    (advance_halted g.D.Disk.told _ _ _ _ _ _ _ c.loop.invariant.way _ on right _ _ (advance_counted _ _ _ _ c.loop.core c.advance.new.core c.loop.invariant.counted c.in_err-advance.ensures.counted))

pub returns-then-is_some-clause-flown : goal.returns-then-is_some-clause-flown
returns-then-is_some-clause-flown g c = record {
  comes = record {
    way = goes_on g.D.Disk.told _ _ _ _ _ _ c.loop.invariant.way (says_facts c.args.store.now c.kept-2.result.now c.kept-2.ensures c.records_fit.ensures.says) (says_facts c.loop.store c.kept-else-is_full.result.now c.kept-else-is_full.ensures c.records_fit-else-is_full.ensures.says) _ c.in_ok-advance.ensures.on c.in_ok-advance.ensures.formed c.in_ok-advance.ensures.right c.in_ok-advance.ensures.advanced;
    found = search rules;
  };
  limit = c.loop.invariant.limit;
  counted = advance_found _ _ _ _ c.loop.core c.advance.new.core c.loop.invariant.counted c.in_ok-advance.ensures.counted;
}

-- ---- each turn, and where there are too many

pub returns-clause-halted : goal.returns-clause-halted
returns-clause-halted g c = gives_up_halted g.D.Disk.told _ _ _ _ _ _ _ c.loop.invariant.way _ _ c.loop.invariant.counted _ c.loop.invariant.limit _ refl

pub loop-preserved : goal.loop-preserved
loop-preserved g c =
    let first = at c.args.store.now c.args.disk.now (g.S.Spawner.told c.args.tools.now) in
    let it : IsFlying g.D.Disk.told g.D.Disk.size_of g.D.Disk.faults c.args.planned.now c.args.core.now.root c.args.jobs.now.limit first c.args.steps.now c.match-next_call.core c.match-next_call.jobs c.match-next_call.store c.match-next_call.disk
    (g.S.Spawner.told c.match-next_call.tools) c.match-next_call.steps c.match-next_call.fresh =
    elim c.match-next_call.branch [
      | in-Some+in-Ok w ↦
          let next = subst (λ l. IsStartable l c.loop.jobs w.in-Some.call.now) c.wanted.ensures w.in-Some.ensures in
          flying_moves g.D.Disk.told g.D.Disk.size_of g.D.Disk.faults c.args.planned.now c.args.core.now.root c.args.jobs.now.limit first c.args.steps.now w.core-is w.jobs-is w.store-is w.disk-is (ap g.S.Spawner.told w.tools-is) w.steps-is w.fresh-is (record {
            way = starts g.D.Disk.told _ _ _ _ _ _ c.loop.invariant.way c.loop.invariant.still w.in-Some.call.now _ _ next w.in-Ok.ensures.ok;
            still = c.loop.invariant.still;
            fresh = c.loop.invariant.fresh;
            ready = c.loop.invariant.ready;
            limit = ap (λ (z : InFlight). z.limit) w.in-Ok.ensures.ok.is ∙ c.loop.invariant.limit;
            cause = c.loop.invariant.cause;
            counted = c.loop.invariant.counted;
          })
      | in_default+then-is_full+else-running-eq0+in_ok-land+in-Kept w ↦
          let next = subst (λ l. IsNextStart l c.loop.jobs None) c.wanted.ensures w.in_default.ensures in
          let may : MayEndIf g.D.Disk.told c.args.planned.now c.args.core.now.root first on_course c.loop.core c.loop.jobs (at c.loop.store c.loop.disk (g.S.Spawner.told c.loop.tools)) = λ knows.
          let fresh : IsFresh (store_world c.args.planned.now c.args.store.now c.loop.core.given) c.loop.core c.loop.jobs =
          elim w.if-fresh.branch [ then-fresh v ↦ inr (c.loop.invariant.fresh v.if-fresh.true knows) | else-fresh v ↦ inl (v.is_full.ensures.0 (sym v.value-is ∙ w.if-is_full.true)) ] in
          may_wait g.D.Disk.told _ _ _ _ _ _ _ c.loop.invariant.way (c.loop.invariant.way.right knows) c.loop.invariant.still next fresh in
          let ends = w.in_ok-land.ensures.lands in
          let has = kept_is g.D.Disk.told _ _ _ _ _ _ _ w.in-Kept.is w.in_ok-land.ensures.lands in
          let keeping = keeping_of c.args.store.now.kept c.args.store.now.epoch in
          flying_moves g.D.Disk.told g.D.Disk.size_of g.D.Disk.faults c.args.planned.now c.args.core.now.root c.args.jobs.now.limit first c.args.steps.now w.core-is w.jobs-is w.store-is w.disk-is (ap g.S.Spawner.told w.tools-is) w.steps-is w.fresh-is (record {
            way = lands g.D.Disk.told _ _ _ _ _ _ _ c.loop.invariant.way may c.changes_follow.ensures _ _ _ has
                (w.in_ok-land.ensures.formed c.args.planned.now c.args.store.now.sources.texts keeping c.loop.invariant.way.formed)
                (w.in_ok-land.ensures.right c.args.planned.now c.args.store.now.sources.texts keeping);
            still = has.given.result ∙ c.loop.invariant.still;
            fresh = λ e. let no : false ≡ true = e in cc;
            ready = w.in_ok-land.ensures.left.ready;
            limit = w.in_ok-land.ensures.limit ∙ c.loop.invariant.limit;
            cause = w.in_ok-land.ensures.cause.ok ∙ c.loop.invariant.cause;
            counted = ends_counted c.loop.core w.land.new.core (same_looked g.D.Disk.told _ _ _ _ _ _ _ ends) (same_taken g.D.Disk.told _ _ _ _ _ _ _ ends) _ _ 0 c.loop.invariant.counted;
          })
      | in_default+else-is_full+in_ok-advance+else-is_some w ↦
          let still : w.advance.new.core.result ≡ None = search rules in
          let on = w.in_ok-advance.ensures.on in
          let advanced = advanced_first g.D.Disk.told _ _ _ _ _ _ c.loop.invariant.way (says_facts c.args.store.now c.kept-2.result.now c.kept-2.ensures c.records_fit.ensures.says) (says_facts c.loop.store w.kept-else-is_full.result.now w.kept-else-is_full.ensures w.records_fit-else-is_full.ensures.says) _ on w.in_ok-advance.ensures.advanced in
          flying_moves g.D.Disk.told g.D.Disk.size_of g.D.Disk.faults c.args.planned.now c.args.core.now.root c.args.jobs.now.limit first c.args.steps.now w.core-is w.jobs-is w.store-is w.disk-is (ap g.S.Spawner.told w.tools-is) w.steps-is w.fresh-is (record {
            way = goes_on g.D.Disk.told _ _ _ _ _ _ c.loop.invariant.way (says_facts c.args.store.now c.kept-2.result.now c.kept-2.ensures c.records_fit.ensures.says) (says_facts c.loop.store w.kept-else-is_full.result.now w.kept-else-is_full.ensures w.records_fit-else-is_full.ensures.says) _ on w.in_ok-advance.ensures.formed w.in_ok-advance.ensures.right w.in_ok-advance.ensures.advanced;
            still = still;
            fresh = λ e knows. advanced (c.loop.invariant.way.right knows).right;
            ready = c.loop.invariant.ready;
            limit = c.loop.invariant.limit;
            cause = c.loop.invariant.cause;
            counted = still_counted _ _ w.advance.new.core still (advance_found _ _ _ _ c.loop.core w.advance.new.core c.loop.invariant.counted w.in_ok-advance.ensures.counted);
          })
    ] in
    record { way = it.way; still = it.still; fresh = it.fresh; ready = it.ready; limit = it.limit; cause = it.cause; counted = it.counted }
