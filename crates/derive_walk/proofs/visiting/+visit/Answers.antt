use Rattle.std.proofs.Common.{◌≡◌, ◌+◌, ◌<◌, [], ◌∷◌, ◌++◌, length, take, sym, ap, ◌∙◌, subst, is_some, arith, rules}
use Rattle.std.specs.Prelude.{None}
use Rattle.std.proofs.lemmas.Result.{err_from_is_err_and}
use Rattle.meaning_texts.specs.Lists.{IsIn}
use Rattle.meaning_tasks.specs.Nodes.{Fits}
use Rattle.derive_walk.specs.Chains.{IsChainTo}
use Rattle.derive_walk.specs.Tables.{results_of}
use Rattle.derive_walk.specs.Settings.{world_in}
use Rattle.derive_walk.specs.Looks.{GoesByLooks, spare_for}
use Rattle.derive_walk.specs.States.{heights_in, Visited, AfterVisit}
use Rattle.derive_walk.specs.Paths.{IsNext, IsRound, AreToVisit, LeadsTo}
use Rattle.derive_walk.proofs.FormedLemmas.{formed_at}
use Rattle.derive_walk.proofs.GoingLemmas.{goes_looking}
use Rattle.derive_walk.proofs.HeightLemmas.{not_some}
use Rattle.derive_walk.proofs.LooksLemmas.{goes_cut, goes_lost, goes_then, goes_wider, no_look}
use Rattle.derive_walk.proofs.TakenLemmas.{goes_alone, goes_by_look}
use Rattle.derive_walk.proofs.VisitLemmas.{IsNextNeed, start, room, last, fits, longer, finish, holds_at, leads_further, chained, found_further, next_need, goes_far, goes_at}
use Rattle.derive_walk.proofs.Tables.{at_end}
use Rattle.derive_walk.proofs.AheadLemmas.{still_ahead}
use Rattle.derive_walk.proofs.RoundLemmas.{got_in, begin_round, round_fits, round_need, visit_one}
use Rattle.derive_walk.proofs.visiting.+visit.Goals as goal

pub loop-rounds-init : goal.loop-rounds-init
loop-rounds-init g t c =
    let w = world_in g.K.Known.keeps c.args.setting.now in
    record {
      so = start w c.args.walk.now c.args.node c.look.new.walk c.look.ensures.only c.look.ensures.formed c.look.ensures.holds c.in_ok-kept.ensures.there
          c.requires.next c.push.new.self (c.in_ok-push.ensures.ok ∙ ap (λ z. c.look.new.walk.path ++ z ∷ []) c.in_ok-copy.ensures);
      ahead = c.new-ahead.ensures c.args.setting.now.planned.now c.args.node (results_of c.look.new.walk.done);
      length = c.len-length.ensures;
      counted = goes_cut w c.args.setting.now.given.now c.args.walk.now c.look.new.walk _ _ 0
          (goes_by_look w c.args.setting.now.given.now c.args.walk.now c.look.new.walk c.look.ensures.only _ _ 0 c.in_ok-kept.ensures.counted) c.push.new.self;
    }

pub loop-rounds-preserved : goal.loop-rounds-preserved
loop-rounds-preserved g t c = record {
  so = c.loop-need.invariant.round.so;
  ahead = c.loop-need.invariant.ahead;
  length = c.loop-rounds.invariant.length;
  counted = c.loop-need.invariant.counted;
}

pub loop-need-init : goal.loop-need-init
loop-need-init g t c =
    let w = world_in g.K.Known.keeps c.args.setting.now in
    let next : AreToVisit w c.loop-rounds.walk c.args.node c.in-Visits.needs =
    subst (IsRound w c.loop-rounds.walk c.args.node) c.in-Visits.is c.in_ok-round.ensures.round in
    record {
      round = begin_round w c.args.walk.now c.loop-rounds.walk c.args.node c.loop-rounds.invariant.so c.in-Visits.needs next c.as_slice-unvisited.result.now
          c.as_slice-unvisited.ensures;
      ahead = c.next_round.ensures.ahead;
      counted = c.loop-rounds.invariant.counted;
    }

pub loop-need-preserved : goal.loop-need-preserved
loop-need-preserved g t c =
    let w = world_in g.K.Known.keeps c.args.setting.now in
    let k = c.need-item.result in
    let walk = c.loop-need.walk in
    let one : IsIn k c.as_slice-unvisited.result.now = got_in c.as_slice-unvisited.result.now c.loop-need.need-index k c.loop-need-test.true c.need-item.is in
    let free : IsChainTo walk.path k None = subst (λ o. IsChainTo walk.path k o) c.in_default.is c.in_ok-found.ensures in
    let same : c.in_ok-need.need ≡ k = c.in_ok-need.ensures in
    let after : Visited w walk c.visit.new.walk k =
    subst (λ z. Visited w walk c.visit.new.walk z) same
    (subst (λ o. AfterVisit w (LeadsTo w walk c.in_ok-need.need) walk c.visit.new.walk c.in_ok-need.need o) c.in_default-2.is c.in_ok-found-2.ensures.after) in
    record {
      round = visit_one w c.args.walk.now c.loop-rounds.walk c.args.node c.as_slice-unvisited.result.now walk c.loop-need.invariant.round k one free.0
          c.visit.new.walk c.visit.ensures.on c.visit.ensures.formed
          (λ to. c.visit.ensures.holds (subst (λ z. LeadsTo w walk z) (sym same) to)) after;
      ahead = still_ahead w walk c.visit.new.walk c.visit.ensures.on c.args.node c.next_round.new.ahead c.loop-need.invariant.ahead;
      counted = goes_then w c.args.setting.now.given.now c.args.walk.now walk c.visit.new.walk _ _ _ _ c.loop-need.invariant.counted
          (λ to. subst (λ z. LeadsTo w walk z) (sym same)
          (leads_further w c.args.walk.now c.args.node walk c.loop-need.invariant.round.so k to
          (round_need w c.args.walk.now c.loop-rounds.walk c.args.node c.as_slice-unvisited.result.now walk c.loop-need.invariant.round k one to)))
          (subst (λ o. GoesByLooks w c.args.setting.now.given.now (LeadsTo w walk c.in_ok-need.need) walk c.visit.new.walk c.loop-need.steps c.visit.new.steps
          (spare_for c.visit.new.walk.looked o)) c.in_default-2.is c.in_ok-found-2.ensures.counted);
    }

pub next_round-requires : goal.next_round-requires
next_round-requires g t c =
    let w = world_in g.K.Known.keeps c.args.setting.now in
    record {
      set = c.requires.set;
      formed = c.loop-rounds.invariant.so.formed;
      fits = fits w c.args.walk.now c.args.node c.loop-rounds.walk c.loop-rounds.invariant.so;
      kept = c.in_ok-kept.ensures.record;
      ahead = c.loop-rounds.invariant.ahead;
    }

pub visit-requires : goal.visit-requires
visit-requires g t c =
    let w = world_in g.K.Known.keeps c.args.setting.now in
    let k = c.need-item.result in
    let walk = c.loop-need.walk in
    let so = c.loop-need.invariant.round.so in
    let one : IsIn k c.as_slice-unvisited.result.now = got_in c.as_slice-unvisited.result.now c.loop-need.need-index k c.loop-need-test.true c.need-item.is in
    let fit : Fits w.graph k =
    round_fits w c.args.walk.now c.loop-rounds.walk c.args.node c.as_slice-unvisited.result.now walk c.loop-need.invariant.round k one c.requires.set in
    let unseen : heights_in walk k ≡ None = not_some (heights_in walk k) (ap is_some (sym c.height_of.ensures) ∙ sym c.is_some.ensures ∙ c.if-is_some.false) in
    let free : IsChainTo walk.path k None = subst (λ o. IsChainTo walk.path k o) c.in_default.is c.in_ok-found.ensures in
    let same : c.in_ok-need.need ≡ k = c.in_ok-need.ensures in
    let next : IsNext w walk c.in_ok-need.need = subst (λ z. IsNext w walk z) (sym same) (next_need w c.args.walk.now c.args.node walk so k fit unseen free) in
    let size : length walk.path ≡ length c.args.walk.now.path + 1 = longer w c.args.walk.now c.args.node walk so in
    let short : length c.args.walk.now.path < 64 = room w c.args.walk.now c.args.node c.requires.next in
    λ κs lt. (omega (arith, size, short), (search rules, (search rules, (c.requires.set, next))))

pub close-requires : goal.close-requires
close-requires g t c =
    let w = world_in g.K.Known.keeps c.args.setting.now in
    record {
      set = c.requires.set;
      last = last w c.args.walk.now c.args.node c.loop-rounds.walk c.loop-rounds.invariant.so;
      whole = subst (IsRound w c.loop-rounds.walk c.args.node) c.in-Closes.is c.in_ok-round.ensures.round;
    }

-- ---- a chain was found

pub returns-in-Some-clause-after : goal.returns-in-Some-clause-after
returns-in-Some-clause-after g t c =
    let w = world_in g.K.Known.keeps c.args.setting.now in
    let k = c.need-item.result in
    let walk = c.loop-need.walk in
    let round = c.loop-need.invariant.round in
    let one : IsIn k c.as_slice-unvisited.result.now = got_in c.as_slice-unvisited.result.now c.loop-need.need-index k c.loop-need-test.true c.need-item.is in
    chained w c.args.walk.now c.args.node walk round.so k
    (round_fits w c.args.walk.now c.loop-rounds.walk c.args.node c.as_slice-unvisited.result.now walk round k one c.requires.set)
    (round_need w c.args.walk.now c.loop-rounds.walk c.args.node c.as_slice-unvisited.result.now walk round k one)
    c.in-Some.found (subst (λ o. IsChainTo walk.path k o) c.in-Some.is c.in_ok-found.ensures)

pub returns-in-Some-2-clause-after : goal.returns-in-Some-2-clause-after
returns-in-Some-2-clause-after g t c =
    let w = world_in g.K.Known.keeps c.args.setting.now in
    let k = c.need-item.result in
    let walk = c.loop-need.walk in
    let round = c.loop-need.invariant.round in
    let one : IsIn k c.as_slice-unvisited.result.now = got_in c.as_slice-unvisited.result.now c.loop-need.need-index k c.loop-need-test.true c.need-item.is in
    let same : c.in_ok-need.need ≡ k = c.in_ok-need.ensures in
    found_further w c.args.walk.now c.args.node walk round.so c.in_ok-need.need
    (λ to. subst (λ z. IsNextNeed w c.args.node z) (sym same)
    (round_need w c.args.walk.now c.loop-rounds.walk c.args.node c.as_slice-unvisited.result.now walk round k one to))
    c.in-Some-2.found
    (subst (λ o. AfterVisit w (LeadsTo w walk c.in_ok-need.need) walk c.visit.new.walk c.in_ok-need.need o) c.in-Some-2.is c.in_ok-found-2.ensures.after)

pub returns-in-Closes-clause-after : goal.returns-in-Closes-clause-after
returns-in-Closes-clause-after g t c =
    let w = world_in g.K.Known.keeps c.args.setting.now in
    finish w c.args.walk.now c.args.node c.loop-rounds.walk c.close.new.walk c.loop-rounds.invariant.so c.close.ensures.on c.in_ok-found-in-Closes.found
    c.in_ok-found-in-Closes.ensures.after c.truncate-in-Closes.new.self (c.truncate-in-Closes.ensures ∙ ap (λ k. take k c.close.new.walk.path) c.len-length.ensures)

-- ---- its record is current

pub returns-in-Renews-clause-after : goal.returns-in-Renews-clause-after
returns-in-Renews-clause-after g t c =
    let w = world_in g.K.Known.keeps c.args.setting.now in
    finish w c.args.walk.now c.args.node c.loop-rounds.walk c.renew.new.walk c.loop-rounds.invariant.so c.renew.ensures.on None
    c.in_ok-renew-in-Renews.ensures.visited c.truncate.new.self (c.truncate.ensures ∙ ap (λ k. take k c.renew.new.walk.path) c.len-length.ensures)

pub returns-in_err-renew-in-Renews-clause-on : goal.returns-in_err-renew-in-Renews-clause-on
returns-in_err-renew-in-Renews-clause-on g t c = goes_far c.args.walk.now c.loop-rounds.walk c.renew.new.walk c.loop-rounds.invariant.so.on c.renew.ensures.on

pub returns-in-Renews-clause-on : goal.returns-in-Renews-clause-on
returns-in-Renews-clause-on g t c = goes_at c.args.walk.now c.renew.new.walk c.truncate.new.self
    (goes_far c.args.walk.now c.loop-rounds.walk c.renew.new.walk c.loop-rounds.invariant.so.on c.renew.ensures.on)

pub returns-in-Renews-clause-holds : goal.returns-in-Renews-clause-holds
returns-in-Renews-clause-holds g t c = λ to.
    holds_at (world_in g.K.Known.keeps c.args.setting.now) c.renew.new.walk c.truncate.new.self (c.renew.ensures.holds (c.loop-rounds.invariant.so.right to))

-- ---- what stays

pub returns-in_err-found-2-clause-on : goal.returns-in_err-found-2-clause-on
returns-in_err-found-2-clause-on g t c = goes_far c.args.walk.now c.loop-need.walk c.visit.new.walk c.loop-need.invariant.round.so.on c.visit.ensures.on

pub returns-in-Some-2-clause-on : goal.returns-in-Some-2-clause-on
returns-in-Some-2-clause-on g t c = goes_far c.args.walk.now c.loop-need.walk c.visit.new.walk c.loop-need.invariant.round.so.on c.visit.ensures.on

pub returns-in_err-found-in-Closes-clause-on : goal.returns-in_err-found-in-Closes-clause-on
returns-in_err-found-in-Closes-clause-on g t c = goes_far c.args.walk.now c.loop-rounds.walk c.close.new.walk c.loop-rounds.invariant.so.on c.close.ensures.on

pub returns-in-Closes-clause-on : goal.returns-in-Closes-clause-on
returns-in-Closes-clause-on g t c = goes_at c.args.walk.now c.close.new.walk c.truncate-in-Closes.new.self
    (goes_far c.args.walk.now c.loop-rounds.walk c.close.new.walk c.loop-rounds.invariant.so.on c.close.ensures.on)

-- ---- what is right

pub returns-in_err-round-clause-holds : goal.returns-in_err-round-clause-holds
returns-in_err-round-clause-holds g t c = λ to. (c.loop-rounds.invariant.so.right to).holds

pub returns-in_err-found-in-Closes-clause-holds : goal.returns-in_err-found-in-Closes-clause-holds
returns-in_err-found-in-Closes-clause-holds g t c = λ to. c.close.ensures.holds (c.loop-rounds.invariant.so.right to)

pub returns-in-Closes-clause-holds : goal.returns-in-Closes-clause-holds
returns-in-Closes-clause-holds g t c = λ to.
    holds_at (world_in g.K.Known.keeps c.args.setting.now) c.close.new.walk c.truncate-in-Closes.new.self (c.close.ensures.holds (c.loop-rounds.invariant.so.right to))

pub returns-in_err-found-clause-holds : goal.returns-in_err-found-clause-holds
returns-in_err-found-clause-holds g t c = λ to. (c.loop-need.invariant.round.so.right to).holds

pub returns-in-Some-clause-holds : goal.returns-in-Some-clause-holds
returns-in-Some-clause-holds g t c = λ to. (c.loop-need.invariant.round.so.right to).holds

pub returns-in_err-need-clause-holds : goal.returns-in_err-need-clause-holds
returns-in_err-need-clause-holds g t c = λ to. (c.loop-need.invariant.round.so.right to).holds

pub returns-in_err-found-2-clause-holds : goal.returns-in_err-found-2-clause-holds
returns-in_err-found-2-clause-holds g t c = λ to.
    let w = world_in g.K.Known.keeps c.args.setting.now in
    let k = c.need-item.result in
    let round = c.loop-need.invariant.round in
    let one : IsIn k c.as_slice-unvisited.result.now = got_in c.as_slice-unvisited.result.now c.loop-need.need-index k c.loop-need-test.true c.need-item.is in
    let need = round_need w c.args.walk.now c.loop-rounds.walk c.args.node c.as_slice-unvisited.result.now c.loop-need.walk round k one to in
    c.visit.ensures.holds (subst (λ z. LeadsTo w c.loop-need.walk z) (sym c.in_ok-need.ensures)
    (leads_further w c.args.walk.now c.args.node c.loop-need.walk round.so k to need))

pub returns-in-Some-2-clause-holds : goal.returns-in-Some-2-clause-holds
returns-in-Some-2-clause-holds g t c = λ to.
    let w = world_in g.K.Known.keeps c.args.setting.now in
    let k = c.need-item.result in
    let round = c.loop-need.invariant.round in
    let one : IsIn k c.as_slice-unvisited.result.now = got_in c.as_slice-unvisited.result.now c.loop-need.need-index k c.loop-need-test.true c.need-item.is in
    let need = round_need w c.args.walk.now c.loop-rounds.walk c.args.node c.as_slice-unvisited.result.now c.loop-need.walk round k one to in
    c.visit.ensures.holds (subst (λ z. LeadsTo w c.loop-need.walk z) (sym c.in_ok-need.ensures)
    (leads_further w c.args.walk.now c.args.node c.loop-need.walk round.so k to need))

pub returns-clause-holds : goal.returns-clause-holds
returns-clause-holds g t c = λ to. (c.loop-rounds.invariant.so.right to).holds

-- ---- looks

pub returns-in_err-round-clause-counted : goal.returns-in_err-round-clause-counted
returns-in_err-round-clause-counted g t c =
    let w = world_in g.K.Known.keeps c.args.setting.now in
    goes_wider w c.args.setting.now.given.now c.args.walk.now _ _ _ _ _ (omega arith) c.loop-rounds.invariant.counted

pub returns-in_err-found-clause-counted : goal.returns-in_err-found-clause-counted
returns-in_err-found-clause-counted g t c =
    let w = world_in g.K.Known.keeps c.args.setting.now in
    goes_wider w c.args.setting.now.given.now c.args.walk.now _ _ _ _ _ (omega arith) c.loop-need.invariant.counted

pub returns-in_err-need-clause-counted : goal.returns-in_err-need-clause-counted
returns-in_err-need-clause-counted g t c =
    let w = world_in g.K.Known.keeps c.args.setting.now in
    goes_wider w c.args.setting.now.given.now c.args.walk.now _ _ _ _ _ (omega arith) c.loop-need.invariant.counted

pub returns-in-Some-clause-counted : goal.returns-in-Some-clause-counted
returns-in-Some-clause-counted g t c =
    let w = world_in g.K.Known.keeps c.args.setting.now in
    goes_wider w c.args.setting.now.given.now c.args.walk.now _ _ _ _ _ (omega arith) c.loop-need.invariant.counted

pub returns-in_err-found-2-clause-counted : goal.returns-in_err-found-2-clause-counted
returns-in_err-found-2-clause-counted g t c =
    let w = world_in g.K.Known.keeps c.args.setting.now in
    let given = err_from_is_err_and _ c.from_residual-in_err-found-2.ensures.1 in
    let k = c.need-item.result in
    let round = c.loop-need.invariant.round in
    let one : IsIn k c.as_slice-unvisited.result.now = got_in c.as_slice-unvisited.result.now c.loop-need.need-index k c.loop-need-test.true c.need-item.is in
    goes_lost w c.args.setting.now.given.now c.args.walk.now _ _ _ _ _ given.1
    (goes_then w c.args.setting.now.given.now c.args.walk.now c.loop-need.walk c.visit.new.walk _ _ _ _ c.loop-need.invariant.counted
    (λ to. subst (λ z. LeadsTo w c.loop-need.walk z) (sym c.in_ok-need.ensures)
    (leads_further w c.args.walk.now c.args.node c.loop-need.walk round.so k to
    (round_need w c.args.walk.now c.loop-rounds.walk c.args.node c.as_slice-unvisited.result.now c.loop-need.walk round k one to)))
    c.in_err-found-2.ensures.counted)

pub returns-in-Some-2-clause-counted : goal.returns-in-Some-2-clause-counted
returns-in-Some-2-clause-counted g t c =
    let w = world_in g.K.Known.keeps c.args.setting.now in
    let k = c.need-item.result in
    let round = c.loop-need.invariant.round in
    let one : IsIn k c.as_slice-unvisited.result.now = got_in c.as_slice-unvisited.result.now c.loop-need.need-index k c.loop-need-test.true c.need-item.is in
    subst (λ o. GoesByLooks w c.args.setting.now.given.now (LeadsTo w c.args.walk.now c.args.node) c.args.walk.now c.visit.new.walk c.args.steps.now c.visit.new.steps
    (spare_for c.visit.new.walk.looked o)) c.in-Some-2.is
    (goes_then w c.args.setting.now.given.now c.args.walk.now c.loop-need.walk c.visit.new.walk _ _ _ _ c.loop-need.invariant.counted
    (λ to. subst (λ z. LeadsTo w c.loop-need.walk z) (sym c.in_ok-need.ensures)
    (leads_further w c.args.walk.now c.args.node c.loop-need.walk round.so k to
    (round_need w c.args.walk.now c.loop-rounds.walk c.args.node c.as_slice-unvisited.result.now c.loop-need.walk round k one to)))
    c.in_ok-found-2.ensures.counted)

pub returns-in_err-found-in-Closes-clause-counted : goal.returns-in_err-found-in-Closes-clause-counted
returns-in_err-found-in-Closes-clause-counted g t c =
    let w = world_in g.K.Known.keeps c.args.setting.now in
    let given = err_from_is_err_and _ c.from_residual-in_err-found-in-Closes.ensures.1 in
    goes_lost w c.args.setting.now.given.now c.args.walk.now _ _ _ _ _ given.1
    (goes_then w c.args.setting.now.given.now c.args.walk.now c.loop-rounds.walk c.close.new.walk _ _ _ _ c.loop-rounds.invariant.counted
    c.loop-rounds.invariant.so.right c.in_err-found-in-Closes.ensures.counted)

pub returns-in-Closes-clause-counted : goal.returns-in-Closes-clause-counted
returns-in-Closes-clause-counted g t c =
    let w = world_in g.K.Known.keeps c.args.setting.now in
    goes_cut w c.args.setting.now.given.now c.args.walk.now c.close.new.walk _ _ _
    (goes_then w c.args.setting.now.given.now c.args.walk.now c.loop-rounds.walk c.close.new.walk _ _ _ _ c.loop-rounds.invariant.counted
    c.loop-rounds.invariant.so.right c.in_ok-found-in-Closes.ensures.counted) c.truncate-in-Closes.new.self

pub returns-in_err-renew-in-Renews-clause-counted : goal.returns-in_err-renew-in-Renews-clause-counted
returns-in_err-renew-in-Renews-clause-counted g t c =
    let w = world_in g.K.Known.keeps c.args.setting.now in
    goes_wider w c.args.setting.now.given.now c.args.walk.now _ _ _ _ _ (omega arith)
    (goes_then w c.args.setting.now.given.now c.args.walk.now c.loop-rounds.walk c.renew.new.walk _ _ _ _ c.loop-rounds.invariant.counted
    c.loop-rounds.invariant.so.right
    (goes_alone w c.args.setting.now.given.now c.loop-rounds.walk c.renew.new.walk c.renew.ensures.on c.renew.ensures.same.taken _ _ 0
    (no_look c.loop-rounds.walk c.renew.new.walk c.renew.ensures.same _ 0)))

pub returns-in-Renews-clause-counted : goal.returns-in-Renews-clause-counted
returns-in-Renews-clause-counted g t c =
    let w = world_in g.K.Known.keeps c.args.setting.now in
    goes_cut w c.args.setting.now.given.now c.args.walk.now c.renew.new.walk _ _ _
    (goes_then w c.args.setting.now.given.now c.args.walk.now c.loop-rounds.walk c.renew.new.walk _ _ _ _ c.loop-rounds.invariant.counted
    c.loop-rounds.invariant.so.right
    (goes_alone w c.args.setting.now.given.now c.loop-rounds.walk c.renew.new.walk c.renew.ensures.on c.renew.ensures.same.taken _ _ 0
    (no_look c.loop-rounds.walk c.renew.new.walk c.renew.ensures.same _ 0))) c.truncate.new.self

pub returns-clause-counted : goal.returns-clause-counted
returns-clause-counted g t c =
    let w = world_in g.K.Known.keeps c.args.setting.now in
    goes_wider w c.args.setting.now.given.now c.args.walk.now _ _ _ _ _ (omega arith) c.loop-rounds.invariant.counted

-- ---- want of memory at the look

pub returns-in_err-kept-clause-on : goal.returns-in_err-kept-clause-on
returns-in_err-kept-clause-on g t c = goes_looking c.args.walk.now c.look.new.walk c.look.ensures.only

pub returns-in_err-kept-clause-holds : goal.returns-in_err-kept-clause-holds
returns-in_err-kept-clause-holds g t c = λ to. c.look.ensures.holds (to.may c.args.node (at_end c.args.node c.args.walk.now.path)) to.holds

pub returns-in_err-kept-clause-counted : goal.returns-in_err-kept-clause-counted
returns-in_err-kept-clause-counted g t c =
    let w = world_in g.K.Known.keeps c.args.setting.now in
    let given = err_from_is_err_and _ c.from_residual.ensures.1 in
    goes_lost w c.args.setting.now.given.now c.args.walk.now _ _ _ _ _ given.1
    (goes_by_look w c.args.setting.now.given.now c.args.walk.now c.look.new.walk c.look.ensures.only _ _ _ c.in_err-kept.ensures.counted)

pub returns-in_err-copy-clause-on : goal.returns-in_err-copy-clause-on
returns-in_err-copy-clause-on g t c = goes_looking c.args.walk.now c.look.new.walk c.look.ensures.only

pub returns-in_err-copy-clause-holds : goal.returns-in_err-copy-clause-holds
returns-in_err-copy-clause-holds g t c = λ to. c.look.ensures.holds (to.may c.args.node (at_end c.args.node c.args.walk.now.path)) to.holds

pub returns-in_err-copy-clause-counted : goal.returns-in_err-copy-clause-counted
returns-in_err-copy-clause-counted g t c =
    let w = world_in g.K.Known.keeps c.args.setting.now in
    goes_wider w c.args.setting.now.given.now c.args.walk.now _ _ _ _ _ (omega arith)
    (goes_by_look w c.args.setting.now.given.now c.args.walk.now c.look.new.walk c.look.ensures.only _ _ 0 c.in_ok-kept.ensures.counted)

pub returns-in_err-push-clause-on : goal.returns-in_err-push-clause-on
returns-in_err-push-clause-on g t c = goes_at c.args.walk.now c.look.new.walk c.push.new.self (goes_looking c.args.walk.now c.look.new.walk c.look.ensures.only)

pub returns-in_err-push-clause-formed : goal.returns-in_err-push-clause-formed
returns-in_err-push-clause-formed g t c = formed_at (world_in g.K.Known.keeps c.args.setting.now) c.look.new.walk c.push.new.self c.look.ensures.formed

pub returns-in_err-push-clause-holds : goal.returns-in_err-push-clause-holds
returns-in_err-push-clause-holds g t c = λ to. holds_at (world_in g.K.Known.keeps c.args.setting.now) c.look.new.walk c.push.new.self
    (c.look.ensures.holds (to.may c.args.node (at_end c.args.node c.args.walk.now.path)) to.holds)

pub returns-in_err-push-clause-counted : goal.returns-in_err-push-clause-counted
returns-in_err-push-clause-counted g t c =
    let w = world_in g.K.Known.keeps c.args.setting.now in
    goes_wider w c.args.setting.now.given.now c.args.walk.now _ _ _ _ _ (omega arith)
    (goes_cut w c.args.setting.now.given.now c.args.walk.now c.look.new.walk _ _ 0
    (goes_by_look w c.args.setting.now.given.now c.args.walk.now c.look.new.walk c.look.ensures.only _ _ 0 c.in_ok-kept.ensures.counted) c.push.new.self)
