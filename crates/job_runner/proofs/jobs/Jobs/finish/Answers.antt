use Rattle.std.proofs.Common.{rules, ◌≡◌, inr, refl, subst}
use Rattle.std.specs.Prelude.{Option, Some, None}
use Rattle.odin_outside.specs.Spawned.{Loses}
use Rattle.meaning_calls.specs.Outcomes.{outcome_of}
use Rattle.meaning_calls.proofs.Lemmas.{fits}
use Rattle.job_runner.specs.declared.jobs.Flying.{Flying}
use Rattle.job_runner.specs.Flights.{AreDistinct, slots_in, HasLost, IsFirstIn}
use Rattle.job_runner.proofs.JobLemmas.{finishes, loses, slot_there}
use Rattle.job_runner.proofs.jobs.Jobs.finish.Goals as goal
use Rattle.job_runner.proofs.jobs.Jobs.finish.Given as goal_given

pub returns-in_default-clause-memory : goal.returns-in_default-clause-memory
returns-in_default-clause-memory g c =
    let apart : AreDistinct (slots_in c.args.self.now.running) = search (rules, c.self.invariant.apart) in
    let none : c.take.result ≡ None = search rules in
    let out = subst (IsFirstIn c.in-Ok.slot c.args.self.now c.take.new.self) none c.take.ensures in
    λ e. absurd (out.0 (slot_there c.args.self.now _ c.requires.told apart _ _ _ _ _ c.in-Ok.ensures.ok.stops))

pub returns-in_ok-outcome-in-Ok-clause-ok : goal.returns-in_ok-outcome-in-Ok-clause-ok
returns-in_ok-outcome-in-Ok-clause-ok g c =
    let apart : AreDistinct (slots_in c.args.self.now.running) = search (rules, c.self.invariant.apart) in
    finishes c.args.self.now _ c.requires.told apart _ _ _ c.in-Some.ended _ _ c.in-Ok.ensures.ok c.in-Some.ensures c.in_ok-outcome-in-Ok.ensures.is c.in_ok-outcome-in-Ok.ensures.fits

pub returns-in_err-outcome-in-Ok-clause-memory : goal.returns-in_err-outcome-in-Ok-clause-memory
returns-in_err-outcome-in-Ok-clause-memory g c =
    let apart : AreDistinct (slots_in c.args.self.now.running) = search (rules, c.self.invariant.apart) in
    λ e. inr (record {
      call = c.in-Some.ended.call;
      outcome = outcome_of c.in-Some.ended.call c.in-Ok.raw;
      ended = finishes c.args.self.now _ c.requires.told apart _ _ _ c.in-Some.ended _ _ c.in-Ok.ensures.ok c.in-Some.ensures refl (fits c.in-Some.ended.call c.in-Ok.raw);
    })

pub returns-in-Err-Failed-clause-lost : goal.returns-in-Err-Failed-clause-lost
returns-in-Err-Failed-clause-lost g c =
    let apart : AreDistinct (slots_in c.args.self.now.running) = search (rules, c.self.invariant.apart) in
    let lost : Loses (g.S.Spawner.told c.args.tools.now) c.in-Err-Failed.slot (g.S.Spawner.told c.finish.new.self) = search (rules, c.in-Err-Failed.ensures.lost c.in-Err-Failed.slot) in
    λ e. by_taken g c apart lost c.take-in-Err-Failed.result refl
  where
    there : (g : goal_given.Over) (c : goal.Joined-take-2 g) → IsFirstIn c.in-Err-Failed.slot c.args.self.now c.take-in-Err-Failed.new.self c.take-in-Err-Failed.result
    there g c = subst (λ k. IsFirstIn k c.args.self.now c.take-in-Err-Failed.new.self c.take-in-Err-Failed.result) c.in-Err-Failed.slot-is c.take-in-Err-Failed.ensures

    by_taken : (g : goal_given.Over) (c : goal.Joined-take-2 g) → AreDistinct (slots_in c.args.self.now.running) → Loses (g.S.Spawner.told c.args.tools.now) c.in-Err-Failed.slot (g.S.Spawner.told c.finish.new.self)
        → (o : Option Flying) → c.take-in-Err-Failed.result ≡ o → HasLost c.args.self.now (g.S.Spawner.told c.args.tools.now) c.take-in-Err-Failed.new.self (g.S.Spawner.told c.finish.new.self)
    by_taken g c apart lost (Some f) is = loses c.args.self.now _ c.requires.told apart _ f _ _ lost (subst (IsFirstIn c.in-Err-Failed.slot c.args.self.now c.take-in-Err-Failed.new.self) is (there g c))
    by_taken g c apart lost None is =
        let out = subst (IsFirstIn c.in-Err-Failed.slot c.args.self.now c.take-in-Err-Failed.new.self) is (there g c) in
        absurd (out.0 (slot_there c.args.self.now _ c.requires.told apart _ _ _ _ _ lost.stops))
