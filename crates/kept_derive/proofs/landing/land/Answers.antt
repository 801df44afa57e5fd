use Rattle.std.proofs.Common.{◌≡◌, rules, ap, inr, ◌∙◌}
use Rattle.std.specs.Prelude.{Result, Err}
use Rattle.std.proofs.lemmas.Result.{err_from_is_err_and}
use Rattle.odin_store.specs.Held.{keeps}
use Rattle.kept_derive.specs.declared.fault.KeptFault.{KeptFault}
use Rattle.kept_derive.specs.declared.fault.KeptFault.TheVariants.{Memory}
use Rattle.kept_derive.specs.declared.landing.Landed.{Landed}
use Rattle.kept_derive.specs.Faults.{of_store}
use Rattle.kept_derive.proofs.CallLemmas.{out_ran, unkept, refused_but, fails_at}
use Rattle.kept_derive.proofs.landing.land.Goals as goal

pub keep_call-requires : goal.keep_call-requires
keep_call-requires g c =
    let ended = c.in-Ok.ensures.ok in
    let keepable = c.requires.may.keepable c.in-Ok.ended.0 (out_ran ended.slot c.in-Ok.ended.0 c.args.jobs.now c.finish.new.self ended.out) in
    record { journal = c.requires.may.ready; new = record { formed = keepable.formed; fits = ended.came.fits; new = search (rules, keepable.new) } }

pub give-requires-clause-wanted : goal.give-requires-clause-wanted
give-requires-clause-wanted g c =
    let ended = c.in-Ok.ensures.ok in
    c.requires.may.wanted c.in-Ok.ended.0 (out_ran ended.slot c.in-Ok.ended.0 c.args.jobs.now c.finish.new.self ended.out)

-- ---- it is not kept, or not given

pub returns-in-Err-clause-fails : goal.returns-in-Err-clause-fails
returns-in-Err-clause-fails g c =
    let failed = c.edits_are_told.ensures.failed (keeps c.in-Ok.ended.0 c.in-Ok.ended.1) _ _ _ _ _ c.in-Err.ensures.fault (λ apart. c.in-Err.ensures.same (refused_but (Unit {0}) _ apart)) c.keep_call.ensures.any_moment c.keep_call.ensures.begins in
    let is : ◌≡◌ {A = Result Landed KeptFault} (Err c.of_change.result) (Err (of_store c.in-Err.fault)) = ap (λ (f : KeptFault). Err f) c.of_change.ensures in
    fails_at {T = Landed} _ _ _ _ _ _ _ _ _ is (unkept g.D.Disk.told _ _ _ _ _ _ c.in-Ok.ended.0 c.in-Ok.ended.1 _ c.in-Ok.ensures.ok failed)

pub returns-in_err-give-clause-fails : goal.returns-in_err-give-clause-fails
returns-in_err-give-clause-fails g c =
    let given = err_from_is_err_and _ c.from_residual.ensures.1 in
    fails_at _ _ _ _ _ _ _ _ Memory (given.1 ∙ ap (λ f. Err f) given.2) (inr (record {
      call = c.in-Ok.ended.0;
      outcome = c.in-Ok.ended.1;
      ended = c.in-Ok.ensures.ok;
      goes = c.changes_follow.ensures.keep _ _ _ _ _ _ c.in-Ok-keep_call.ensures.keeps c.keep_call.ensures.any_moment;
      epoch = c.in-Ok-keep_call.ensures.keeps.epoch;
    }))

-- ---- it is kept and given

pub returns-clause-lands : goal.returns-clause-lands
returns-clause-lands g c = record {
  call = c.in-Ok.ended.0;
  outcome = c.in-Ok.ended.1;
  ended = c.in-Ok.ensures.ok;
  goes = c.changes_follow.ensures.keep _ _ _ _ _ _ c.in-Ok-keep_call.ensures.keeps c.keep_call.ensures.any_moment;
  epoch = c.in-Ok-keep_call.ensures.keeps.epoch;
  nodes = c.in-Ok-keep_call.ensures.keeps.nodes;
  given = c.in_ok-give.ensures.ok;
}
