use Rattle.std.proofs.Common.{inl, inr, sym, ◌∙◌, subst, List}
use Rattle.std.proofs.lemmas.Option.{MatchOption-at_none}
use Rattle.std.proofs.lemmas.Result.{IfOk-weaker}
use Rattle.std.specs.Prelude.{⊤, map}
use Rattle.object_values.specs.declared.records.Dep.{Dep}
use Rattle.meaning_true.specs.Numbered.{dep_by, fact_by}
use Rattle.derive_walk.specs.SeenNow.{IsStood}
use Rattle.derive_walk.specs.Trials.{IsTried, Lacks}
use Rattle.derive_walk.proofs.SeenNowLemmas.{low_now}
use Rattle.derive_walk.proofs.TrialLemmas.{found_now, stale_differs, stood_is_tried}
use Rattle.derive_walk.proofs.trial.try_record.Goals as goal

pub returns-in_default : goal.returns-in_default
returns-in_default g c =
    let contents = (g.K.Known.keeps c.args.known.now).contents in
    let lacks = MatchOption-at_none (Lacks c.args.done.now (map (dep_by contents) c.as_slice.result.now)) (λ now. ⊤) c.in_default.is c.in_ok-now.ensures.lacks in
    inl (subst (λ (deps : List Dep). Lacks c.args.done.now (map (dep_by contents) deps)) c.as_slice.ensures lacks)

pub check_record-requires-clause-low : goal.check_record-requires-clause-low
check_record-requires-clause-low g c =
    let contents = (g.K.Known.keeps c.args.known.now).contents in
    let kept = c.args.kept.now in
    let done = c.args.done.now in
    let now = c.as_slice-2.result.now in
    low_now contents done c.requires.low kept.deps now
    (found_now contents done c.as_slice.result.now kept.deps c.as_slice.ensures c.in_ok-now.field-0 c.in-Some.now c.in-Some.is c.in_ok-now.ensures.now now c.as_slice-2.ensures.value)

pub returns-in-Stale : goal.returns-in-Stale
returns-in-Stale g c =
    let contents = (g.K.Known.keeps c.args.known.now).contents in
    let kept = c.args.kept.now in
    let done = c.args.done.now in
    let now = c.as_slice-2.result.now in
    let are = found_now contents done c.as_slice.result.now kept.deps c.as_slice.ensures c.in_ok-now.field-0 c.in-Some.now c.in-Some.is c.in_ok-now.ensures.now now c.as_slice-2.ensures.value in
    inr (inl (stale_differs contents done kept now c.requires.named are (c.verdicts_are_exact.ensures kept now) c.in-Stale.field-0 (sym c.in_ok-renewed.ensures ∙ c.in-Stale.is)))

pub returns : goal.returns
returns g c =
    let contents = (g.K.Known.keeps c.args.known.now).contents in
    let kept = c.args.kept.now in
    let done = c.args.done.now in
    let now = c.as_slice-2.result.now in
    let are = found_now contents done c.as_slice.result.now kept.deps c.as_slice.ensures c.in_ok-now.field-0 c.in-Some.now c.in-Some.is c.in_ok-now.ensures.now now c.as_slice-2.ensures.value in
    let tried = stood_is_tried contents done kept now c.requires.named are (c.verdicts_are_exact.ensures kept now) c.in-Current.renewed (sym c.in_ok-renewed.ensures ∙ c.in-Current.is) in
    IfOk-weaker c.stand.result (IsStood contents kept c.in-Current.renewed) (IsTried done (fact_by contents kept)) tried c.stand.ensures
