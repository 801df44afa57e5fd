use Rattle.std.proofs.Common.{false, sym, ap, ◌∙◌, subst}
use Rattle.std.specs.Prelude.{IsTrue, option_map}
use Rattle.meaning_true.specs.Knowing.{KeptRecord}
use Rattle.meaning_true.specs.Numbered.{is_at, kept_by}
use Rattle.derive_walk.specs.Keeping.{IsLookedUp, IsNodeRecord}
use Rattle.derive_walk.specs.Settings.{world_in}
use Rattle.derive_walk.specs.Trials.{IsTried}
use Rattle.derive_walk.proofs.RenewLemmas.{none_anew, stale_anew, tried_in}
use Rattle.derive_walk.proofs.renewing.recorded_of.Goals as goal

pub try_record-requires-clause-named : goal.try_record-requires-clause-named
try_record-requires-clause-named g c =
    let keeping = g.K.Known.keeps c.args.setting.now.known.now in
    let at : IsNodeRecord keeping c.args.node.now c.in-Some.kept.now = subst (λ o. IsLookedUp keeping c.args.node.now (option_map (λ k. k.now) o)) c.in-Some.is c.requires.kept in
    at.named

pub returns-in_default : goal.returns-in_default
returns-in_default g c =
    let keeping = g.K.Known.keeps c.args.setting.now.known.now in
    none_anew (world_in g.K.Known.keeps c.args.setting.now) c.args.walk.now c.args.node.now
    (subst (λ o. IsLookedUp keeping c.args.node.now (option_map (λ k. k.now) o)) c.in_default.is c.requires.kept)

pub returns-then-was_checked : goal.returns-then-was_checked
returns-then-was_checked g c =
    let keeping = g.K.Known.keeps c.args.setting.now.known.now in
    let k : KeptRecord = kept_by keeping.contents keeping.epoch c.in-Some.kept.now in
    let at : IsNodeRecord keeping c.args.node.now c.in-Some.kept.now = subst (λ o. IsLookedUp keeping c.args.node.now (option_map (λ k. k.now) o)) c.in-Some.is c.requires.kept in
    record {
      stepped = λ none. let z : IsTrue false = c.if-is_empty.ensures.1 none in cc;
      kept = k;
      is = at.is;
      checked = ap (λ e. is_at e c.in-Some.kept.now.checked) (sym c.epoch.ensures) ∙ sym c.was_checked.ensures ∙ c.if-was_checked.true;
      view = c.in_ok-done.ensures.view;
      height = c.in_ok-done.ensures.height;
    }

pub returns-in-None : goal.returns-in-None
returns-in-None g c =
    let keeping = g.K.Known.keeps c.args.setting.now.known.now in
    let w = world_in g.K.Known.keeps c.args.setting.now in
    let k : KeptRecord = kept_by keeping.contents keeping.epoch c.in-Some.kept.now in
    let at : IsNodeRecord keeping c.args.node.now c.in-Some.kept.now = subst (λ o. IsLookedUp keeping c.args.node.now (option_map (λ k. k.now) o)) c.in-Some.is c.requires.kept in
    stale_anew w c.args.walk.now c.args.node.now k at.is
    (ap (λ e. is_at e c.in-Some.kept.now.checked) (sym c.epoch.ensures) ∙ sym c.was_checked.ensures ∙ c.if-was_checked.false)
    (subst (IsTried c.args.walk.now.done k.fact) c.in-None.is c.in_ok-try_record.ensures)

pub returns-in-Some-2 : goal.returns-in-Some-2
returns-in-Some-2 g c =
    let keeping = g.K.Known.keeps c.args.setting.now.known.now in
    let k : KeptRecord = kept_by keeping.contents keeping.epoch c.in-Some.kept.now in
    let at : IsNodeRecord keeping c.args.node.now c.in-Some.kept.now = subst (λ o. IsLookedUp keeping c.args.node.now (option_map (λ k. k.now) o)) c.in-Some.is c.requires.kept in
    tried_in (world_in g.K.Known.keeps c.args.setting.now) c.args.walk.now c.args.node.now (λ none. let z : IsTrue false = c.if-is_empty.ensures.1 none in cc) k
    at.is c.in_ok-try_record.field-0 c.in-Some-2.current c.in-Some-2.is
    c.in_ok-try_record.ensures
