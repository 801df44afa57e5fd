use Rattle.std.proofs.Common.{◌≡◌, ap, arith, sym, ◌∙◌}
use Rattle.std.specs.Prelude.{None, Some, slice_get}
use Rattle.std.proofs.lemmas.Grind.{common_steps}
use Rattle.std.proofs.lemmas.Option.{gets}
use Rattle.kept_contents.specs.Heads.{call_with}
use Rattle.kept_contents.proofs.Lemmas.{mapped, unmapped}
use Rattle.kept_tables.specs.Holdings.{Holding, kept_call_of}
use Rattle.kept_tables.proofs.HeldLemmas.{same_pair}
use Rattle.kept_tables.proofs.kept.Kept.call_at.Goals as goal

pub returns-in_ok-outcome-in-Some : goal.returns-in_ok-outcome-in-Some
returns-in_ok-outcome-in-Some c =
    let entries = c.self.inside.calls.entries.items in
    let kept = c.in-Some.kept.now in
    let at : slice_get entries c.args.place ≡ Some kept = grind (arith, common_steps, gets) in
    same_pair c.in_ok-call-in-Some.call (call_with kept.1.head kept.0.parts) c.in_ok-outcome-in-Some.outcome kept.1.outcome c.in_ok-call-in-Some.ensures c.in_ok-outcome-in-Some.ensures
    ∙ sym (mapped kept_call_of entries kept c.args.place at)
    ∙ ap (λ (h : Holding). slice_get h.tables.calls c.args.place) c.self.view_is

pub returns-in-None : goal.returns-in-None
returns-in-None c =
    let entries = c.self.inside.calls.entries.items in
    let at : slice_get entries c.args.place ≡ None = grind (arith, common_steps, gets) in
    sym (unmapped kept_call_of entries c.args.place at)
    ∙ ap (λ (h : Holding). slice_get h.tables.calls c.args.place) c.self.view_is
