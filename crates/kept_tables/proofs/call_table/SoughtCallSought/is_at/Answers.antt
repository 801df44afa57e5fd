use Rattle.std.proofs.Common.{◌≡◌, ◌∙◌, ap, arith}
use Rattle.std.specs.Prelude.{None, Some, slice_get}
use Rattle.std.proofs.lemmas.Grind.{common_steps}
use Rattle.std.proofs.lemmas.Option.{gets}
use Rattle.kept_contents.specs.declared.keys.CallKey.{CallKey}
use Rattle.kept_contents.specs.contracts.keys.CallKeyPartialEq.TheImpl.{ghosts as key_eq}
use Rattle.kept_tables.specs.Calls.{key_of_sought}
use Rattle.kept_tables.proofs.TableLemmas.{is_key, no_key}
use Rattle.kept_tables.proofs.call_table.SoughtCallSought.is_at.Goals as goal

pub returns-in-Some : goal.returns-in-Some
returns-in-Some c =
    let entries = c.args.self.now.entries.now in
    let e = c.in-Some.kept.now in
    let at : slice_get entries c.args.number ≡ Some e = grind (arith, common_steps, gets) in
    is_key entries c.args.number e (key_of_sought c.args.self.now) c.is.result at (c.is.ensures ∙ ap (λ (k : CallKey). key_eq.eq k e.0) c.key.ensures)

pub returns-in-None : goal.returns-in-None
returns-in-None c =
    let entries = c.args.self.now.entries.now in
    let at : slice_get entries c.args.number ≡ None = grind (arith, common_steps, gets) in
    no_key entries c.args.number (key_of_sought c.args.self.now) at
