use Rattle.std.proofs.Common.{ℕ, List, [], ◌∷◌, ◌≤◌, length, IfErr, sym, ◌∙◌, subst, arith}
use Rattle.std.proofs.Math.Path.{subst₂}
use Rattle.load_session.specs.Session.{puts}
use Rattle.load_session.specs.Moments.{LoadStopsFor}
use Rattle.load_session.proofs.TextLemmas.{unit_short}
use Rattle.load_session.proofs.puts.put_unit.Goals as goal

pub put-requires-clause-short : goal.put-requires-clause-short
put-requires-clause-short c = subst (λ (t : List ℕ). length t ≤ 16777216) (sym c.in_ok-text.ensures) (unit_short c.args.number (omega arith))

pub returns-clause-err : goal.returns-clause-err
returns-clause-err c =
    subst₂ (λ name text. IfErr c.put.result (LoadStopsFor c.args.session.now (puts name text ∷ []))) (c.as_slice.ensures ∙ c.in_ok-name.ensures) c.in_ok-text.ensures
    c.put.ensures.err
