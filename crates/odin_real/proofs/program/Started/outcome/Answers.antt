use Rattle.std.proofs.Common.{rules, ◌∙◌, ap, subst, string_bytes}
use Rattle.std.specs.Prelude.{Err}
use Rattle.std.proofs.lemmas.Result.{err_from_is_err_and}
use Rattle.odin_real.specs.Logs.{LogsEnd}
use Rattle.odin_real.specs.Seen.{seen_of}
use Rattle.odin_real.proofs.EndLemmas.{ends_by_others, ends_unread}
use Rattle.odin_real.proofs.program.Started.outcome.Goals as goal

pub returns-then-is_ended_by_others-clause-ends : goal.returns-then-is_ended_by_others-clause-ends
returns-then-is_ended_by_others-clause-ends g c =
    ends_by_others (seen_of c.args.self.now) (g.S.System.held c.wait.new.self (string_bytes c.args.self.now.folder)) (g.S.System.log c.args.system.now) (g.S.System.log c.wait.new.self) c.wait.result c.in_ok-status.status (search rules) c.wait.ensures.again (search rules)
    (subst (λ path. LogsEnd path (g.S.System.held c.wait.new.self path) (g.S.System.log c.args.system.now) (g.S.System.log c.wait.new.self) c.wait.result) (search rules) c.wait.ensures.told)

pub returns-in_err-files-clause-ends : goal.returns-in_err-files-clause-ends
returns-in_err-files-clause-ends g c =
    let passed = err_from_is_err_and _ c.from_residual-in_err-files.ensures.1 in
    ends_unread (seen_of c.args.self.now) (g.S.System.held c.wait.new.self (string_bytes c.args.self.now.folder)) (g.S.System.log c.args.system.now) (g.S.System.log c.wait.new.self) (g.S.System.log c.outputs.new.system) c.wait.result c.in_ok-status.status c.outputs.result c.from_residual-in_err-files.result c.in_err-files.field-0.0
    (search rules) c.wait.ensures.again
    (subst (λ path. LogsEnd path (g.S.System.held c.wait.new.self path) (g.S.System.log c.args.system.now) (g.S.System.log c.wait.new.self) c.wait.result) (search rules) c.wait.ensures.told)
    (search rules) (passed.1 ∙ ap (λ fault. Err fault) passed.2) c.outputs.ensures.reads
