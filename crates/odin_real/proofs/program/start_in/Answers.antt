use Rattle.std.proofs.Common.{rules, ◌∙◌, ap, subst}
use Rattle.std.specs.Prelude.{Err}
use Rattle.std.specs.List.{All}
use Rattle.std.proofs.lemmas.Result.{err_from_is_err_and}
use Rattle.object_values.specs.declared.jobs.FileBody.{FileBody}
use Rattle.odin_real.specs.Folders.{IsFileName}
use Rattle.odin_real.proofs.FaultLemmas.{carry}
use Rattle.odin_real.proofs.program.start_in.Goals as goal

pub returns-in_err-mark-clause-launches : goal.returns-in_err-mark-clause-launches
returns-in_err-mark-clause-launches g c =
    let passed = err_from_is_err_and _ c.from_residual.ensures.1 in record {
      ok = search rules;
      wanted = search (rules, c.lay_out.ensures.counts.wanted);
      failed = λ can. carry _ c.lay_out.result c.from_residual.result c.in_err-mark.field-0.0 (search rules) (passed.1 ∙ ap (λ fault. Err fault) passed.2)
          (c.lay_out.ensures.counts.failed (subst (All (λ (file : FileBody). IsFileName file.name)) (search rules) can.files));
    }
