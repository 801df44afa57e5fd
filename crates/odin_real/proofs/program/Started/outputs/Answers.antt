use Rattle.std.proofs.Common.{rules, ◌∙◌, subst, string_bytes}
use Rattle.std.specs.Prelude.{IfOk}
use Rattle.std.specs.List.{All}
use Rattle.odin_real.specs.declared.fault.SystemFault.TheVariants.{Memory}
use Rattle.odin_real.specs.Ends.{no_outcome}
use Rattle.odin_real.specs.Folders.{FoldersTold, AreLeft, IsFileName, IsToldOf}
use Rattle.odin_real.specs.Logs.{CountsWhere}
use Rattle.odin_real.proofs.EndLemmas.{reads_left}
use Rattle.odin_real.proofs.program.Started.outputs.Goals as goal

pub returns-clause-reads : goal.returns-clause-reads
returns-clause-reads g c =
    let found : IsToldOf (g.S.System.held c.args.system.now (string_bytes c.args.self.now.folder)) no_outcome c.in_ok-has.field-0 = search rules in
    reads_left (string_bytes c.args.self.now.folder) c.args.self.now.running.job.outs (g.S.System.held c.args.system.now (string_bytes c.args.self.now.folder)) (g.S.System.log c.args.system.now) (g.S.System.log c.has.new.self) (g.S.System.log c.left_in.new.system) c.left_in.result
    (search rules)
    (subst (IsToldOf (g.S.System.held c.args.system.now (string_bytes c.args.self.now.folder)) no_outcome) c.if-branch.false found)
    (subst (λ names. IfOk c.left_in.result (AreLeft (g.S.System.held c.args.system.now (string_bytes c.args.self.now.folder)) names)) (search rules)
    (subst (λ path. IfOk c.left_in.result (AreLeft (g.S.System.held c.args.system.now path) c.as_slice.result.now)) (search rules)
    (subst (λ (held : FoldersTold). IfOk c.left_in.result (AreLeft (held c.as_str-folder.result.now) c.as_slice.result.now)) (c.in_ok-has.ensures.held ∙ c.in_ok-settle.ensures.held) c.left_in.ensures.left)))
    (subst (λ names. CountsWhere (All IsFileName names) Memory (g.S.System.log c.has.new.self) (g.S.System.log c.left_in.new.system) c.left_in.result) (search rules) c.left_in.ensures.counts)
