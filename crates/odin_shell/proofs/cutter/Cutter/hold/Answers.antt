use Rattle.std.proofs.Common.{◌-◌, min, length, ap, ◌∙◌}
use Rattle.std.proofs.lemmas.Result.{on_ok_weaker}
use Rattle.odin_shell.specs.Held.{held_length}
use Rattle.odin_shell.proofs.CutLemmas.{held}
use Rattle.odin_shell.proofs.cutter.Cutter.hold.Goals as goal

pub returns-clause-ok : goal.returns-clause-ok
returns-clause-ok c =
    on_ok_weaker c.extend_from_slice.result
    (λ is. held c.args.bytes.now c.args.self.now.line _ c.args.self.now.pending c.min-room.result c.requires.no_text
    (c.min-room.ensures ∙ ap (λ n. min n (length c.args.bytes.now)) (c.saturating_sub.ensures ∙ ap (λ n. held_length - n) c.len.ensures)) is c.requires.no_lf)
    c.extend_from_slice.ensures.ok
