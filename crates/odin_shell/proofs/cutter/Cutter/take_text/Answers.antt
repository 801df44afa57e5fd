use Rattle.std.proofs.Common.{◌≡◌, ◌≤◌, length, take, ◌∙◌, arith}
use Rattle.std.proofs.lemmas.List.{length-take-le}
use Rattle.odin_shell.proofs.CutLemmas.{text_held, text_ended}
use Rattle.odin_shell.proofs.cutter.Cutter.take_text.Goals as goal

pub returns-then-count-held : goal.returns-then-count-held
returns-then-count-held c =
    let n = c.min-count.result in
    let within : n ≤ length c.args.piece.now = omega arith in
    let size : length (take n c.args.piece.now) ≡ n = length-take-le n c.args.piece.now within in
    let left = c.in_ok-hold.ensures.missing in
    record { some = omega arith; within = within; takes = text_held (take n c.args.piece.now) _ c.args.held _ c.in_ok-hold.ensures.command c.in_ok-hold.ensures.text left }

pub returns : goal.returns
returns c =
    let n = c.min-count.result in
    let within : n ≤ length c.args.piece.now = omega arith in
    let size : length (take n c.args.piece.now) ≡ c.args.held.missing = length-take-le n c.args.piece.now within ∙ omega arith in
    record {
      some = omega arith;
      within = within;
      takes = (
        text_ended (take n c.args.piece.now) _ c.args.held _ _ c.in_ok-command.ensures.command size c.in_ok-command.ensures.text,
        λ part k. (tt, k.0),
      );
    }
