use Rattle.odin_journal.proofs.PieceLemmas.{cut_of_piece, cut_before}
use Rattle.odin_journal.proofs.pieces.Piece.cut.Goals as goal

pub returns-then-has-clause-bytes : goal.returns-then-has-clause-bytes
returns-then-has-clause-bytes g c =
    cut_of_piece (g.D.Disk.told c.args.disk.now) c.args.size c.args.at c.args.at c.args.count c.args.self.now _ c.requires.piece c.in_ok-part.ensures

pub returns-clause-bytes : goal.returns-clause-bytes
returns-clause-bytes g c =
    let moved = g.D.Disk.told c.read.new.disk in
    cut_before (g.D.Disk.told c.args.disk.now) moved c.args.at c.args.count _ c.read.ensures.left.untouched
    (cut_of_piece moved c.args.size c.args.at c.args.at c.args.count c.in_ok-self.field-0 _ c.in_ok-self.ensures.piece c.in_ok-part-2.ensures)
