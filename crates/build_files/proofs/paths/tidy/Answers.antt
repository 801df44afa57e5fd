use Rattle.build_files.proofs.PathLemmas.{walks_on, walked, walked_tidy}
use Rattle.build_files.proofs.paths.tidy.Goals as goal

pub pieces-preserved : goal.pieces-preserved
pieces-preserved c =
    let cut = c.in-Some.ensures.some in
    walks_on c.args.folder.now c.pieces.path c.pieces.rest.now c.add_piece.new.path c.in-Some.piece.now c.in-Some.behind.now c.pieces.invariant cut.0 cut.1
    c.in_ok-add_piece.ensures

pub returns-clause-is : goal.returns-clause-is
returns-clause-is c = walked c.args.folder.now c.pieces.path c.pieces.rest.now c.add_piece-2.new.path c.pieces.invariant c.in_default.ensures.none c.in_ok-add_piece-2.ensures

pub returns-clause-tidy : goal.returns-clause-tidy
returns-clause-tidy c = walked_tidy c.args.folder.now c.pieces.path c.pieces.rest.now c.add_piece-2.new.path c.pieces.invariant c.in_default.ensures.none c.in_ok-add_piece-2.ensures
