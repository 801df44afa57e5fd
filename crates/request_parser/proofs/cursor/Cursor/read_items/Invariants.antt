use Rattle.std.proofs.Common.{length}
use Rattle.request_parser.specs.declared.bytes.Class.TheVariants as class
use Rattle.request_parser.specs.Runs.{has, IsPast}
use Rattle.request_parser.specs.Reads.{ReadsItems}
use Rattle.request_parser.proofs.cursor.Cursor.read_items.Given as goal

abbrev pub invariant-items : goal.invariant-items
invariant-items l = record { read : ReadsItems l.fn.self l.self l.found.params.items l.found.steps; past : IsPast (has class.Space) l.self }

abbrev pub decreases-items : goal.decreases-items
decreases-items l = length l.self
