use Rattle.call_layout.proofs.Standing.{each_stands}
use Rattle.call_layout.proofs.laws.each_part_stands.Goals as goal

pub returns : goal.returns
returns c = each_stands
