use Rattle.odin_memory.proofs.Ending.{loses_next}
use Rattle.std.proofs.Common.{ap, ◌∙◌, get_or, rules}
use Rattle.odin_memory.specs.Tools.{Tools, LosesNext}
use Rattle.odin_memory.proofs.tools.TableTools.lose.Goals as goal

loses : (c : goal.In_ok-end_next) → LosesNext c.args.self.now c.index.result.now.slot c.end_next.new.self
loses c = loses_next c.args.self.now c.end_next.new.self c.next_place-place.result c.index.result.now c.requires c.next_place-place.ensures (c.index.ensures ∙ ap (λ (t : Tools). get_or t.running c.next_place-place.result c.index.result.now) c.self.view_is) (search rules)

pub returns-clause-ok : goal.returns-clause-ok
returns-clause-ok c = loses c
