use Rattle.std.proofs.Common.{ap, ◌∙◌, get_or, rules}
use Rattle.odin_memory.proofs.Ending.{ends_next, told_ends}
use Rattle.odin_memory.specs.Tools.{Tools, answer_to_job, EndsNext}
use Rattle.odin_memory.proofs.tools.TableToolsSpawner.finish.Goals as goal

ends : (c : goal.In_ok-end_next) → EndsNext c.args.self.now c.index-tool.result.now.slot c.in_ok-raw.raw c.end_next.new.self
ends c = ends_next c.args.self.now c.end_next.new.self c.next_place-place.result c.index-tool.result.now c.in_ok-raw.raw c.requires c.next_place-place.ensures (c.index-tool.ensures ∙ ap (λ (t : Tools). get_or t.running c.next_place-place.result c.index-tool.result.now) c.self.view_is) (c.in_ok-raw.ensures ∙ ap (λ (t : Tools). answer_to_job t.answers c.index-tool.result.now.job) c.self.view_is) (search rules)

pub returns-clause-ok : goal.returns-clause-ok
returns-clause-ok c = ends c

pub returns-clause-told : goal.returns-clause-told
returns-clause-told c = told_ends c.args.self.now c.end_next.new.self c.index-tool.result.now.slot c.in_ok-raw.raw 0 (ends c)
