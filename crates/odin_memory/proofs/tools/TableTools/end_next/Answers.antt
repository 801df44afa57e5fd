use Rattle.std.proofs.Common.{◌≡◌, drop, length, ap, ◌∙◌, arith, List, [], ◌∷◌, ◌++◌, ◌+◌, min, ℕ}
use Rattle.std.specs.Prelude.{remove}
use Rattle.odin_memory.specs.Tools.{Tools}
use Rattle.odin_memory.proofs.Ending.{used, without, after_next}
use Rattle.odin_memory.proofs.tools.TableTools.end_next.Goals as goal

pub returns-clause-ok : goal.returns-clause-ok
returns-clause-ok c =
    let order : drop c.self.inside.ended c.self.inside.order ≡ c.args.self.now.order = ap (λ (t : Tools). t.order) c.self.view_is in
    let size : c.len.result ≡ length c.self.inside.order = c.len.ensures in
    let step : c.saturating_add.result ≡ min (c.self.inside.ended + 1) 18446744073709551615 = c.saturating_add.ensures in
    let log : c.push.new.self.items ≡ c.self.inside.log.items ++ c.args.event ∷ [] = grind arith in
    let rest : c.remove.new.self.items ≡ remove c.self.inside.running.items c.args.place = c.remove.ensures.items in
    let left : drop c.min-self-inside.result c.self.inside.order ≡ drop 1 c.args.self.now.order =
    used c.self.inside.order c.self.inside.ended c.min-self-inside.result c.self.invariant (omega arith) (omega arith) ∙ ap (λ (xs : List ℕ). drop 1 xs) order in
    let made : _ ≡ without c.args.self.now (drop c.min-self-inside.result c.self.inside.order) c.args.place c.args.event = rw (← c.self.view_is) (cc) in
    made ∙ after_next c.args.self.now c.args.place (drop c.min-self-inside.result c.self.inside.order) c.args.event c.requires.next left
