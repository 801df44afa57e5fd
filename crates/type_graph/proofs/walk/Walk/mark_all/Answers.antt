-- Number by number.
use Rattle.std.proofs.Common.{◌∙◌, ◌<◌, ◌+◌, ◌++◌, ◌∷◌, [], length, get_or, take, set, sym, subst, arith, true, false}
use Rattle.std.proofs.lemmas.List.{take_more}
use Rattle.type_graph.proofs.WalkLemmas.{MarksTo, in_at, marked_before, marked_now, read_default}
use Rattle.type_graph.proofs.walk.Walk.mark_all.Goals as goal
use Rattle.type_graph.proofs.walk.Walk.mark_all.Goals.{then-not-index+in_ok-push, else-not-index}

pub index-requires : goal.index-requires
index-requires c = let h = c.requires (get_or c.args.numbers.now c.loop-number.number-index 0) (in_at c.args.numbers.now c.loop-number.number-index 0 c.loop-number-test.true) in omega (arith, h, c.loop-number.invariant.sized)

pub index_mut-requires : goal.index_mut-requires
index_mut-requires c = let h = c.requires (get_or c.args.numbers.now c.loop-number.number-index 0) (in_at c.args.numbers.now c.loop-number.number-index 0 c.loop-number-test.true) in omega (arith, h, c.loop-number.invariant.sized)

pub loop-number-preserved : goal.loop-number-preserved
loop-number-preserved c =
    let n = get_or c.args.numbers.now c.loop-number.number-index 0 in
    let m = c.loop-number.self.marked.items in
    let t = c.loop-number.self.todo.items in
    let so_far = c.loop-number.invariant in
    let numbers = take c.loop-number.number-index c.args.numbers.now in
    let below : n < length m = subst (λ k. n < k) (sym so_far.sized) (c.requires n (in_at c.args.numbers.now c.loop-number.number-index 0 c.loop-number-test.true)) in
    let more = take_more c.args.numbers.now c.loop-number.number-index 0 c.loop-number-test.true in
    elim c.if-not-index.branch [
      | then-not-index+in_ok-push w ↦
          let next = marked_now c.args.self.now.marked.items c.args.self.now.todo.items numbers m t so_far n below (read_default m n c.index.result.now false below c.index.ensures ∙ w.if-not-index.true) in
          subst (λ self. MarksTo c.args.self.now.marked.items c.args.self.now.todo.items (take (c.loop-number.number-index + 1) c.args.numbers.now) self.marked.items self.todo.items) (sym w.self-is)
          (subst (λ l. MarksTo c.args.self.now.marked.items c.args.self.now.todo.items l (set m n true) w.push.new.self.items) (sym more)
          (subst (λ l. MarksTo c.args.self.now.marked.items c.args.self.now.todo.items (numbers ++ n ∷ []) (set m n true) l) (sym w.in_ok-push.ensures.items) next))
      | else-not-index w ↦
          let next = marked_before c.args.self.now.marked.items c.args.self.now.todo.items numbers m t so_far n (read_default m n c.index.result.now false below c.index.ensures ∙ w.if-not-index.false) in
          subst (λ self. MarksTo c.args.self.now.marked.items c.args.self.now.todo.items (take (c.loop-number.number-index + 1) c.args.numbers.now) self.marked.items self.todo.items) (sym w.self-is)
          (subst (λ l. MarksTo c.args.self.now.marked.items c.args.self.now.todo.items l m t) (sym more) next)
    ]
