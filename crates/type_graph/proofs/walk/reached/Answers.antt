-- The walk begins with the starts, and ends where nothing is to do.
use Rattle.std.proofs.Common.{◌∙◌, ◌<◌, [], replicate, length, sym, ap, subst, arith, false}
use Rattle.std.proofs.lemmas.List.{length-replicate}
use Rattle.meaning_texts.specs.Lists.{IsIn}
use Rattle.type_graph.proofs.WalkLemmas.{MarksTo, IsWalk, walk_begins, walk_goes, walk_ends, todo_within, read_default, nothing_left}
use Rattle.type_graph.proofs.walk.reached.Goals as goal

pub mark_all-requires : goal.mark_all-requires
mark_all-requires c = λ number h. subst (λ n. number < n) (sym (ap length (c.in_ok-vec.ensures.items_if_clones_equal (λ y e. e)) ∙ length-replicate (length c.args.supers.now) false)) (c.requires.starts number h)

pub loop-number-init : goal.loop-number-init
loop-number-init c =
    let made = c.in_ok-vec.ensures.items_if_clones_equal (λ y e. e) in
    walk_begins c.args.supers.now c.args.starts.now c.mark_all.new.self.marked.items c.mark_all.new.self.todo.items
    (subst (λ t. MarksTo (replicate (length c.args.supers.now) false) t c.args.starts.now c.mark_all.new.self.marked.items c.mark_all.new.self.todo.items) c.new.ensures.items
    (subst (λ m. MarksTo m c.new.result.items c.args.starts.now c.mark_all.new.self.marked.items c.mark_all.new.self.todo.items) made c.in_ok-mark_all.ensures))

pub bounds-supers-number : goal.bounds-supers-number
bounds-supers-number c = todo_within c.args.supers.now c.args.starts.now c.loop-number.walk.marked.items c.pop.new.self.items c.in-Some.number (subst (IsWalk c.args.supers.now c.args.starts.now c.loop-number.walk.marked.items) c.in-Some.ensures.items c.loop-number.invariant)

pub offset_bounds-supers-number : goal.offset_bounds-supers-number
offset_bounds-supers-number c =
    let within = todo_within c.args.supers.now c.args.starts.now c.loop-number.walk.marked.items c.pop.new.self.items c.in-Some.number (subst (IsWalk c.args.supers.now c.args.starts.now c.loop-number.walk.marked.items) c.in-Some.ensures.items c.loop-number.invariant) in
    omega (arith, within)

pub mark_all-requires-in-Some : goal.mark_all-requires-in-Some
mark_all-requires-in-Some c = λ number h.
    let within = todo_within c.args.supers.now c.args.starts.now c.loop-number.walk.marked.items c.pop.new.self.items c.in-Some.number (subst (IsWalk c.args.supers.now c.args.starts.now c.loop-number.walk.marked.items) c.in-Some.ensures.items c.loop-number.invariant) in
    let same = c.as_slice.ensures ∙ sym (read_default c.args.supers.now c.in-Some.number c.index-supers-number.result [] within c.index-supers-number.is) in
    subst (λ n. number < n) (sym c.loop-number.invariant.sized) (c.requires.supers c.in-Some.number number (subst (IsIn number) same h))

pub loop-number-preserved : goal.loop-number-preserved
loop-number-preserved c =
    let walk = subst (IsWalk c.args.supers.now c.args.starts.now c.loop-number.walk.marked.items) c.in-Some.ensures.items c.loop-number.invariant in
    let within = todo_within c.args.supers.now c.args.starts.now c.loop-number.walk.marked.items c.pop.new.self.items c.in-Some.number walk in
    let same = c.as_slice.ensures ∙ sym (read_default c.args.supers.now c.in-Some.number c.index-supers-number.result [] within c.index-supers-number.is) in
    walk_goes c.args.supers.now c.args.starts.now c.loop-number.walk.marked.items c.pop.new.self.items c.in-Some.number c.mark_all-in-Some.new.self.marked.items c.mark_all-in-Some.new.self.todo.items walk
    (subst (λ l. MarksTo c.loop-number.walk.marked.items c.pop.new.self.items l c.mark_all-in-Some.new.self.marked.items c.mark_all-in-Some.new.self.todo.items) same c.in_ok-mark_all-2.ensures)

pub returns : goal.returns
returns c =
    let empty = nothing_left c.loop-number.walk.todo.items (λ more. c.in_default.ensures.variant.1 (subst (λ n. 0 < n) (sym c.loop-number.walk.todo.ok.0) more)) in
    let w : IsWalk c.args.supers.now c.args.starts.now c.into_row.result [] =
    subst (λ m. IsWalk c.args.supers.now c.args.starts.now m []) (sym c.into_row.ensures) (subst (IsWalk c.args.supers.now c.args.starts.now c.loop-number.walk.marked.items) empty c.loop-number.invariant) in
    record { sized = w.sized; right = λ number. (w.sound number, walk_ends c.args.supers.now c.args.starts.now c.into_row.result w number) }
