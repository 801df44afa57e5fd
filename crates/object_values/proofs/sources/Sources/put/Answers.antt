use Rattle.std.proofs.Common.{arith, ap, sym, Some, ◌∙◌}
use Rattle.std.specs.FinMap as map
use Rattle.object_values.specs.Texts.{SourceStock, Text}
use Rattle.object_values.proofs.PlaceLemmas.{found, missing}
use Rattle.object_values.proofs.BlockLemmas.{none_there, first_added, has_room, same_block, sorted_here, got_there, itself_at, after_text, after_added}
use Rattle.object_values.proofs.sources.Sources.put.Goals as goal

pub add_first-requires-clause-room : goal.add_first-requires-clause-room
add_first-requires-clause-room c =
    let empty = sym c.deref.ensures.value ∙ c.in_default.ensures.none in
    let none = ap (λ (s : SourceStock). map.get s.texts c.args.name) (sym c.self.view_is) ∙ none_there _ _ empty in
    let room = has_room _ _ _ _ _ (ap (λ (s : SourceStock). s.spare) (sym c.self.view_is)) c.self.invariant.spared none c.requires in
    omega (arith, room.places_left)

pub add_first-requires-clause-spare : goal.add_first-requires-clause-spare
add_first-requires-clause-spare c =
    let empty = sym c.deref.ensures.value ∙ c.in_default.ensures.none in
    let none = ap (λ (s : SourceStock). map.get s.texts c.args.name) (sym c.self.view_is) ∙ none_there _ _ empty in
    let room = has_room _ _ _ _ _ (ap (λ (s : SourceStock). s.spare) (sym c.self.view_is)) c.self.invariant.spared none c.requires in
    room.kept

pub returns-in_default-clause-before : goal.returns-in_default-clause-before
returns-in_default-clause-before c =
    let empty = sym c.deref.ensures.value ∙ c.in_default.ensures.none in
    sym (ap (λ (s : SourceStock). map.get s.texts c.args.name) (sym c.self.view_is) ∙ none_there _ _ empty)

pub returns-in_default-clause-put : goal.returns-in_default-clause-put
returns-in_default-clause-put c =
    let empty = sym c.deref.ensures.value ∙ c.in_default.ensures.none in
    rw c.add_first.ensures.added (first_added _ _ _ empty ∙ ap (λ (s : SourceStock). map.insert s.texts c.args.name c.args.text) c.self.view_is)

pub place_of-requires : goal.place_of-requires
place_of-requires c =
    let is = rw (c.deref.ensures.value, c.as_slice.ensures) at c.in-Some.ensures.some in
    let here = same_block _ _ _ is.in_range c.index.ensures in
    rw (c.as_slice-2.ensures, here) (sorted_here _ c.self.invariant.sorted _ _ is)

pub invariant_of-self-in-Ok-1 : goal.invariant_of-self-in-Ok-1
invariant_of-self-in-Ok-1 c =
    let is = rw (c.deref.ensures.value, c.as_slice.ensures) at c.in-Some.ensures.some in
    let here = same_block _ _ _ is.in_range c.index.ensures in
    let at = rw (c.as_slice-2.ensures, c.as_slice-3.ensures, here) at c.in-Ok.ensures.found in
    let set = rw (same_block _ _ _ is.in_range c.index_mut.ensures.value) at c.set_text.ensures.set in
    (after_text _ _ _ c.self.invariant _ _ is _ at _ _ set).0

pub returns-in-Ok-clause-before : goal.returns-in-Ok-clause-before
returns-in-Ok-clause-before c =
    let is = rw (c.deref.ensures.value, c.as_slice.ensures) at c.in-Some.ensures.some in
    let here = same_block _ _ _ is.in_range c.index.ensures in
    let at = rw (c.as_slice-2.ensures, c.as_slice-3.ensures, here) at c.in-Ok.ensures.found in
    let before = rw (same_block _ _ _ is.in_range c.index_mut.ensures.value) at c.set_text.ensures.before in
    ap (λ (text : Text). Some text) before
    ∙ sym (ap (λ (s : SourceStock). map.get s.texts c.args.name) (sym c.self.view_is) ∙ got_there _ c.self.invariant.sorted _ _ is ∙ found _ (sorted_here _ c.self.invariant.sorted _ _ is) _ _ at _ (itself_at _ _ _ at.in_range))

pub returns-in-Ok-clause-put : goal.returns-in-Ok-clause-put
returns-in-Ok-clause-put c =
    let is = rw (c.deref.ensures.value, c.as_slice.ensures) at c.in-Some.ensures.some in
    let here = same_block _ _ _ is.in_range c.index.ensures in
    let at = rw (c.as_slice-2.ensures, c.as_slice-3.ensures, here) at c.in-Ok.ensures.found in
    let set = rw (same_block _ _ _ is.in_range c.index_mut.ensures.value) at c.set_text.ensures.set in
    (after_text _ _ _ c.self.invariant _ _ is _ at _ _ set).1 ∙ ap (λ (s : SourceStock). map.insert s.texts c.args.name c.args.text) c.self.view_is

pub overflow_add-self-in-Err : goal.overflow_add-self-in-Err
overflow_add-self-in-Err c =
    let is = rw (c.deref.ensures.value, c.as_slice.ensures) at c.in-Some.ensures.some in
    let here = same_block _ _ _ is.in_range c.index.ensures in
    let gap = rw (c.as_slice-2.ensures, c.as_slice-3.ensures, here) at c.in-Err.ensures.gap in
    let none = ap (λ (s : SourceStock). map.get s.texts c.args.name) (sym c.self.view_is) ∙ got_there _ c.self.invariant.sorted _ _ is ∙ missing _ (sorted_here _ c.self.invariant.sorted _ _ is) _ _ gap in
    let room = has_room _ _ _ _ _ (ap (λ (s : SourceStock). s.spare) (sym c.self.view_is)) c.self.invariant.spared none c.requires in
    let few = room.count_left in
    omega (arith, few)

pub add-requires-clause-room : goal.add-requires-clause-room
add-requires-clause-room c =
    let is = rw (c.deref.ensures.value, c.as_slice.ensures) at c.in-Some.ensures.some in
    let here = same_block _ _ _ is.in_range c.index.ensures in
    let gap = rw (c.as_slice-2.ensures, c.as_slice-3.ensures, here) at c.in-Err.ensures.gap in
    let none = ap (λ (s : SourceStock). map.get s.texts c.args.name) (sym c.self.view_is) ∙ got_there _ c.self.invariant.sorted _ _ is ∙ missing _ (sorted_here _ c.self.invariant.sorted _ _ is) _ _ gap in
    let room = has_room _ _ _ _ _ (ap (λ (s : SourceStock). s.spare) (sym c.self.view_is)) c.self.invariant.spared none c.requires in
    omega (arith, room.places_left)

pub add-requires-clause-spare : goal.add-requires-clause-spare
add-requires-clause-spare c =
    let is = rw (c.deref.ensures.value, c.as_slice.ensures) at c.in-Some.ensures.some in
    let here = same_block _ _ _ is.in_range c.index.ensures in
    let gap = rw (c.as_slice-2.ensures, c.as_slice-3.ensures, here) at c.in-Err.ensures.gap in
    let none = ap (λ (s : SourceStock). map.get s.texts c.args.name) (sym c.self.view_is) ∙ got_there _ c.self.invariant.sorted _ _ is ∙ missing _ (sorted_here _ c.self.invariant.sorted _ _ is) _ _ gap in
    let room = has_room _ _ _ _ _ (ap (λ (s : SourceStock). s.spare) (sym c.self.view_is)) c.self.invariant.spared none c.requires in
    room.kept

pub invariant_of-self-in-Err : goal.invariant_of-self-in-Err
invariant_of-self-in-Err c =
    let is = rw (c.deref.ensures.value, c.as_slice.ensures) at c.in-Some.ensures.some in
    let here = same_block _ _ _ is.in_range c.index.ensures in
    let gap = rw (c.as_slice-2.ensures, c.as_slice-3.ensures, here) at c.in-Err.ensures.gap in
    (after_added _ _ _ c.self.invariant _ _ is _ gap _ _ _ c.add.ensures.added c.add.ensures.filled c.add.ensures.spare).0

pub returns-in-Err-clause-before : goal.returns-in-Err-clause-before
returns-in-Err-clause-before c =
    let is = rw (c.deref.ensures.value, c.as_slice.ensures) at c.in-Some.ensures.some in
    let here = same_block _ _ _ is.in_range c.index.ensures in
    let gap = rw (c.as_slice-2.ensures, c.as_slice-3.ensures, here) at c.in-Err.ensures.gap in
    sym (ap (λ (s : SourceStock). map.get s.texts c.args.name) (sym c.self.view_is) ∙ got_there _ c.self.invariant.sorted _ _ is ∙ missing _ (sorted_here _ c.self.invariant.sorted _ _ is) _ _ gap)

pub returns-in-Err-clause-put : goal.returns-in-Err-clause-put
returns-in-Err-clause-put c =
    let is = rw (c.deref.ensures.value, c.as_slice.ensures) at c.in-Some.ensures.some in
    let here = same_block _ _ _ is.in_range c.index.ensures in
    let gap = rw (c.as_slice-2.ensures, c.as_slice-3.ensures, here) at c.in-Err.ensures.gap in
    (after_added _ _ _ c.self.invariant _ _ is _ gap _ _ _ c.add.ensures.added c.add.ensures.filled c.add.ensures.spare).1 ∙ ap (λ (s : SourceStock). map.insert s.texts c.args.name c.args.text) c.self.view_is
