use Rattle.std.proofs.Common.{List, IfOk, sym, subst}
use Rattle.odin_memory.specs.Calls.{Call, image_after, image_before, LeftWithin}
use Rattle.std.proofs.Common.{◌≡◌}
use Rattle.odin_memory.specs.Entries.{Undoes}
use Rattle.odin_memory.proofs.Replaying.{until_front, within_front}
use Rattle.odin_memory.proofs.replay.stopped.Goals as goal

pub within_last-requires : goal.within_last-requires
within_last-requires c = within_front c.args.first.now c.args.entries.now c.args.written.now c.args.moment c.requires.within

pub returns-clause-left : goal.returns-clause-left
returns-clause-left c =
    let left : List Call → Type 0 = λ calls. IfOk c.within_last.result (λ image. LeftWithin c.args.first.now calls image.items) in
    subst left (sym (until_front c.args.entries.now c.args.written.now c.args.moment c.requires.moment)) c.within_last.ensures.left

pub returns-clause-whole : goal.returns-clause-whole
returns-clause-whole c =
    let whole : List Call → Type 0 = λ calls. IfOk c.within_last.result (λ image. image.items ≡ image_after c.args.first.now calls) in
    λ is. subst whole (sym (until_front c.args.entries.now c.args.written.now c.args.moment c.requires.moment)) (c.within_last.ensures.whole is)

pub returns-clause-none : goal.returns-clause-none
returns-clause-none c =
    let none : List Call → Type 0 = λ calls. IfOk c.within_last.result (λ image. Undoes c.args.choice calls → image.items ≡ image_before c.args.first.now calls) in
    subst none (sym (until_front c.args.entries.now c.args.written.now c.args.moment c.requires.moment)) c.within_last.ensures.none
