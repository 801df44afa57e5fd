use Rattle.std.proofs.Common.{◌≡◌, ◌-◌, [], ◌∷◌, ◌++◌, ap, sym, ◌∙◌, subst, arith, List, ℕ}
use Rattle.odin_memory.specs.Calls.{Call, image_after, changed, AreWithin, FitsIn}
use Rattle.odin_memory.specs.Entries.{call_from_entry, calls_from_entries}
use Rattle.odin_memory.proofs.Replaying.{Keeps, KeepsAll, keeps_none, plain_keeps}
use Rattle.odin_memory.proofs.disk.MemDisk.keep.Goals as goal

plain : (c : goal.After-self-1) → KeepsAll c.args.entry c.self.inside.image.items
plain c = plain_keeps c.args.entry c.self.inside.image.items c.requires

keeps : (c : goal.After-self-1) → Keeps c.self.inside.entries.items c.self.inside.written.items c.args.entry [] c.push.new.self.items c.self.inside.written.items
keeps c =
    let is : c.push.new.self.items ≡ c.self.inside.entries.items ++ c.args.entry ∷ [] = grind arith in
    keeps_none _ _ _ _ c.self.invariant.4 (plain c).count is

pub invariant_of-self-2 : goal.invariant_of-self-2
invariant_of-self-2 c =
    let calls : calls_from_entries c.push.new.self.items c.self.inside.written.items ≡ call_from_entry c.args.entry [] ∷ calls_from_entries c.self.inside.entries.items c.self.inside.written.items = (keeps c).calls in (
      sym (plain c).same
          ∙ ap (λ (xs : List ℕ). changed (call_from_entry c.args.entry []) xs) c.self.invariant.0
          ∙ ap (λ (cs : List Call). image_after c.self.inside.first cs) (sym calls),
      c.self.invariant.1,
      c.self.invariant.2,
      grind arith,
      (keeps c).size,
      subst (λ (cs : List Call). AreWithin c.self.inside.first cs) (sym calls) (subst (λ (xs : List ℕ). FitsIn (call_from_entry c.args.entry []) xs) c.self.invariant.0 (plain c).fits, c.self.invariant.5),
    )

pub returns-clause-ok : goal.returns-clause-ok
returns-clause-ok c =
    let calls : calls_from_entries c.push.new.self.items c.self.inside.written.items ≡ call_from_entry c.args.entry [] ∷ calls_from_entries c.self.inside.entries.items c.self.inside.written.items = (keeps c).calls in
    let bytes : c.self.inside.bytes - 0 ≡ c.self.inside.bytes = omega arith in
    rw (← c.self.view_is) (cc)
