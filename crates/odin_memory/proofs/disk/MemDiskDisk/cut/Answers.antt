use Rattle.std.proofs.Common.{◌≡◌, ◌-◌, ◌≤◌, [], ◌∷◌, ◌++◌, take, ap, sym, ◌∙◌, subst, arith, List, ℕ, length, refl}
use Rattle.odin_memory.specs.declared.disk.Entry.TheVariants as entry
use Rattle.odin_memory.specs.Calls.{Call, WasCut, image_after, AreWithin}
use Rattle.odin_memory.specs.Entries.{calls_from_entries}
use Rattle.odin_memory.specs.File.{File, image_of}
use Rattle.odin_memory.proofs.Replaying.{Keeps, keeps_none}
use Rattle.odin_memory.proofs.disk.MemDiskDisk.cut.Goals as goal

keeps : (c : goal.After-self-1) → Keeps c.self.inside.entries.items c.self.inside.written.items (entry.Cut c.args.size) [] c.push.new.self.items c.self.inside.written.items
keeps c =
    let is : c.push.new.self.items ≡ c.self.inside.entries.items ++ entry.Cut c.args.size ∷ [] = grind arith in
    keeps_none _ _ _ _ c.self.invariant.4 refl is

pub invariant_of-self-2 : goal.invariant_of-self-2
invariant_of-self-2 c =
    let calls : calls_from_entries c.push.new.self.items c.self.inside.written.items ≡ WasCut c.args.size ∷ calls_from_entries c.self.inside.entries.items c.self.inside.written.items = (keeps c).calls in
    let image : c.truncate.new.self.items ≡ take c.args.size c.self.inside.image.items = grind arith in
    let seen : image_of c.args.self.now ≡ c.self.inside.image.items = ap (λ (file : File). image_of file) (sym c.self.view_is) ∙ sym c.self.invariant.0 in
    let fits : c.args.size ≤ length c.self.inside.image.items = subst (λ (xs : List ℕ). c.args.size ≤ length xs) seen c.requires in (
      image
          ∙ ap (λ (xs : List ℕ). take c.args.size xs) c.self.invariant.0
          ∙ ap (λ (cs : List Call). image_after c.self.inside.first cs) (sym calls),
      grind arith,
      c.self.invariant.2,
      grind arith,
      (keeps c).size,
      subst (λ (cs : List Call). AreWithin c.self.inside.first cs) (sym calls) (subst (λ (xs : List ℕ). c.args.size ≤ length xs) c.self.invariant.0 fits, c.self.invariant.5),
    )

pub returns-clause-ok : goal.returns-clause-ok
returns-clause-ok c =
    let calls : calls_from_entries c.push.new.self.items c.self.inside.written.items ≡ WasCut c.args.size ∷ calls_from_entries c.self.inside.entries.items c.self.inside.written.items = (keeps c).calls in
    let bytes : c.self.inside.bytes - 0 ≡ c.self.inside.bytes = omega arith in
    rw (← c.self.view_is) (cc)
