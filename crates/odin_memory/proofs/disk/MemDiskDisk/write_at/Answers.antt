use Rattle.std.proofs.Common.{◌≡◌, ◌+◌, ◌≤◌, [], ◌∷◌, ◌++◌, ap, sym, ◌∙◌, subst, arith, List, ℕ, length, refl}
use Rattle.odin_memory.specs.declared.disk.Entry.TheVariants as entry
use Rattle.odin_memory.specs.Calls.{Call, Wrote, written, image_after, AreWithin}
use Rattle.odin_memory.specs.DiskLaws.{written-torn}
use Rattle.odin_memory.specs.Entries.{calls_from_entries}
use Rattle.odin_memory.specs.File.{File, image_of}
use Rattle.odin_memory.proofs.Replaying.{Keeps, keeps_bytes}
use Rattle.odin_memory.proofs.disk.MemDiskDisk.write_at.Goals as goal

keeps : (c : goal.After-self-2-1) → Keeps c.self-2.inside.entries.items c.self-2.inside.written.items (entry.Write c.args.at (length c.args.bytes.now)) c.args.bytes.now c.push.new.self.items c.extend_from_slice.new.self.items
keeps c =
    let is : c.push.new.self.items ≡ c.self-2.inside.entries.items ++ entry.Write c.args.at (length c.args.bytes.now) ∷ [] = grind arith in
    let all : c.extend_from_slice.new.self.items ≡ c.self-2.inside.written.items ++ c.args.bytes.now = grind arith in
    keeps_bytes _ _ _ _ _ _ c.self-2.invariant.4 refl is all

pub invariant_of-self-2 : goal.invariant_of-self-2
invariant_of-self-2 c =
    let calls : calls_from_entries c.push.new.self.items c.extend_from_slice.new.self.items ≡ Wrote c.args.at c.args.bytes.now ∷ calls_from_entries c.self-2.inside.entries.items c.self-2.inside.written.items = (keeps c).calls in
    let seen : image_of c.args.self.now ≡ c.self-2.inside.image.items = ap (λ (file : File). image_of file) (sym c.self-2.view_is) ∙ sym c.self-2.invariant.0 in
    let fits : c.args.at ≤ length c.self-2.inside.image.items = subst (λ (xs : List ℕ). c.args.at ≤ length xs) seen c.requires.inside in
    let image : c.overwrite.new.image.items ≡ written c.self-2.inside.image.items c.args.at c.args.bytes.now = grind arith in
    let short : length (written c.self-2.inside.image.items c.args.at c.args.bytes.now) ≤ length c.self-2.inside.image.items + length c.args.bytes.now =
    omega (arith, (written-torn c.self-2.inside.image.items c.args.at c.args.bytes.now).no_longer) in
    let long : length c.overwrite.new.image.items ≤ length c.self-2.inside.image.items + length c.args.bytes.now = subst (λ (xs : List ℕ). length xs ≤ length c.self-2.inside.image.items + length c.args.bytes.now) (sym image) short in (
      image
          ∙ ap (λ (xs : List ℕ). written xs c.args.at c.args.bytes.now) c.self-2.invariant.0
          ∙ ap (λ (cs : List Call). image_after c.self-2.inside.first cs) (sym calls),
      grind arith,
      grind arith,
      grind arith,
      (keeps c).size,
      subst (λ (cs : List Call). AreWithin c.self-2.inside.first cs) (sym calls) (subst (λ (xs : List ℕ). c.args.at ≤ length xs) c.self-2.invariant.0 fits, c.self-2.invariant.5),
    )

pub returns-clause-ok : goal.returns-clause-ok
returns-clause-ok c =
    let calls : calls_from_entries c.push.new.self.items c.extend_from_slice.new.self.items ≡ Wrote c.args.at c.args.bytes.now ∷ calls_from_entries c.self-2.inside.entries.items c.self-2.inside.written.items = (keeps c).calls in
    rw (← c.self-2.view_is) (cc)
