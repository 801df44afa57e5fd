use Rattle.std.proofs.Common.{◌+◌, ◌≤◌, ◌^◌, ◌∙◌, ap, sym, subst, length, arith, List}
use Rattle.std.specs.Prelude.{All}
use Rattle.object_values.specs.declared.views.Part.{Part}
use Rattle.build_files.specs.Files.{numbered_files, IsSafeFileName}
use Rattle.build_files.proofs.FileLemmas.{numbered_within, parts_within}
use Rattle.build_files.proofs.files.files_of.Goals as goal

pub returns-in_ok-numbered_files-in-List-clause-within : goal.returns-in_ok-numbered_files-in-List-clause-within
returns-in_ok-numbered_files-in-List-clause-within c = λ given.
    let formed = rw c.in-List.is at given in
    let few : 1 + length c.in-List.lines ≤ 2 ^ 64 = omega (arith, formed.few) in
    subst (λ (parts : List Part). All (λ (part : Part). IsSafeFileName part.name) parts)
    (sym (c.in_ok-numbered_files-in-List.ensures ∙ ap (numbered_files 1) c.as_slice.ensures)) (numbered_within 1 c.in-List.lines few)

pub returns-in_ok-copy-in-Compound-clause-within : goal.returns-in_ok-copy-in-Compound-clause-within
returns-in_ok-copy-in-Compound-clause-within c = λ given.
    let formed = rw c.in-Compound.is at given in
    subst (λ (parts : List Part). All (λ (part : Part). IsSafeFileName part.name) parts)
    (sym c.in_ok-copy-in-Compound.ensures) (parts_within c.in-Compound.parts formed.each)
