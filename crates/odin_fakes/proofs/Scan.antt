-- A search through files from the front.
use Rattle.std.proofs.Common.{◌≡◌, ℕ, ◌+◌, ◌<◌, List, ◌∷◌, Bool, true, false, cond, Option, Some, ap, sym, ◌∙◌, nat_eq, length, get_or, take, drop, min, map, arith}
use Rattle.std.specs.Ordering.{nat_cmp, eq_by_cmp}
use Rattle.std.specs.Cmp.{eq_by_cmp_equiv}
use Rattle.std.specs.Cmp.Lexicographic.{slice_cmp, nat_list_cmp_total, texts_ties, pointwise}
use Rattle.std.specs.FinMap.{find}
use Rattle.std.proofs.lemmas.List.{at_drop_more, take_min}
use Rattle.object_values.specs.declared.jobs.FileBody.{FileBody}
use Rattle.odin_outside.specs.Files.{given_file_limit}
use Rattle.odin_fakes.specs.Entry.{entry_of}

-- what is found from a place on
abbrev pub found_from : List ℕ → List FileBody → ℕ → Option (List ℕ)
found_from name files at = find (slice_cmp nat_cmp) name (map entry_of (drop at files))

ties : (key name : List ℕ) (b : Bool) → pointwise nat_eq key name ≡ b → eq_by_cmp (slice_cmp nat_cmp) name key ≡ b
ties key name b e = sym ((eq_by_cmp_equiv nat_list_cmp_total).symm key name) ∙ sym (texts_ties key name) ∙ e

at_place : (name : List ℕ) (files : List FileBody) (at : ℕ) (file : FileBody) → at < length files → file ≡ get_or files at file → found_from name files at ≡ find (slice_cmp nat_cmp) name (entry_of file ∷ map entry_of (drop (at + 1) files))
at_place name files at file inside is =
    at_drop_more (λ rest. find (slice_cmp nat_cmp) name (map entry_of rest)) files at file inside
    ∙ ap (λ here. find (slice_cmp nat_cmp) name (entry_of here ∷ map entry_of (drop (at + 1) files))) (sym is)

pub found : (name : List ℕ) (files : List FileBody) (at : ℕ) (file : FileBody) → at < length files → file ≡ get_or files at file → pointwise nat_eq file.name name ≡ true → found_from name files at ≡ Some file.body
found name files at file inside is eq =
    at_place name files at file inside is ∙ ap (λ b. cond b (Some file.body) (found_from name files (at + 1))) (ties file.name name true eq)

pub passed : (name : List ℕ) (files : List FileBody) (at : ℕ) (file : FileBody) → at < length files → file ≡ get_or files at file → pointwise nat_eq file.name name ≡ false → found_from name files at ≡ found_from name files (at + 1)
passed name files at file inside is eq =
    at_place name files at file inside is ∙ ap (λ b. cond b (Some file.body) (found_from name files (at + 1))) (ties file.name name false eq)

-- a body cut at the limit
pub cut_body : (given stored body : List ℕ) (n : ℕ) → given ≡ take n stored → n ≡ min (length stored) given_file_limit → stored ≡ body → given ≡ take given_file_limit body
cut_body given stored body n is least same =
    let turned : n ≡ min given_file_limit (length stored) = omega arith in
    is ∙ ap (λ k. take k stored) turned ∙ take_min given_file_limit stored ∙ ap (λ bytes. take given_file_limit bytes) same
