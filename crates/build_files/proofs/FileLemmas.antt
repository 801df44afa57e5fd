-- The files of a list, and names that lead nowhere else.
use Rattle.std.proofs.Common.{◌≡◌, ◌≢◌, ℕ, ◌+◌, ◌<◌, ◌≤◌, ◌^◌, List, [], ◌∷◌, ◌++◌, length, sym, ap, ◌∙◌, refl, arith, decimal, take, get_or}
use Rattle.std.specs.Prelude.{All}
use Rattle.std.proofs.lemmas.List.{take_more, length-take-le}
use Rattle.meaning_texts.specs.Lines.{with_lf}
use Rattle.std.proofs.lemmas.Fmt.{decimal_nonempty}
use Rattle.std.proofs.lemmas.List.Elements.{All-nil, All-cons}
use Rattle.object_values.specs.declared.views.Part.{Part}
use Rattle.meaning_commands.specs.Formed.{IsFormedPart}
use Rattle.build_files.specs.Files.{numbered_files, IsSafeFileName}
use Rattle.odin_commands.proofs.Lemmas.{decimal_has_no, id_has_no}

pub numbered_more : (k : ℕ) (lines : List (List ℕ)) (line : List ℕ) → numbered_files k (lines ++ line ∷ []) ≡ numbered_files k lines ++ numbered_files (k + length lines) (line ∷ [])
numbered_more k [] line = ap (λ n. numbered_files n (line ∷ [])) (let same : k ≡ k + 0 = omega arith in same)
numbered_more k (first ∷ lines) line =
    ap (λ (l : List Part). record { name = decimal k; body = with_lf first } ∷ l) (numbered_more (k + 1) lines line ∙ ap (λ n. numbered_files (k + 1) lines ++ numbered_files n (line ∷ [])) (let same : k + 1 + length lines ≡ k + length (first ∷ lines) = omega arith in same))

-- with the file of one more line
pub numbered_step : (lines : List (List ℕ)) (place : ℕ) (line : List ℕ) (files next : List Part) (file : Part) → place < length lines → line ≡ get_or lines place line → files ≡ numbered_files 1 (take place lines)
    → next ≡ files ++ file ∷ [] → numbered_files (place + 1) (line ∷ []) ≡ file ∷ [] → next ≡ numbered_files 1 (take (place + 1) lines)
numbered_step lines place line files next file below line_is files_is next_is file_is =
    let long : place + 1 ≡ 1 + length (take place lines) = omega (arith, length-take-le place lines (omega arith)) in
    let more : take (place + 1) lines ≡ take place lines ++ line ∷ [] = take_more lines place line below ∙ ap (λ l. take place lines ++ l ∷ []) (sym line_is) in
    next_is ∙ ap (λ l. l ++ file ∷ []) files_is
    ∙ ap (λ l. numbered_files 1 (take place lines) ++ l) (sym file_is ∙ ap (λ n. numbered_files n (line ∷ [])) long)
    ∙ sym (numbered_more 1 (take place lines) line) ∙ ap (numbered_files 1) (sym more)

no_name : (name : List ℕ) → 0 < length name → name ≢ []
no_name [] some = absurd (omega (arith, some))
no_name (b ∷ name) some = λ e. cc

number_name : (number : ℕ) → number < 2 ^ 64 → IsSafeFileName (decimal number)
number_name number small = record {
  some = no_name (decimal number) (decimal_nonempty number small);
  slashless = decimal_has_no 47 number (omega arith) small;
  dotless = decimal_has_no 46 number (omega arith) small;
}

pub numbered_within : (k : ℕ) (lines : List (List ℕ)) → k + length lines ≤ 2 ^ 64 → All (λ (part : Part). IsSafeFileName part.name) (numbered_files k lines)
numbered_within k [] few = All-nil (λ (part : Part). IsSafeFileName part.name)
numbered_within k (line ∷ lines) few =
    All-cons (λ (part : Part). IsSafeFileName part.name) _ (numbered_files (k + 1) lines) (number_name k (omega (arith, few))) (numbered_within (k + 1) lines (omega (arith, few)))

part_name : (part : Part) → IsFormedPart part → IsSafeFileName part.name
part_name part formed =
    let id = formed.named in
    let some : 0 < length part.name = id.key.some in
    record { some = no_name part.name some; slashless = id_has_no 47 refl part.name id; dotless = id_has_no 46 refl part.name id }

pub parts_within : (parts : List Part) → All IsFormedPart parts → All (λ (part : Part). IsSafeFileName part.name) parts
parts_within parts formed = λ k part below. part_name _ (formed k part below)
