-- Parts with their numbers, one by one.
use Rattle.std.proofs.Common.{◌≡◌, ℕ, zero, suc, ◌+◌, ◌<◌, List, [], ◌∷◌, ◌++◌, Option, Some, None, length, take, get_or, refl, ap, sym, ◌∙◌, arith, append_assoc}
use Rattle.std.specs.List.{flat_map}
use Rattle.std.proofs.lemmas.List.{flat_map_more}
use Rattle.meaning_texts.specs.Lines.{with_lf}
use Rattle.object_values.specs.declared.calls.CallPart.{CallPart}
use Rattle.object_values.specs.declared.jobs.FileBody.{FileBody}
use Rattle.meaning_calls.specs.Jobs.{part_line, part_lines, put_file, body_files}

part_lines_more : (n : ℕ) (parts : List CallPart) (i : ℕ) (part : CallPart) → i < length parts → part ≡ get_or parts i part
    → part_lines n (take (i + 1) parts) ≡ part_lines n (take i parts) ++ part_line (n + i) part ∷ []
part_lines_more n [] i part h is = absurd (omega arith)
part_lines_more n (first ∷ parts) zero part h is = let same : n ≡ n + 0 = omega arith in rw is (ap (λ k. part_line k first ∷ []) same)
part_lines_more n (first ∷ parts) (suc i) part h is =
    let further : suc i + 1 ≡ suc (i + 1) = omega arith in
    let number : (n + 1) + i ≡ n + suc i = omega arith in
    rw further (ap (λ rest. part_line n first ∷ rest) (part_lines_more (n + 1) parts i part (omega arith) is ∙ ap (λ k. part_lines (n + 1) (take i parts) ++ part_line k part ∷ []) number))

pub written_more : (out : List ℕ) (parts : List CallPart) (i : ℕ) (part : CallPart) → i < length parts → part ≡ get_or parts i part
    → (out ++ flat_map with_lf (part_lines 1 (take i parts))) ++ with_lf (part_line (i + 1) part) ≡ out ++ flat_map with_lf (part_lines 1 (take (i + 1) parts))
written_more out parts i part h is =
    let number : 1 + i ≡ i + 1 = omega arith in
    flat_map_more with_lf out (part_lines 1 (take i parts)) (part_line (i + 1) part)
    ∙ ap (λ lines. out ++ flat_map with_lf lines) (sym (part_lines_more 1 parts i part h is ∙ ap (λ k. part_lines 1 (take i parts) ++ part_line k part ∷ []) number))

put_before : (n : ℕ) (body : Option (List ℕ)) (xs ys : List FileBody) → put_file n body (xs ++ ys) ≡ put_file n body xs ++ ys
put_before n None xs ys = refl
put_before n (Some body) xs ys = refl

body_files_more : (n : ℕ) (parts : List CallPart) (i : ℕ) (part : CallPart) → i < length parts → part ≡ get_or parts i part
    → body_files n (take (i + 1) parts) ≡ body_files n (take i parts) ++ put_file (n + i) part.body []
body_files_more n [] i part h is = absurd (omega arith)
body_files_more n (first ∷ parts) zero part h is = let same : n ≡ n + 0 = omega arith in rw is (ap (λ k. put_file k first.body []) same)
body_files_more n (first ∷ parts) (suc i) part h is =
    let further : suc i + 1 ≡ suc (i + 1) = omega arith in
    let number : (n + 1) + i ≡ n + suc i = omega arith in
    let rest : body_files (n + 1) (take (i + 1) parts) ≡ body_files (n + 1) (take i parts) ++ put_file (n + suc i) part.body [] =
    body_files_more (n + 1) parts i part (omega arith) is ∙ ap (λ k. body_files (n + 1) (take i parts) ++ put_file k part.body []) number in
    rw further (ap (put_file n first.body) rest ∙ put_before n first.body (body_files (n + 1) (take i parts)) (put_file (n + suc i) part.body []))

pub files_more : (files : List FileBody) (parts : List CallPart) (i : ℕ) (part : CallPart) → i < length parts → part ≡ get_or parts i part
    → (files ++ body_files 1 (take i parts)) ++ put_file (i + 1) part.body [] ≡ files ++ body_files 1 (take (i + 1) parts)
files_more files parts i part h is =
    let number : 1 + i ≡ i + 1 = omega arith in
    append_assoc files (body_files 1 (take i parts)) (put_file (i + 1) part.body [])
    ∙ ap (λ rest. files ++ rest) (sym (body_files_more 1 parts i part h is ∙ ap (λ k. body_files 1 (take i parts) ++ put_file k part.body []) number))
