-- Made files over those of a tree.
use Rattle.std.proofs.Common.{◌≡◌, ℕ, Bool, true, false, cond, List, [], ◌∷◌, Option, Some, None, Result, Ok, Err, IfOk, refl, ap, sym, ◌∙◌, nat_eq, length, min, take, arith}
use Rattle.std.proofs.lemmas.List.{take_min}
use Rattle.std.specs.Option.{option_map}
use Rattle.std.specs.Ordering.{nat_cmp, eq_by_cmp}
use Rattle.std.specs.Cmp.{eq_by_cmp_equiv}
use Rattle.std.specs.Cmp.Lexicographic.{slice_cmp, nat_list_cmp_total, texts_ties, pointwise}
use Rattle.std.specs.FinMap.{get, get-insert}
use Rattle.object_values.specs.declared.jobs.FileBody.{FileBody}
use Rattle.odin_outside.specs.Files.{Files, IsGiven, given_file_limit}
use Rattle.project_kits.specs.Trees.{made_of, laid_over}

-- the body of what is found, or else what is under it
abbrev over : Option FileBody → Option (List ℕ) → Option (List ℕ)
over None under = under
over (Some file) under = Some file.body

ties : (key name : List ℕ) → eq_by_cmp (slice_cmp nat_cmp) name key ≡ pointwise nat_eq key name
ties key name = sym ((eq_by_cmp_equiv nat_list_cmp_total).symm key name) ∙ sym (texts_ties key name)

over_cond : (b : Bool) (file : FileBody) (rest : Option FileBody) (under : Option (List ℕ)) → cond b (Some file.body) (over rest under) ≡ over (cond b (Some file) rest) under
over_cond true file rest under = refl
over_cond false file rest under = refl

laid : (made : List FileBody) (files : Files) (name : List ℕ) → get (laid_over made files) name ≡ over (made_of made name) (get files name)
laid [] files name = refl
laid (file ∷ made) files name =
    get-insert nat_list_cmp_total (laid_over made files) file.name file.body name
    ∙ ap (λ b. cond b (Some file.body) (get (laid_over made files) name)) (ties file.name name)
    ∙ ap (λ rest. cond (pointwise nat_eq file.name name) (Some file.body) rest) (laid made files name)
    ∙ over_cond (pointwise nat_eq file.name name) file (made_of made name) (get files name)

-- a made file is given in place of what is under it
pub gives_made : (made : List FileBody) (files : Option Files) (name given : List ℕ) (file : FileBody) → made_of made name ≡ Some file
    → given ≡ take given_file_limit file.body → IsGiven (option_map (laid_over made) files) name (Some given)
gives_made made None name given file found is = tt
gives_made made (Some files) name given file found is =
    ap Some is ∙ sym (ap (option_map (λ body. take given_file_limit body)) (laid made files name ∙ ap (λ f. over f (get files name)) found))

-- and where none is made, what the tree gives
pub gives_under : (made : List FileBody) (files : Option Files) (name : List ℕ) (given : Option (List ℕ)) → made_of made name ≡ None
    → IsGiven files name given → IsGiven (option_map (laid_over made) files) name given
gives_under made None name given none is = tt
gives_under made (Some files) name given none is =
    is ∙ sym (ap (option_map (λ body. take given_file_limit body)) (laid made files name ∙ ap (λ f. over f (get files name)) none))

-- the same of an answer
pub result_under : {E : Type 0} (made : List FileBody) (files : Option Files) (name : List ℕ) (r : Result (Option (List ℕ)) E) → made_of made name ≡ None
    → IfOk r (IsGiven files name) → IfOk r (IsGiven (option_map (laid_over made) files) name)
result_under made files name (Ok given) none is = gives_under made files name given none is
result_under made files name (Err e) none is = tt

cut_body : (given stored body : List ℕ) (n : ℕ) → given ≡ take n stored → n ≡ min (length stored) given_file_limit → stored ≡ body → given ≡ take given_file_limit body
cut_body given stored body n is least same =
    let turned : n ≡ min given_file_limit (length stored) = omega arith in
    is ∙ ap (λ k. take k stored) turned ∙ take_min given_file_limit stored ∙ ap (λ bytes. take given_file_limit bytes) same

-- a body cut at the limit
pub cut_result : {E : Type 0} (r : Result (List ℕ) E) (stored body : List ℕ) (n : ℕ) → IfOk r (λ b. b ≡ take n stored) → n ≡ min (length stored) given_file_limit → stored ≡ body
    → IfOk r (λ b. b ≡ take given_file_limit body)
cut_result (Ok given) stored body n is least same = cut_body given stored body n is least same
cut_result (Err e) stored body n is least same = tt
