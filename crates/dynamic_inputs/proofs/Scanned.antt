-- The names among lines, one line after another.
use Rattle.std.proofs.Common.{◌≡◌, ℕ, true, false, List, [], ◌∷◌, ◌++◌, Some, None, inl, inr, sym, ap, ◌∙◌, cond, filter, append_assoc}
use Rattle.std.proofs.lemmas.Bool.{cases_Bool}
use Rattle.meaning_texts.specs.Classes.{is_name_byte}
use Rattle.meaning_texts.specs.Tests.{is_name}
use Rattle.meaning_texts.specs.Lines.{lines_of}
use Rattle.meaning_texts.proofs.Lemmas.{word_decides}
use Rattle.odin_bytes.specs.Words.{MayName}

-- a line that is a name is the next one
pub named_line : (said names : List (List ℕ)) (rest line behind name : List ℕ) → said ≡ names ++ filter is_name (lines_of rest) → lines_of rest ≡ line ∷ lines_of behind → MayName line (Some name) → said ≡ (names ++ name ∷ []) ++ filter is_name (lines_of behind)
named_line said names rest line behind name is first named =
    let others : List (List ℕ) = filter is_name (lines_of behind) in
    let passes : is_name line ≡ true = ap is_name (sym named.0) ∙ (word_decides is_name_byte name).1 named.1 in
    is
    ∙ (ap (λ lines. names ++ filter is_name lines) first
    ∙ (ap (λ b. names ++ cond b (line ∷ others) others) passes
    ∙ (ap (λ x. names ++ (x ∷ others)) (sym named.0)
    ∙ sym (append_assoc names (name ∷ []) others))))

-- every other line is passed over
pub other_line : (said names : List (List ℕ)) (rest line behind : List ℕ) → said ≡ names ++ filter is_name (lines_of rest) → lines_of rest ≡ line ∷ lines_of behind → MayName line None → said ≡ names ++ filter is_name (lines_of behind)
other_line said names rest line behind is first other =
    let others : List (List ℕ) = filter is_name (lines_of behind) in
    let fails : is_name line ≡ false = elim (cases_Bool (is_name line)) [ inl e ↦ absurd (other ((word_decides is_name_byte line).0 e)) | inr e ↦ e ] in
    is ∙ (ap (λ lines. names ++ filter is_name lines) first ∙ ap (λ b. names ++ cond b (line ∷ others) others) fails)
