-- Words, numbers and lines, whose texts tell what they spell.
use Rattle.std.proofs.Common.{◌≡◌, ◌≢◌, ℕ, ◌<◌, ◌≤◌, false, List, [], ◌∷◌, ◌++◌, length, sym, ap, ◌∙◌, subst, refl, arith, append_assoc, decimal}
use Rattle.std.specs.Char.{digit_value}
use Rattle.std.specs.Str.Parse.{AllDigits}
use Rattle.std.proofs.lemmas.Bool.{and_parts}
use Rattle.std.proofs.lemmas.Fmt.{decimal_is_IsNumeral, decimal_injective}
use Rattle.meaning_texts.specs.Classes.{IsName, IsId, is_name_byte, is_key_byte}
use Rattle.meaning_texts.specs.Tests.{is_name, is_id}
use Rattle.meaning_texts.specs.Lists.{HasNo}
use Rattle.meaning_texts.specs.Lines.{HasNoLf, with_lf}
use Rattle.meaning_texts.proofs.Lemmas.{never_both, word_decides, id_decides, HasNo-pass, HasNo-split, same_cut}
use Rattle.meaning_commands.specs.Replies.{word_and_number}
use Rattle.meaning_commands.specs.Formed.{IsSmall, IsMeasured, IsTold}
use Rattle.odin_bytes.proofs.Lemmas.{has_no}

-- ---- bytes that don't stand there

pub HasNo-front : (d : ℕ) (xs ys : List ℕ) → HasNo d (xs ++ ys) → HasNo d xs
HasNo-front d [] ys h = tt
HasNo-front d (x ∷ xs) ys h = (h.0, HasNo-front d xs ys h.1)

pub HasNo-back : (d : ℕ) (xs ys : List ℕ) → HasNo d (xs ++ ys) → HasNo d ys
HasNo-back d [] ys h = h
HasNo-back d (x ∷ xs) ys h = HasNo-back d xs ys h.1

no_digit : (b : ℕ) → 10 ≤ digit_value b → (digits : List ℕ) → AllDigits 10 digits → HasNo b digits
no_digit b high [] all = tt
no_digit b high (c ∷ digits) all =
    ((λ (e : c ≡ b). let small : digit_value b < 10 = subst (λ (n : ℕ). digit_value n < 10) e all.0 in omega arith), no_digit b high digits all.1)

pub decimal_has_no : (b number : ℕ) → 10 ≤ digit_value b → IsSmall number → HasNo b (decimal number)
decimal_has_no b number high small = let numeral = decimal_is_IsNumeral number small in no_digit b high (decimal number) (let digits = numeral.0 in digits.1)

pub no_lf_in_decimal : (number : ℕ) → IsSmall number → HasNoLf (decimal number)
no_lf_in_decimal number small = decimal_has_no 10 number (omega arith) small

pub no_space_in_decimal : (number : ℕ) → IsSmall number → HasNo 32 (decimal number)
no_space_in_decimal number small = decimal_has_no 32 number (omega arith) small

pub id_has_no : (b : ℕ) → is_key_byte b ≡ false → (name : List ℕ) → IsId name → HasNo b name
id_has_no b never name id = let test = (word_decides is_key_byte name).1 id.key in HasNo-pass is_key_byte b never name (let parts = and_parts _ _ test in parts.1)

-- ---- lines

pub behind_lf : (line behind : List ℕ) → with_lf line ++ behind ≡ line ++ 10 ∷ behind
behind_lf line behind = append_assoc line (10 ∷ []) behind

-- two first lines are one, and so is what is after them
pub same_line : (a b behind rest : List ℕ) → HasNoLf a → HasNoLf b → with_lf a ++ behind ≡ with_lf b ++ rest → (a ≡ b) × (behind ≡ rest)
same_line a b behind rest no_a no_b is = same_cut 10 a b behind rest no_a no_b (sym (behind_lf a behind) ∙ is ∙ behind_lf b rest)

-- the line that was cut is that of the text
pub first_is : (text line behind other rest : List ℕ) → text ≡ line ++ 10 ∷ behind → HasNoLf line → HasNoLf other → text ≡ with_lf other ++ rest → (line ≡ other) × (behind ≡ rest)
first_is text line behind other rest is no_lf no_other reads = same_cut 10 line other behind rest no_lf no_other (sym is ∙ reads ∙ behind_lf other rest)

pub lines_told : IsTold with_lf HasNoLf
lines_told a b behind rest no_a no_b is = same_line a b behind rest no_a no_b is

pub numbers_told : IsTold (λ number. with_lf (decimal number)) IsSmall
numbers_told a b behind rest small_a small_b is =
    let both = same_line (decimal a) (decimal b) behind rest (no_lf_in_decimal a small_a) (no_lf_in_decimal b small_b) is in
    (decimal_injective a b small_a small_b both.0, both.1)

-- no line where no LF stands
pub no_line : (text line behind : List ℕ) → HasNoLf text → text ≢ with_lf line ++ behind
no_line text line behind none is = HasNo-split 10 line behind (subst HasNoLf (is ∙ behind_lf line behind) none)

-- ---- words after a space

pub counted_is : (word : List ℕ) (number : ℕ) (behind : List ℕ) → with_lf (word_and_number word number) ++ behind ≡ word ++ 32 ∷ (with_lf (decimal number) ++ behind)
counted_is word number behind =
    ap (λ l. l ++ behind) (append_assoc (word ++ 32 ∷ []) (decimal number) (10 ∷ []))
    ∙ append_assoc (word ++ 32 ∷ []) (with_lf (decimal number)) behind
    ∙ append_assoc word (32 ∷ []) (with_lf (decimal number) ++ behind)

-- ---- bodies of one length

pub same_front : (a b behind rest : List ℕ) → length a ≡ length b → a ++ behind ≡ b ++ rest → (a ≡ b) × (behind ≡ rest)
same_front [] [] behind rest long is = (refl, is)
same_front [] (y ∷ b) behind rest long is = absurd (omega (arith, long))
same_front (x ∷ a) [] behind rest long is = absurd (omega (arith, long))
same_front (x ∷ a) (y ∷ b) behind rest long is =
    let heads : x ≡ y = cc in
    let rests : a ++ behind ≡ b ++ rest = cc in
    let both = same_front a b behind rest (omega (arith, long)) rests in
    ((λ i. heads i ∷ both.0 i), both.1)

behind_same : (b behind rest : List ℕ) → 10 ∷ behind ≡ 10 ∷ rest → behind ≡ rest
behind_same b behind rest is = cc

pub same_body : (a b behind rest : List ℕ) → length a ≡ length b → with_lf a ++ behind ≡ with_lf b ++ rest → (a ≡ b) × (behind ≡ rest)
same_body a b behind rest long is =
    let both = same_front a b (10 ∷ behind) (10 ∷ rest) long (sym (behind_lf a behind) ∙ is ∙ behind_lf b rest) in
    (both.0, behind_same a behind rest both.1)

-- a body after the line of its length
abbrev pub sized : List ℕ → List ℕ
sized body = with_lf (decimal (length body)) ++ with_lf body

pub bodies_told : IsTold sized (λ body. IsSmall (length body))
bodies_told a b behind rest small_a small_b is =
    let first = numbers_told (length a) (length b) (with_lf a ++ behind) (with_lf b ++ rest) small_a small_b
    (sym (append_assoc (with_lf (decimal (length a))) (with_lf a) behind) ∙ is ∙ append_assoc (with_lf (decimal (length b))) (with_lf b) rest) in
    same_body a b behind rest first.0 first.1

-- ---- names on a line

-- the line is no name
pub not_named : (text line behind : List ℕ) → text ≡ line ++ 10 ∷ behind → HasNoLf line → is_name line ≡ false → (name rest : List ℕ) → IsName name → text ≢ with_lf name ++ rest
not_named text line behind is no_lf wrong name rest good reads =
    let same = first_is text line behind name rest is no_lf (has_no 10 refl name good) reads in
    never_both (is_name line) (ap is_name same.0 ∙ (word_decides is_name_byte name).1 good) wrong

pub not_identified : (text line behind : List ℕ) → text ≡ line ++ 10 ∷ behind → HasNoLf line → is_id line ≡ false → (name rest : List ℕ) → IsId name → text ≢ with_lf name ++ rest
not_identified text line behind is no_lf wrong name rest good reads =
    let same = first_is text line behind name rest is no_lf (id_has_no 10 refl name good) reads in
    never_both (is_id line) (ap is_id same.0 ∙ (id_decides name).1 good) wrong

-- no sized body where no number stands, or where none of this size does
pub no_size : (text : List ℕ) → ((number : ℕ) (behind : List ℕ) → IsSmall number → text ≢ with_lf (decimal number) ++ behind) → (body behind : List ℕ) → IsSmall (length body) → text ≢ sized body ++ behind
no_size text none body behind small is = none (length body) (with_lf body ++ behind) small (is ∙ append_assoc (with_lf (decimal (length body))) (with_lf body) behind)

pub no_sized : (text rest : List ℕ) (size : ℕ) → text ≡ with_lf (decimal size) ++ rest → IsSmall size → ((body behind : List ℕ) → length body ≡ size → rest ≢ with_lf body ++ behind)
    → (body behind : List ℕ) → IsSmall (length body) → text ≢ sized body ++ behind
no_sized text rest size is small none body behind few reads =
    let both = numbers_told size (length body) rest (with_lf body ++ behind) small few (sym is ∙ reads ∙ append_assoc (with_lf (decimal (length body))) (with_lf body) behind) in
    none body behind (sym both.0) both.1

-- a body after its size
pub sized_read : (text rest body behind : List ℕ) (size : ℕ) → text ≡ with_lf (decimal size) ++ rest → length body ≡ size → rest ≡ with_lf body ++ behind → text ≡ sized body ++ behind
sized_read text rest body behind size is long rest_is =
    is ∙ ap (λ n. with_lf (decimal n) ++ rest) (sym long) ∙ ap (λ l. with_lf (decimal (length body)) ++ l) rest_is ∙ sym (append_assoc (with_lf (decimal (length body))) (with_lf body) behind)

-- ---- a name and a number

pub no_measure_space : (text : List ℕ) → HasNo 32 text → (said : List ℕ × ℕ) (behind : List ℕ) → IsMeasured said.0 said.1 → text ≢ with_lf (word_and_number said.0 said.1) ++ behind
no_measure_space text none said behind good reads = HasNo-split 32 said.0 _ (subst (HasNo 32) (reads ∙ counted_is said.0 said.1 behind) none)

measure_cut : (text name rest : List ℕ) → text ≡ name ++ 32 ∷ rest → HasNo 32 name → (said : List ℕ × ℕ) (behind : List ℕ) → IsMeasured said.0 said.1 → text ≡ with_lf (word_and_number said.0 said.1) ++ behind
    → (name ≡ said.0) × (rest ≡ with_lf (decimal said.1) ++ behind)
measure_cut text name rest is spaceless said behind good reads =
    same_cut 32 name said.0 rest (with_lf (decimal said.1) ++ behind) spaceless (has_no 32 refl said.0 good.named) (sym is ∙ reads ∙ counted_is said.0 said.1 behind)

pub no_measure_name : (text name rest : List ℕ) → text ≡ name ++ 32 ∷ rest → HasNo 32 name → is_name name ≡ false → (said : List ℕ × ℕ) (behind : List ℕ) → IsMeasured said.0 said.1 → text ≢ with_lf (word_and_number said.0 said.1) ++ behind
no_measure_name text name rest is spaceless wrong said behind good reads =
    let both = measure_cut text name rest is spaceless said behind good reads in
    never_both (is_name name) (ap is_name both.0 ∙ (word_decides is_name_byte said.0).1 good.named) wrong

pub no_measure : (text name rest : List ℕ) → text ≡ name ++ 32 ∷ rest → HasNo 32 name → ((number : ℕ) (behind : List ℕ) → IsSmall number → rest ≢ with_lf (decimal number) ++ behind)
    → (said : List ℕ × ℕ) (behind : List ℕ) → IsMeasured said.0 said.1 → text ≢ with_lf (word_and_number said.0 said.1) ++ behind
no_measure text name rest is spaceless none said behind good reads =
    let both = measure_cut text name rest is spaceless said behind good reads in none said.1 behind good.small both.1

pub measure_read : (text name rest behind : List ℕ) (count : ℕ) → text ≡ name ++ 32 ∷ rest → rest ≡ with_lf (decimal count) ++ behind → text ≡ with_lf (word_and_number name count) ++ behind
measure_read text name rest behind count is rest_is = is ∙ ap (λ l. name ++ 32 ∷ l) rest_is ∙ sym (counted_is name count behind)
