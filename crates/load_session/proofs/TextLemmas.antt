-- The texts of a load and their lengths, and the steps that put them.
use Rattle.std.proofs.Common.{◌≡◌, ℕ, zero, suc, ◌+◌, ◌*◌, ◌≤◌, ◌<◌, ◌^◌, List, [], ◌∷◌, ◌++◌, length, map, drop, sym, ap, ◌∙◌, arith, add-one}
use Rattle.std.specs.Prelude.{decimal, codes}
use Rattle.std.specs.List.{flat_map, range_with_len}
use Rattle.std.proofs.lemmas.Fmt.{length-decimal-le}
use Rattle.std.proofs.lemmas.Grind.{flat_map-append}
use Rattle.std.proofs.lemmas.List.{append-nil, append_assoc, length-append, take-append-drop}
use Rattle.std.proofs.lemmas.List.FromFn.{map-range_with_len_more, take-map-range_with_len}
use Rattle.meaning_texts.specs.Lines.{with_lf}
use Rattle.meaning_graph.specs.Graphs.{Text}
use Rattle.load_session.specs.Session.{LoadStep, header_text, unit_name, unit_text, header_of, list_text}

-- ---- lines

abbrev line_of : ℕ → Text
line_of number = codes "u" ++ decimal number ++ codes ".c\n"

-- ---- one more

range_more : (a n : ℕ) → range_with_len a (suc n) ≡ range_with_len a n ++ (a + n) ∷ []
range_more a zero = ap (λ (k : ℕ). k ∷ []) (omega arith)
range_more a (suc n) = ap (λ (l : List ℕ). a ∷ l) (range_more (a + 1) n ∙ ap (λ (k : ℕ). range_with_len (a + 1) n ++ k ∷ []) (omega arith))

next_line : (n : ℕ) → flat_map (λ number. with_lf (unit_name number)) ((1 + n) ∷ []) ≡ line_of (n + 1)
next_line n = append-nil (with_lf (unit_name (1 + n))) ∙ ap (λ k. with_lf (unit_name k)) (omega arith) ∙ append_assoc (codes "u" ++ decimal (n + 1)) (codes ".c") (codes "\n")

list_next : (n : ℕ) → list_text (suc n) ≡ list_text n ++ line_of (n + 1)
list_next n =
    ap (flat_map (λ number. with_lf (unit_name number))) (range_more 1 n)
    ∙ flat_map-append (λ number. with_lf (unit_name number)) (range_with_len 1 n) ((1 + n) ∷ [])
    ∙ ap (λ (l : Text). list_text n ++ l) (next_line n)

pub list_more : (n : ℕ) → list_text (n + 1) ≡ list_text n ++ (codes "u" ++ decimal (n + 1) ++ codes ".c\n")
list_more n = ap list_text (add-one n) ∙ list_next n

-- the steps up to one more
pub steps_more : (f : ℕ → LoadStep) (count : ℕ) → map f (range_with_len 1 (count + 1)) ≡ map f (range_with_len 1 count) ++ f (count + 1) ∷ []
steps_more f count = map-range_with_len_more f 1 count (count + 1) (omega arith)

-- and those after them
pub steps_split : (f : ℕ → LoadStep) (count all : ℕ) → count ≤ all → map f (range_with_len 1 all) ≡ map f (range_with_len 1 count) ++ drop count (map f (range_with_len 1 all))
steps_split f count all le = sym (take-append-drop count (map f (range_with_len 1 all))) ∙ ap (λ (l : List LoadStep). l ++ drop count (map f (range_with_len 1 all))) (take-map-range_with_len f 1 all count le)

-- ---- lengths

number_short : (n : ℕ) → n < 2 ^ 32 → length (decimal n) ≤ 10
number_short n small = length-decimal-le 10 n (omega arith) (omega arith) (omega arith)

pub header_short : (number value : ℕ) → number < 2 ^ 32 → value < 2 ^ 32 → length (header_text number value) ≤ 16777216
header_short number value a b = let x = number_short number a in let y = number_short value b in simp length-append (omega arith)

pub unit_short : (number : ℕ) → number < 2 ^ 32 → length (unit_text number) ≤ 16777216
unit_short number a = let x = number_short number a in let y = number_short (header_of number) (omega arith) in simp length-append (omega arith)

line_short : (number : ℕ) → number < 2 ^ 32 → length (line_of number) ≤ 14
line_short number a = let x = number_short number a in simp length-append (omega arith)

list_length : (n : ℕ) → n < 2 ^ 32 → length (list_text n) ≤ 14 * n
list_length zero small = omega arith
list_length (suc n) small =
    let before : length (list_text n) ≤ 14 * n = list_length n (omega arith) in
    let line : length (line_of (n + 1)) ≤ 14 = line_short (n + 1) (omega arith) in
    let all : length (list_text (suc n)) ≡ length (list_text n) + length (line_of (n + 1)) = ap length (list_next n) ∙ length-append (list_text n) (line_of (n + 1)) in
    omega arith

pub list_short : (units : ℕ) → units ≤ 2000 → length (list_text units) ≤ 16777216
list_short units few = let all = list_length units (omega arith) in omega arith
