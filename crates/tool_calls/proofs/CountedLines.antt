-- The lines of `warnings` that count, one by one.
use Rattle.std.proofs.Common.{◌≡◌, ℕ, zero, suc, ◌+◌, ◌-◌, ◌≤◌, ◌<◌, List, [], ◌∷◌, ◌++◌, length, map, take, min, None, refl, ap, sym, ◌∙◌, arith, append_assoc}
use Rattle.std.specs.Prelude.{true, false, ◌==◌}
use Rattle.std.proofs.lemmas.List.{append-nil, length_push, take_min}
use Rattle.std.specs.List.{filter}
use Rattle.object_values.specs.declared.messages.Status.{Status}
use Rattle.object_values.specs.declared.calls.OwnLine.{OwnLine}
use Rattle.meaning_texts.specs.Limits.{message_length}
use Rattle.meaning_texts.specs.Lines.{cut_lines, without_cr, last_line, warning_lines}
use Rattle.object_values.specs.declared.jobs.Raw.{Raw}
use Rattle.meaning_calls.specs.Jobs.{warnings_file}
use Rattle.meaning_calls.specs.Outcomes.{at_level, has_byte, message_lines, file_in, warnings_of}

abbrev pub own_line : Status → List ℕ → OwnLine
own_line level text = at_level level (take message_length text)

-- the first so many lines of `warnings` that count, as messages
abbrev pub counted : Status → ℕ → List ℕ → List OwnLine
counted level count text = map (own_line level) (take count (filter has_byte (warning_lines text)))

abbrev pub counted_line : Status → List ℕ → List OwnLine
counted_line level line = map (own_line level) (filter has_byte (line ∷ []))

-- ---- what counts, line by line

own_lines_are : (level : Status) (lines : List (List ℕ)) → map (own_line level) lines ≡ map (at_level level) (map (take message_length) lines)
own_lines_are level [] = refl
own_lines_are level (line ∷ lines) = ap (λ rest. own_line level line ∷ rest) (own_lines_are level lines)

pub all_counted : (level : Status) (text : List ℕ) → counted level 1000 text ≡ map (at_level level) (message_lines text)
unfolding message_lines
all_counted level text = own_lines_are level (take 1000 (filter has_byte (warning_lines text)))

-- the full lines of a text with a line more
warning_lines_more : (text line rest : List ℕ) → cut_lines text ≡ record { full = line ∷ (cut_lines rest).full; last = (cut_lines rest).last }
    → warning_lines text ≡ without_cr line ∷ warning_lines rest
unfolding warning_lines
warning_lines_more text line rest cut = rw cut refl

warning_lines_last : (text : List ℕ) → cut_lines text ≡ record { full = []; last = text } → warning_lines text ≡ last_line text
unfolding warning_lines
warning_lines_last text cut = rw cut refl

-- one line more is counted, where there is room for one
count_by : (level : Status) (lines : List OwnLine) (line : List ℕ) (rest : List (List ℕ)) → length lines < 1000
    → let all = lines ++ counted_line level line in
    (all ++ map (own_line level) (take (1000 - length all) (filter has_byte rest)) ≡ lines ++ map (own_line level) (take (1000 - length lines) (filter has_byte (line ∷ rest)))) × (length all ≤ 1000)
count_by level lines [] rest room = rw (append-nil lines) (refl, omega arith)
count_by level lines (b ∷ line) rest room =
    let longer : length (lines ++ own_line level (b ∷ line) ∷ []) ≡ length lines + 1 = length_push lines (own_line level (b ∷ line)) in
    let less : 1000 - length lines ≡ suc (1000 - length (lines ++ own_line level (b ∷ line) ∷ [])) = omega arith in
    (rw less (append_assoc lines (own_line level (b ∷ line) ∷ []) (map (own_line level) (take (1000 - length (lines ++ own_line level (b ∷ line) ∷ [])) (filter has_byte rest)))), omega arith)

take_none : (count : ℕ) → take {A = List ℕ} count [] ≡ []
take_none zero = refl
take_none (suc count) = refl

last_counts : (text : List ℕ) → filter has_byte (last_line text) ≡ filter has_byte (text ∷ [])
last_counts [] = refl
last_counts (b ∷ text) = refl

-- ---- the steps of the count

-- what was counted, and what is left to count, make the whole
pub record IsCounting (level : Status) (all lines : List OwnLine) (rest : List ℕ) : Type 0 where
  pub whole : lines ++ counted level (1000 - length lines) rest ≡ all
  pub within : length lines ≤ 1000

pub count_more : (level : Status) (whole lines more : List OwnLine) (text line rest : List ℕ) → IsCounting level whole lines text → length lines < 1000
    → cut_lines text ≡ record { full = line ∷ (cut_lines rest).full; last = (cut_lines rest).last }
    → more ≡ lines ++ counted_line level (without_cr line) → IsCounting level whole more rest
count_more level whole lines more text line rest counting room cut is =
    let step = count_by level lines (without_cr line) (warning_lines rest) room in
    let those : lines ++ map (own_line level) (take (1000 - length lines) (filter has_byte (without_cr line ∷ warning_lines rest))) ≡ whole =
    ap (λ texts. lines ++ map (own_line level) (take (1000 - length lines) (filter has_byte texts))) (sym (warning_lines_more text line rest cut)) ∙ counting.whole in
    rw is (record { whole = step.0 ∙ those; within = step.1 })

pub count_last : (level : Status) (whole lines : List OwnLine) (text : List ℕ) → IsCounting level whole lines text → length lines < 1000
    → cut_lines text ≡ record { full = []; last = text } → lines ++ counted_line level text ≡ whole
count_last level whole lines text counting room cut =
    let step = count_by level lines text [] room in
    let all = lines ++ counted_line level text in
    let none : map (own_line level) (take (1000 - length all) []) ≡ [] = ap (map (own_line level)) (take_none (1000 - length all)) in
    let those : filter has_byte (warning_lines text) ≡ filter has_byte (text ∷ []) = ap (filter has_byte) (warning_lines_last text cut) ∙ last_counts text in
    sym (append-nil all) ∙ ap (λ l. all ++ l) (sym none) ∙ step.0 ∙ ap (λ texts. lines ++ map (own_line level) (take (1000 - length lines) texts)) (sym those) ∙ counting.whole

pub count_all : (level : Status) (whole lines : List OwnLine) (rest : List ℕ) → IsCounting level whole lines rest → 1000 ≤ length lines → lines ≡ whole
count_all level whole lines rest counting full =
    let none : 1000 - length lines ≡ 0 = omega arith in
    sym (append-nil lines) ∙ ap (λ n. lines ++ counted level n rest) (sym none) ∙ counting.whole

-- ---- one line

has_some : (line : List ℕ) → (length line == 0) ≡ false → has_byte line ≡ true
has_some [] some = cc
has_some (b ∷ line) some = refl

pub one_counted : (level : Status) (line text : List ℕ) → (length line == 0) ≡ false → text ≡ take (min 1000 (length line)) line → at_level level text ∷ [] ≡ counted_line level line
one_counted level line text some is = rw (has_some line some) (ap (λ t. at_level level t ∷ []) (is ∙ take_min 1000 line))

pub none_left : (level : Status) (raw : Raw) → None ≡ file_in warnings_file raw.files → map (at_level level) (message_lines (warnings_of raw)) ≡ []
unfolding message_lines warning_lines
none_left level raw none = rw (sym none) refl
