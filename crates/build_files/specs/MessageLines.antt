-- The lines in which a person is shown messages.
use Rattle.std.specs.Prelude.{ℕ, Bool, false, not, ◌&&◌, ◌||◌, ◌==◌, List, [], ◌∷◌, ◌++◌, drop, slice_index, map, fold, flat_map, codes, bytes_eq, if◌then◌else◌}
use Rattle.std.specs.List.{list_any}
use Rattle.object_values.specs.declared.messages.Message.{Message}
use Rattle.meaning_texts.specs.Lines.{with_lf}
use Rattle.meaning_commands.specs.Replies.{status_word}
use Rattle.shown_texts.specs.Shown.{shown}

-- ---- the place that a text begins with

-- a colon comes before the first space
abbrev pub reaches_colon : List ℕ → Bool
reaches_colon [] = false
reaches_colon (b ∷ rest) = b == 58 || (not (b == 32) && reaches_colon rest)

-- a path with no space and a colon after it, as in `src/main.c:17:`; the path doesn't begin at the root
abbrev pub begins_with_path : List ℕ → Bool
begins_with_path text =
    not (slice_index text 0 == 58) && not (slice_index text 0 == 47) && reaches_colon text

-- such a path after `./`
abbrev pub begins_with_here : List ℕ → Bool
begins_with_here text =
    slice_index text 0 == 46 && slice_index text 1 == 47 && begins_with_path (drop 2 text)

-- the text without this `./`
abbrev pub without_here : List ℕ → List ℕ
without_here text = if begins_with_here text then drop 2 text else text

-- ---- lines

-- `LEVEL LABEL `
abbrev pub label_words : Message → List ℕ
label_words m = status_word m.level ++ codes " " ++ shown m.label ++ codes " "

-- the text alone, whose place an editor reads; or the whole text after its label
abbrev pub message_line : Bool → Message → List ℕ
message_line labelled m =
    if labelled then label_words m ++ shown m.text else shown (without_here m.text)

-- the lines, and one more after them where it is new
abbrev pub with_line : List (List ℕ) → List ℕ → List (List ℕ)
with_line lines line = if list_any (bytes_eq line) lines then lines else lines ++ line ∷ []

-- each line once, where it stands first
abbrev pub firsts : List (List ℕ) → List (List ℕ)
firsts lines = fold with_line [] lines

-- what is written of messages
abbrev pub message_lines : Bool → List Message → List ℕ
message_lines labelled messages = flat_map with_lf (firsts (map (message_line labelled) messages))
