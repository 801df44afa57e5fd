-- The lines of the sources, one after another.
use Rattle.std.proofs.Common.{◌≡◌, ℕ, ◌+◌, ◌<◌, ◌≤◌, List, [], ◌∷◌, ◌++◌, map, take, length, get_or, ap, sym, ◌∙◌, arith, inl, inr}
use Rattle.std.specs.Prelude.{Some, None}
use Rattle.std.specs.FinMap.{entries}
use Rattle.std.proofs.lemmas.List.{length-append, map_more, take_all}
use Rattle.std.proofs.lemmas.Option.{slice_get_within, slice_get_cases, get_or_from_slice_get}
use Rattle.object_values.specs.Texts.{Text, Texts, entry_at}
use Rattle.odin_answers.specs.Edits.{source_line, source_lines}

-- a source is there
pub within : (texts : Texts) (place : ℕ) (source : Text × Text) → entry_at texts place ≡ Some source → place < length (entries texts)
within texts place source there = slice_get_within (entries texts) place source there

-- one more line
pub one_more_line : (texts : Texts) (place : ℕ) (source : Text × Text) (lines : List (List ℕ)) (line : List ℕ) → entry_at texts place ≡ Some source → lines ≡ map source_line (take place (entries texts)) → line ≡ source_line source
    → lines ++ line ∷ [] ≡ map source_line (take (place + 1) (entries texts))
one_more_line texts place source lines line there before is =
    let same : get_or (entries texts) place source ≡ source = get_or_from_slice_get (entries texts) place source source there in
    ap (λ (x : List ℕ). lines ++ x ∷ []) (is ∙ ap source_line (sym same))
    ∙ ap (λ (xs : List (List ℕ)). xs ++ source_line (get_or (entries texts) place source) ∷ []) before
    ∙ sym (map_more source_line (entries texts) place source (within texts place source there))

-- after it
pub next_within : (texts : Texts) (lines lines' : List (List ℕ)) (line : List ℕ) (source : Text × Text) → entry_at texts (length lines) ≡ Some source → lines' ≡ lines ++ line ∷ [] → length lines' ≤ length (entries texts)
next_within texts lines lines' line source there is =
    let size : length lines' ≡ length lines + 1 = ap length is ∙ length-append lines (line ∷ []) in
    let inside = within texts (length lines) source there in
    omega arith

pub next_lines : (texts : Texts) (lines lines' : List (List ℕ)) (line : List ℕ) (source : Text × Text) → entry_at texts (length lines) ≡ Some source → lines ≡ map source_line (take (length lines) (entries texts)) → line ≡ source_line source
    → lines' ≡ lines ++ line ∷ [] → lines' ≡ map source_line (take (length lines') (entries texts))
next_lines texts lines lines' line source there before line_is is =
    let size : length lines' ≡ length lines + 1 = ap length is ∙ length-append lines (line ∷ []) in
    is ∙ one_more_line texts (length lines) source lines line there before line_is ∙ ap (λ (n : ℕ). map source_line (take n (entries texts))) (sym size)

-- no source is left
pub all_lines : (texts : Texts) (lines : List (List ℕ)) → entry_at texts (length lines) ≡ None → lines ≡ map source_line (take (length lines) (entries texts)) → lines ≡ source_lines texts
all_lines texts lines none before = elim (slice_get_cases (entries texts) (length lines)).1 [
  | inl there ↦ let clash : None ≡ Some there.0 = sym none ∙ there.2 in cc
  | inr past ↦ before ∙ ap (map source_line) (take_all (length lines) (entries texts) past.0)
]
