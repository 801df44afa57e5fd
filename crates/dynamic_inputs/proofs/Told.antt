-- The lines of a name among those that were told.
use Rattle.std.proofs.Common.{◌≡◌, true, false, List, [], ◌∷◌, ◌++◌, inl, inr, sym, ap, ◌∙◌, refl, cond}
use Rattle.std.specs.Prelude.{bytes_eq}
use Rattle.std.specs.Cmp.Lexicographic.{bytes_decides}
use Rattle.meaning_texts.specs.Lists.{IsIn}
use Rattle.meaning_texts.proofs.Lemmas.{in_left, in_right, never_both}
use Rattle.meaning_graph.specs.Graphs.{Text}
use Rattle.dynamic_inputs.specs.Closures.{ToldLines, lines_told, all_lines, told_names}

-- no line is lost where more is told
pub lines_stay : (x z : Text) (told more : ToldLines) → IsIn z (lines_told told x) → IsIn z (lines_told (told ++ more) x)
lines_stay x z [] more h = absurd h
lines_stay x z (entry ∷ told) more h = (elim (bytes_eq x entry.0) as (λ b. IsIn z (cond b entry.1 (lines_told told x)) → IsIn z (cond b entry.1 (lines_told (told ++ more) x))) [ true ↦ λ k. k | false ↦ λ k. lines_stay x z told more k ]) h

-- a name that wasn't told has the lines that it is told now
pub lines_of_new : (x : Text) (lines : List Text) (told : ToldLines) → (IsIn x (told_names told) → ⊥) → lines_told (told ++ (x, lines) ∷ []) x ≡ lines
lines_of_new x lines [] new = ap (λ b. cond b lines []) ((bytes_decides x x).1 refl)
lines_of_new x lines (entry ∷ told) new = (elim (bytes_eq x entry.0) as (λ b. bytes_eq x entry.0 ≡ b → cond b entry.1 (lines_told (told ++ (x, lines) ∷ []) x) ≡ lines) [
  | true ↦ λ e. absurd (new (inl ((bytes_decides x entry.0).0 e)))
  | false ↦ λ e. lines_of_new x lines told (λ h. new (inr h))
]) refl

-- the lines of a name are some of all lines
pub among_all : (x z : Text) (told : ToldLines) → IsIn z (lines_told told x) → IsIn z (all_lines told)
among_all x z [] h = absurd h
among_all x z (entry ∷ told) h = (elim (bytes_eq x entry.0) as (λ b. IsIn z (cond b entry.1 (lines_told told x)) → IsIn z (entry.1 ++ all_lines told)) [
  | true ↦ λ k. in_left z entry.1 (all_lines told) k
  | false ↦ λ k. in_right z entry.1 (all_lines told) (among_all x z told k)
]) h

-- a told name has the lines of the function by which it was told
pub lines_by : (f : Text → List Text) (x : Text) (told : ToldLines) → ((y : Text) (lines : List Text) → IsIn (y, lines) told → lines ≡ f y) → IsIn x (told_names told) → lines_told told x ≡ f x
lines_by f x [] by h = absurd h
lines_by f x (entry ∷ told) by h = (elim (bytes_eq x entry.0) as (λ b. bytes_eq x entry.0 ≡ b → cond b entry.1 (lines_told told x) ≡ f x) [
  | true ↦ λ e. by entry.0 entry.1 (inl refl) ∙ ap f (sym ((bytes_decides x entry.0).0 e))
  | false ↦ λ e. lines_by f x told (λ y lines k. by y lines (inr k)) (elim h [ inl q ↦ never_both (bytes_eq x entry.0) ((bytes_decides x entry.0).1 q) e | inr k ↦ k ])
]) refl
