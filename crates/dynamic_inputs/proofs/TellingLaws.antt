-- What was told by a function leads to the names to which that function leads.
use Rattle.std.proofs.Common.{◌≡◌, true, false, List, [], ◌∷◌, Some, inl, inr, sym, ap, ◌∙◌, subst, refl, cond}
use Rattle.std.specs.Prelude.{bytes_eq, ◌↔◌}
use Rattle.std.specs.Cmp.Lexicographic.{bytes_decides}
use Rattle.meaning_texts.specs.Lists.{IsIn}
use Rattle.meaning_texts.proofs.Lemmas.{in_either}
use Rattle.meaning_graph.specs.Graphs.{Text}
use Rattle.meaning_tasks.specs.Reached.{Reached, by_own, by_line, AreReached}
use Rattle.meaning_tasks.proofs.Lemmas.{reached_moved}
use Rattle.dynamic_inputs.specs.Closures.{ClosureView, lines_of, NameIsFound, AllTold, wanted_name, with_told, with_lines}
use Rattle.dynamic_inputs.specs.Laws.{with_own, IsToldBy}
use Rattle.dynamic_inputs.proofs.Told.{lines_by}

own_at : (root : Text) (own : List Text) (lines : Text → List Text) → with_own root own lines root ≡ own
own_at root own lines = ap (λ b. cond b own (lines root)) ((bytes_decides root root).1 refl)

-- ---- a root that is reached again

module _ (root : Text) (own : List Text) (lines : Text → List Text) (some : (x : Text) → IsIn x (lines root) → IsIn x own) where
  as_own : (x y : Text) → IsIn y (lines x) → IsIn y (with_own root own lines x)
  as_own x y h = (elim (bytes_eq x root) as (λ b. bytes_eq x root ≡ b → IsIn y (cond b own (lines x))) [
    | true ↦ λ e. some y (subst (λ z. IsIn y (lines z)) ((bytes_decides x root).0 e) h)
    | false ↦ λ e. h
  ]) refl

  there : (x : Text) → Reached own lines x → Reached own (with_own root own lines) x
  there x (by_own y h) = by_own y h
  there x (by_line y z r h) = by_line y z (there y r) (as_own y z h)

  -- by a line of the root or of another name
  line_back : (y z : Text) → Reached own lines y → IsIn z (with_own root own lines y) → Reached own lines z
  line_back y z r h = (elim (bytes_eq y root) as (λ b. IsIn z (cond b own (lines y)) → Reached own lines z) [ true ↦ λ k. by_own z k | false ↦ λ k. by_line y z r k ]) h

  back : (x : Text) → Reached own (with_own root own lines) x → Reached own lines x
  back x (by_own y h) = by_own y h
  back x (by_line y z r h) = line_back y z (back y r) h

  pub again : (names : List Text) → AreReached own lines names ↔ AreReached own (with_own root own lines) names
  again names = (
    λ a. record { sorted = a.sorted; only = λ x h. there x (a.only x h); each = λ x r. a.each x (back x r) },
    λ a. record { sorted = a.sorted; only = λ x h. back x (a.only x h); each = λ x r. a.each x (there x r) },
  )

pub root_again : (root : Text) (own : List Text) (lines : Text → List Text) (names : List Text) → ((x : Text) → IsIn x (lines root) → IsIn x own) → AreReached own lines names ↔ AreReached own (with_own root own lines) names
root_again root own lines names some = again root own lines some names

-- ---- all is told

pub all_told_is_reached : (c : ClosureView) (own : List Text) (lines : Text → List Text) (names : List Text) → IsToldBy own lines c → AllTold c → ((x : Text) → IsIn x (lines c.root) → IsIn x own) → AreReached (lines_of c c.root) (lines_of c) names → AreReached own lines names
all_told_is_reached c own lines names by all some a =
    let told : (x : Text) → NameIsFound c x → lines_of c x ≡ with_own c.root own lines x = λ x f. lines_by (with_own c.root own lines) x c.told by (all x f) in
    let same_own : lines_of c c.root ≡ own = told c.root (inl refl) ∙ own_at c.root own lines in
    (root_again c.root own lines names some).1 (reached_moved (lines_of c c.root) own (lines_of c) (with_own c.root own lines) same_own (λ x r. told x (inr r)) names a)

-- ---- the telling

pub told_first : (own : List Text) (lines : Text → List Text) (root : Text) → IsToldBy own lines (record { root = root; told = [] })
told_first own lines root x told h = absurd h

pub told_next : (own : List Text) (lines : Text → List Text) (c : ClosureView) (x : Text) → IsToldBy own lines c → wanted_name c ≡ Some x → IsToldBy own lines (with_lines c (with_own c.root own lines x))
told_next own lines c x by wanted =
    subst (λ o. IsToldBy own lines (with_told o c (with_own c.root own lines x))) (sym wanted) (λ y told h. elim (in_either (y, told) c.told ((x, with_own c.root own lines x) ∷ []) h) [
      | inl k ↦ by y told k
      | inr k ↦ elim k [ inl q ↦ ap (λ e. e.1) q ∙ ap (with_own c.root own lines) (sym (ap (λ e. e.0) q)) | inr n ↦ absurd n ]
    ])
