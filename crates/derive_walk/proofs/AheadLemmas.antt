-- What is visited next, and what stays as the walk goes on.
use Rattle.std.proofs.Common.{◌≡◌, List, [], ◌⊎◌, inl, inr, sym, ap, subst, is_some}
use Rattle.std.specs.Prelude.{None}
use Rattle.object_values.specs.declared.nodes.Node.{Node}
use Rattle.meaning_texts.specs.Lists.{IsIn}
use Rattle.meaning_texts.proofs.Lemmas.{in_all}
use Rattle.meaning_tasks.specs.Tasks.{task_of}
use Rattle.meaning_tasks.specs.Needs.{values_of, Needs}
use Rattle.meaning_tasks.proofs.Lemmas.{finite_has_needs}
use Rattle.meaning_true.specs.Knowing.{IsChecked}
use Rattle.node_tasks.specs.declared.ahead.Ahead.{Ahead}
use Rattle.node_tasks.specs.Ahead.{IsInSight, IsLevel}
use Rattle.node_tasks.proofs.Lemmas.{ahead_stays}
use Rattle.derive_walk.specs.declared.survey.Survey.{Survey}
use Rattle.derive_walk.proofs.SurveyLemmas.{is_unvisited}
use Rattle.derive_walk.specs.Tables.{results_of, done_nodes}
use Rattle.derive_walk.specs.Finite.{only_nodes}
use Rattle.derive_walk.specs.declared.walk.Walk.{Walk}
use Rattle.derive_walk.specs.Worlds.{World}
use Rattle.derive_walk.specs.States.{heights_in, GoesOnFrom}
use Rattle.derive_walk.specs.Paths.{IsSurveyed, IsAheadIn, IsAnew, IsUnvisited, AreToVisit}
use Rattle.derive_walk.proofs.HeightLemmas.{not_some}

-- ---- as the walk goes on

pub still_ahead : (w : World) (walk new : Walk) → GoesOnFrom walk new → (n : Node) (ahead : Ahead) → IsAheadIn w walk n ahead → IsAheadIn w new n ahead
still_ahead w walk new on n ahead told = ahead_stays w.graph n (results_of walk.done) (results_of new.done) on.results ahead told

-- ---- what is visited next

module _ (w : World) (walk : Walk) (n : Node) where
  -- the record isn't checked
  pub anew_unchecked : IsAnew w walk n → (n.steps ≡ []) ⊎ (¬ IsChecked w.records n)
  anew_unchecked (inl source) = inl source
  anew_unchecked (inr none) = inr none.0

  in_sight : (m : Node) → IsInSight (task_of w.graph n) (values_of (results_of walk.done)) (λ k. is_some (heights_in walk k)) m → IsUnvisited w walk n m
  in_sight m sight =
      let some : (needs : List Node) × Needs w.graph n (results_of walk.done) needs = finite_has_needs w.graph n (results_of walk.done) (done_nodes walk.done) (only_nodes walk.done) in
      record {
        need = record { needs = some.0; listed = some.1; one = subst (λ l. IsIn m l) (sym some.1.listed) (sight.need some.1.names some.1.reached) };
        unseen = not_some (heights_in walk m) sight.unseen;
      }

  -- a level
  pub level_next : (needs : List Node) → IsLevel w.graph n (results_of walk.done) (λ k. is_some (heights_in walk k)) needs → (needs ≡ [] → ⊥) → (n.steps ≡ []) ⊎ (¬ IsChecked w.records n)
      → AreToVisit w walk n needs
  level_next needs level some unchecked = record {
    some = some;
    unchecked = unchecked;
    each = λ m i. in_sight m (in_all (IsInSight (task_of w.graph n) (values_of (results_of walk.done)) (λ k. is_some (heights_in walk k))) needs level m i);
  }

  -- what was not visited of all needs
  pub survey_next : (survey : Survey) → IsSurveyed w walk n survey → (survey.unvisited ≡ [] → ⊥) → (n.steps ≡ []) ⊎ (¬ IsChecked w.records n)
      → AreToVisit w walk n survey.unvisited
  survey_next survey surveyed some unchecked = record {
    some = some;
    unchecked = unchecked;
    each = λ m i.
        let found : IsIn m surveyed.needs × (heights_in walk m ≡ None) = is_unvisited (heights_in walk) surveyed.needs m (subst (λ l. IsIn m l) (ap (λ (s : Survey). s.unvisited) surveyed.is) i) in
        record { need = record { needs = surveyed.needs; listed = surveyed.listed; one = found.0 }; unseen = found.1 };
  }
