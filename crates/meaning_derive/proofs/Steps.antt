-- Derivation grows with the results below, with the outcomes and with the height.
use Rattle.std.proofs.Common.{◌≡◌, ℕ, zero, suc, ◌+◌, ◌-◌, ◌≤◌, Bool, true, false, List, sym, ap, ◌∙◌, subst, refl, cond, is_some, arith}
use Rattle.std.specs.Prelude.{Option, Some, None, option_map}
use Rattle.std.specs.FinMap as map
use Rattle.object_values.specs.declared.nodes.Node.{Node}
use Rattle.object_values.specs.declared.views.View.{View}
use Rattle.object_values.specs.declared.calls.Call.{Call}
use Rattle.object_values.specs.declared.calls.Outcome.{Outcome}
use Rattle.meaning_graph.specs.Graphs.{Text, Graph}
use Rattle.meaning_texts.specs.Lists.{IsIn}
use Rattle.meaning_texts.proofs.Lemmas.{in_all_pass}
use Rattle.std.proofs.lemmas.Bool.{cond-true}
use Rattle.meaning_tasks.specs.Tasks.{task_of}
use Rattle.meaning_tasks.specs.Needs.{Results, values_of, Grows, needs_of}
use Rattle.meaning_tasks.specs.Calls.{call_of}
use Rattle.meaning_tasks.specs.Settle.{settle}
use Rattle.meaning_tasks.proofs.Lemmas.{same_all, view_moves, list_local, computed_local, call_local, stays}
pub use Rattle.meaning_tasks.proofs.Lemmas.{same_values, same_settled}
use Rattle.meaning_derive.specs.Derive.{Sources, text_of, Outcomes, all_known, outcome_for, names_for, settle_if_known, derive_above, derive}
use Rattle.meaning_derive.specs.Laws.{HasMore}

-- both maps have the same result of each of the nodes
abbrev pub SameResults : Results → Results → List Node → Type 0
SameResults seen more nodes = (n : Node) → IsIn n nodes → seen n ≡ more n

module _ (g : Graph) (s : Sources) (n : Node) where
  abbrev needs_in : Results → List Text → List Node
  needs_in seen names = needs_of (task_of g n) (values_of seen) names

  -- the view is the same where the results of the needs are
  pub settle_moves : (seen more : Results) (names : List Text) → SameResults seen more (needs_in seen names) → (o : Option Outcome) → settle g (text_of s) n seen o names ≡ settle g (text_of s) n more o names
  settle_moves seen more names a o = view_moves g (text_of s) n seen more names a o

  pub known_moves : (seen more : Results) (names : List Text) → SameResults seen more (needs_in seen names) → all_known seen (needs_in seen names) ≡ all_known more (needs_in more names)
  known_moves seen more names a =
      same_all (λ m. is_some (seen m)) (λ m. is_some (more m)) (needs_in seen names) (λ m i. ap is_some (a m i))
      ∙ ap (all_known more) (list_local (values_of seen) (values_of more) (task_of g n) names (same_values seen more (needs_in seen names) a))

  -- so is the step, with the same outcomes
  pub step_moves : (outcomes : Outcomes) (seen more : Results) (names : List Text) → SameResults seen more (needs_in seen names) → settle_if_known g s outcomes n seen names ≡ settle_if_known g s outcomes n more names
  step_moves outcomes seen more names a =
      let k = known_moves seen more names a in
      let c = call_local (values_of seen) (values_of more) g (task_of g n) names (same_values seen more (needs_in seen names) a) in
      λ i. cond (k i) (option_map (λ o. settle_moves seen more names a o i) (outcome_for outcomes (c i))) None

  pub names_move : (seen more : Results) → SameResults seen more (needs_in seen (names_for g s n seen)) → names_for g s n seen ≡ names_for g s n more
  names_move seen more a = computed_local (values_of seen) (values_of more) (map.keys s) (task_of g n) (same_values seen more (needs_in seen (names_for g s n seen)) a)

  pub above_moves : (outcomes : Outcomes) (seen more : Results) → SameResults seen more (needs_in seen (names_for g s n seen)) → derive_above g s outcomes seen n ≡ derive_above g s outcomes more n
  above_moves outcomes seen more a = step_moves outcomes seen more (names_for g s n seen) a ∙ ap (settle_if_known g s outcomes n more) (names_move seen more a)

  -- ---- what a result says

  pub record IsStep (outcomes : Outcomes) (seen : Results) (names : List Text) (view : View) : Type 0 where
    pub known : all_known seen (needs_in seen names) ≡ true
    pub outcome : Option Outcome
    pub given : outcome_for outcomes (call_of g (task_of g n) (values_of seen) names) ≡ Some outcome
    pub is : view ≡ settle g (text_of s) n seen outcome names

  pub step_so : (outcomes : Outcomes) (seen : Results) (names : List Text) (view : View) → settle_if_known g s outcomes n seen names ≡ Some view → IsStep outcomes seen names view
  step_so outcomes seen names view h = by_known (all_known seen (needs_in seen names)) refl h
    where
      by_outcome : all_known seen (needs_in seen names) ≡ true → (o : Option (Option Outcome)) → outcome_for outcomes (call_of g (task_of g n) (values_of seen) names) ≡ o → option_map (λ o. settle g (text_of s) n seen o names) o ≡ Some view → IsStep outcomes seen names view
      by_outcome k None e h = cc
      by_outcome k (Some o) e h = record { known = k; outcome = o; given = e; is = cc }

      by_known : (b : Bool) → all_known seen (needs_in seen names) ≡ b → cond b (option_map (λ o. settle g (text_of s) n seen o names) (outcome_for outcomes (call_of g (task_of g n) (values_of seen) names))) None ≡ Some view → IsStep outcomes seen names view
      by_known true e h = by_outcome e (outcome_for outcomes (call_of g (task_of g n) (values_of seen) names)) refl h
      by_known false e h = cc

  pub so_step : (outcomes : Outcomes) (seen : Results) (names : List Text) (view : View) → IsStep outcomes seen names view → settle_if_known g s outcomes n seen names ≡ Some view
  so_step outcomes seen names view p =
      cond-true (all_known seen (needs_in seen names)) _ None p.known
      ∙ ap (option_map (λ o. settle g (text_of s) n seen o names)) p.given ∙ ap Some (sym p.is)

  -- needs that all have results keep them where there are more
  pub known_stay : (seen more : Results) → Grows seen more → (nodes : List Node) → all_known seen nodes ≡ true → SameResults seen more nodes
  known_stay seen more grows nodes k m i = stays seen more grows m (in_all_pass (λ x. is_some (seen x)) nodes k m i)

more_outcome : (outcomes more : Outcomes) → HasMore outcomes more → (c : Option Call) (o : Option Outcome) → outcome_for outcomes c ≡ Some o → outcome_for more c ≡ Some o
more_outcome outcomes more f None o h = h
more_outcome outcomes more f (Some c) o h = (elim (outcomes c) as (λ r. outcomes c ≡ r → option_map (λ o. Some o) r ≡ Some o → option_map (λ o. Some o) (more c) ≡ Some o) [
  | None ↦ λ e k. cc
  | Some r ↦ λ e k. ap (option_map (λ o. Some o)) (f c r e) ∙ k
]) refl h

-- More results below and more outcomes give all that fewer give.
pub above_grows : (g : Graph) (s : Sources) (outcomes others : Outcomes) → HasMore outcomes others → (seen more : Results) → Grows seen more → Grows (derive_above g s outcomes seen) (derive_above g s others more)
above_grows g s outcomes others f seen more grows n view h =
    let p = step_so g s n outcomes seen (names_for g s n seen) view h in
    let same = known_stay g s n seen more grows (needs_in g s n seen (names_for g s n seen)) p.known in
    sym (above_moves g s n others seen more same)
    ∙ so_step g s n others seen (names_for g s n seen) view (record { known = p.known; outcome = p.outcome; given = more_outcome outcomes others f _ p.outcome p.given; is = p.is })

pub is_above : (g : Graph) (s : Sources) (outcomes : Outcomes) (h : ℕ) (n : Node) → derive g s outcomes (suc h) n ≡ derive_above g s outcomes (derive g s outcomes h) n
unfolding derive
is_above g s outcomes h n = refl

-- Derive(h) is a part of Derive(h + 1).
pub derive_grows : (g : Graph) (s : Sources) (outcomes : Outcomes) (h : ℕ) → Grows (derive g s outcomes h) (derive g s outcomes (suc h))
unfolding derive
derive_grows g s outcomes zero n view e = cc
derive_grows g s outcomes (suc h) n view e = above_grows g s outcomes outcomes (λ c o k. k) (derive g s outcomes h) (derive g s outcomes (suc h)) (derive_grows g s outcomes h) n view e

-- DeriveP grows with P.
pub derive_more : (g : Graph) (s : Sources) (outcomes others : Outcomes) → HasMore outcomes others → (h : ℕ) → Grows (derive g s outcomes h) (derive g s others h)
unfolding derive
derive_more g s outcomes others f zero n view e = cc
derive_more g s outcomes others f (suc h) n view e = above_grows g s outcomes others f (derive g s outcomes h) (derive g s others h) (derive_more g s outcomes others f h) n view e

-- at every greater height there is at least as much
pub grows_by : (g : Graph) (s : Sources) (outcomes : Outcomes) (d h k : ℕ) → d + h ≡ k → Grows (derive g s outcomes h) (derive g s outcomes k)
grows_by g s outcomes zero h k e n view p = let q : h ≡ k = omega (arith, e) in subst (λ z. derive g s outcomes z n ≡ Some view) q p
grows_by g s outcomes (suc d) h k e n view p =
    let q : suc (d + h) ≡ k = omega (arith, e) in
    subst (λ z. derive g s outcomes z n ≡ Some view) q (derive_grows g s outcomes (d + h) n view (grows_by g s outcomes d h (d + h) refl n view p))

pub grows_to : (g : Graph) (s : Sources) (outcomes : Outcomes) (h k : ℕ) → h ≤ k → Grows (derive g s outcomes h) (derive g s outcomes k)
grows_to g s outcomes h k le = let e : (k - h) + h ≡ k = omega (arith, le) in grows_by g s outcomes (k - h) h k e
