-- The calls that a derivation made: calls of the node, each once, and all that it has.
use Rattle.std.proofs.Common.{◌≡◌, Bool, true, false, cond, List, [], ◌∷◌, ◌++◌, inl, inr, sym, ap, ◌∙◌, subst, refl}
use Rattle.std.specs.Prelude.{Some, None, IsSome}
use Rattle.object_values.specs.declared.nodes.Node.{Node}
use Rattle.object_values.specs.declared.calls.Call.{Call}
use Rattle.meaning_texts.specs.Lists.{IsIn}
use Rattle.meaning_texts.proofs.Lemmas.{in_either, value_of_some, some_is_none}
use Rattle.meaning_graph.specs.Graphs.{Graph}
use Rattle.meaning_derive.specs.Derive.{Sources, Outcomes, derived, IsFounded}
use Rattle.meaning_derive.specs.Calls.{IsCallFrom}
use Rattle.meaning_derive.specs.Laws.{HasMore}
use Rattle.meaning_derive.proofs.Lemmas.{kept, known, none_come}
use Rattle.derive_walk.specs.Calls.{call_in, AreOnce}
use Rattle.derive_walk.proofs.Lemmas.{found_in, in_found}
use Rattle.derive_walk.specs.declared.found.Found.{Found}
use Rattle.derive_walk.specs.Founds.{IsFound}
use Rattle.derive_walk.proofs.Lemmas.{found_stays}
use Rattle.plain_derive.specs.Logs.{among, AreMade}

-- ---- the outcomes of these calls alone

module _ (outcomes : Outcomes) (calls : List Call) where
  pub among_fewer : HasMore (among outcomes calls) outcomes
  among_fewer call outcome e = by_test (call_in call calls) e
    where
      by_test : (b : Bool) → cond b (outcomes call) None ≡ Some outcome → outcomes call ≡ Some outcome
      by_test true e = e
      by_test false e = cc

  among_there : (call : Call) → IsSome (among outcomes calls call) → IsIn call calls
  among_there call there = found_in calls call (by_test (call_in call calls) there)
    where
      by_test : (b : Bool) → IsSome (cond b (outcomes call) None) → b ≡ true
      by_test true e = refl
      by_test false e = cc

  among_outside : (call : Call) → IsSome (outcomes call) → among outcomes calls call ≡ None → IsIn call calls → ⊥
  among_outside call there none i =
      let o = value_of_some (outcomes call) there in
      let same : among outcomes calls call ≡ outcomes call = ap (λ b. cond b (outcomes call) None) (in_found calls call i) in
      some_is_none (among outcomes calls call) o.0 (same ∙ o.1) none

-- ---- laws

pub found_by_all : (g : Graph) (s : Sources) (outcomes : Outcomes) (n : Node) (calls : List Call) (found : Found) → IsFound g s (among outcomes calls) n found → IsFound g s outcomes n found
found_by_all g s outcomes n calls found is = found_stays g s (among outcomes calls) outcomes (among_fewer outcomes calls) n found is

pub made_are_calls : (g : Graph) (s : Sources) (outcomes : Outcomes) (n : Node) (calls : List Call) → AreMade g s outcomes n calls → (call : Call) → IsIn call calls → IsCallFrom g (derived g s outcomes) n call
made_are_calls g s outcomes n calls AreMade.none_made call i = absurd i
made_are_calls g s outcomes n calls (AreMade.one_more front last are stops there) call i = elim (in_either call front (last ∷ []) i) [
  | inl j ↦ made_are_calls g s outcomes n front are call j
  | inr (inl e) ↦ subst (IsCallFrom g (derived g s outcomes) n) (sym e) ((kept g s (among outcomes front) outcomes (among_fewer outcomes front) n).calls last stops.from)
  | inr (inr none) ↦ absurd none
]

pub once_more : (calls : List Call) (call : Call) → AreOnce calls → (IsIn call calls → ⊥) → AreOnce (calls ++ call ∷ [])
once_more [] call once new = (λ i. i, tt)
once_more (other ∷ calls) call once new = (
  λ i. elim (in_either other calls (call ∷ []) i) [
    | inl j ↦ once.0 j
    | inr (inl e) ↦ new (inl (sym e))
    | inr (inr none) ↦ none
  ],
  once_more calls call once.1 (λ i. new (inr i)),
)

pub made_are_once : (g : Graph) (s : Sources) (outcomes : Outcomes) (n : Node) (calls : List Call) → AreMade g s outcomes n calls → AreOnce calls
made_are_once g s outcomes n calls AreMade.none_made = tt
made_are_once g s outcomes n calls (AreMade.one_more front last are stops there) =
    once_more front last (made_are_once g s outcomes n front are) (among_outside outcomes front last there stops.outside)

pub all_are_made : (g : Graph) (s : Sources) (outcomes : Outcomes) (n : Node) (calls : List Call) → IsFounded g s (among outcomes calls) n → (call : Call) → IsCallFrom g (derived g s outcomes) n call → IsIn call calls
all_are_made g s outcomes n calls founded call from =
    let here = none_come g s (among outcomes calls) outcomes (among_fewer outcomes calls) n call founded from in
    among_there outcomes calls call (known g s (among outcomes calls) n call founded here)
