-- A derivation on its way: it goes on by a call, is given up, or ends.
use Rattle.std.proofs.Common.{◌≡◌, ◌⊎◌, List, [], ◌∷◌, ◌++◌, inl, inr, sym, ap, ◌∙◌, subst, refl}
use Rattle.std.specs.Prelude.{Some, None, Result, Err, IfErr, IfSome, slice_get}
use Rattle.object_values.specs.declared.nodes.Node.{Node}
use Rattle.object_values.specs.declared.calls.Call.{Call}
use Rattle.object_values.specs.declared.calls.Outcome.{Outcome}
use Rattle.odin_outside.specs.declared.events.ToolEvent.TheVariants.{Ended}
use Rattle.odin_outside.specs.Spawned.{Spawned}
use Rattle.meaning_texts.specs.Lists.{IsIn}
use Rattle.meaning_texts.proofs.Lemmas.{in_either}
use Rattle.meaning_graph.specs.Graphs.{Graph}
use Rattle.meaning_tasks.specs.Nodes.{Fits}
use Rattle.meaning_derive.specs.Derive.{Sources, Outcomes}
use Rattle.meaning_derive.specs.Given.{OutcomesFit}
use Rattle.meaning_derive.specs.Calls.{IsFrontier}
use Rattle.derive_walk.specs.Calls.{GivenOutcomes as Listed}
use Rattle.derive_walk.specs.declared.found.Found.{Found}
use Rattle.derive_walk.specs.Founds.{IsFound}
use Rattle.derive_walk.specs.Outcomes.{nothing_known, after}
use Rattle.derive_walk.specs.NothingFits.{nothing_fits}
use Rattle.derive_walk.specs.Walks.{Walked, new_walk, IsRight, OutcomeIsGiven, IsAdvanced, FindsOrWants, ExtendsWalk as WalkGoesOn}
use Rattle.derive_walk.specs.Worlds.{World, KnowsIn, world}
use Rattle.derive_walk.proofs.Lemmas.{knows_nothing}
use Rattle.job_runner.specs.Made.{IsOutcomeOfCall}
use Rattle.job_runner.specs.declared.fault.JobFault.{JobFault}
use Rattle.job_runner.specs.declared.fault.JobFault.TheVariants.{Memory}
use Rattle.plain_derive.specs.Logs.{closed, IsCut, IsOutOfMemory, after_calls, IsRefusedAtOnce, HasDerived, HasGivenUp}
use Rattle.plain_derive.specs.Given.{calls_of, AreGiven}
use Rattle.plain_derive.specs.Ways.{IsSoFar, StopsWalk}
use Rattle.plain_derive.proofs.GivenLemmas.{among_is, frontier_among, are_made, go_by}
use Rattle.plain_derive.proofs.LogLemmas.{same_answer}

pub first_in : (call : Call) (calls : List Call) → slice_get calls 0 ≡ Some call → IsIn call calls
first_in call [] e = cc
first_in call (other ∷ calls) e = inl cc

pub one_more_made : (before : Spawned) (given : Listed) (call : Call) (outcome : Outcome) → after_calls before (calls_of (given ++ (call, outcome) ∷ [])) ≡ closed (after_calls before (calls_of given)) call (Ended 0)
one_more_made before [] call outcome = refl
one_more_made before (x ∷ given) call outcome = one_more_made (closed before x.0 (Ended 0)) given call outcome

-- ---- at the start

pub start : (g : Graph) (s : Sources) (n : Node) (before : Spawned) (walked : Walked) (root : Node) → walked ≡ new_walk root → root ≡ n → Fits g n → ((w : World) → Fits w.graph root → OutcomesFit w.outcomes → KnowsIn w → IsRight w walked) → IsSoFar g s n before walked before
start g s n before walked root is same fits right =
    let none : walked.given ≡ [] = ap (λ (z : Walked). z.given) is in
    let fit : OutcomesFit (after nothing_known walked.given) = subst (λ l. OutcomesFit (after nothing_known l)) (sym none) nothing_fits in
    record {
      root = ap (λ (z : Walked). z.root) is ∙ same;
      are = subst (AreGiven g s nothing_known n) (sym none) AreGiven.none_given;
      came = λ call outcome i. absurd (subst (IsIn (call, outcome)) none i);
      now_is = ap (λ l. after_calls before (calls_of l)) (sym none);
      right = right (world g s (after nothing_known walked.given)) (subst (Fits g) (sym same) fits) fit (knows_nothing g s (after nothing_known walked.given));
    }

module _ (g : Graph) (s : Sources) (n : Node) (before : Spawned) (walked : Walked) (mid : Spawned) (so : IsSoFar g s n before walked mid) where
  stops_at : (call : Call) → IsIn call walked.wanted → IsFrontier g s (after nothing_known walked.given) n call
  stops_at call i = subst (λ z. IsFrontier g s (after nothing_known walked.given) z call) so.root (so.right.wanted call i)

  -- ---- it goes on

  pub advanced : (walked' : Walked) → WalkGoesOn walked walked' → IsRight (world g s (after nothing_known walked'.given)) walked' → IsSoFar g s n before walked' mid
  advanced walked' on right = record {
    root = on.root ∙ so.root;
    are = subst (AreGiven g s nothing_known n) (sym on.given) so.are;
    came = λ call outcome i. so.came call outcome (subst (IsIn (call, outcome)) on.given i);
    now_is = so.now_is ∙ ap (λ l. after_calls before (calls_of l)) (sym on.given);
    right = right;
  }

  pub goes_on : (walked' : Walked) (now : Spawned) (call : Call) (outcome : Outcome) → IsIn call walked.wanted → IsOutcomeOfCall mid.answer call outcome → now ≡ closed mid call (Ended 0) → OutcomeIsGiven call outcome walked walked'
      → IsRight (world g s (after nothing_known walked'.given)) walked' → IsSoFar g s n before walked' now
  goes_on walked' now call outcome i of made is right = record {
    root = is.root ∙ so.root;
    are = subst (AreGiven g s nothing_known n) (sym is.given) (AreGiven.one_more walked.given call outcome so.are (stops_at call i));
    came = λ c o j. elim (in_either (c, o) walked.given ((call, outcome) ∷ []) (subst (IsIn (c, o)) is.given j)) [
      | inl k ↦ so.came c o k
      | inr (inl e) ↦ subst (λ (z : Call × Outcome). IsOutcomeOfCall before.answer z.0 z.1) (sym e) (subst (λ a. IsOutcomeOfCall a call outcome) (ap (λ (z : Spawned). z.answer) so.now_is ∙ same_answer before (calls_of walked.given)) of)
      | inr (inr none) ↦ absurd none
    ];
    now_is = made ∙ ap (λ z. closed z call (Ended 0)) so.now_is ∙ sym (one_more_made before walked.given call outcome) ∙ ap (λ l. after_calls before (calls_of l)) (sym is.given);
    right = right;
  }

  -- ---- it is given up

  -- Memory was wanting, or a wanted call was given up.
  abbrev pub IsStop : JobFault → Spawned → Type 0
  IsStop fault now = IsOutOfMemory fault mid now ⊎ ((call : Call) × IsIn call walked.wanted × IsCut fault call mid now)

  pub given_up : (fault : JobFault) (now : Spawned) → IsStop fault now → (IsRefusedAtOnce g s n → now ≡ before) → HasGivenUp g s n before now fault
  given_up fault now stop untouched =
      let way = go_by before.answer walked.given so.came in
      record {
        outcomes = way.outcomes;
        given = way.by;
        begun = record {
          calls = calls_of walked.given;
          are = are_made g s n walked.given so.are way.outcomes way.has;
          cut = elim stop [
            | inl wanted ↦ inl (subst (λ z. IsOutOfMemory fault z now) so.now_is wanted)
            | inr c ↦ inr (record {
              call = c.0;
              stops = frontier_among g s n walked.given way.outcomes way.has c.0 (stops_at c.0 c.1);
              cut = subst (λ z. IsCut fault c.0 z now) so.now_is c.2;
            })
          ];
          untouched = untouched;
        };
      }

  -- ---- it ends

  pub ends : (found : Found) → walked.result ≡ Some found → (IsRefusedAtOnce g s n → mid ≡ before) → HasDerived g s n before mid found
  ends found is untouched =
      let way = go_by before.answer walked.given so.came in
      let of_root : IsFound g s (after nothing_known walked.given) walked.root found = subst (λ r. IfSome r (IsFound g s (after nothing_known walked.given) walked.root)) is so.right.found in
      let of_node : IsFound g s (after nothing_known walked.given) n found = subst (λ z. IsFound g s (after nothing_known walked.given) z found) so.root of_root in
      record {
        outcomes = way.outcomes;
        given = way.by;
        calls = calls_of walked.given;
        made = record { are = are_made g s n walked.given so.are way.outcomes way.has; now_is = so.now_is; untouched = untouched };
        is = subst (λ (p : Outcomes). IsFound g s p n found) (among_is walked.given way.outcomes way.has) of_node;
      }

  -- Where nothing was given and nothing is found the node is not refused at once.
  pub not_refused : walked.given ≡ [] → IsAdvanced (world g s (after nothing_known walked.given)) walked → walked.result ≡ None → IsRefusedAtOnce g s n → ⊥
  not_refused none ended still r =
      let there = subst (λ z. FindsOrWants (world g s (after nothing_known walked.given)) walked.root walked.wanted z) still ended in
      let first = subst (λ l. FindsOrWants (world g s (after nothing_known l)) walked.root walked.wanted None) none there in
      let at_node = subst (λ z. FindsOrWants (world g s nothing_known) z walked.wanted None) so.root first in
      at_node.calm r.chain r.is

-- ---- the whole derivation

-- It is on its way, and nothing was done where the node is refused at once.
pub record IsOnWay (g : Graph) (s : Sources) (n : Node) (before : Spawned) (walked : Walked) (now : Spawned) : Type 0 where
  pub so : IsSoFar g s n before walked now
  pub calm : IsRefusedAtOnce g s n → (walked.given ≡ []) × (now ≡ before)

module _ (g : Graph) (s : Sources) (n : Node) (before : Spawned) (walked : Walked) (now : Spawned) (way : IsOnWay g s n before walked now) where
  pub way_on : (walked' : Walked) → WalkGoesOn walked walked' → IsRight (world g s (after nothing_known walked'.given)) walked' → IsOnWay g s n before walked' now
  way_on walked' on right = record {
    so = advanced g s n before walked now way.so walked' on right;
    calm = λ r. (on.given ∙ (way.calm r).0, (way.calm r).1);
  }

  pub way_moves : (other : Walked) → other ≡ walked → IsOnWay g s n before other now
  way_moves other same = subst (λ z. IsOnWay g s n before z now) (sym same) way

  pub way_ends : (found : Found) → walked.result ≡ Some found → HasDerived g s n before now found
  way_ends found is = ends g s n before walked now way.so found is (λ r. (way.calm r).1)

  pub way_stops : HasGivenUp g s n before now Memory
  way_stops = given_up g s n before walked now way.so Memory now (inl (record { memory = refl; same = refl })) (λ r. (way.calm r).1)

  pub way_calm : IsAdvanced (world g s (after nothing_known walked.given)) walked → walked.result ≡ None → IsRefusedAtOnce g s n → ⊥
  way_calm ended still r = not_refused g s n before walked now way.so (way.calm r).0 ended still r

-- ---- as the answers say it

pub stopped_at : {T : Type 0} (r : Result T JobFault) (walked : Walked) (before now : Spawned) (fault : JobFault) → r ≡ Err fault → StopsWalk walked before now fault → IfErr r (StopsWalk walked before now)
stopped_at r walked before now fault is stops = subst (λ x. IfErr x (StopsWalk walked before now)) (sym is) stops

pub given_up_at : {T : Type 0} (r : Result T JobFault) (g : Graph) (s : Sources) (n : Node) (before now : Spawned) (fault : JobFault) → r ≡ Err fault → HasGivenUp g s n before now fault → IfErr r (HasGivenUp g s n before now)
given_up_at r g s n before now fault is cut = subst (λ x. IfErr x (HasGivenUp g s n before now)) (sym is) cut

-- what stops each derivation on its way
pub stops : (walked : Walked) (mid now : Spawned) (fault : JobFault) → IsOutOfMemory fault mid now ⊎ ((call : Call) × IsIn call walked.wanted × IsCut fault call mid now) → StopsWalk walked mid now fault
stops walked mid now fault stop = λ g s n first calm so. given_up g s n first walked mid so fault now stop (λ r. absurd (calm r))

-- it is given up before anything is done
pub none_begun : (g : Graph) (s : Sources) (n : Node) (before : Spawned) → HasGivenUp g s n before before Memory
none_begun g s n before =
    let way = go_by before.answer [] (λ call outcome i. absurd i) in
    record {
      outcomes = way.outcomes;
      given = way.by;
      begun = record { calls = []; are = are_made g s n [] AreGiven.none_given way.outcomes way.has; cut = inl (record { memory = refl; same = refl }); untouched = λ r. refl };
    }
