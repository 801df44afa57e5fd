-- What stays as more outcomes come: what is found, what is done, and what is wanted.
use Rattle.std.proofs.Common.{◌≡◌, List, [], ◌∷◌, ◌++◌, ◌⊎◌, inl, inr, sym, ap, subst, is_some, ◌∙◌, ◌≤◌}
use Rattle.std.specs.Prelude.{Option, Some, None, IsSome, IfSome, option_map}
use Rattle.object_values.specs.declared.nodes.Node.{Node}
use Rattle.object_values.specs.declared.calls.Call.{Call}
use Rattle.object_values.specs.declared.views.View.{View}
use Rattle.meaning_texts.specs.Limits.{height_limit}
use Rattle.meaning_texts.specs.Lists.{IsIn}
use Rattle.meaning_texts.proofs.Lemmas.{value_of_some}
use Rattle.meaning_graph.specs.Graphs.{Graph}
use Rattle.meaning_tasks.specs.Needs.{Needs, values_of, nodes_of}
use Rattle.meaning_tasks.proofs.Lemmas.{one_list_of_needs, full_needs_stay, need_stays}
use Rattle.meaning_derive.specs.Derive.{Sources, text_of, Outcomes, derived, IsFounded}
use Rattle.meaning_derive.specs.Chains.{LeadsOn, Chain, IsMet}
use Rattle.meaning_derive.specs.Calls.{Runs}
use Rattle.meaning_derive.specs.Given.{OutcomesFit}
use Rattle.meaning_derive.specs.Laws.{HasMore}
use Rattle.meaning_derive.proofs.Lemmas.{derive_more, grows_to, kept, needs_at, needs_listed, same_height, frontier_stays, runs_stay}
use Rattle.meaning_true.specs.Facts.{needs_in}
use Rattle.meaning_true.specs.Knowing.{KeptRecord, KeptRecords, Knows, IsChecked, IsPresent, MayLook, the_root, a_need, TakesOutcome}
use Rattle.object_values.specs.declared.facts.Fresh.{Fresh}
use Rattle.object_values.specs.declared.facts.RenewedNode.{RenewedNode}
use Rattle.meaning_true.proofs.Lemmas.{of_dep, truth_stays, tells_stay, knows_on, present_on, present_before}
use Rattle.derive_walk.specs.declared.done.Done.{Done}
use Rattle.derive_walk.specs.Tables.{Entries, done_in}
use Rattle.derive_walk.specs.declared.found.Found.{Found}
use Rattle.derive_walk.specs.declared.found.Found.TheVariants.{Answer, Circular, Deep}
use Rattle.derive_walk.specs.Founds.{IsFound}
use Rattle.derive_walk.specs.Calls.{GivenOutcomes}
use Rattle.derive_walk.specs.Looked.{AreLookups, IsAsked, IsTaken, AreTaken}
use Rattle.derive_walk.specs.Places.{KeptPlaces, Lookups}
use Rattle.derive_walk.specs.Told.{IsFreshIn, IsRenewedIn, AreTold, noted_record, renewed_record, AreToldRightly}
use Rattle.derive_walk.specs.Walks.{Walked, IsDone, AreDone, IsRight}
use Rattle.derive_walk.specs.Worlds.{World, world, world_over, KnowsIn, IsNeedIn}

-- what is done has a result
pub done_founded : (w : World) (done : Entries) → AreDone w done → (n : Node) → IsSome (done_in done n) → IsFounded w.graph w.sources w.outcomes n
done_founded w done are n there =
    let d = value_of_some (done_in done n) there in
    let is = are.each n d.0 d.1 in
    ap is_some (grows_to w.graph w.sources w.outcomes d.0.height height_limit is.high n d.0.view is.is)

module _ (g : Graph) (s : Sources) (outcomes more : Outcomes) (has : HasMore outcomes more) where
  abbrev few : World
  few = world g s outcomes

  abbrev many : World
  many = world g s more

  pub found_stays : (n : Node) (found : Found) → IsFound g s outcomes n found → IsFound g s more n found
  found_stays n (Answer view) is = derive_more g s outcomes more has height_limit n view is
  found_stays n (Circular chain) is = (kept g s outcomes more has n).circular chain is
  found_stays n (Deep chain) is = (kept g s outcomes more has n).deep chain is

  -- ---- chains

  one_stays : (n m : Node) → IsNeedIn few n m → IsNeedIn many n m
  one_stays n m need = record {
    needs = needs_at g s more height_limit n;
    listed = needs_listed g s more height_limit n;
    one = need_stays g n (derived g s outcomes) (derived g s more) need.needs (needs_at g s more height_limit n) (derive_more g s outcomes more has height_limit) need.listed (needs_listed g s more height_limit n) m need.one;
  }

  leads_stay : (n : Node) (rest : List Node) → LeadsOn g (derived g s outcomes) n rest → LeadsOn g (derived g s more) n rest
  leads_stay n [] l = tt
  leads_stay n (m ∷ rest) l = (one_stays n m l.0, leads_stay m rest l.1)

  chain_stays : (n : Node) (chain : List Node) → Chain g (derived g s outcomes) n chain → Chain g (derived g s more) n chain
  chain_stays n [] c = c
  chain_stays n (m ∷ rest) c = (c.0, leads_stay m rest c.1)

  pub met_stays : (n m : Node) → IsMet g (derived g s outcomes) n m → IsMet g (derived g s more) n m
  met_stays n m met = record { front = met.front; leads = chain_stays n (met.front ++ m ∷ []) met.leads; short = met.short }

  -- ---- what may be looked at

  pub may_stays : (records : KeptRecords) (root n : Node) → MayLook g s outcomes records root n → MayLook g s more records root n
  may_stays records root n the_root = the_root
  may_stays records root n (a_need m k may unchecked need) = a_need m k (may_stays records root m may) unchecked (one_stays m k need)

  call_stays : (n : Node) (call : Call) → Runs g (derived g s outcomes) n call → Runs g (derived g s more) n call
  call_stays n call runs = runs_stay g (derived g s outcomes) (derived g s more) (derive_more g s outcomes more has height_limit) n call runs

  -- What is present with more outcomes was so before, where all needs of the node had results.
  module _ (n : Node) (call : Call) (runs : Runs g (derived g s outcomes) n call) (k : KeptRecord) (node : k.fact.node ≡ n) (now : IsPresent g s more k.fact) where
    abbrev present_needs : List Node
    present_needs = nodes_of (needs_in k.fact.deps)

    same_needs : present_needs ≡ runs.needs
    same_needs = one_list_of_needs g n (derived g s more) present_needs runs.needs
        (subst (λ z. Needs g z (derived g s more) present_needs) node now.needs)
        (full_needs_stay g (text_of s) n (derived g s outcomes) (derived g s more) runs.needs (derive_more g s outcomes more has height_limit) runs.listed runs.known).needs

    same_value : (m : Node) → IsIn m present_needs → values_of (derived g s outcomes) m ≡ values_of (derived g s more) m
    same_value m i =
        let there = value_of_some (derived g s outcomes m) (runs.known m (subst (λ l. IsIn m l) same_needs i)) in
        ap (option_map (λ (v : View). v.value)) (there.1 ∙ sym (derive_more g s outcomes more has height_limit m there.0 there.1))

    was_present : IsPresent g s outcomes k.fact
    was_present = record {
      needs = subst (λ z. Needs g z (derived g s outcomes) present_needs) (sym node) (subst (λ l. Needs g n (derived g s outcomes) l) (sym same_needs) runs.listed);
      seen = λ d i. same_value d.node (of_dep k.fact.deps d i) ∙ now.seen d i;
    }

  pub takes_stay : (records : KeptRecords) → Knows g s outcomes records → (n : Node) → TakesOutcome g s outcomes records n → TakesOutcome g s more records n
  takes_stay records knows n takes = record {
    runs = (takes.runs.0, call_stays n takes.runs.0 takes.runs.1);
    anew = λ k e now. takes.anew k e (was_present n takes.runs.0 takes.runs.1 k (knows.each n k e).0 now);
  }

  module _ (records : KeptRecords) (places : KeptPlaces) where
    abbrev before : World
    before = world_over records places g s outcomes

    abbrev later : World
    later = world_over records places g s more

    -- ---- a table

    done_stays : (n : Node) (d : Done) → IsDone before n d → IsDone later n d
    done_stays n d is = record {
      fits = is.fits;
      high = is.high;
      is = derive_more g s outcomes more has d.height n d.view is.is;
      has = same_height g s outcomes more has n d.height is.high is.has;
    }

    module _ (done : Entries) (are : AreDone before done) (n : Node) (each : (m : Node) → IsNeedIn before n m → IsSome (done_in done m)) where
      abbrev needs : List Node
      needs = needs_at g s outcomes height_limit n

      listed : Needs g n (derived g s outcomes) needs
      listed = needs_listed g s outcomes height_limit n

      need_done : (m : Node) → IsIn m needs → IsSome (done_in done m)
      need_done m i = each m (record { needs = needs; listed = listed; one = i })

      -- all its needs have results, so that more outcomes bring none
      still_listed : Needs g n (derived g s more) needs
      still_listed = (full_needs_stay g (text_of s) n (derived g s outcomes) (derived g s more) needs (derive_more g s outcomes more has height_limit) listed (λ m i. done_founded before done are m (need_done m i))).needs

      pub needs_done : (m : Node) → IsNeedIn later n m → IsSome (done_in done m)
      needs_done m need = need_done m (subst (λ l. IsIn m l) (one_list_of_needs g n (derived g s more) need.needs needs need.listed still_listed) need.one)

    needs_stay : (done : Entries) → AreDone before done → (n : Node)
        → IsChecked records n ⊎ ((m : Node) → IsNeedIn before n m → IsSome (done_in done m))
        → IsChecked records n ⊎ ((m : Node) → IsNeedIn later n m → IsSome (done_in done m))
    needs_stay done are n (inl checked) = inl checked
    needs_stay done are n (inr each) = inr (needs_done done are n each)

    pub are_done_stays : (done : Entries) → AreDone before done → AreDone later done
    are_done_stays done are = record {
      each = λ n d there. done_stays n d (are.each n d there);
      needs = λ n d there. needs_stay done are n (are.needs n d there);
      different = are.different;
    }

    -- ---- what is told

    fresh_stays : (done : Entries) (f : Fresh) → IsFreshIn before done f → IsFreshIn later done f
    fresh_stays done f is = record {
      truth = truth_stays g outcomes more has f.fact is.truth;
      fits = is.fits;
      notable = is.notable;
      entry = is.entry;
      is = is.is;
      value = is.value;
      comes = is.comes;
    }

    renewed_stays : (done : Entries) (r : RenewedNode) → IsRenewedIn before done r → IsRenewedIn later done r
    renewed_stays done r is = record { stepped = is.stepped; kept = is.kept; has = is.has; entry = is.entry; is = is.is; value = is.value; comes = is.comes }

    pub told_stays : (done : Entries) (fresh : List Fresh) (renewed : List RenewedNode) → AreTold before done fresh renewed → AreTold later done fresh renewed
    told_stays done fresh renewed told = record {
      noted = λ f i. fresh_stays done f (told.noted f i);
      kept = λ r i. renewed_stays done r (told.kept r i);
      once = told.once;
      kept_once = told.kept_once;
      apart = told.apart;
      all = told.all;
    }

    rightly_stays : KnowsIn before → (done : Entries) → AreDone before done → (fresh : List Fresh) (renewed : List RenewedNode)
        → AreTold before done fresh renewed → AreToldRightly before fresh renewed → AreToldRightly later fresh renewed
    rightly_stays knows done are fresh renewed told right = record {
      present = λ f i. present_on g s outcomes more has f.fact (right.present f i);
      anew = λ f i k e now. right.anew f i k e (present_before g s outcomes more has f.fact k.fact (knows.each f.fact.node k e).0 (right.present f i) now);
      tight = λ f i. tells_stay g s outcomes more has (noted_record f) (told.noted f i).notable.most (right.tight f i);
      current = λ r i k e. present_on g s outcomes more has k.fact (right.current r i k e);
      renewed_tight = λ r i k e.
          let so = told.kept r i in
          let high : r.present.height ≤ height_limit = subst (λ h. h ≤ height_limit) (sym so.comes.height) (are.each r.node so.entry so.is).high in
          tells_stay g s outcomes more has (renewed_record r.present k) high (right.renewed_tight r i k e);
    }

    -- ---- what was looked at

    pub lookups_stay : (done : Entries) (looked : Lookups) → AreLookups before done looked → AreLookups later done looked
    lookups_stay done looked are = record { different = are.different; stepped = are.stepped; places = are.places; done = are.done }

    asked_stays : (given : GivenOutcomes) (wanted : List Call) (n : Node) → IsAsked before given wanted n → IsAsked later given wanted n
    asked_stays given wanted n is = record { call = is.call; runs = call_stays n is.call is.runs; asked = is.asked }

    ended_stays : (given : GivenOutcomes) (done : Entries) (wanted : List Call) (n : Node)
        → IsSome (done_in done n) ⊎ IsAsked before given wanted n → IsSome (done_in done n) ⊎ IsAsked later given wanted n
    ended_stays given done wanted n (inl there) = inl there
    ended_stays given done wanted n (inr asked) = inr (asked_stays given wanted n asked)

    one_taken : KnowsIn before → (given : GivenOutcomes) (looked : Lookups) (done : Entries) (wanted : List Call) (n : Node)
        → IsTaken before given looked done wanted n → IsTaken later given looked done wanted n
    one_taken knows given looked done wanted n is = record {
      looked = is.looked;
      takes = takes_stay records knows n is.takes;
      after = ended_stays given done wanted n is.after;
    }

    pub taken_stay : KnowsIn before → (given : GivenOutcomes) (looked : Lookups) (done : Entries) (wanted : List Call) (taken : List Node)
        → AreTaken before given looked done wanted taken → AreTaken later given looked done wanted taken
    taken_stay knows given looked done wanted taken are = record { once = are.once; each = λ n i. one_taken knows given looked done wanted n (are.each n i) }

    -- ---- a walk

    result_stays : (n : Node) (result : Option Found) → IfSome result (IsFound g s outcomes n) → IfSome result (IsFound g s more n)
    result_stays n None is = is
    result_stays n (Some found) is = found_stays n found is

    pub right_stays : OutcomesFit more → (walked : Walked) → ((call : Call) → IsIn call walked.wanted → more call ≡ None) → IsRight before walked → IsRight later walked
    right_stays fit walked none right = record {
      fit = fit;
      knows = knows_on g s outcomes more records has right.knows;
      told = told_stays walked.done walked.fresh walked.renewed right.told;
      rightly = rightly_stays right.knows walked.done right.done walked.fresh walked.renewed right.told right.rightly;
      root = right.root;
      done = are_done_stays walked.done right.done;
      met = λ n i. met_stays walked.root n (right.met n i);
      looked = lookups_stay walked.done walked.looked right.looked;
      may = λ n i. may_stays records walked.root n (right.may n i);
      taken = taken_stay right.knows walked.given walked.looked walked.done walked.wanted walked.taken right.taken;
      wanted = λ call i. frontier_stays g s outcomes more has walked.root call (right.wanted call i) (none call i);
      once = right.once;
      found = result_stays walked.root walked.result right.found;
    }
