-- That what is noted of a settled node is true, fits and may be noted.
use Rattle.std.proofs.Common.{◌≡◌, ℕ, ◌-◌, ◌≤◌, ◌⊎◌, List, [], inl, inr, sym, ap, ◌∙◌, subst, refl, arith}
use Rattle.std.specs.Prelude.{◌↔◌, Option, Some, None, IsNone, IfOk, Result, Ok, Err, length}
use Rattle.std.specs.List.{flat_map}
use Rattle.object_values.specs.declared.messages.Status.{Status}
use Rattle.object_values.specs.declared.messages.Status.TheVariants.{Abort}
use Rattle.object_values.specs.declared.nodes.Node.{Node}
use Rattle.object_values.specs.declared.views.Part.{Part}
use Rattle.object_values.specs.declared.views.Value.{Value}
use Rattle.object_values.specs.declared.views.Value.TheVariants.{Simple, List as Listed, Compound}
use Rattle.object_values.specs.declared.facts.FactDep.{FactDep}
use Rattle.object_values.specs.declared.facts.Fact.{Fact}
use Rattle.object_values.specs.declared.facts.Fresh.{Fresh}
use Rattle.meaning_texts.specs.Lists.{IsIn}
use Rattle.meaning_texts.specs.Limits.{body_limit}
use Rattle.meaning_texts.proofs.Lemmas.{in_either, from_flat, all_in}
use Rattle.meaning_graph.specs.Graphs.{Text, Graph}
use Rattle.meaning_tasks.specs.Nodes.{Fits}
use Rattle.meaning_tasks.specs.Tasks.{task_of}
use Rattle.meaning_tasks.specs.Needs.{Results, values_of, counted_needs, own_lines, other_lines, ReachedNames}
use Rattle.meaning_tasks.specs.Calls.{call_of}
use Rattle.meaning_tasks.specs.Settle.{settled}
use Rattle.meaning_tasks.proofs.Lemmas.{one_list}
use Rattle.meaning_derive.specs.Derive.{Outcomes, outcome_for}
use Rattle.meaning_derive.specs.Laws.{HasMore}
use Rattle.meaning_derive.specs.Premises.{IsShort as IsShortSeen}
use Rattle.meaning_records.specs.Tables.{IsShort}
use Rattle.meaning_records.specs.Batches.{IsNotable, value_list, fact_values}
use Rattle.meaning_true.specs.Facts.{RecordIsTrue}
use Rattle.meaning_true.specs.Closed.{IsClosedBy}
use Rattle.meaning_true.proofs.Lemmas.{closed_true, truth_stays}
use Rattle.validator.specs.Fitting.{FactFits}
use Rattle.node_tasks.specs.declared.needed.Needed.{Needed}
use Rattle.node_tasks.specs.declared.settling.Settled.{Settled}
use Rattle.derive_walk.specs.Tables.{Entries, results_of, heights_of, top_of}
use Rattle.derive_walk.specs.Noting.{MayNote, IsNoteOf, IsTightAt, all_deps, fresh_by, tight_in}
use Rattle.derive_walk.proofs.NotedDeps.{deps_are_needs, entry_of_dep, dep_is_seen, deps_reached_last}
use Rattle.derive_walk.proofs.PlaceLemmas.{none_at_zero}
use Rattle.derive_walk.proofs.TightLemmas.{next_lower}

-- ---- values

short_kept : (v : Value) → IsShortSeen v → IsShort v
short_kept (Simple text) short = short
short_kept (Listed nodes) short = tt
short_kept (Compound parts) short = all_in (λ (p : Part). length p.body ≤ body_limit) parts short

one_value : (o : Option Value) (v : Value) → IsIn v (value_list o) → o ≡ Some v
one_value None v i = absurd i
one_value (Some x) v (inl e) = ap Some (sym e)
one_value (Some x) v (inr none) = absurd none

none_is_none : (o : Option Value) (s : Status) → (o ≡ None) ↔ (s ≡ Abort) → IsNone o ↔ (s ≡ Abort)
none_is_none None s both = (λ e. both.0 refl, λ e. refl)
none_is_none (Some v) s both = (λ e. let no : ⊥ = cc in absurd no, λ e. let no : ⊥ = (let z = both.1 e in cc) in absurd no)

-- ---- a note

module _ (g : Graph) (outcomes : Outcomes) (done : Entries) (n : Node) (needed : Needed) (whole : Settled) (height : ℕ)
    (may : MayNote g outcomes done n needed whole height) where
  abbrev seen : Results
  seen = results_of done

  abbrev deps : List FactDep
  deps = all_deps done needed

  abbrev fact : Fact
  fact = (fresh_by n deps whole height None).fact

  -- there is one list of reached names
  same_names : (names : List Text) → ReachedNames g n seen names → names ≡ needed.names
  same_names names are = one_list (own_lines (task_of g n) (values_of seen)) (other_lines (task_of g n) (values_of seen)) names needed.names are may.found.reached

  closed : IsClosedBy g outcomes seen fact
  closed =
      let s = may.settles.settles in
      record {
        fits = may.fits;
        stepped = may.stepped;
        each = dep_is_seen g n done needed may.found may.formed may.needs may.listed may.all;
        names = needed.names;
        reached = may.found.reached;
        needs = deps_are_needs g n done needed may.found;
        outcome = may.outcome;
        given = ap (λ ns. outcome_for outcomes (call_of g (task_of g n) (values_of seen) ns)) (sym (same_names may.called.names may.called.reached)) ∙ ap (outcome_for outcomes) (sym may.called.is) ∙ may.given;
        own = may.settles.own;
        own_is = s.own;
        value = ap (λ v. v.value) s.view ∙ ap (λ ns. (settled seen may.settles.own (counted_needs (task_of g n) (values_of seen) ns)).value) (same_names s.names s.reached);
        status = may.settles.status;
        messages = may.settles.messages;
      }

  dep_fits : (d : FactDep) → IsIn d deps → Fits g d.node
  dep_fits d i = (dep_is_seen g n done needed may.found may.formed may.needs may.listed may.all d i).result.fits

  fits_so : FactFits g fact
  fits_so = record { node = may.fits; deps = all_in (λ (d : FactDep). Fits g d.node) deps dep_fits; kind = may.short.result.kind }

  dep_short : (d : FactDep) → IsIn d deps → (v : Value) → d.value ≡ Some v → IsShort v
  dep_short d i v is =
      let e = entry_of_dep g n done needed may.found may.formed may.needs may.listed may.all d i in
      short_kept v ((may.formed.each d.node e.0 e.1).result.short v (e.2 ∙ is))

  value_short : (v : Value) → IsIn v (fact_values fact) → IsShort v
  value_short v i = elim (in_either v (value_list fact.value) (flat_map (λ (d : FactDep). value_list d.value) deps) i) [
    | inl k ↦ short_kept v (may.short.short v (one_value fact.value v k))
    | inr k ↦ let d = from_flat (λ (d : FactDep). value_list d.value) v deps k in dep_short d.0 d.1 v (one_value d.0.value v d.2)
  ]

  notable : (tight : Option ℕ) → IsNotable (fresh_by n deps whole height tight)
  notable tight = record {
    short = all_in IsShort (fact_values fact) value_short;
    last = deps_reached_last done needed;
    least = omega (arith, may.above);
    most = may.high;
    valued = none_is_none whole.view.value whole.view.status may.short.result.valued;
  }

  -- what is noted over these deps
  pub is_note : (below : ℕ) → below ≡ height - 1 → IsNoteOf g outcomes done n whole height (fresh_by n deps whole height (tight_in done below deps))
  is_note below is = record {
    node = refl;
    closed = closed;
    truth = closed_true g outcomes seen fact closed;
    fits = fits_so;
    notable = notable (tight_in done below deps);
    value = refl;
    status = refl;
    messages = refl;
    height = refl;
    tight = λ other next. ap (λ k. tight_in done k deps) (let e : below ≡ other = omega (arith, is, next) in e);
    next = λ other step.
        let e : top_of (heights_of done []) may.needs ≡ other = omega (arith, step, may.above) in
        let b : below ≡ other = omega (arith, is, step) in
        subst (λ k. (k ≡ 0) ⊎ IsTightAt done k deps (tight_in done below deps)) e
        (subst (λ k. (top_of (heights_of done []) may.needs ≡ 0) ⊎ IsTightAt done (top_of (heights_of done []) may.needs) deps (tight_in done k deps)) (e ∙ sym b)
        (next_lower g n done needed may.found may.needs may.listed));
    lone = λ one. ap (λ k. tight_in done k deps) (let e : below ≡ 0 = omega (arith, is, one) in e) ∙ none_at_zero g done may.formed deps;
  }

-- where it was made so
pub note_made : {E : Type 0} (g : Graph) (outcomes : Outcomes) (done : Entries) (n : Node) (needed : Needed) (whole : Settled) (height : ℕ)
    → MayNote g outcomes done n needed whole height → (below : ℕ) → below ≡ height - 1
    → (made : List FactDep) → made ≡ all_deps done needed → (tight : Option ℕ) → tight ≡ tight_in done below made
    → (result : Result Fresh E) → IfOk result (λ fresh. fresh ≡ fresh_by n made whole height tight)
    → IfOk result (IsNoteOf g outcomes done n whole height)
note_made g outcomes done n needed whole height may below is made are tight at (Ok fresh) same =
    subst (IsNoteOf g outcomes done n whole height)
    (sym (same ∙ ap (fresh_by n made whole height) at ∙ ap (λ l. fresh_by n l whole height (tight_in done below l)) are))
    (is_note g outcomes done n needed whole height may below is)
note_made g outcomes done n needed whole height may below is made are tight at (Err fault) same = tt

-- ---- as more outcomes come

-- What was noted stays true.
pub note_stays : (g : Graph) (outcomes more : Outcomes) → HasMore outcomes more → (done : Entries) (n : Node) (whole : Settled) (height : ℕ) (fresh : Fresh)
    → IsNoteOf g outcomes done n whole height fresh → RecordIsTrue g more fresh.fact
note_stays g outcomes more grows done n whole height fresh note = truth_stays g outcomes more grows fresh.fact note.truth
