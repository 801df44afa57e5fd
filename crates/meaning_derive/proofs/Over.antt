-- What holds over any map of results, and of what is derived.
use Rattle.std.proofs.Common.{◌≡◌, ◌↔◌, ℕ, List, sym, ap, ◌∙◌, subst, refl, is_some}
use Rattle.std.specs.Prelude.{Option, Some, None, option_map}
use Rattle.object_values.specs.declared.messages.Status.{Status}
use Rattle.object_values.specs.declared.messages.Status.TheVariants.{Ok, Warning, Error, Abort}
use Rattle.object_values.specs.declared.nodes.Node.{Node}
use Rattle.object_values.specs.declared.views.Value.{Value}
use Rattle.object_values.specs.declared.views.Value.TheVariants.{List as Listed}
use Rattle.object_values.specs.declared.views.View.{View}
use Rattle.object_values.specs.declared.graph.Kind.{Kind}
use Rattle.object_values.specs.declared.calls.Call.{Call}
use Rattle.object_values.specs.declared.calls.Outcome.{Outcome}
use Rattle.meaning_graph.specs.Graphs.{Graph, kind_of}
use Rattle.meaning_texts.specs.Lists.{IsIn}
use Rattle.std.proofs.lemmas.Bool.{cond-true}
use Rattle.meaning_graph.specs.Grammar.{IsSpellable}
use Rattle.meaning_graph.specs.Checks.{Checked}
use Rattle.meaning_calls.specs.Jobs.{IsWellFormed}
use Rattle.meaning_tasks.specs.Nodes.{reached_type, fits, Fits}
use Rattle.meaning_tasks.specs.Labels.{label_of}
use Rattle.meaning_tasks.proofs.Lemmas.{so_fits}
use Rattle.meaning_tasks.proofs.Lemmas as fit
use Rattle.meaning_tasks.specs.Tasks.{Own, task_of}
use Rattle.meaning_tasks.specs.Needs.{Results, Known, values_of, elements_of, needs_of, counted_needs, Needs}
use Rattle.meaning_tasks.specs.Calls.{all_valued, call_of, CallOf}
use Rattle.meaning_tasks.specs.Settle.{own_of, Settles}
use Rattle.meaning_tasks.specs.Maps.{IsOfKind}
use Rattle.meaning_tasks.specs.Laws.{AgreeAt}
use Rattle.meaning_tasks.proofs.Lemmas.{one_list, carry}
use Rattle.meaning_derive.specs.Derive.{Sources, text_of, Outcomes, derive}
use Rattle.meaning_derive.specs.Given.{AreSources, OutcomesFit}
use Rattle.meaning_derive.specs.Chains.{IsMet}
use Rattle.meaning_derive.proofs.Sound.{runs_on, IsSoundView, task_sound, own_sound, settled_sound, valued_exactly}
use Rattle.meaning_derive.specs.Premises.{IsShort, fitting, IsMapOverFitting}
use Rattle.meaning_derive.specs.CheckedLaws.{HasShortValues, HasFittingElements, IsOutcomeFor, IsShortResultOf}
use Rattle.meaning_derive.proofs.Needed.{element_fits, reached_named}
use Rattle.meaning_derive.proofs.Shapes.{AreShort, IsOutcomeOf, kinded, own_good}
use Rattle.meaning_derive.proofs.Maps.{value_of_view, if_valued, kinds_of_map, needs_fit, good_at, map_at, fitting_so}
use Rattle.meaning_derive.proofs.Formed.{call_formed, met_fits}

value_known : (o : Option View) (view : View) (v : Value) → o ≡ Some view → view.value ≡ Some v → option_map (λ (w : View). w.value) o ≡ Some (Some v)
value_known o view v e is = ap (option_map (λ (w : View). w.value)) e ∙ ap Some is

short_known : (g : Graph) (seen : Results) → HasShortValues g seen → AreShort g (values_of seen)
short_known g seen short m v f e = let r = value_of_view (seen m) v e in short m r.0 v f r.1 r.2

pub met_fit : (g : Graph) → IsSpellable g → Checked g → (seen : Results) → IsMapOverFitting g seen → (n : Node) → Fits g n → (m : Node) → IsMet g seen n m → Fits g m
met_fit g spellable checked seen good n f m met = met_fits g spellable checked seen good met.front n m f met.leads

-- ---- what is derived

pub listed_fit : (g : Graph) → Checked g → (seen : Results) → IsMapOverFitting g seen → HasFittingElements g seen
listed_fit g checked seen good n view elements f e is x i =
    let k = kinded g checked n f in
    element_fits g (values_of seen) (kinds_of_map g seen good) n k.0 k.1 f k.2 k.3 x (subst (λ o. IsIn x (elements_of o)) (sym (value_known (seen n) view (Listed elements) e is)) i)

module _ (g : Graph) (checked : Checked g) (s : Sources) (sources : AreSources s) (outcomes : Outcomes) (fitted : OutcomesFit outcomes) (h : ℕ) where
  pub short_at : HasShortValues g (derive g s outcomes h)
  short_at n view v f e is = (good_at g checked s sources outcomes fitted h).short n v f (value_known (derive g s outcomes h n) view v e is)

  pub elements_at : HasFittingElements g (derive g s outcomes h)
  elements_at = listed_fit g checked (derive g s outcomes h) (map_at g checked s sources outcomes fitted h)

-- ---- calls

pub formed_over : (g : Graph) → IsSpellable g → Checked g → (seen : Results) → IsMapOverFitting g seen → HasShortValues g seen → (n : Node) → Fits g n → (call : Call) → CallOf g n seen (Some call) → IsWellFormed call
formed_over g spellable checked seen good short n f call c =
    call_formed g spellable (values_of seen) (kinds_of_map g seen good) (short_known g seen short) (kinded g checked) n f c.names (λ x h. reached_named (task_of g n) (values_of seen) x (c.reached.only x h)) call c.is

-- ---- settling

sound_of : (value : Option Value) (status : Status) → (value ≡ None) ↔ (status ≡ Abort) → is_some value ≡ runs_on status
sound_of None Ok r = let e : Ok ≡ Abort = r.0 refl in cc
sound_of None Warning r = let e : Warning ≡ Abort = r.0 refl in cc
sound_of None Error r = let e : Error ≡ Abort = r.0 refl in cc
sound_of None Abort r = refl
sound_of (Some v) Ok r = refl
sound_of (Some v) Warning r = refl
sound_of (Some v) Error r = refl
sound_of (Some v) Abort r = let e : Some v ≡ None = r.1 refl in cc

module _ (g : Graph) (seen : Results) (good : IsMapOverFitting g seen) where
  -- the results of the nodes that fit are sound
  fitting_sound : (m : Node) (view : View) → fitting g seen m ≡ Some view → IsSoundView view
  fitting_sound m view e = let r = fitting_so g seen m view e in sound_of view.value view.status (good m view (fit.fits_so g m r.0) r.1).valued

  fitting_agrees : (nodes : List Node) → ((m : Node) → IsIn m nodes → Fits g m) → AgreeAt seen (fitting g seen) nodes
  fitting_agrees nodes each m i = sym (cond-true (fits g m) (seen m) None (so_fits g m (each m i)))

  module _ (spellable : IsSpellable g) (checked : Checked g) (s : Sources) (sources : AreSources s) (short : HasShortValues g seen) (n : Node) (f : Fits g n) (outcome : Option Outcome) (given : IsOutcomeFor g n seen outcome) (view : View) (settles : Settles g (text_of s) n seen outcome view) where
    view_sound : IsSoundView view
    view_sound =
        let nodes : List Node = needs_of (task_of g n) (values_of seen) settles.names in
        let listed : Needs g n seen nodes = record { names = settles.names; reached = settles.reached; listed = refl } in
        let agree = fitting_agrees nodes (needs_fit g spellable checked seen good n f nodes listed) in
        let known : Known = values_of (fitting g seen) in
        let q : Settles g (text_of s) n (fitting g seen) outcome view = (carry g (text_of s) n seen (fitting g seen) nodes listed agree).settles outcome view settles in
        subst IsSoundView (sym q.is)
        (settled_sound (fitting g seen) fitting_sound (own_of (label_of g n) (text_of s) (task_of g n) known outcome) (counted_needs (task_of g n) known q.names)
        (own_sound (label_of g n) (text_of s) (task_of g n) known outcome q.names (task_sound g n)))

    outcome_known : IsOutcomeOf g (task_of g n) (values_of seen) settles.names outcome
    outcome_known o e =
        let r = given.fits o e in
        let same = ap (call_of g (task_of g n) (values_of seen)) (one_list _ _ _ _ given.called.reached settles.reached) in
        (r.0, sym (given.called.is ∙ same) ∙ r.1, r.2)

    value_good : (v : Value) → view.value ≡ Some v → (t : ℕ) (k : Kind) → reached_type g n ≡ Some t → kind_of g t ≡ Some k → IsOfKind g k v × IsShort v
    value_good v is =
        let own : Own = own_of (label_of g n) (text_of s) (task_of g n) (values_of seen) outcome in
        let w = if_valued (all_valued (values_of seen) (counted_needs (task_of g n) (values_of seen) settles.names)) own.value v (ap (λ (z : View). z.value) (sym settles.is) ∙ is) in
        own_good g checked (values_of seen) (kinds_of_map g seen good) (short_known g seen short) n f (label_of g n) (text_of s) sources outcome settles.names v w.1 w.0 outcome_known

    pub view_good : IsShortResultOf g n view
    view_good = record {
      result = record { fits = f; valued = valued_exactly view view_sound; kind = λ t k v typed kind is. (value_good v is t k typed kind).0 };
      short = λ v is. let k = kinded g checked n f in (value_good v is k.0 k.1 k.2 k.3).1;
    }

pub settles_well : (g : Graph) → IsSpellable g → Checked g → (s : Sources) → AreSources s → (seen : Results) → IsMapOverFitting g seen → HasShortValues g seen → (n : Node) → Fits g n → (outcome : Option Outcome) → IsOutcomeFor g n seen outcome → (view : View) → Settles g (text_of s) n seen outcome view → IsShortResultOf g n view
settles_well g spellable checked s sources seen good short n f outcome given view settles = view_good g seen good spellable checked s sources short n f outcome given view settles
