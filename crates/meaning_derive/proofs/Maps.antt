-- Over a checked graph Derive(h) is a map of results, and needs fit.
use Rattle.std.proofs.Common.{◌≡◌, ℕ, zero, suc, Bool, true, false, List, sym, ap, ◌∙◌, subst, refl, cond}
use Rattle.std.specs.Prelude.{Option, Some, None, option_map}
use Rattle.object_values.specs.declared.nodes.Node.{Node}
use Rattle.object_values.specs.declared.views.Value.{Value}
use Rattle.object_values.specs.declared.views.View.{View}
use Rattle.object_values.specs.declared.graph.Kind.{Kind}
use Rattle.object_values.specs.declared.calls.Call.{Call}
use Rattle.object_values.specs.declared.calls.Outcome.{Outcome}
use Rattle.meaning_graph.specs.Graphs.{Text, Graph, kind_of}
use Rattle.meaning_texts.specs.Lists.{IsIn}
use Rattle.meaning_texts.proofs.Lemmas.{same_some}
use Rattle.meaning_graph.specs.Grammar.{IsSpellable}
use Rattle.meaning_graph.specs.Checks.{Checked}
use Rattle.meaning_tasks.specs.Nodes.{reached_type, fits, Fits}
use Rattle.meaning_tasks.specs.Labels.{label_of}
use Rattle.meaning_tasks.specs.Tasks.{Own, task_of}
use Rattle.meaning_tasks.specs.Needs.{Results, values_of, counted_needs, Needs}
use Rattle.meaning_tasks.specs.Calls.{all_valued, call_of}
use Rattle.meaning_tasks.specs.Settle.{own_of}
use Rattle.meaning_tasks.specs.Maps.{IsOfKind, IsResultMap}
use Rattle.meaning_tasks.proofs.Lemmas as fit
use Rattle.meaning_derive.specs.Derive.{Sources, text_of, Outcomes, outcome_for, names_for, derive}
use Rattle.meaning_derive.proofs.Steps.{step_so}
use Rattle.meaning_derive.proofs.Sound.{derived_sound, valued_exactly}
use Rattle.meaning_derive.specs.Given.{AreSources, OutcomesFit}
use Rattle.meaning_derive.specs.Premises.{IsShort, fitting, IsMapOverFitting}
use Rattle.meaning_derive.proofs.Needed.{AreOfKind, reached_named, task_needs_fit}
use Rattle.meaning_derive.proofs.Shapes.{AreShort, IsOutcomeOf, kinded, own_good}

-- a value that is known is that of a view
pub value_of_view : (o : Option View) (v : Value) → option_map (λ w. w.value) o ≡ Some (Some v) → (view : View) × (o ≡ Some view) × (view.value ≡ Some v)
value_of_view None v e = cc
value_of_view (Some view) v e = (view, refl, same_some e)

pub if_valued : (b : Bool) (o : Option Value) (v : Value) → cond b o None ≡ Some v → (b ≡ true) × (o ≡ Some v)
if_valued true o v e = (refl, e)
if_valued false o v e = cc

given_outcome : (outcomes : Outcomes) (c : Option Call) (o : Option Outcome) (x : Outcome) → outcome_for outcomes c ≡ Some o → o ≡ Some x → (call : Call) × (c ≡ Some call) × (outcomes call ≡ Some x)
given_outcome outcomes None o x e q = let same : None ≡ o = same_some e in cc
given_outcome outcomes (Some call) o x e q = by_outcome (outcomes call) refl e
  where
    by_outcome : (r : Option Outcome) → outcomes call ≡ r → option_map (λ z. Some z) r ≡ Some o → (c : Call) × (Some call ≡ Some c) × (outcomes c ≡ Some x)
    by_outcome None p e = cc
    by_outcome (Some z) p e = let same : Some z ≡ Some x = same_some e ∙ q in (call, refl, p ∙ same)

-- ---- needs

pub kinds_of_map : (g : Graph) (seen : Results) → IsMapOverFitting g seen → AreOfKind g (values_of seen)
kinds_of_map g seen m n v f e t k typed kind = let r = value_of_view (seen n) v e in (m n r.0 f r.1).kind t k v typed kind r.2

pub needs_fit : (g : Graph) → IsSpellable g → Checked g → (seen : Results) → IsMapOverFitting g seen → (n : Node) → Fits g n → (needs : List Node) → Needs g n seen needs → (m : Node) → IsIn m needs → Fits g m
needs_fit g spellable checked seen m n f needs listed z i =
    task_needs_fit g spellable (values_of seen) (kinds_of_map g seen m) (kinded g checked) n f listed.names (λ x h. reached_named (task_of g n) (values_of seen) x (listed.reached.only x h)) z (subst (λ l. IsIn z l) listed.listed i)

-- ---- derivation

module _ (g : Graph) (checked : Checked g) (s : Sources) (sources : AreSources s) (outcomes : Outcomes) (fitted : OutcomesFit outcomes) where
  pub record IsGoodAt (h : ℕ) : Type 0 where
    pub kinds : AreOfKind g (values_of (derive g s outcomes h))
    pub short : AreShort g (values_of (derive g s outcomes h))

  view_good : (h : ℕ) → IsGoodAt h → (n : Node) (view : View) (v : Value) → Fits g n → derive g s outcomes (suc h) n ≡ Some view → view.value ≡ Some v → (t : ℕ) (k : Kind) → reached_type g n ≡ Some t → kind_of g t ≡ Some k → IsOfKind g k v × IsShort v
  unfolding derive
  view_good h good n view v f e is =
      let seen : Results = derive g s outcomes h in
      let names : List Text = names_for g s n seen in
      let p = step_so g s n outcomes seen names view e in
      let own : Own = own_of (label_of g n) (text_of s) (task_of g n) (values_of seen) p.outcome in
      let w = if_valued (all_valued (values_of seen) (counted_needs (task_of g n) (values_of seen) names)) own.value v (ap (λ (z : View). z.value) (sym p.is) ∙ is) in
      let ok : IsOutcomeOf g (task_of g n) (values_of seen) names p.outcome = λ x q. let c = given_outcome outcomes (call_of g (task_of g n) (values_of seen) names) p.outcome x p.given q in (c.0, c.1, fitted c.0 x c.2) in
      own_good g checked (values_of seen) good.kinds good.short n f (label_of g n) (text_of s) sources p.outcome names v w.1 w.0 ok

  nothing : (n : Node) (v : Value) → values_of (derive g s outcomes zero) n ≡ Some (Some v) → ⊥
  unfolding derive
  nothing n v e = cc

  pub good_at : (h : ℕ) → IsGoodAt h
  good_at zero = record { kinds = λ n v f e. absurd (nothing n v e); short = λ n v f e. absurd (nothing n v e) }
  good_at (suc h) = record {
    kinds = λ n v f e t k typed kind. let r = value_of_view (derive g s outcomes (suc h) n) v e in (view_good h (good_at h) n r.0 v f r.1 r.2 t k typed kind).0;
    short = λ n v f e.
        let r = value_of_view (derive g s outcomes (suc h) n) v e in
        let k = kinded g checked n f in
        (view_good h (good_at h) n r.0 v f r.1 r.2 k.0 k.1 k.2 k.3).1;
  }

  pub map_at : (h : ℕ) → IsMapOverFitting g (derive g s outcomes h)
  map_at h n view f e = record {
    fits = f;
    valued = valued_exactly view (derived_sound g s outcomes h n view e);
    kind = λ t k v typed kind is. (good_at h).kinds n v f (ap (option_map (λ (w : View). w.value)) e ∙ ap Some is) t k typed kind;
  }

-- what a map holds of the nodes that fit
pub fitting_so : (g : Graph) (seen : Results) (n : Node) (view : View) → fitting g seen n ≡ Some view → (fits g n ≡ true) × (seen n ≡ Some view)
fitting_so g seen n view e = (elim (fits g n) as (λ b. fits g n ≡ b → cond b (seen n) None ≡ Some view → (fits g n ≡ true) × (seen n ≡ Some view)) [ true ↦ λ f q. (f, q) | false ↦ λ f q. cc ]) refl e

pub fitting_map : (g : Graph) (seen : Results) → IsMapOverFitting g seen → IsResultMap g (fitting g seen)
fitting_map g seen m n view e = let r = fitting_so g seen n view e in m n view (fit.fits_so g n r.0) r.1
