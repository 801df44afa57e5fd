-- What the laws over checked graphs say.
use Rattle.std.specs.Prelude.{◌≡◌, ℕ, List, Option, Some}
use Rattle.object_values.specs.declared.nodes.Node.{Node}
use Rattle.object_values.specs.declared.views.Value.{Value}
use Rattle.object_values.specs.declared.views.Value.TheVariants.{List as Listed}
use Rattle.object_values.specs.declared.views.View.{View}
use Rattle.object_values.specs.declared.calls.Call.{Call}
use Rattle.object_values.specs.declared.calls.Outcome.{Outcome}
use Rattle.meaning_graph.specs.Graphs.{Graph}
use Rattle.meaning_texts.specs.Lists.{IsIn}
use Rattle.meaning_graph.specs.Grammar.{IsSpellable}
use Rattle.meaning_graph.specs.Checks.{Checked}
use Rattle.meaning_calls.specs.Jobs.{IsWellFormed}
use Rattle.meaning_calls.specs.Outcomes.{OutcomeFits}
use Rattle.meaning_tasks.specs.Nodes.{Fits}
use Rattle.meaning_tasks.specs.Needs.{Results, Needs}
use Rattle.meaning_tasks.specs.Calls.{CallOf}
use Rattle.meaning_tasks.specs.Settle.{Settles}
use Rattle.meaning_tasks.specs.Maps.{IsResultOf, IsResultMap}
use Rattle.meaning_derive.specs.Derive.{Sources, text_of, Outcomes, derive, derived}
use Rattle.meaning_derive.specs.Chains.{IsMet}
use Rattle.meaning_derive.specs.Calls.{IsCallFrom, IsFrontier}
use Rattle.meaning_derive.specs.Given.{AreSources, OutcomesFit}
use Rattle.meaning_derive.specs.Premises.{IsShort, fitting, IsMapOverFitting}

-- Each need of a node that fits, fits.
abbrev pub NeedsFit : Type 0
NeedsFit =
    (g : Graph) → IsSpellable g → Checked g → (seen : Results) → IsMapOverFitting g seen
    → (n : Node) → Fits g n → (needs : List Node) → Needs g n seen needs → (m : Node) → IsIn m needs
    → Fits g m

-- Derive(h) is a map of results over the nodes that fit.
abbrev pub DeriveIsMap : Type 0
DeriveIsMap =
    (g : Graph) → IsSpellable g → Checked g → (s : Sources) → AreSources s → (outcomes : Outcomes)
    → OutcomesFit outcomes → (h : ℕ) → IsResultMap g (fitting g (derive g s outcomes h))

-- The same of each result of a node that fits.
abbrev pub DeriveIsMapOverFitting : Type 0
DeriveIsMapOverFitting =
    (g : Graph) → IsSpellable g → Checked g → (s : Sources) → AreSources s → (outcomes : Outcomes)
    → OutcomesFit outcomes → (h : ℕ) → IsMapOverFitting g (derive g s outcomes h)

-- The calls that are met from a node that fits are well formed, and so are those at which its
-- derivation stops.
abbrev pub CallsWellFormed : Type 0
CallsWellFormed =
    (g : Graph) → IsSpellable g → Checked g → (s : Sources) → AreSources s → (outcomes : Outcomes)
    → OutcomesFit outcomes → (n : Node) → Fits g n → (call : Call)
    → IsCallFrom g (derived g s outcomes) n call → IsWellFormed call

abbrev pub FrontierWellFormed : Type 0
FrontierWellFormed =
    (g : Graph) → IsSpellable g → Checked g → (s : Sources) → AreSources s → (outcomes : Outcomes)
    → OutcomesFit outcomes → (n : Node) → Fits g n → (call : Call) → IsFrontier g s outcomes n call
    → IsWellFormed call

-- Each node that is met from a node that fits, fits.
abbrev pub MetFit : Type 0
MetFit =
    (g : Graph) → IsSpellable g → Checked g → (seen : Results) → IsMapOverFitting g seen
    → (n : Node) → Fits g n → (m : Node) → IsMet g seen n m → Fits g m

-- ---- what is derived

-- No body of a node that fits is longer than the limit.
abbrev pub HasShortValues : Graph → Results → Type 0
HasShortValues g seen =
    (n : Node) (view : View) (v : Value) → Fits g n → seen n ≡ Some view → view.value ≡ Some v
    → IsShort v

abbrev pub DerivedIsShort : Type 0
DerivedIsShort =
    (g : Graph) → Checked g → (s : Sources) → AreSources s → (outcomes : Outcomes)
    → OutcomesFit outcomes → (h : ℕ) → HasShortValues g (derive g s outcomes h)

-- The elements of each list of a node that fits do so too.
abbrev pub HasFittingElements : Graph → Results → Type 0
HasFittingElements g seen =
    (n : Node) (view : View) (elements : List Node) → Fits g n → seen n ≡ Some view
    → view.value ≡ Some (Listed elements) → (e : Node) → IsIn e elements → Fits g e

abbrev pub DerivedElementsFit : Type 0
DerivedElementsFit =
    (g : Graph) → Checked g → (s : Sources) → AreSources s → (outcomes : Outcomes)
    → OutcomesFit outcomes → (h : ℕ) → HasFittingElements g (derive g s outcomes h)

-- ---- over any map of results, derived or not

-- Calls are well formed.
abbrev pub CallsFormedOver : Type 0
CallsFormedOver =
    (g : Graph) → IsSpellable g → Checked g → (seen : Results) → IsMapOverFitting g seen
    → HasShortValues g seen → (n : Node) → Fits g n → (call : Call) → CallOf g n seen (Some call)
    → IsWellFormed call

-- The outcome, if there is one, is of the node's call, and fits it.
pub record IsOutcomeFor (g : Graph) (n : Node) (seen : Results)
    (outcome : Option Outcome) : Type 0 where
  pub call : Option Call
  pub called : CallOf g n seen call
  pub fits : (o : Outcome) → outcome ≡ Some o → (c : Call) × (call ≡ Some c) × OutcomeFits c o

-- A result of the node, and a short one.
pub record IsShortResultOf (g : Graph) (n : Node) (view : View) : Type 0 where
  pub result : IsResultOf g n view
  pub short : (v : Value) → view.value ≡ Some v → IsShort v

-- What a node settles to is one.
abbrev pub SettlesWell : Type 0
SettlesWell =
    (g : Graph) → IsSpellable g → Checked g → (s : Sources) → AreSources s → (seen : Results)
    → IsMapOverFitting g seen → HasShortValues g seen → (n : Node) → Fits g n
    → (outcome : Option Outcome) → IsOutcomeFor g n seen outcome
    → (view : View) → Settles g (text_of s) n seen outcome view → IsShortResultOf g n view
