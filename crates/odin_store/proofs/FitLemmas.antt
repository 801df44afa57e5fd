-- That what a store has of nodes fits the graph of its text.
use Rattle.std.proofs.Common.{◌≡◌, inl, inr, ℕ, Bool, true, false, cond, List, [], ◌∷◌, All, Some, IsTrue, sym, subst}
use Rattle.std.proofs.lemmas.List.Elements.{All-nil, All-cons, All-head, All-tail, All-weaker}
use Rattle.object_values.specs.contracts.nodes.NodePartialEq.TheImpl.{ghosts as node_eq}
use Rattle.object_values.specs.declared.facts.Fact.{Fact}
use Rattle.object_values.specs.Texts.{Text}
use Rattle.meaning_graph.specs.Graphs.{Graph}
use Rattle.meaning_graph.specs.Grammar.{GraphText}
use Rattle.meaning_graph.specs.TextLaws.{GraphIsOne}
use Rattle.meaning_texts.specs.Lists.{IsIn}
use Rattle.meaning_records.specs.Laws.{LastWereNoted}
use Rattle.meaning_records.specs.States.{State, nothing, ReadsAll}
use Rattle.meaning_records.specs.Tables.{put_fact, put_facts}
use Rattle.validator.specs.FitLaws.{FittingIsTested}
use Rattle.validator.specs.Fitting.{FactFits, fact_fits}
use Rattle.odin_store.specs.Held.{counts, NotedFits, NotedPass}
use Rattle.odin_store.proofs.StoreLemmas.{counted}

-- ---- by a test

abbrev Passes : Graph → Fact → Type 0
Passes g fact = IsTrue (fact_fits g fact)

all_pass : FittingIsTested → (g : Graph) (facts : List Fact) → All (FactFits g) facts → All (Passes g) facts
all_pass tests g facts fits = All-weaker (FactFits g) (Passes g) (λ fact fit. (tests g fact).1 fit) facts fits

pub to_test : FittingIsTested → (text : Text) (facts : List Fact) → NotedFits text facts → NotedPass text facts
to_test tests text facts fits g reads = all_pass tests g facts (fits g reads)

pub from_test : FittingIsTested → (text : Text) (facts : List Fact) → NotedPass text facts → NotedFits text facts
from_test tests text facts pass g reads = All-weaker (Passes g) (FactFits g) (λ fact passes. (tests g fact).0 passes) facts (pass g reads)

-- ---- of all that was noted

-- what is true of all is true of each that is one of them
of_one : {A : Type 0} (P : A → Type 0) (all : List A) (x : A) → All P all → IsIn x all → P x
of_one P [] x each here = absurd here
of_one P (y ∷ ys) x each (inl is) = subst P (sym is) (All-head P y ys each)
of_one P (y ∷ ys) x each (inr more) = of_one P ys x (All-tail P y ys each) more

pub of_some : {A : Type 0} (P : A → Type 0) (all some : List A) → All P all → All (λ x. IsIn x all) some → All P some
of_some P all [] each are = All-nil P
of_some P all (x ∷ xs) each are =
    All-cons P x xs (of_one P all x each (All-head (λ x. IsIn x all) x xs are)) (of_some P all xs each (All-tail (λ x. IsIn x all) x xs are))

-- What was loaded fits: it was noted since the graph, and all that was fits.
pub loaded_fit : LastWereNoted → GraphIsOne → (g : Graph) (text : Text) → GraphText text g → (records : List (List ℕ)) (state : State) → ReadsAll nothing records state
    → state.graph ≡ Some text → (counts text state.graph ≡ true → All (FactFits g) state.noted) → NotedFits text state.tables.records
loaded_fit law graphs g text spelled records state read last fit other reads =
    let fits : All (FactFits g) state.tables.records = of_some (FactFits g) state.noted state.tables.records (fit (counted text state.graph last)) (law records state read) in
    subst (λ x. All (FactFits x) state.tables.records) (sym (graphs text g other spelled reads)) fits

-- nothing fits any graph
pub none_fit : (text : Text) (facts : List Fact) → facts ≡ [] → NotedFits text facts
none_fit text facts none g reads = subst (All (FactFits g)) (sym none) (All-nil (FactFits g))

-- ---- with more noted

module _ (P : Fact → Type 0) where
  put_each : (fact : Fact) (facts : List Fact) → P fact → All P facts → All P (put_fact fact facts)
  put_each fact [] holds all = All-cons P fact [] holds all
  put_each fact (f ∷ facts) holds all = by (node_eq.eq fact.node f.node) (put_each fact facts holds (All-tail P f facts all))
    where
      by : (same : Bool) → All P (put_fact fact facts) → All P (cond same (fact ∷ facts) (f ∷ put_fact fact facts))
      by true rest = All-cons P fact facts holds (All-tail P f facts all)
      by false rest = All-cons P f (put_fact fact facts) (All-head P f facts all) rest

  put_all_each : (more facts : List Fact) → All P more → All P facts → All P (put_facts more facts)
  put_all_each [] facts some all = all
  put_all_each (fact ∷ more) facts some all = put_all_each more (put_fact fact facts) (All-tail P fact more some) (put_each fact facts (All-head P fact more some) all)

pub noted_fit : FittingIsTested → GraphIsOne → (text : Text) (g : Graph) → GraphText text g → (more facts new : List Fact) → new ≡ put_facts more facts → All (FactFits g) more → NotedPass text facts → NotedPass text new
noted_fit tests graphs text g spelled more facts new is fits all other reads =
    let some : All (FactFits other) more = subst (λ x. All (FactFits x) more) (sym (graphs text g other spelled reads)) fits in
    subst (All (Passes other)) (sym is) (put_all_each (Passes other) more facts (all_pass tests other more some) (all other reads))

-- and where all is as it was
pub same_fit : (text next : Text) (facts new : List Fact) → next ≡ text → new ≡ facts → NotedPass text facts → NotedPass next new
same_fit text next facts new same is all = subst (λ t. NotedPass t new) (sym same) (subst (NotedPass text) (sym is) all)
