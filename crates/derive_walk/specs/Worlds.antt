-- What a derivation goes by.
use Rattle.object_values.specs.declared.nodes.Node.{Node}
use Rattle.object_values.specs.declared.calls.Call.{Call}
use Rattle.meaning_graph.specs.Graphs.{Graph}
use Rattle.meaning_graph.specs.Grammar.{IsSpellable}
use Rattle.meaning_graph.specs.Checks.{Checked}
use Rattle.meaning_tasks.specs.Needs.{Results}
use Rattle.meaning_derive.specs.Derive.{Sources, Outcomes, derived}
use Rattle.meaning_derive.specs.Chains.{IsNeed}
use Rattle.meaning_derive.specs.Calls.{IsFrontier}
use Rattle.meaning_derive.specs.Given.{AreSources, OutcomesFit}
use Rattle.meaning_true.specs.Knowing.{KeptRecords, Knows, no_records}
use Rattle.derive_walk.specs.Keeping.{AreReadable}
use Rattle.derive_walk.specs.Places.{KeptPlaces, no_places}

-- The graph, the sources, the outcome of each call that is known to have one, the records that are kept of nodes, and those at each place.
pub record World : Type 0 where
  pub graph : Graph
  pub sources : Sources
  pub outcomes : Outcomes
  pub records : KeptRecords
  pub places : KeptPlaces

abbrev pub world_over : KeptRecords → KeptPlaces → Graph → Sources → Outcomes → World
world_over records places g s outcomes =
    record { graph = g; sources = s; outcomes = outcomes; records = records; places = places }

-- without a record
abbrev pub world : Graph → Sources → Outcomes → World
world = world_over no_records no_places

-- They are what derivation is given.
pub record IsWorld (w : World) : Type 0 where
  pub spellable : IsSpellable w.graph
  pub checked : Checked w.graph
  pub sources : AreSources w.sources
  pub fit : OutcomesFit w.outcomes
  pub readable : AreReadable w.graph w.records

-- What its records say is true there, and those that were checked hold.
abbrev pub KnowsIn : World → Type 0
KnowsIn w = Knows w.graph w.sources w.outcomes w.records

-- ---- what is derived there

abbrev pub seen_in : World → Results
seen_in w = derived w.graph w.sources w.outcomes

abbrev pub IsNeedIn : World → Node → Node → Type 0
IsNeedIn w n m = IsNeed w.graph (seen_in w) n m

-- a call at which the derivation of the node stops
abbrev pub StopsAtCall : World → Node → Call → Type 0
StopsAtCall w n call = IsFrontier w.graph w.sources w.outcomes n call
