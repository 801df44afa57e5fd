-- What an advance goes by.
use Rattle.meaning_graph.specs.Graphs.{Graph}
use Rattle.meaning_graph.specs.Grammar.{IsSpellable}
use Rattle.meaning_derive.specs.Derive.{Sources}
use Rattle.meaning_derive.specs.Given.{AreSources}
use Rattle.derive_walk.specs.Calls.{GivenOutcomes as Listed}
use Rattle.derive_walk.specs.declared.setting.Setting.{Setting}
use Rattle.derive_walk.specs.Keeping.{AreReadable, Keeping, places_in, records_in}
use Rattle.derive_walk.specs.Outcomes.{after}
use Rattle.derive_walk.specs.Worlds.{World, IsWorld, world_over}

-- the world by what is kept, after these outcomes were given
abbrev pub world_by : Keeping → Graph → Sources → Listed → World
world_by keeping g s given =
    world_over (records_in keeping) (places_in keeping) g s (after keeping.outcomes given)

-- Derivation may go by these: the graph can be spelled, the sources are such, and the records may be kept.
pub record MayGoBy (keeping : Keeping) (g : Graph) (s : Sources) : Type 0 where
  pub spellable : IsSpellable g
  pub sources : AreSources s
  pub readable : AreReadable g (records_in keeping)

-- the world that a setting tells of
abbrev pub world_in : {K : Type 0} → (K → Keeping) → Setting K → World
world_in keeps s =
    world_by (keeps s.known.now) s.planned.now s.sources.now.texts s.given.now

-- Derivation may go by it.
abbrev pub IsSetting : {K : Type 0} → (K → Keeping) → Setting K → Type 0
IsSetting keeps s = IsWorld (world_in keeps s)
