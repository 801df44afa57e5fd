-- What a derivation goes by over what is kept.
use Rattle.std.specs.Prelude.{ℕ, slice_get}
use Rattle.meaning_graph.specs.Graphs.{Graph}
use Rattle.meaning_derive.specs.Derive.{Sources}
use Rattle.meaning_records.specs.Tables.{kept_outcome}
use Rattle.kept_records.specs.Records.{record_of}
use Rattle.kept_tables.specs.Holdings.{Holding}
use Rattle.derive_walk.specs.Calls.{GivenOutcomes as Listed}
use Rattle.derive_walk.specs.Keeping.{Keeping}
use Rattle.derive_walk.specs.Settings.{world_by}
use Rattle.derive_walk.specs.Worlds.{World}

-- what tables keep, as a walk looks it up at an epoch
abbrev pub keeping_of : Holding → ℕ → Keeping
keeping_of kept epoch = record {
  outcomes = kept_outcome kept.tables.calls;
  contents = λ number. slice_get kept.tables.contents number;
  records = λ n. record_of n kept.records.records;
  placed = λ place. slice_get kept.records.records place;
  epoch = epoch;
}

-- the graph, the sources, what is kept, and the outcomes that were given
abbrev pub kept_world : Holding → ℕ → Graph → Sources → Listed → World
kept_world kept epoch = world_by (keeping_of kept epoch)
