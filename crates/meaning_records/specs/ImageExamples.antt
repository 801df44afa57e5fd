-- What some store files stand for.
use Rattle.std.specs.Prelude.{◌≡◌, ℕ, List, [], ◌∷◌, ◌++◌, length, take, Some, None, codes}
use Rattle.std.specs.FinMap as map
use Rattle.object_values.specs.declared.views.Value.TheVariants.{Simple}
use Rattle.object_values.specs.Texts.{no_texts}
use Rattle.meaning_records.specs.Front.{new_store}
use Rattle.meaning_records.specs.Images.{with_record}
use Rattle.object_values.specs.declared.items.Item.TheVariants.{Content, Put, Dropped}
use Rattle.meaning_records.specs.States.{State, spell_batch}
use Rattle.meaning_records.specs.Stands.{Stands, StandsNot}
use Rattle.meaning_records.specs.Batches.{graph_batch}

-- a new store on an empty disk
abbrev pub empty_store : List ℕ
empty_store = new_store []

-- a store that was opened with a graph
abbrev pub with_graph : List ℕ
with_graph = with_record 64 (spell_batch (graph_batch (codes "type c simple;"))) empty_store

-- and then an empty source was put
abbrev pub with_source : List ℕ
with_source = with_record 88 (spell_batch (Content (Simple []) ∷ Put (codes "a.c") 0 ∷ [])) with_graph

-- or a source was dropped that isn't there
abbrev pub with_drop : List ℕ
with_drop = with_record 88 (spell_batch (Dropped (codes "a.c") ∷ [])) with_graph

-- a payload that doesn't read, and after it an open gate with no record
abbrev pub broken : List ℕ
broken = take 70 (with_record 64 (9 ∷ []) empty_store) ++ 1 ∷ []

abbrev pub nothing_kept : State
nothing_kept = record { tables = record { contents = []; calls = []; records = [] }; sources = no_texts; graph = None; noted = [] }

abbrev pub graph_kept : State
graph_kept = record { tables = record { contents = []; calls = []; records = [] }; sources = no_texts; graph = Some (codes "type c simple;"); noted = [] }

abbrev pub source_kept : State
source_kept = record {
  tables = record { contents = Simple [] ∷ []; calls = []; records = [] };
  sources = map.insert no_texts (codes "a.c") [];
  graph = Some (codes "type c simple;");
  noted = [];
}

pub record WorkedStores : Type 0 where
  pub graph_size : length with_graph ≡ 89
  pub source_size : length with_source ≡ 116
  pub blank : Stands [] nothing_kept
  pub empty : Stands empty_store nothing_kept
  pub graph : Stands with_graph graph_kept
  pub source : Stands with_source source_kept

pub record WorkedFaults : Type 0 where
  -- no front, and a record of no batch
  pub front : StandsNot (2 ∷ 3 ∷ []) 0
  pub payload : StandsNot (with_record 64 (9 ∷ []) empty_store) 64
  -- what doesn't read after the records before it has the place of its own gate
  pub place : StandsNot with_drop 88
  -- what records say is tested once all are whole
  pub order : StandsNot broken 70
