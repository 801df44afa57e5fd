-- A store that is written anew, byte for byte: a graph, two sources with one text, a call that uses it, and records of two nodes.
use Rattle.std.specs.Prelude.{◌≡◌, ℕ, List, [], ◌∷◌, ◌++◌, Some, None, codes, map as map_each}
use Rattle.std.specs.FinMap as map
use Rattle.object_values.specs.declared.messages.Status.TheVariants.{Ok, Error}
use Rattle.object_values.specs.declared.records.Role.TheVariants.{Needed, Reached}
use Rattle.object_values.specs.declared.facts.FactDep.{FactDep}
use Rattle.object_values.specs.declared.facts.Fact.{Fact}
use Rattle.object_values.specs.declared.facts.Fresh.{Fresh}
use Rattle.object_values.specs.declared.views.Value.{Value}
use Rattle.object_values.specs.declared.views.Value.TheVariants.{Simple}
use Rattle.object_values.specs.Texts.{Text, Texts}
use Rattle.object_values.specs.declared.items.StoredDep.{StoredDep}
use Rattle.object_values.specs.declared.items.Item.{Item}
use Rattle.object_values.specs.declared.items.Item.TheVariants.{Graph, Content, Put, Node}
use Rattle.meaning_records.specs.States.{State, nothing, spell_batch, ReadsAll}
use Rattle.meaning_records.specs.Tables.{Calls}
use Rattle.meaning_records.specs.Live.{Live, AreLive, batch_text, MayLive}
use Rattle.meaning_records.specs.ByteExamples.{four, text, own_message_bytes, need_message_bytes}
use Rattle.meaning_records.specs.ItemExamples.{call, made_outcome}
use Rattle.meaning_records.specs.NoteExamples.{first_node, second_node, noted_record, noted_fact, stored_dep, fact_dep}
use Rattle.meaning_records.specs.BatchExamples.{known, kept_by}
use Rattle.meaning_records.specs.NoteBatchExamples.{fresh_of, fresh_text}

-- ---- what it has

abbrev pub ex_live_graph : Text
ex_live_graph = codes "type c simple;"

abbrev pub ex_live_named : List (Text × Text)
ex_live_named = (codes "a.c", known) ∷ (codes "b.c", known) ∷ []

abbrev pub ex_live_sources : Texts
ex_live_sources = map.from_sorted ex_live_named

abbrev pub ex_live_calls : Calls
ex_live_calls = (call (Some known), made_outcome) ∷ []

-- a node over the text, with a value that nothing before it needs
abbrev pub ex_live_first : Fact
ex_live_first = noted_fact first_node (fact_dep (codes "a.c") Needed (Some (Simple known)) ∷ []) (Some fresh_text)

-- a node over this value and an absent source, with the text as its own value
abbrev pub ex_value_dep : FactDep
ex_value_dep = record { node = first_node; role = Needed; value = Some fresh_text }

abbrev pub ex_live_second : Fact
ex_live_second = noted_fact second_node (ex_value_dep ∷ fact_dep (codes "x.h") Reached None ∷ []) (Some (Simple known))

abbrev pub ex_first_fresh : Fresh
ex_first_fresh = fresh_of ex_live_first Error 2

abbrev pub ex_second_fresh : Fresh
ex_second_fresh = fresh_of ex_live_second Ok 3

abbrev pub ex_live_with : List Fresh → Live
ex_live_with records = record { graph = ex_live_graph; sources = ex_live_sources; calls = ex_live_calls; records = records }

abbrev pub ex_live : Live
ex_live = ex_live_with (ex_first_fresh ∷ ex_second_fresh ∷ [])

-- ---- its batches

abbrev pub ex_first_note : Item
ex_first_note = Node (noted_record first_node (stored_dep (codes "a.c") (Some 0) ∷ []) 0 (Some 1) Error 2)

abbrev pub ex_value_stored : StoredDep
ex_value_stored = record { node = first_node; content = Some 1 }

abbrev pub ex_second_note : Item
ex_second_note = Node (noted_record second_node (ex_value_stored ∷ stored_dep (codes "x.h") None ∷ []) 1 (Some 0) Ok 3)

abbrev pub ex_live_contents : List Value
ex_live_contents = Simple known ∷ fresh_text ∷ []

abbrev pub ex_graph_batch : List Item
ex_graph_batch = Graph ex_live_graph ∷ []

abbrev pub ex_put_batches : List (List Item)
ex_put_batches = (Content (Simple known) ∷ Put (codes "a.c") 0 ∷ []) ∷ (Put (codes "b.c") 0 ∷ []) ∷ []

abbrev pub ex_keep_batch : List Item
ex_keep_batch = kept_by 0 ∷ []

abbrev pub ex_first_batch : List Item
ex_first_batch = Content fresh_text ∷ ex_first_note ∷ []

abbrev pub ex_second_batch : List Item
ex_second_batch = ex_second_note ∷ []

-- a content is written once, before the first that needs it
abbrev pub ex_live_batches : List (List Item)
ex_live_batches = ex_graph_batch ∷ (ex_put_batches ++ ex_keep_batch ∷ ex_first_batch ∷ ex_second_batch ∷ [])

abbrev pub ex_kept_bytes : List ℕ
ex_kept_bytes =
    5 ∷ text 2 (codes "cc") ++ text 1 (codes "1") ++ four 1 ++ text 2 (codes "cc") ++ four 0
    ++ four 1 ++ four 0 ++ text 3 (codes "a.c") ++ 1 ∷ four 0 ++ four 2 ++ text 1 (codes "p") ++ text 1 (codes "q")
    ++ 0 ∷ four 0 ++ four 2 ++ text 1 (codes "p") ++ four 0 ++ text 1 (codes "q") ++ four 0

abbrev pub ex_first_bytes : List ℕ
ex_first_bytes =
    6 ∷ text 3 (codes "m.x") ++ four 0 ++ four 1 ++ 1 ∷ four 7
    ++ four 1 ++ text 3 (codes "a.c") ++ four 0 ++ four 0 ++ 1 ∷ four 0
    ++ four 0 ++ 1 ∷ four 1 ++ 1 ∷ four 1 ++ own_message_bytes ++ 2 ∷ four 1 ++ need_message_bytes ++ four 2

abbrev pub ex_second_bytes : List ℕ
ex_second_bytes =
    6 ∷ text 3 (codes "m.x") ++ four 0 ++ four 2 ++ 1 ∷ four 7 ++ 1 ∷ four 8
    ++ four 2 ++ text 3 (codes "m.x") ++ four 0 ++ four 1 ++ 1 ∷ four 7 ++ 1 ∷ four 1 ++ text 3 (codes "x.h") ++ four 0 ++ four 0 ++ 0 ∷ []
    ++ four 1 ++ 1 ∷ four 0 ++ 1 ∷ four 1 ++ own_message_bytes ++ 0 ∷ four 1 ++ need_message_bytes ++ four 3

-- ---- what is kept in it

abbrev pub ex_live_state : State
ex_live_state = record {
  tables = record { contents = ex_live_contents; calls = ex_live_calls; records = ex_live_first ∷ ex_live_second ∷ [] };
  sources = ex_live_sources;
  graph = Some ex_live_graph;
  noted = ex_live_first ∷ ex_live_second ∷ [];
}

pub record RewrittenStore : Type 0 where
  pub live : AreLive ex_live ex_live_batches ex_live_contents
  pub payloads : map_each spell_batch ex_live_batches ≡
      (1 ∷ text 14 ex_live_graph)
      ∷ (2 ∷ four 8 ++ 1 ∷ text 3 known ++ 3 ∷ text 3 (codes "a.c") ++ four 0)
      ∷ (3 ∷ text 3 (codes "b.c") ++ four 0)
      ∷ ex_kept_bytes
      ∷ (2 ∷ four 6 ++ 1 ∷ text 1 (codes "y") ++ ex_first_bytes)
      ∷ ex_second_bytes
      ∷ []
  pub size : batch_text ex_live_batches ≡ 370
  pub may : MayLive ex_live
  pub reads : ReadsAll nothing (map_each spell_batch ex_live_batches) ex_live_state

-- ---- what isn't written

-- these are no batches of it, whichever contents they have
abbrev pub IsNotLive : List (List Item) → Type 0
IsNotLive batches = (contents : List Value) → ¬ AreLive ex_live batches contents

pub record NoRewrittenStore : Type 0 where
  -- the order of kinds
  pub graph_last : IsNotLive (ex_put_batches ++ ex_keep_batch ∷ ex_first_batch ∷ ex_second_batch ∷ ex_graph_batch ∷ [])
  pub call_first : IsNotLive (ex_graph_batch ∷ ex_keep_batch ∷ (ex_put_batches ++ ex_first_batch ∷ ex_second_batch ∷ []))
  pub records_first : IsNotLive (ex_graph_batch ∷ (ex_put_batches ++ ex_first_batch ∷ ex_second_batch ∷ ex_keep_batch ∷ []))
  -- records: in the order in which the nodes were noted, all of them, each in a batch of its own and after its contents
  pub turned : IsNotLive (ex_graph_batch ∷ (ex_put_batches ++ ex_keep_batch ∷ ex_second_batch ∷ ex_first_batch ∷ []))
  pub first_alone : IsNotLive (ex_graph_batch ∷ (ex_put_batches ++ ex_keep_batch ∷ ex_first_batch ∷ []))
  pub together : IsNotLive (ex_graph_batch ∷ (ex_put_batches ++ ex_keep_batch ∷ (ex_first_batch ++ ex_second_batch) ∷ []))
  pub content_later : IsNotLive (ex_graph_batch ∷ (ex_put_batches ++ ex_keep_batch ∷ (ex_first_note ∷ Content fresh_text ∷ []) ∷ ex_second_batch ∷ []))
  -- a node that is noted twice, and one that may not be noted
  pub twice : ¬ MayLive (ex_live_with (ex_first_fresh ∷ ex_second_fresh ∷ ex_first_fresh ∷ []))
  pub too_high : ¬ MayLive (ex_live_with (fresh_of ex_live_first Error 65 ∷ []))
