-- Items that may come after what is kept, and items that may not.
use Rattle.std.specs.Prelude.{◌≡◌, ℕ, List, [], ◌∷◌, length, Option, Some, None, codes}
use Rattle.std.specs.FinMap as map
use Rattle.object_values.specs.declared.messages.Status.{Status}
use Rattle.object_values.specs.declared.messages.Status.TheVariants.{Ok, Error, Abort}
use Rattle.object_values.specs.declared.nodes.Node.{Node}
use Rattle.object_values.specs.declared.views.Part.{Part}
use Rattle.object_values.specs.declared.views.Value.{Value}
use Rattle.object_values.specs.declared.views.Value.TheVariants.{Simple, List as Listed, Compound}
use Rattle.object_values.specs.declared.calls.Call.{Call}
use Rattle.object_values.specs.declared.calls.Outcome.{Outcome}
use Rattle.object_values.specs.Texts.{Texts, no_texts}
use Rattle.object_values.specs.declared.items.StoredCall.{StoredCall}
use Rattle.object_values.specs.declared.items.StoredOutput.{StoredOutput}
use Rattle.object_values.specs.declared.items.StoredOutcome.{StoredOutcome}
use Rattle.object_values.specs.declared.items.Item.{Item}
use Rattle.object_values.specs.declared.items.Item.TheVariants.{Graph, Content, Put, Dropped, Kept}
use Rattle.meaning_records.specs.Tables.{Tables, Calls, Loads, LoadsAll}
use Rattle.meaning_records.specs.States.{State, TakesAll}

-- a text and a list as contents, a source with the text, and a graph
abbrev pub old : State
old = record {
  tables = record { contents = Simple (codes "x=1") ∷ Listed [] ∷ []; calls = []; records = [] };
  sources = map.insert no_texts (codes "a.c") (codes "x=1");
  graph = Some (codes "type c simple;");
  noted = [];
}

-- what is kept then, with one content more, with these calls, or with other sources
abbrev pub with_contents : Value → State
with_contents value = record {
  tables = record { contents = Simple (codes "x=1") ∷ Listed [] ∷ value ∷ []; calls = []; records = [] };
  sources = old.sources;
  graph = old.graph;
  noted = [];
}

abbrev pub ex_with_calls : Calls → State
ex_with_calls calls = record { tables = record { contents = old.tables.contents; calls = calls; records = [] }; sources = old.sources; graph = old.graph; noted = [] }

abbrev pub with_sources : Texts → State
with_sources sources = record { tables = old.tables; sources = sources; graph = old.graph; noted = [] }

-- these items don't read after what is kept
abbrev pub RefusesItems : State → List Item → Type 0
RefusesItems state items = (new : State) → ¬ TakesAll state items new

-- ---- graphs, contents and sources

abbrev pub node : Node
node = record { source = codes "a.c"; params = []; steps = [] }

pub record EditsThatRead : Type 0 where
  pub graph : TakesAll old (Graph (codes "g") ∷ []) (record { tables = old.tables; sources = old.sources; graph = Some (codes "g"); noted = [] })
  -- a content that stands there already gets a number of its own
  pub content : TakesAll old (Content (Simple (codes "x=1")) ∷ []) (with_contents (Simple (codes "x=1")))
  pub list : TakesAll old (Content (Listed (node ∷ [])) ∷ []) (with_contents (Listed (node ∷ [])))
  pub put : TakesAll old (Put (codes "b.c") 0 ∷ []) (with_sources (map.insert old.sources (codes "b.c") (codes "x=1")))
  pub drop : TakesAll old (Dropped (codes "a.c") ∷ []) (with_sources (map.remove old.sources (codes "a.c")))

pub record EditsThatDoNot : Type 0 where
  pub put_number : RefusesItems old (Put (codes "b.c") 2 ∷ [])
  pub put_kind : RefusesItems old (Put (codes "b.c") 1 ∷ [])
  pub put_name : RefusesItems old (Put (codes "b c") 0 ∷ [])
  pub drop_name : RefusesItems (with_sources (map.insert no_texts (codes "b c") [])) (Dropped (codes "b c") ∷ [])
  pub drop_absent : RefusesItems old (Dropped (codes "b.c") ∷ [])
  -- a text that comes later
  pub put_early : RefusesItems old (Put (codes "b.c") 2 ∷ Content (Simple []) ∷ [])

-- what the tables alone tell of items
pub record TablesThatTell : Type 0 where
  pub in_order : LoadsAll old.tables (Content (Simple []) ∷ Put (codes "b.c") 2 ∷ Dropped (codes "c.c") ∷ []) (with_contents (Simple [])).tables
  pub early : (new : Tables) → ¬ LoadsAll old.tables (Put (codes "b.c") 2 ∷ Content (Simple []) ∷ []) new
  pub kind : (new : Tables) → ¬ Loads old.tables (Put (codes "b.c") 1) new
  pub name : (new : Tables) → ¬ Loads old.tables (Put (codes "b c") 0) new
  pub drop_name : (new : Tables) → ¬ Loads old.tables (Dropped (codes "b c")) new

abbrev pub one_part : List ℕ → Value
one_part body = Compound (record { name = codes "p"; body = body } ∷ [])

-- texts of the most bytes, and of one more
pub record LongContents : Type 0 where
  pub longest : (text : List ℕ) → length text ≡ 16777216 → TakesAll old (Content (Simple text) ∷ []) (with_contents (Simple text))
  pub longest_part : (text : List ℕ) → length text ≡ 16777216 → TakesAll old (Content (one_part text) ∷ []) (with_contents (one_part text))
  pub too_long : (text : List ℕ) → length text ≡ 16777217 → RefusesItems old (Content (Simple text) ∷ [])
  pub too_long_part : (text : List ℕ) → length text ≡ 16777217 → RefusesItems old (Content (one_part text) ∷ [])

-- ---- calls

-- a call with one input, of the tool with this name
abbrev pub stored_call : List ℕ → Option ℕ → StoredCall
stored_call tool content = record {
  tool = tool;
  version = codes "1";
  words = codes "cc" ∷ [];
  params = [];
  parts = record { slot = 0; label = codes "a.c"; content = content } ∷ [];
  outs = codes "p" ∷ codes "q" ∷ [];
}

abbrev pub call : Option (List ℕ) → Call
call body = record {
  tool = codes "cc";
  version = codes "1";
  words = codes "cc" ∷ [];
  params = [];
  parts = record { slot = 0; label = codes "a.c"; body = body } ∷ [];
  outs = codes "p" ∷ codes "q" ∷ [];
}

-- its outputs, by the numbers of their texts
abbrev pub p_of : ℕ → StoredOutput
p_of content = record { name = codes "p"; content = content }

abbrev pub q_of : ℕ → StoredOutput
q_of content = record { name = codes "q"; content = content }

abbrev pub ex_stored_outcome : Status → List StoredOutput → StoredOutcome
ex_stored_outcome status outputs = record { status = status; lines = []; outputs = outputs }

-- an outcome with both outputs, and one with none
abbrev pub ex_made_outcome : StoredOutcome
ex_made_outcome = ex_stored_outcome Ok (p_of 0 ∷ q_of 0 ∷ [])

abbrev pub ex_output_part : List ℕ → Part
ex_output_part name = record { name = name; body = codes "x=1" }

abbrev pub made_outcome : Outcome
made_outcome = record { status = Ok; lines = []; outputs = ex_output_part (codes "p") ∷ ex_output_part (codes "q") ∷ [] }

abbrev pub ex_aborted_outcome : StoredOutcome
ex_aborted_outcome = ex_stored_outcome Abort []

abbrev pub aborted_outcome : Outcome
aborted_outcome = record { status = Abort; lines = []; outputs = [] }

-- the call is kept
abbrev pub with_kept : State
with_kept = ex_with_calls ((call (Some (codes "x=1")), made_outcome) ∷ [])

-- the item that keeps it
abbrev pub keeps : Option ℕ → StoredOutcome → List Item
keeps content outcome = Kept (stored_call (codes "cc") content) outcome ∷ []

pub record CallsThatRead : Type 0 where
  pub with_outputs : TakesAll old (keeps (Some 0) ex_made_outcome) with_kept
  pub without : TakesAll old (keeps (Some 0) ex_aborted_outcome) (ex_with_calls ((call (Some (codes "x=1")), aborted_outcome) ∷ []))
  -- an absent input is another call
  pub absent : TakesAll with_kept (keeps None ex_aborted_outcome) (ex_with_calls ((call (Some (codes "x=1")), made_outcome) ∷ (call None, aborted_outcome) ∷ []))

pub record CallsThatDoNot : Type 0 where
  -- with another outcome, too
  pub again : RefusesItems with_kept (keeps (Some 0) ex_aborted_outcome)
  pub form : RefusesItems old (Kept (stored_call [] (Some 0)) ex_aborted_outcome ∷ [])
  pub part_number : RefusesItems old (keeps (Some 2) ex_aborted_outcome)
  pub part_kind : RefusesItems old (keeps (Some 1) ex_aborted_outcome)
  pub output_number : RefusesItems old (keeps None (ex_stored_outcome Ok (p_of 0 ∷ q_of 2 ∷ [])))
  pub output_kind : RefusesItems old (keeps None (ex_stored_outcome Ok (p_of 0 ∷ q_of 1 ∷ [])))
  pub outputs_turned : RefusesItems old (keeps None (ex_stored_outcome Ok (q_of 0 ∷ p_of 0 ∷ [])))
  pub output_missing : RefusesItems old (keeps None (ex_stored_outcome Error (p_of 0 ∷ [])))
  pub abort_with_outputs : RefusesItems old (keeps None (ex_stored_outcome Abort (p_of 0 ∷ q_of 0 ∷ [])))
