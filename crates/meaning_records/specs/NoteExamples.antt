-- Records of nodes that may be noted after what is kept, with the facts that they say, and records that may not.
use Rattle.std.specs.Prelude.{ℕ, List, [], ◌∷◌, Option, Some, None, codes}
use Rattle.object_values.specs.declared.messages.Message.{Message}
use Rattle.object_values.specs.declared.messages.Status.{Status}
use Rattle.object_values.specs.declared.messages.Status.TheVariants.{Ok, Warning, Error, Abort}
use Rattle.object_values.specs.declared.nodes.Step.TheVariants.{Maker}
use Rattle.object_values.specs.declared.nodes.Node.{Node as PlainNode}
use Rattle.object_values.specs.declared.records.Role.{Role}
use Rattle.object_values.specs.declared.records.Role.TheVariants.{Needed, Reached}
use Rattle.object_values.specs.declared.facts.FactDep.{FactDep}
use Rattle.object_values.specs.declared.facts.Fact.{Fact}
use Rattle.object_values.specs.declared.views.Value.{Value}
use Rattle.object_values.specs.declared.views.Value.TheVariants.{Simple, List as Listed, Compound}
use Rattle.object_values.specs.Texts.{Text, no_texts}
use Rattle.object_values.specs.declared.items.StoredDep.{StoredDep}
use Rattle.object_values.specs.declared.items.StoredRecord.{StoredRecord}
use Rattle.object_values.specs.declared.items.Item.{Item}
use Rattle.object_values.specs.declared.items.Item.TheVariants.{Graph, Content, Node}
use Rattle.meaning_records.specs.States.{State, TakesAll}
use Rattle.meaning_records.specs.ItemExamples.{RefusesItems}

-- ---- what is kept: a text, a list and a compound, after a graph or before one, and what is noted

abbrev pub text_value : Value
text_value = Simple (codes "x=1")

abbrev pub noting : Option Text → List Value → List Fact → List Fact → State
noting graph more records all = record {
  tables = record { contents = text_value ∷ Listed [] ∷ Compound [] ∷ more; calls = []; records = records };
  sources = no_texts;
  graph = graph;
  noted = all;
}

abbrev pub some_graph : Option Text
some_graph = Some (codes "g")

abbrev pub graphed : State
graphed = noting some_graph [] [] []

-- these are the last facts of nodes, and all
abbrev pub with_notes : List Fact → List Fact → State
with_notes records all = noting some_graph [] records all

-- ---- records of nodes with steps, and what they say

abbrev pub first_node : PlainNode
first_node = record { source = codes "m.x"; params = []; steps = Maker 7 ∷ [] }

abbrev pub second_node : PlainNode
second_node = record { source = codes "m.x"; params = []; steps = Maker 7 ∷ Maker 8 ∷ [] }

abbrev pub source_node : Text → PlainNode
source_node name = record { source = name; params = []; steps = [] }

-- the message of the node's own call, and the one that it has at present
abbrev pub own_note : Message
own_note = record { label = codes "a"; level = Warning; text = codes "own" }

abbrev pub present_note : Message
present_note = record { label = codes "b"; level = Error; text = codes "need" }

-- a record over deps, of which so many are reached, with a value, a status and a height
abbrev pub noted_record : PlainNode → List StoredDep → ℕ → Option ℕ → Status → ℕ → StoredRecord
noted_record node deps reached value status height = record {
  node = node;
  deps = deps;
  reached = reached;
  value = value;
  own_status = Warning;
  own_messages = own_note ∷ [];
  status = status;
  messages = present_note ∷ [];
  height = height;
}

-- a fact has what is the node's own, and neither the present status nor the height
abbrev pub noted_fact : PlainNode → List FactDep → Option Value → Fact
noted_fact node deps value = record { node = node; deps = deps; value = value; own_status = Warning; own_messages = own_note ∷ [] }

-- an item without deps, and its fact
abbrev pub notes : PlainNode → Option ℕ → Status → ℕ → Item
notes node value status height = Node (noted_record node [] 0 value status height)

abbrev pub fact_of : PlainNode → Option Value → Fact
fact_of node value = noted_fact node [] value

-- one over deps
abbrev pub notes_over : List StoredDep → ℕ → Item
notes_over deps reached = Node (noted_record first_node deps reached (Some 0) Error 2)

abbrev pub fact_over : List FactDep → Fact
fact_over deps = noted_fact first_node deps (Some text_value)

-- this item is noted as this fact
abbrev pub IsNotedAs : Item → Fact → Type 0
IsNotedAs it fact = TakesAll graphed (it ∷ []) (with_notes (fact ∷ []) (fact ∷ []))

-- ---- records that read

pub record NotesThatRead : Type 0 where
  pub simple : IsNotedAs (notes first_node (Some 0) Ok 2) (fact_of first_node (Some text_value))
  pub list : IsNotedAs (notes first_node (Some 1) Error 2) (fact_of first_node (Some (Listed [])))
  pub compound : IsNotedAs (notes first_node (Some 2) Error 2) (fact_of first_node (Some (Compound [])))
  -- the status at which there is no value is the present one
  pub aborted : IsNotedAs (notes first_node None Abort 2) (fact_of first_node None)
  pub lowest : IsNotedAs (notes first_node (Some 0) Ok 1) (fact_of first_node (Some text_value))
  pub highest : IsNotedAs (notes first_node (Some 0) Ok 64) (fact_of first_node (Some text_value))
  -- the graph and the content may come just before it
  pub after_graph : TakesAll (noting None [] [] []) (Graph (codes "g") ∷ notes first_node (Some 0) Ok 2 ∷ [])
      (with_notes (fact_of first_node (Some text_value) ∷ []) (fact_of first_node (Some text_value) ∷ []))
  pub after_content : TakesAll graphed (Content (Simple []) ∷ notes first_node (Some 3) Ok 2 ∷ [])
      (noting some_graph (Simple [] ∷ []) (fact_of first_node (Some (Simple [])) ∷ []) (fact_of first_node (Some (Simple [])) ∷ []))

-- ---- deps

abbrev pub stored_dep : Text → Option ℕ → StoredDep
stored_dep name content = record { node = source_node name; content = content }

abbrev pub fact_dep : Text → Role → Option Value → FactDep
fact_dep name role value = record { node = source_node name; role = role; value = value }

-- one with a text, one with a compound, and one with nothing
abbrev pub three_deps : List StoredDep
three_deps = stored_dep (codes "a.c") (Some 0) ∷ stored_dep (codes "b.c") (Some 2) ∷ stored_dep (codes "x.h") None ∷ []

abbrev pub three_facts : Role → Role → Role → List FactDep
three_facts a b x = fact_dep (codes "a.c") a (Some text_value) ∷ fact_dep (codes "b.c") b (Some (Compound [])) ∷ fact_dep (codes "x.h") x None ∷ []

-- the last deps are reached
pub record DepsThatRead : Type 0 where
  pub none_reached : IsNotedAs (notes_over three_deps 0) (fact_over (three_facts Needed Needed Needed))
  pub one_reached : IsNotedAs (notes_over three_deps 1) (fact_over (three_facts Needed Needed Reached))
  pub two_reached : IsNotedAs (notes_over three_deps 2) (fact_over (three_facts Needed Reached Reached))
  pub all_reached : IsNotedAs (notes_over three_deps 3) (fact_over (three_facts Reached Reached Reached))

-- ---- several records

abbrev pub first_fact : Fact
first_fact = fact_of first_node (Some text_value)

abbrev pub second_fact : Fact
second_fact = fact_of second_node (Some (Listed []))

-- what is said of the first node later
abbrev pub later_fact : Fact
later_fact = fact_of first_node None

abbrev pub ex_both_noted : State
ex_both_noted = with_notes (first_fact ∷ second_fact ∷ []) (first_fact ∷ second_fact ∷ [])

abbrev pub ex_noted_again : State
ex_noted_again = with_notes (later_fact ∷ second_fact ∷ []) (first_fact ∷ second_fact ∷ later_fact ∷ [])

pub record NotesInOrder : Type 0 where
  -- one after another
  pub both : TakesAll graphed (notes first_node (Some 0) Ok 2 ∷ notes second_node (Some 1) Ok 3 ∷ []) ex_both_noted
  -- a later fact of a node comes in the place of the first one, and both are noted
  pub again : TakesAll ex_both_noted (notes first_node None Abort 2 ∷ []) ex_noted_again
  -- a graph forgets all of them, and the same one, too
  pub forgotten : TakesAll ex_noted_again (Graph (codes "g") ∷ []) graphed
  -- a content leaves them
  pub left : TakesAll ex_noted_again (Content (Simple []) ∷ [])
      (noting some_graph (Simple [] ∷ []) (later_fact ∷ second_fact ∷ []) (first_fact ∷ second_fact ∷ later_fact ∷ []))

-- ---- records that don't read

abbrev pub RefusesNote : Item → Type 0
RefusesNote it = RefusesItems graphed (it ∷ [])

pub record NotesThatDoNot : Type 0 where
  pub no_graph : RefusesItems (noting None [] [] []) (notes first_node (Some 0) Ok 2 ∷ [])
  -- the graph comes later
  pub early_graph : RefusesItems (noting None [] [] []) (notes first_node (Some 0) Ok 2 ∷ Graph (codes "g") ∷ [])
  pub too_low : RefusesNote (notes first_node (Some 0) Ok 0)
  pub too_high : RefusesNote (notes first_node (Some 0) Ok 65)
  pub none_to_reach : RefusesNote (notes_over [] 1)
  pub too_many_reached : RefusesNote (notes_over three_deps 4)
  pub valued_abort : RefusesNote (notes first_node (Some 0) Abort 2)
  pub no_value : RefusesNote (notes first_node None Warning 2)
  pub value_number : RefusesNote (notes first_node (Some 3) Ok 2)
  pub dep_number : RefusesNote (notes_over (stored_dep (codes "a.c") (Some 3) ∷ []) 0)
  pub last_dep_number : RefusesNote (notes_over (stored_dep (codes "a.c") (Some 0) ∷ stored_dep (codes "b.c") (Some 3) ∷ []) 1)
  -- the content comes later
  pub early_content : RefusesItems graphed (notes first_node (Some 3) Ok 2 ∷ Content (Simple []) ∷ [])
