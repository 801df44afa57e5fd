-- Worked bytes of records, and bytes that are of no record.
use Rattle.std.specs.Prelude.{◌≡◌, ℕ, List, [], ◌∷◌, ◌++◌, Some, None, codes}
use Rattle.object_values.specs.declared.messages.Message.{Message}
use Rattle.object_values.specs.declared.messages.Status.{Status}
use Rattle.object_values.specs.declared.messages.Status.TheVariants.{Ok, Warning, Error, Abort}
use Rattle.object_values.specs.declared.nodes.ParamValue.{ParamValue}
use Rattle.object_values.specs.declared.nodes.Step.TheVariants.{Maker, Pick}
use Rattle.object_values.specs.declared.nodes.Node.{Node as PlainNode}
use Rattle.object_values.specs.declared.views.Part.{Part}
use Rattle.object_values.specs.declared.views.Value.TheVariants.{Simple, List as Listed, Compound}
use Rattle.object_values.specs.declared.calls.OwnLine.{OwnLine}
use Rattle.object_values.specs.declared.items.StoredCall.{StoredCall}
use Rattle.object_values.specs.declared.items.StoredOutcome.{StoredOutcome}
use Rattle.object_values.specs.declared.items.StoredDep.{StoredDep}
use Rattle.object_values.specs.declared.items.StoredRecord.{StoredRecord}
use Rattle.object_values.specs.declared.items.Item.TheVariants.{Graph, Content, Put, Dropped, Kept, Node}
use Rattle.meaning_records.specs.Forms.{bytes, number, both, option_of, ParsesAt, StandsNowhere}
use Rattle.meaning_records.specs.Records.{status, step, value, line, message, dep, node_record, item}
use Rattle.meaning_records.specs.States.{State, spell_batch, Reads}

-- ---- the bytes of items

-- a number below 256 in four bytes
abbrev pub four : ℕ → List ℕ
four n = 0 ∷ 0 ∷ 0 ∷ n ∷ []

-- a text of fewer than 256 bytes, after its length
abbrev pub text : ℕ → List ℕ → List ℕ
text size body = four size ++ body

abbrev pub debug_on : ParamValue
debug_on = record { param = codes "debug"; value = codes "1" }

-- the first element of a.c by the maker 258
abbrev pub first_element : PlainNode
first_element = record { source = codes "a.c"; params = debug_on ∷ []; steps = Maker 258 ∷ Pick (codes "1") ∷ [] }

abbrev pub ex_program_part : Part
ex_program_part = record { name = codes "prog"; body = codes "x=1" }

-- a call of two words with an input that is there and one that is absent
abbrev pub stored_call : StoredCall
stored_call = record {
  tool = codes "cc";
  version = codes "1";
  words = codes "cc" ∷ codes "-g" ∷ [];
  params = debug_on ∷ [];
  parts = record { slot = 0; label = codes "a.c"; content = Some 2 } ∷ record { slot = 1; label = codes "x.h"; content = None } ∷ [];
  outs = codes "o" ∷ [];
}

abbrev pub line_at : Status → OwnLine
line_at level = record { level = level; text = codes "w" }

-- an outcome with a line of each level
abbrev pub stored_outcome : StoredOutcome
stored_outcome = record {
  status = Error;
  lines = line_at Ok ∷ line_at Warning ∷ line_at Error ∷ line_at Abort ∷ [];
  outputs = record { name = codes "o"; content = 7 } ∷ [];
}

abbrev pub call_bytes : List ℕ
call_bytes =
    text 2 (codes "cc") ++ text 1 (codes "1") ++ four 2 ++ text 2 (codes "cc") ++ text 2 (codes "-g")
    ++ four 1 ++ text 5 (codes "debug") ++ text 1 (codes "1")
    ++ four 2 ++ four 0 ++ text 3 (codes "a.c") ++ 1 ∷ four 2 ++ four 1 ++ text 3 (codes "x.h") ++ 0 ∷ []
    ++ four 1 ++ text 1 (codes "o")

abbrev pub outcome_bytes : List ℕ
outcome_bytes =
    2 ∷ four 4 ++ 0 ∷ text 1 (codes "w") ++ 1 ∷ text 1 (codes "w") ++ 2 ∷ text 1 (codes "w") ++ 3 ∷ text 1 (codes "w")
    ++ four 1 ++ text 1 (codes "o") ++ four 7

-- ---- the bytes of a record of a node

-- a source that was there, and one that was absent and is a reached source
abbrev pub ex_present_dep : StoredDep
ex_present_dep = record { node = record { source = codes "a.c"; params = []; steps = [] }; content = Some 3 }

abbrev pub ex_absent_dep : StoredDep
ex_absent_dep = record { node = record { source = codes "x.h"; params = []; steps = [] }; content = None }

-- the message of its call, and that of a need
abbrev pub ex_own_message : Message
ex_own_message = record { label = codes "a"; level = Warning; text = codes "own" }

abbrev pub ex_need_message : Message
ex_need_message = record { label = codes "b"; level = Error; text = codes "need" }

-- a node whose call has warned, over a need with an error
abbrev pub ex_node_record : StoredRecord
ex_node_record = record {
  node = first_element;
  deps = ex_present_dep ∷ ex_absent_dep ∷ [];
  reached = 1;
  value = Some 5;
  own_status = Warning;
  own_messages = ex_own_message ∷ [];
  status = Error;
  messages = ex_need_message ∷ ex_own_message ∷ [];
  height = 4;
}

-- a node at abort, which has no value
abbrev pub ex_aborted_record : StoredRecord
ex_aborted_record = record {
  node = record { source = codes "m.x"; params = []; steps = Maker 7 ∷ [] };
  deps = [];
  reached = 0;
  value = None;
  own_status = Abort;
  own_messages = [];
  status = Abort;
  messages = ex_need_message ∷ [];
  height = 64;
}

abbrev pub node_bytes : List ℕ
node_bytes = text 3 (codes "a.c") ++ four 1 ++ text 5 (codes "debug") ++ text 1 (codes "1") ++ four 2 ++ 1 ∷ 0 ∷ 0 ∷ 1 ∷ 2 ∷ [] ++ 2 ∷ text 1 (codes "1")

abbrev pub own_message_bytes : List ℕ
own_message_bytes = text 1 (codes "a") ++ 1 ∷ text 3 (codes "own")

abbrev pub need_message_bytes : List ℕ
need_message_bytes = text 1 (codes "b") ++ 2 ∷ text 4 (codes "need")

abbrev pub present_dep_bytes : List ℕ
present_dep_bytes = text 3 (codes "a.c") ++ four 0 ++ four 0 ++ 1 ∷ four 3

abbrev pub absent_dep_bytes : List ℕ
absent_dep_bytes = text 3 (codes "x.h") ++ four 0 ++ four 0 ++ 0 ∷ []

abbrev pub aborted_bytes : List ℕ
aborted_bytes = text 3 (codes "m.x") ++ four 0 ++ four 1 ++ 1 ∷ four 7 ++ four 0 ++ four 0 ++ 0 ∷ 3 ∷ four 0 ++ 3 ∷ four 1 ++ need_message_bytes ++ four 64

pub record BytesOfNodeRecords : Type 0 where
  pub need_message : message.spell ex_need_message ≡ need_message_bytes
  pub present_dep : dep.spell ex_present_dep ≡ present_dep_bytes
  pub absent_dep : dep.spell ex_absent_dep ≡ absent_dep_bytes
  pub warned : node_record.spell ex_node_record
      ≡ node_bytes ++ four 2 ++ present_dep_bytes ++ absent_dep_bytes ++ four 1 ++ 1 ∷ four 5
      ++ 1 ∷ four 1 ++ own_message_bytes ++ 2 ∷ four 2 ++ need_message_bytes ++ own_message_bytes ++ four 4
  pub aborted : node_record.spell ex_aborted_record ≡ aborted_bytes

-- ---- the bytes of items

-- an item of each kind
pub record BytesOfItems : Type 0 where
  pub graph : item.spell (Graph (codes "type c simple;")) ≡ 1 ∷ text 14 (codes "type c simple;")
  pub simple : item.spell (Content (Simple (codes "x=1"))) ≡ 2 ∷ four 8 ++ 1 ∷ text 3 (codes "x=1")
  pub list : item.spell (Content (Listed (first_element ∷ [])))
      ≡ 2 ∷ four 45 ++ 2 ∷ four 1 ++ text 3 (codes "a.c") ++ four 1 ++ text 5 (codes "debug") ++ text 1 (codes "1")
      ++ four 2 ++ 1 ∷ 0 ∷ 0 ∷ 1 ∷ 2 ∷ [] ++ 2 ∷ text 1 (codes "1")
  pub compound : item.spell (Content (Compound (ex_program_part ∷ []))) ≡ 2 ∷ four 20 ++ 3 ∷ four 1 ++ text 4 (codes "prog") ++ text 3 (codes "x=1")
  pub put : item.spell (Put (codes "a.c") 16909060) ≡ 3 ∷ text 3 (codes "a.c") ++ 1 ∷ 2 ∷ 3 ∷ 4 ∷ []
  pub drop : item.spell (Dropped (codes "a.c")) ≡ 4 ∷ text 3 (codes "a.c")
  pub kept : item.spell (Kept stored_call stored_outcome) ≡ 5 ∷ call_bytes ++ outcome_bytes
  pub node : item.spell (Node ex_aborted_record) ≡ 6 ∷ aborted_bytes

-- ---- a batch, and a thing between others

-- the first put of an empty text over a store that holds a graph alone: 22 bytes
abbrev pub FirstPut : Type 0
FirstPut = spell_batch (Content (Simple []) ∷ Put (codes "a.c") 0 ∷ [])
    ≡ 2 ∷ 0 ∷ 0 ∷ 0 ∷ 5 ∷ 1 ∷ 0 ∷ 0 ∷ 0 ∷ 0 ∷ 3 ∷ 0 ∷ 0 ∷ 0 ∷ 3 ∷ 97 ∷ 46 ∷ 99 ∷ 0 ∷ 0 ∷ 0 ∷ 0 ∷ []

-- a thing stands between other bytes, from its first one up to the one after it
abbrev pub StandsBetween : Type 0
StandsBetween = ParsesAt (both bytes number) (9 ∷ text 1 (codes "a") ++ four 7 ++ 9 ∷ []) 1 10 (codes "a", 7)

-- ---- bytes of no record

-- numbers that aren't named
pub record UnnamedNumbers : Type 0 where
  pub status : StandsNowhere status (4 ∷ []) 0
  pub level : StandsNowhere line (4 ∷ text 1 (codes "w")) 0
  pub option : StandsNowhere (option_of number) (2 ∷ four 0) 0
  pub step : StandsNowhere step (3 ∷ four 0) 0
  pub value : StandsNowhere value (4 ∷ four 0) 0
  pub item : StandsNowhere item (7 ∷ four 0) 0
  -- four numbers that are no bytes are no number
  pub no_bytes : StandsNowhere number (0 ∷ 0 ∷ 0 ∷ 256 ∷ []) 0

-- a payload that doesn't read, whatever is kept
abbrev pub ReadsNever : List ℕ → Type 0
ReadsNever payload = (old new : State) → ¬ Reads old payload new

-- fields that don't fit
pub record NoBatches : Type 0 where
  pub empty : ReadsNever []
  pub cut : ReadsNever (4 ∷ text 3 (codes "a."))
  pub behind : ReadsNever (1 ∷ text 1 (codes "g") ++ 0 ∷ [])
  -- the record of a content ends before its length, after it, or is of no value
  pub longer : ReadsNever (2 ∷ four 6 ++ 1 ∷ four 0 ++ 9 ∷ [])
  pub shorter : ReadsNever (2 ∷ four 4 ++ 1 ∷ four 0)
  pub no_value : ReadsNever (2 ∷ four 5 ++ 4 ∷ four 0)
