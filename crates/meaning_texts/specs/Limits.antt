-- The limits of the object manager, each in this one place.
use Rattle.std.specs.Prelude.{ℕ}

-- the most bytes of a name, an identifier, a key, a word or a string
abbrev pub word_limit : ℕ
word_limit = 255

-- the most bytes of a source text, of an output and of a body
abbrev pub body_limit : ℕ
body_limit = 16777216

-- the most bytes of an expression
abbrev pub expression_limit : ℕ
expression_limit = 1000

-- the most bytes of a line that is a command: longer ones are bad
abbrev pub command_limit : ℕ
command_limit = 1024

-- the most bytes of a graph file
abbrev pub graph_limit : ℕ
graph_limit = 1048576

-- the most declarations of a graph file
abbrev pub declaration_limit : ℕ
declaration_limit = 2000

-- the most units of a load session
abbrev pub unit_limit : ℕ
unit_limit = 2000

-- a tool has fewer extras than this
abbrev pub extra_bound : ℕ
extra_bound = 4294967295

-- the slot of a part of a call is below this
abbrev pub slot_bound : ℕ
slot_bound = 4294967296

-- the number of an element is below this
abbrev pub element_bound : ℕ
element_bound = 4294967296

-- the most lines of a reference list that aren't passed over
abbrev pub reference_limit : ℕ
reference_limit = 10000

-- the most messages of an object, and the most lines of `warnings` that count
abbrev pub message_limit : ℕ
message_limit = 1000

-- the most bytes that count of a line of `warnings`
abbrev pub message_length : ℕ
message_length = 1000

-- the greatest height of a founded node
abbrev pub height_limit : ℕ
height_limit = 64
