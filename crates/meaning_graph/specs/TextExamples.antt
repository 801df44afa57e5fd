-- Worked examples of the definitions of graph files.
use Rattle.std.specs.Prelude.{◌≡◌, ℕ, ◌++◌, List, [], ◌∷◌, Option, Some, None, codes, IsTrue, false, replicate}
use Rattle.object_values.specs.declared.graph.Kind.TheVariants.{Simple, List as ListOf, Compound}
use Rattle.object_values.specs.declared.graph.Extra.TheVariants.{Also}
use Rattle.object_values.specs.declared.graph.Make.TheVariants.{Read, Each, Pack}
use Rattle.object_values.specs.declared.graph.PartDecl.{PartDecl}
use Rattle.object_values.specs.declared.graph.Decl.{Decl}
use Rattle.object_values.specs.declared.graph.Decl.TheVariants.{Param}
use Rattle.object_values.specs.declared.graph.GraphFault.{GraphFault}
use Rattle.object_values.specs.declared.graph.GraphFault.TheVariants.{UnknownType, DoubleName, SupertypeLoop, WrongKind, TooMany, UnknownParam}
use Rattle.meaning_graph.specs.Graphs.{Graph}
use Rattle.meaning_graph.specs.Samples.{tool, declared, simple, ex_list_type, suffix, maker, tool_with, c_units, c_units_back, joined_texts, two_ways, kits}
use Rattle.meaning_graph.specs.Grammar.{GraphText}
use Rattle.meaning_graph.specs.Places.{IsSyntaxFault, BeginsOnLine}
use Rattle.meaning_graph.specs.Spelling.{graph_spelling}
use Rattle.meaning_graph.specs.Checks.{FaultAt, first_fault, has_fault}

-- the graph of units, as it is written
abbrev pub c_units_text : List ℕ
c_units_text =
    codes "type hdr simple;\ntype c simple is hdr;\ntype sm simple;\ntype inc simple;\n"
    ++ codes "type o simple;\ntype exe simple;\ntype units list of c;\ntype objs list of o;\n"
    ++ codes "suffix .h hdr;\nsuffix .c c;\nsuffix .sm sm;\nparam debug;\n"
    ++ codes "tool scan 1 from hdr to inc run \"scan\";\n"
    ++ codes "tool cc 1 from c to o run \"cc\" uses debug closure inc;\n"
    ++ codes "read rd from sm to units;\neach comp from units to objs;\n"
    ++ codes "tool ld 1 from objs to exe run \"ld\";\n"

-- what the graph of kits adds
abbrev pub kits_lines : List ℕ
kits_lines =
    codes "type kit compound (prog exe, src sm);\ntype txt simple;\npack pk from sm to kit;\n"
    ++ codes "tool doc 1 from c to txt run \"ld\" also o with \"lic.h\";\n"

-- canonical spellings, which read as what they spell
pub record CanonicalGraphs : Type 0 where
  pub written : graph_spelling c_units ≡ c_units_text
  pub read : GraphText c_units_text c_units
  pub kits_written : graph_spelling kits ≡ c_units_text ++ kits_lines
  pub kits_read : GraphText (c_units_text ++ kits_lines) kits

-- blanks and comments between tokens, and none where none are needed
pub record OtherSpellings : Type 0 where
  pub read : GraphText (codes "# types;\n\ttype  t\nsimple;type u simple is t;# the end")
      (simple (codes "t") ∷ declared (codes "u") Simple (codes "t" ∷ []) ∷ [])
  pub empty : GraphText [] []

-- a missing semicolon, a text that ends too early, a string that isn't closed, and one after
-- `with` that is no name
pub record SyntaxFaults : Type 0 where
  pub missing : IsSyntaxFault (codes "type c simple\ntype d simple;") 2 1
  pub ends_early : IsSyntaxFault (codes "type c simple ") 1 15
  pub unclosed : IsSyntaxFault (codes "param d;\n  \"abc") 2 3
  pub no_name : IsSyntaxFault (codes "tool t 1 from a to b run \"x\" with \"a b\";") 1 35
  -- trial
  pub new_line : IsSyntaxFault (codes "type c simple\n") 2 1
  pub crlf : IsSyntaxFault (codes "param a;" ++ 13 ∷ 10 ∷ 13 ∷ codes "?") 2 2
  pub comment : IsSyntaxFault (codes "# \" ;\n x;") 2 2
  pub long_word : IsSyntaxFault (codes "param " ++ replicate 256 97 ++ codes ";") 1 7
  pub long_string : IsSyntaxFault
      (codes "tool t 1 from a to b run \"\" \"" ++ replicate 256 97 ++ codes "\";") 1 29
  pub forbidden : IsSyntaxFault (codes "tool t 1 from a to b run \"a\nb\";") 1 26
  pub glued : IsSyntaxFault (codes "param a;;") 1 9

abbrev pub fault_at : ℕ → GraphFault → Option FaultAt
fault_at number fault = Some (record { number = number; fault = fault })

-- the graphs of the examples are checked
pub record CheckedGraphs : Type 0 where
  pub units : first_fault c_units ≡ None
  pub units_back : first_fault c_units_back ≡ None
  pub texts : first_fault joined_texts ≡ None
  pub ways : first_fault two_ways ≡ None
  pub kits_too : first_fault kits ≡ None

-- each fault alone, at its declaration
pub record FaultsOfGraphs : Type 0 where
  pub unknown_type : first_fault (suffix (codes ".c") (codes "c") ∷ []) ≡ fault_at 1 UnknownType
  pub begins : BeginsOnLine (codes "suffix .c c;") (suffix (codes ".c") (codes "c") ∷ []) 1 1
  pub text_twice : first_fault (simple (codes "text") ∷ []) ≡ fault_at 1 DoubleName
  pub double : first_fault (Param (codes "a") ∷ simple (codes "a") ∷ Param (codes "a") ∷ [])
      ≡ fault_at 3 DoubleName
  pub loop : first_fault
      (declared (codes "a") Simple (codes "b" ∷ []) ∷ declared (codes "b") Simple (codes "a" ∷ [])
      ∷ [])
      ≡ fault_at 1 SupertypeLoop
  pub kind : first_fault (maker (codes "r") Read (codes "text") (codes "text") ∷ [])
      ≡ fault_at 1 WrongKind
  pub elements : first_fault
      (simple (codes "a") ∷ ex_list_type (codes "l") (codes "text")
      ∷ declared (codes "m") (ListOf (codes "a")) (codes "l" ∷ []) ∷ [])
      ≡ fault_at 3 WrongKind
  pub param : first_fault
      (tool_with (codes "t") (codes "text") (codes "text") (codes "ld") (codes "p" ∷ []) [] None
      ∷ [])
      ≡ fault_at 1 UnknownParam
  pub many : (g : Graph) (d : Decl) → IsTrue (has_fault g 2001 d TooMany)
  pub few : (g : Graph) (d : Decl) → has_fault g 2000 d TooMany ≡ false

-- a tool that takes `text` and makes this type
abbrev pub makes : List ℕ → Decl
makes to = tool (codes "t") (codes "text") to (codes "ld")

-- a part with this name
abbrev pub part_of_text : List ℕ → PartDecl
part_of_text name = record { name = name; of = codes "text" }

-- each place where a declaration names a type, after a declaration without a fault
pub record UnknownTypes : Type 0 where
  pub supertype : first_fault
      (simple (codes "a") ∷ declared (codes "b") Simple (codes "zz" ∷ []) ∷ [])
      ≡ fault_at 2 UnknownType
  pub element : first_fault (simple (codes "a") ∷ ex_list_type (codes "l") (codes "zz") ∷ [])
      ≡ fault_at 2 UnknownType
  pub part : first_fault
      (simple (codes "a")
      ∷ declared (codes "k") (Compound (part_of_text (codes "p")
      ∷ record { name = codes "q"; of = codes "zz" } ∷ [])) [] ∷ [])
      ≡ fault_at 2 UnknownType
  pub from : first_fault
      (simple (codes "a") ∷ tool (codes "t") (codes "zz") (codes "text") (codes "ld") ∷ [])
      ≡ fault_at 2 UnknownType
  pub to : first_fault (simple (codes "a") ∷ makes (codes "zz") ∷ []) ≡ fault_at 2 UnknownType
  pub also : first_fault
      (simple (codes "a")
      ∷ tool_with (codes "t") (codes "text") (codes "text") (codes "ld") [] (Also (codes "a")
      ∷ Also (codes "zz") ∷ []) None ∷ [])
      ≡ fault_at 2 UnknownType
  pub closure : first_fault
      (simple (codes "a")
      ∷ tool_with (codes "t") (codes "text") (codes "text") (codes "ld") [] [] (Some (codes "zz")) ∷ [])
      ≡ fault_at 2 UnknownType

-- names that stand twice, in each space and inside a declaration
pub record DoubleNames : Type 0 where
  pub types : first_fault (simple (codes "a") ∷ simple (codes "a") ∷ []) ≡ fault_at 2 DoubleName
  pub suffixes : first_fault
      (suffix (codes ".a") (codes "text") ∷ suffix (codes ".a") (codes "text") ∷ [])
      ≡ fault_at 2 DoubleName
  pub makers : first_fault (makes (codes "text") ∷ makes (codes "text") ∷ [])
      ≡ fault_at 2 DoubleName
  pub parts : first_fault
      (declared (codes "k") (Compound (part_of_text (codes "p") ∷ part_of_text (codes "p") ∷ [])) []
      ∷ [])
      ≡ fault_at 1 DoubleName
  pub params : first_fault
      (Param (codes "p")
      ∷ tool_with (codes "t") (codes "text") (codes "text") (codes "ld") (codes "p" ∷ codes "p"
      ∷ []) [] None ∷ [])
      ≡ fault_at 2 DoubleName
  -- the spaces are apart
  pub apart : first_fault
      (simple (codes "t") ∷ Param (codes "t") ∷ suffix (codes "t") (codes "t") ∷ makes (codes "t")
      ∷ [])
      ≡ None

-- kinds that don't fit, each rule alone
pub record WrongKinds : Type 0 where
  pub elements : first_fault
      (ex_list_type (codes "l") (codes "text") ∷ ex_list_type (codes "m") (codes "l") ∷ [])
      ≡ fault_at 2 WrongKind
  pub parts : first_fault
      (ex_list_type (codes "l") (codes "text")
      ∷ declared (codes "k") (Compound (record { name = codes "p"; of = codes "l" }
      ∷ [])) [] ∷ [])
      ≡ fault_at 2 WrongKind
  pub simple_is_list : first_fault
      (ex_list_type (codes "l") (codes "text") ∷ declared (codes "a") Simple (codes "l" ∷ []) ∷ [])
      ≡ fault_at 2 WrongKind
  pub list_is_simple : first_fault
      (declared (codes "l") (ListOf (codes "text")) (codes "text" ∷ []) ∷ [])
      ≡ fault_at 1 WrongKind
  pub compound_is : first_fault
      (declared (codes "k") (Compound (part_of_text (codes "p") ∷ [])) (codes "text" ∷ []) ∷ [])
      ≡ fault_at 1 WrongKind
  pub suffix_of_list : first_fault
      (ex_list_type (codes "l") (codes "text") ∷ suffix (codes ".l") (codes "l") ∷ [])
      ≡ fault_at 2 WrongKind
  pub tool_makes_list : first_fault (ex_list_type (codes "l") (codes "text") ∷ makes (codes "l") ∷ [])
      ≡ fault_at 2 WrongKind
  pub closure_is_list : first_fault
      (ex_list_type (codes "l") (codes "text")
      ∷ tool_with (codes "t") (codes "text") (codes "text") (codes "ld") [] [] (Some (codes "l")) ∷ [])
      ≡ fault_at 2 WrongKind
  pub read_of_list : first_fault
      (ex_list_type (codes "l") (codes "text") ∷ maker (codes "r") Read (codes "l") (codes "l") ∷ [])
      ≡ fault_at 2 WrongKind
  pub each_of_simple : first_fault
      (ex_list_type (codes "l") (codes "text") ∷ maker (codes "e") Each (codes "text") (codes "l") ∷ [])
      ≡ fault_at 2 WrongKind
  pub each_to_simple : first_fault
      (ex_list_type (codes "l") (codes "text") ∷ maker (codes "e") Each (codes "l") (codes "text") ∷ [])
      ≡ fault_at 2 WrongKind
  pub pack_to_simple : first_fault (maker (codes "p") Pack (codes "text") (codes "text") ∷ [])
      ≡ fault_at 1 WrongKind
  -- the elements of a supertype that are nowhere declared are its own fault alone
  pub unknown_elements : first_fault
      (declared (codes "l") (ListOf (codes "text")) (codes "m" ∷ [])
      ∷ ex_list_type (codes "m") (codes "zz") ∷ [])
      ≡ fault_at 2 UnknownType

-- the least number of a declaration comes before the least fault
pub record OrderOfFaults : Type 0 where
  pub declarations : first_fault
      (tool_with (codes "t") (codes "text") (codes "text") (codes "ld") (codes "p" ∷ []) [] None
      ∷ simple (codes "text") ∷ suffix (codes ".c") (codes "c") ∷ [])
      ≡ fault_at 1 UnknownParam
  pub faults : first_fault (declared (codes "text") (ListOf (codes "c")) [] ∷ [])
      ≡ fault_at 1 UnknownType
  -- a later declaration is known before it
  pub later : first_fault (suffix (codes ".c") (codes "c") ∷ simple (codes "c") ∷ []) ≡ None
