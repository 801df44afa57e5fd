-- The graphs of the worked examples.
use Rattle.std.specs.Prelude.{List, [], ◌∷◌, ◌++◌, Option, Some, None, codes}
use Rattle.object_values.specs.declared.graph.PartDecl.{PartDecl}
use Rattle.object_values.specs.declared.graph.Kind.{Kind}
use Rattle.object_values.specs.declared.graph.Kind.TheVariants.{Simple, List as Listed, Compound}
use Rattle.object_values.specs.declared.graph.Extra.{Extra}
use Rattle.object_values.specs.declared.graph.Extra.TheVariants.{Also, With}
use Rattle.object_values.specs.declared.graph.ToolDecl.{ToolDecl}
use Rattle.object_values.specs.declared.graph.Make.{Make}
use Rattle.object_values.specs.declared.graph.Make.TheVariants.{Tool, Read, Each, Pack}
use Rattle.object_values.specs.declared.graph.Decl.{Decl}
use Rattle.object_values.specs.declared.graph.Decl.TheVariants.{ObjectType, Suffix, Param, Maker}
use Rattle.meaning_graph.specs.Graphs.{Text, Graph}

abbrev pub declared : Text → Kind → List Text → Decl
declared name kind supers = ObjectType (record { name = name; kind = kind; supers = supers })

abbrev pub simple : Text → Decl
simple name = declared name Simple []

abbrev pub ex_list_type : Text → Text → Decl
ex_list_type name of = declared name (Listed of) []

abbrev pub suffix : Text → Text → Decl
suffix end of = Suffix (record { suffix = end; of = of })

abbrev pub maker : Text → Make → Text → Text → Decl
maker name make from to = Maker (record { name = name; make = make; from = from; to = to })

-- a tool of version 1 that runs one word
abbrev pub tool_with : Text → Text → Text → Text → List Text → List Extra → Option Text → Decl
tool_with name from to word uses extras closure =
    let made : ToolDecl = record { version = codes "1"; words = word ∷ []; uses = uses; extras = extras; closure = closure } in
    maker name (Tool made) from to

abbrev pub tool : Text → Text → Text → Text → Decl
tool name from to word = tool_with name from to word [] [] None

abbrev pub ex_part_decl : Text → Text → PartDecl
ex_part_decl name of = record { name = name; of = of }

abbrev pub two_ways : Graph
two_ways =
    simple (codes "a") ∷ simple (codes "b") ∷ simple (codes "c") ∷ simple (codes "d")
    ∷ suffix (codes ".a") (codes "a")
    ∷ tool (codes "p") (codes "a") (codes "b") (codes "ld")
    ∷ tool (codes "q") (codes "a") (codes "c") (codes "ld")
    ∷ tool (codes "r") (codes "c") (codes "d") (codes "ld")
    ∷ tool (codes "s") (codes "b") (codes "d") (codes "ld") ∷ []

abbrev pub c_units : Graph
c_units =
    simple (codes "hdr") ∷ declared (codes "c") Simple (codes "hdr" ∷ []) ∷ simple (codes "sm")
    ∷ simple (codes "inc") ∷ simple (codes "o") ∷ simple (codes "exe")
    ∷ ex_list_type (codes "units") (codes "c") ∷ ex_list_type (codes "objs") (codes "o")
    ∷ suffix (codes ".h") (codes "hdr") ∷ suffix (codes ".c") (codes "c")
    ∷ suffix (codes ".sm") (codes "sm")
    ∷ Param (codes "debug")
    ∷ tool (codes "scan") (codes "hdr") (codes "inc") (codes "scan")
    ∷ tool_with (codes "cc") (codes "c") (codes "o") (codes "cc") (codes "debug" ∷ []) []
    (Some (codes "inc"))
    ∷ maker (codes "rd") Read (codes "sm") (codes "units")
    ∷ maker (codes "comp") Each (codes "units") (codes "objs")
    ∷ tool (codes "ld") (codes "objs") (codes "exe") (codes "ld") ∷ []

abbrev pub c_units_back : Graph
c_units_back = c_units ++ tool (codes "back") (codes "exe") (codes "c") (codes "ld") ∷ []

abbrev pub joined_texts : Graph
joined_texts =
    simple (codes "t") ∷ declared (codes "u") Simple (codes "t" ∷ [])
    ∷ ex_list_type (codes "l") (codes "t") ∷ suffix (codes ".t") (codes "t")
    ∷ maker (codes "rd") Read (codes "t") (codes "l")
    ∷ tool (codes "join") (codes "l") (codes "u") (codes "ld") ∷ []

abbrev pub kits : Graph
kits =
    c_units
    ++ declared (codes "kit")
    (Compound (ex_part_decl (codes "prog") (codes "exe") ∷ ex_part_decl (codes "src") (codes "sm") ∷ [])) []
    ∷ simple (codes "txt") ∷ maker (codes "pk") Pack (codes "sm") (codes "kit")
    ∷ tool_with (codes "doc") (codes "c") (codes "txt") (codes "ld") []
    (Also (codes "o") ∷ With (codes "lic.h") ∷ []) None
    ∷ []
