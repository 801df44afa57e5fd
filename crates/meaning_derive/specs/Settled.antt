-- Worked examples of what nodes settle to from the results of their needs, as it is printed.
use Rattle.std.specs.Prelude.{◌≡◌, List, [], ◌∷◌, ◌++◌, Option, None, codes}
use Rattle.object_values.specs.declared.nodes.Step.TheVariants.{Maker, Pick}
use Rattle.object_values.specs.declared.calls.Outcome.{Outcome}
use Rattle.meaning_graph.specs.Graphs.{Text}
use Rattle.meaning_graph.specs.Samples.{c_units, kits}
use Rattle.meaning_tasks.specs.NodeSamples.{at_steps}
use Rattle.meaning_tasks.specs.Examples.{with_far_extra}
use Rattle.meaning_derive.specs.AnswerSamples.{ViewByText, simple_at, listed_at, warned_at, aborted_at, object_of, at_source, ex_made_by, ended_by, settled_reply}

-- ---- tools

-- what a.c:o settles to, with these reached names
abbrev pub ex_compiled : List ViewByText → Option Outcome → List Text → Text
ex_compiled entries outcome names =
    settled_reply c_units entries (object_of (codes "a.c")) outcome names

-- what m.sm:units:objs:exe settles to
abbrev pub linked : List ViewByText → Option Outcome → Text
linked entries outcome =
    settled_reply c_units entries
    (at_steps (codes "m.sm") (Maker 2 ∷ Maker 3 ∷ Maker 4 ∷ [])) outcome []

-- an absent header adds neither status nor messages, a warning is inherited, and an object at
-- `Abort` stops what is made of it
pub record ToolAnswers : Type 0 where
  pub absent_header : ex_compiled
      (simple_at (codes "a.c") (codes "include x.h\nx=1\n")
      ∷ simple_at (codes "a.c:inc") (codes "x.h\n")
      ∷ aborted_at (codes "x.h") (codes "x.h") (codes "no source x.h") ∷ [])
      (ex_made_by (codes "o") (codes "x=1\n")) (codes "x.h" ∷ [])
      ≡ codes "object ok simple 4\nx=1\n\nmessages 0\n"
  pub inherited : linked
      (listed_at (codes "m.sm:units:objs") (object_of (codes "a.c") ∷ [])
      ∷ warned_at (codes "a.c:o") (codes "x=1\n") (codes "old") ∷ [])
      (ex_made_by (codes "exe") (codes "x=1\n"))
      ≡ codes "object warning simple 4\nx=1\n\nmessages 1\nwarning a.c:o old\n"
  pub base_aborted : linked
      (aborted_at (codes "m.sm:units:objs") (codes "m.sm:units") (codes "line 2: bad reference")
      ∷ []) None
      ≡ codes "object abort none 0\nmessages 1\nabort m.sm:units line 2: bad reference\n"
  -- messages of needs stand before the own ones
  pub own_last : linked
      (listed_at (codes "m.sm:units:objs") (object_of (codes "a.c") ∷ [])
      ∷ warned_at (codes "a.c:o") (codes "x=1\n") (codes "old") ∷ [])
      (ended_by (codes "tool ld ended by a signal"))
      ≡ codes "object abort none 0\nmessages 2\nwarning a.c:o old\n"
      ++ codes "abort m.sm:units:objs:exe tool ld ended by a signal\n"
  pub ended : ex_compiled
      (simple_at (codes "a.c") (codes "!signal\n") ∷ simple_at (codes "a.c:inc") [] ∷ [])
      (ended_by (codes "tool cc ended by a signal")) []
      ≡ codes "object abort none 0\nmessages 1\nabort a.c:o tool cc ended by a signal\n"

-- what a tool with an extra to which no path leads settles to
abbrev pub far_extra : List ViewByText → Text
far_extra entries =
    settled_reply with_far_extra entries (at_steps (codes "z.a") (Maker 4 ∷ [])) None []

-- a missing path, but where the base is at `Abort`
pub record MissingExtras : Type 0 where
  pub missing : far_extra (simple_at (codes "z.a") [] ∷ [])
      ≡ codes "object abort none 0\nmessages 1\nabort z.a:d no path far\n"
  pub base_first : far_extra (aborted_at (codes "z.a") (codes "z.a") (codes "no source z.a") ∷ [])
      ≡ codes "object abort none 0\nmessages 1\nabort z.a no source z.a\n"

-- ---- sources and lists

pub record SourcesAndLists : Type 0 where
  pub absent_source : settled_reply c_units [] (at_source (codes "z")) None []
      ≡ codes "object abort none 0\nmessages 1\nabort z no source z\n"
  pub bad_reference : settled_reply c_units (simple_at (codes "m.sm") (codes "a.c\n?\n") ∷ [])
      (at_steps (codes "m.sm") (Maker 2 ∷ [])) None []
      ≡ codes "object abort none 0\nmessages 1\nabort m.sm:units line 2: bad reference\n"
  pub listed : settled_reply c_units
      (listed_at (codes "m.sm:units") (at_source (codes "a.c") ∷ at_source (codes "b.c") ∷ []) ∷ [])
      (at_steps (codes "m.sm") (Maker 2 ∷ Maker 3 ∷ [])) None []
      ≡ codes "object ok list 2\na.c:o\nb.c:o\nmessages 0\n"

-- ---- picks

-- what the pick of an element of m.sm:units:objs settles to
abbrev pub element : Text → List ViewByText → Text
element key entries =
    settled_reply c_units entries
    (at_steps (codes "m.sm") (Maker 2 ∷ Maker 3 ∷ Pick key ∷ [])) None []

abbrev pub ex_two_object_views : ViewByText
ex_two_object_views =
    listed_at (codes "m.sm:units:objs") (object_of (codes "a.c") ∷ object_of (codes "b.c") ∷ [])

-- an element gives its value, its status and its messages, and one at `Abort` has no message of the
-- pick's own
pub record Elements : Type 0 where
  pub second : element (codes "2") (ex_two_object_views ∷ simple_at (codes "b.c:o") (codes "y=2\n") ∷ [])
      ≡ codes "object ok simple 4\ny=2\n\nmessages 0\n"
  pub past_the_end : element (codes "9") (ex_two_object_views ∷ [])
      ≡ codes "object abort none 0\nmessages 1\nabort m.sm:units:objs%9 no element 9\n"
  pub aborted : element (codes "1")
      (ex_two_object_views ∷ aborted_at (codes "a.c:o") (codes "a.c") (codes "no source a.c") ∷ [])
      ≡ codes "object abort none 0\nmessages 1\nabort a.c no source a.c\n"

-- ---- packs

-- what m.sm:kit settles to
abbrev pub ex_kit_reply : List ViewByText → Text
ex_kit_reply entries = settled_reply kits entries (at_steps (codes "m.sm") (Maker 5 ∷ [])) None []

-- the parts in order, a part at `Abort`, and a base from which no path leads to the parts
pub record PackAnswers : Type 0 where
  pub whole : ex_kit_reply
      (simple_at (codes "m.sm:units:objs:exe") (codes "x=1\n")
      ∷ simple_at (codes "m.sm") (codes "a.c\n") ∷ [])
      ≡ codes "object ok compound 2\nprog 4\nx=1\n\nsrc 4\na.c\n\nmessages 0\n"
  pub part_aborted : ex_kit_reply
      (aborted_at (codes "m.sm:units:objs:exe") (codes "a.c") (codes "no source a.c")
      ∷ simple_at (codes "m.sm") (codes "a.c\n") ∷ [])
      ≡ codes "object abort none 0\nmessages 1\nabort a.c no source a.c\n"
  pub no_path : settled_reply kits [] (at_steps (codes "a.c") (Maker 5 ∷ [])) None []
      ≡ codes "object abort none 0\nmessages 2\n"
      ++ codes "abort a.c:kit no path exe\nabort a.c:kit no path sm\n"
