-- Worked examples of replies: views, chains and steps as they are shown, and texts that are refused.
use Rattle.std.specs.Prelude.{◌≡◌, List, [], ◌∷◌, Some, codes}
use Rattle.object_values.specs.declared.messages.Status.TheVariants.{Ok, Warning, Error, Abort}
use Rattle.object_values.specs.declared.messages.Message.{Message}
use Rattle.object_values.specs.declared.nodes.Step.TheVariants.{Maker, Pick}
use Rattle.object_values.specs.declared.views.Value.TheVariants.{Simple, List as Listed, Compound}
use Rattle.object_values.specs.declared.views.Part.{Part}
use Rattle.object_values.specs.declared.views.View.{View}
use Rattle.meaning_graph.specs.Graphs.{Text}
use Rattle.meaning_graph.specs.Samples.{two_ways, c_units, c_units_back, joined_texts}
use Rattle.meaning_tasks.specs.NodeSamples.{at_steps}
use Rattle.object_values.specs.declared.replies.Reply.{Reply}
use Rattle.object_values.specs.declared.replies.Reply.TheVariants as reply
use Rattle.object_values.specs.declared.replies.ShownBody.TheVariants as shows
use Rattle.meaning_derive.specs.Replies.{shown, refused_circular, refused_deep, plan_of}
use Rattle.meaning_derive.specs.Answers.{Refused}
use Rattle.meaning_derive.specs.AnswerSamples.{good, ex_warned_view, part, aborted_view, message, object_of, debugged_object}

-- the view is shown so over c-units
abbrev pub IsShown : View → Reply → Type 0
IsShown view reply = shown c_units view ≡ reply

abbrev pub ex_two_parts : List Part
ex_two_parts = part (codes "prog") (codes "x=1\n") ∷ part (codes "src") (codes "a.c\n") ∷ []

abbrev pub ex_no_source : List Message
ex_no_source = message (codes "z") Abort (codes "no source z") ∷ []

-- objects of each kind, and one without a value
pub record ObjectAnswers : Type 0 where
  pub empty : IsShown (good (Simple [])) (reply.Shown Ok (shows.Simple []) [])
  -- a list by the texts of its nodes
  pub listed : IsShown (good (Listed (object_of (codes "a.c") ∷ debugged_object (codes "b.c") ∷ [])))
      (reply.Shown Ok (shows.List (codes "a.c:o" ∷ codes "b.c+debug:o" ∷ [])) [])
  pub compound : IsShown (good (Compound ex_two_parts)) (reply.Shown Ok (shows.Compound ex_two_parts) [])
  pub failed : IsShown
      (record { value = Some (Simple (codes "x=1\n")); status = Error; messages = [] })
      (reply.Shown Error (shows.Simple (codes "x=1\n")) [])
  pub aborted : IsShown (aborted_view ex_no_source) (reply.Shown Abort shows.Nothing ex_no_source)
  -- a message as it is, with its tab
  pub tabbed : IsShown (ex_warned_view (codes "x=1\n") (codes "a\tb"))
      (reply.Shown Warning (shows.Simple (codes "x=1\n"))
      (message (codes "a.c:o") Warning (codes "a\tb") ∷ []))

-- the text is refused so over c-units
abbrev pub IsRefusedOverUnits : Text → Reply → Type 0
IsRefusedOverUnits text reply = Refused c_units text reply

-- texts that are no expression, or whose expression has no node
pub record RefusalAnswers : Type 0 where
  pub place : IsRefusedOverUnits (codes "a.c:") (reply.RefusedExpression 5)
  pub param : IsRefusedOverUnits (codes "a.c+opt:zz") (reply.RefusedParam (codes "opt"))
  pub type : IsRefusedOverUnits (codes "a.c:zz") (reply.RefusedType (codes "zz"))
  pub path : IsRefusedOverUnits (codes "a.c:o%1") (reply.RefusedPath 2)

-- chains of two nodes
pub record ShownChains : Type 0 where
  pub circular : refused_circular c_units_back
      (at_steps (codes "a.c") (Maker 5 ∷ []) ∷ at_steps (codes "a.c") [] ∷ [])
      ≡ reply.RefusedCircular (codes "a.c:c" ∷ codes "a.c" ∷ [])
  pub deep : refused_deep joined_texts
      (at_steps (codes "a63.t") (Maker 0 ∷ []) ∷ at_steps (codes "a63.t") [] ∷ [])
      ≡ reply.RefusedDeep (codes "a63.t:l" ∷ codes "a63.t" ∷ [])

-- a maker by its name, and a pick by its key
pub record Plans : Type 0 where
  pub makers : plan_of two_ways (at_steps (codes "z.a") (Maker 0 ∷ Maker 3 ∷ []))
      ≡ reply.Plan (codes "p" ∷ codes "s" ∷ [])
  pub keyed : plan_of c_units (at_steps (codes "m.sm") (Maker 2 ∷ Pick (codes "2") ∷ []))
      ≡ reply.Plan (codes "rd" ∷ codes "%2" ∷ [])
  pub empty : plan_of c_units (at_steps (codes "a.c") []) ≡ reply.Plan []
