-- The machine of a session with nothing kept: each command is answered from the present sources, and each ask by what the tools' table makes of them.
--
-- It is what a session means to whoever reads its replies. It knows no store, no outcome and no tool that runs: only the sources, which calls
-- count as kept, and what is told of the tree.
use Rattle.std.specs.Prelude.{◌≡◌, ℕ, List, [], ◌++◌, length, Some}
use Rattle.object_values.specs.declared.nodes.Node.{Node}
use Rattle.object_values.specs.declared.views.View.{View}
use Rattle.object_values.specs.declared.calls.Call.{Call}
use Rattle.object_values.specs.Texts.{Texts}
use Rattle.odin_outside.specs.Spawned.{Table}
use Rattle.meaning_texts.specs.Lists.{IsIn}
use Rattle.meaning_graph.specs.Graphs.{Text, Graph}
use Rattle.meaning_derive.specs.Derive.{derived}
use Rattle.meaning_derive.specs.Chains.{IsCircular, IsDeep}
use Rattle.meaning_derive.specs.Calls.{IsCallFrom}
use Rattle.meaning_derive.specs.Given.{table_outcomes}
use Rattle.meaning_commands.specs.Items.{Item}
use Rattle.meaning_commands.specs.Machines.{Transcript}
use Rattle.odin_bytes.specs.declared.commands.Command.{Command}
use Rattle.odin_bytes.specs.declared.commands.Command.TheVariants.{Put, Take, Remove, Ask, Plan, Sources, Kept, Quit, Nothing, Bad, BadName}
use Rattle.object_values.specs.declared.replies.Reply.{Reply}
use Rattle.object_values.specs.declared.replies.Reply.TheVariants as reply
use Rattle.meaning_commands.specs.Replies.{reply_text}
use Rattle.meaning_derive.specs.Replies.{shown, refused_circular, refused_deep}
use Rattle.meaning_derive.specs.Answers as answers
use Rattle.derive_walk.specs.Calls.{AreOnce}
use Rattle.plain_derive.specs.Given.{calls_of}
use Rattle.odin_answers.specs.Laws.{IsTrueFor}
use Rattle.odin_answers.specs.Edits.{SaysReply, TreeTold, TreeIsAsked, Puts, Takes, Removes, source_lines}
use Rattle.odin_shell.specs.Language.{commands}
use Rattle.odin_shell.specs.Machine.{SessionState, Step}

pub record FreshState : Type 0 where
  pub sources : Texts
  pub calls : List Call
  pub tree : TreeTold

abbrev pub fresh_of : SessionState → FreshState
fresh_of state = record { sources = state.held.sources; calls = calls_of state.held.calls; tree = state.tree }

-- ---- asks

module _ (g : Graph) (table : Table) (old new : FreshState) where
  -- the call is one of the node, with nothing kept
  abbrev pub IsOfNode : Node → Call → Type 0
  IsOfNode n call = IsCallFrom g (derived g old.sources (table_outcomes table)) n call

  -- Of the node's calls some are kept more, each once and none that was kept, and nothing else changes.
  pub record GrowsBySome (n : Node) : Type 0 where
    pub came : List Call
    pub kept : new.calls ≡ old.calls ++ came
    pub once : AreOnce came
    pub unkept : (call : Call) → IsIn call came → IsIn call old.calls → ⊥
    pub only : (call : Call) → IsIn call came → IsOfNode n call
    pub sources : new.sources ≡ old.sources
    pub tree : new.tree ≡ old.tree

  -- All of them are kept then.
  pub record GrowsByAll (n : Node) : Type 0 where
    pub some : GrowsBySome n
    pub all : (call : Call) → IsOfNode n call → IsIn call new.calls

  -- The answer is that of the table's outcomes; or a tool was not started, or its end lost.
  pub data FreshAnswer (text : Text) : Reply → Type 0 where
    refused : (said : Reply) → answers.Refused g text said → new ≡ old → FreshAnswer text said
    object : (n : Node) (view : View) → answers.Asks g text n → derived g old.sources (table_outcomes table) n ≡ Some view → GrowsByAll n
        → FreshAnswer text (shown g view)
    circular : (n : Node) (chain : List Node) → answers.Asks g text n → IsCircular g (derived g old.sources (table_outcomes table)) n chain → GrowsBySome n
        → FreshAnswer text (refused_circular g chain)
    deep : (n : Node) (chain : List Node) → answers.Asks g text n → IsDeep g (derived g old.sources (table_outcomes table)) n chain → GrowsBySome n
        → FreshAnswer text (refused_deep g chain)
    not_started : (n : Node) → answers.Asks g text n → GrowsBySome n → FreshAnswer text reply.RefusedToolStart

-- ---- commands

-- a reply of which this holds, and no change but of the sources
pub record FreshEdits (P : Reply → Texts → Type 0) (old : FreshState) (bytes : List ℕ) (new : FreshState) : Type 0 where
  pub says : SaysReply (λ said. P said new.sources) bytes
  pub calls : new.calls ≡ old.calls
  pub tree : new.tree ≡ old.tree

-- the tree is asked for a file
pub record FreshTakes (name : Text) (old : FreshState) (bytes : List ℕ) (new : FreshState) : Type 0 where
  pub says : SaysReply (λ said. Takes old.sources name old.tree said new.sources new.tree) bytes
  pub asked : TreeIsAsked old.tree new.tree
  pub calls : new.calls ≡ old.calls

-- a reply of which this holds, and no change
abbrev pub FreshSays : (Reply → Type 0) → FreshState → List ℕ → FreshState → Type 0
FreshSays P old bytes new = SaysReply P bytes × (new ≡ old)

abbrev pub FreshReplies : Reply → FreshState → List ℕ → FreshState → Type 0
FreshReplies said old bytes new = (bytes ≡ reply_text said) × (new ≡ old)

abbrev pub FreshStep : Graph → Table → FreshState → Command → List ℕ → List ℕ → FreshState → Type 0
FreshStep g table old (Put name count) body bytes new = FreshEdits (Puts old.sources name count body) old bytes new
FreshStep g table old (Take name) body bytes new = FreshTakes name old bytes new
FreshStep g table old (Remove name) body bytes new = FreshEdits (Removes old.sources name) old bytes new
FreshStep g table old (Ask text) body bytes new = SaysReply (FreshAnswer g table old new text) bytes
FreshStep g table old (Plan text) body bytes new = FreshSays (answers.Plan g text) old bytes new
FreshStep g table old Sources body bytes new = FreshReplies (reply.Sources (source_lines old.sources)) old bytes new
FreshStep g table old Kept body bytes new = FreshReplies (reply.Kept (length old.calls)) old bytes new
FreshStep g table old Quit body bytes new = FreshReplies reply.Bye old bytes new
FreshStep g table old Nothing body bytes new = (bytes ≡ []) × (new ≡ old)
FreshStep g table old Bad body bytes new = FreshReplies reply.RefusedCommand old bytes new
FreshStep g table old (BadName count) body bytes new = FreshReplies reply.RefusedName old bytes new

-- ---- the headline

-- Where the tools answer by a table and what was kept is what it gives, the replies of a session are those of this machine: as derived with
-- nothing kept. What it holds at its end is what this machine comes to: the kept calls grow by exactly those of the node that weren't kept at
-- an answer, by some of them at a chain or a refused start, and by no others.
abbrev pub RunIsFresh : Type 0
RunIsFresh =
    (g : Graph) (limit : ℕ) (table : Table) (first last : SessionState) (items : List Item) (replies : List (List ℕ))
    → IsTrueFor table first.tools first.held.calls
    → Transcript commands (Step g limit) first items replies last
    → Transcript commands (FreshStep g table) (fresh_of first) items replies (fresh_of last)
