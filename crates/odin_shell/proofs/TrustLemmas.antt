-- Where what was held of nodes is true, what is said of asks is said without a condition.
use Rattle.std.proofs.Common.{ℕ, List, [], ◌∷◌, inl, inr}
use Rattle.std.specs.Prelude.{⊤}
use Rattle.meaning_graph.specs.Graphs.{Text, Graph}
use Rattle.meaning_commands.specs.Items.{Item}
use Rattle.meaning_commands.specs.Machines.{Transcript}
use Rattle.odin_bytes.specs.declared.commands.Command.{Command}
use Rattle.odin_bytes.specs.declared.commands.Command.TheVariants.{Put, Take, Remove, Ask, Plan, Sources, Kept, Quit, Nothing, Bad, BadName}
use Rattle.object_values.specs.declared.replies.Reply.{Reply}
use Rattle.meaning_records.specs.Tables.{Calls}
use Rattle.odin_store.specs.Held.{Held}
use Rattle.kept_derive.specs.Knowing.{RecordsAreTrue}
use Rattle.odin_shell.specs.Language.{commands}
use Rattle.odin_shell.specs.Machine.{SessionState, IsAskReply, AsksForObject, Step, StepIf, MayHaveAsked, CommandMayLeave, CommandMayLeaveIf}

module _ (trust : Type 0) (met : trust) (g : Graph) (limit : ℕ) where
  reply_met : (text : Text) (old : SessionState) (given : Calls) (new : SessionState) (said : Reply) → IsAskReply trust g limit text old given new said → IsAskReply ⊤ g limit text old given new said
  reply_met text old given new said reply = record {
    is = elim reply.is [ inl alone ↦ inl alone | inr is ↦ inr (λ t. is met) ];
    recorded = λ t. reply.recorded met;
  }

  ask_met : (text : Text) (old : SessionState) (bytes : List ℕ) (new : SessionState) → AsksForObject trust g limit text old bytes new → AsksForObject ⊤ g limit text old bytes new
  ask_met text old bytes new asks = record {
    given = asks.given;
    noted = asks.noted;
    says = record { said = asks.says.said; bytes_are = asks.says.bytes_are; holds = reply_met text old asks.given new asks.says.said asks.says.holds };
    makes = asks.makes;
    truth = λ t. asks.truth met;
    tree = asks.tree;
  }

  left_ask_met : (text : Text) (old new : SessionState) → MayHaveAsked trust g limit text old new → MayHaveAsked ⊤ g limit text old new
  left_ask_met text old new asked = record { given = asked.given; noted = asked.noted; begun = λ t. asked.begun met; makes = asked.makes; truth = λ t. asked.truth met; tree = asked.tree }

  step_met : (old : SessionState) (c : Command) (body bytes : List ℕ) (new : SessionState) → StepIf trust g limit old c body bytes new → Step g limit old c body bytes new
  step_met old (Put name count) body bytes new step = step
  step_met old (Take name) body bytes new step = step
  step_met old (Remove name) body bytes new step = step
  step_met old (Ask text) body bytes new step = ask_met text old bytes new step
  step_met old (Plan text) body bytes new step = step
  step_met old Sources body bytes new step = step
  step_met old Kept body bytes new step = step
  step_met old Quit body bytes new step = step
  step_met old Nothing body bytes new step = step
  step_met old Bad body bytes new step = step
  step_met old (BadName count) body bytes new step = step

  run_met : (first last : SessionState) (items : List Item) (replies : List (List ℕ)) → Transcript commands (StepIf trust g limit) first items replies last → Transcript commands (Step g limit) first items replies last
  run_met first last [] [] run = run
  run_met first last [] (bytes ∷ replies) run = absurd run
  run_met first last (item ∷ items) [] run = absurd run
  run_met first last (item ∷ items) (bytes ∷ replies) run =
      let a = run.1 in (
        run.0,
        record { command = a.command; item_is = a.item_is; step = step_met first a.command item.body bytes run.0 a.step },
        run_met run.0 last items replies run.2,
      )

  left_met : (old furthest : SessionState) (c : Command) (body : List ℕ) → CommandMayLeaveIf trust g limit old c body furthest → CommandMayLeave g limit old c body furthest
  left_met old furthest (Put name count) body may = may
  left_met old furthest (Take name) body may = may
  left_met old furthest (Remove name) body may = may
  left_met old furthest (Ask text) body may = left_ask_met text old furthest may
  left_met old furthest (Plan text) body may = may
  left_met old furthest Sources body may = may
  left_met old furthest Kept body may = may
  left_met old furthest Quit body may = may
  left_met old furthest Nothing body may = may
  left_met old furthest Bad body may = may
  left_met old furthest (BadName count) body may = may

pub met_replied : (from : Held) (g : Graph) (limit : ℕ) (first last : SessionState) (items : List Item) (replies : List (List ℕ)) → RecordsAreTrue g from
    → Transcript commands (StepIf (RecordsAreTrue g from) g limit) first items replies last → Transcript commands (Step g limit) first items replies last
met_replied from g limit first last items replies are run = run_met (RecordsAreTrue g from) are g limit first last items replies run

pub met_left : (from : Held) (g : Graph) (limit : ℕ) (old furthest : SessionState) (c : Command) (body : List ℕ) → RecordsAreTrue g from
    → CommandMayLeaveIf (RecordsAreTrue g from) g limit old c body furthest → CommandMayLeave g limit old c body furthest
met_left from g limit old furthest c body are may = left_met (RecordsAreTrue g from) are g limit old furthest c body may
