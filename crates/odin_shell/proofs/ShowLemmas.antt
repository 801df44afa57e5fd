-- Commands that are answered without a change.
use Rattle.std.proofs.Common.{◌≡◌, ℕ, List, length, ap, refl, ◌∙◌, subst}
use Rattle.meaning_graph.specs.Graphs.{Text, Graph}
use Rattle.odin_bytes.specs.declared.commands.Command.TheVariants as command
use Rattle.object_values.specs.declared.replies.Reply.{Reply}
use Rattle.object_values.specs.declared.replies.Reply.TheVariants as reply
use Rattle.meaning_commands.specs.Replies.{reply_text}
use Rattle.meaning_derive.specs.Replies.{plan_of}
use Rattle.meaning_derive.specs.Answers.{Refused, Plan}
use Rattle.odin_answers.specs.declared.plan.Planned.{Planned}
use Rattle.odin_answers.specs.declared.plan.Planned.TheVariants as planned
use Rattle.odin_answers.specs.Planned.{HasSteps, IsPlanned}
use Rattle.odin_store.specs.Held.{Held}
use Rattle.odin_engine.specs.Engaged.{Engaged}
use Rattle.odin_answers.specs.Edits.{SaysReply, source_lines}
use Rattle.odin_outside.specs.declared.disk.Disk.{Ghosts as DiskView}
use Rattle.odin_shell.specs.Machine.{Told}
use Rattle.odin_shell.specs.Served.{Answers}
use Rattle.odin_shell.proofs.AnswerLemmas.{same_answers}

-- the steps by their text
pub steps_said : (g : Graph) (text bytes : Text) (p : Planned) → p ≡ planned.Steps bytes → IsPlanned g text p → SaysReply (Plan g text) bytes
steps_said g text bytes p same is =
    let has : HasSteps g text bytes = subst (IsPlanned g text) same is in
    record { said = plan_of g has.node; bytes_are = has.bytes_are; holds = Plan.steps text has.node has.asks }

-- the refusal
pub refusal_said : (g : Graph) (text bytes : Text) (p : Planned) (reply : Reply) → p ≡ planned.Refused reply → IsPlanned g text p → bytes ≡ reply_text reply → SaysReply (Plan g text) bytes
refusal_said g text bytes p reply same is said =
    let refused : Refused g text reply = subst (IsPlanned g text) same is in
    record { said = reply; bytes_are = said; holds = Plan.refused_plan text reply refused }

-- ---- what they show of what is held

module _ {D : Type 0} (disk : DiskView D) (code : Engaged) (told : Told D) (kept bytes : List ℕ) where
  pub plan_answers : (text : Text) → SaysReply (Plan code.graph text) bytes → Answers disk code (command.Plan text) kept told bytes code told
  plan_answers text says = same_answers disk code (command.Plan text) kept bytes told (λ trust g limit state body graph held. record {
    says = subst (λ (on : Graph). SaysReply (Plan on text) bytes) graph says;
    same = refl;
  })

  pub sources_answers : bytes ≡ reply_text (reply.Sources (source_lines code.store.sources.texts)) → Answers disk code command.Sources kept told bytes code told
  sources_answers is = same_answers disk code command.Sources kept bytes told (λ trust g limit state body graph held. (is ∙ ap (λ (h : Held). reply_text (reply.Sources (source_lines h.sources))) held, refl))

  pub kept_answers : bytes ≡ reply_text (reply.Kept (length code.store.kept.tables.calls)) → Answers disk code command.Kept kept told bytes code told
  kept_answers is = same_answers disk code command.Kept kept bytes told (λ trust g limit state body graph held. (is ∙ ap (λ (h : Held). reply_text (reply.Kept (length h.calls))) held, refl))
