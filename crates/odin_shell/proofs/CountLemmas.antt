-- Replies that tell a fault: no other reply is like them, and there are no more than faults were counted.
use Rattle.std.proofs.Common.{◌≡◌, ◌≢◌, ℕ, ◌+◌, ◌≤◌, min, Bool, true, false, List, [], ◌∷◌, length, get_or, ap, sym, refl, ◌∙◌, arith, inl, inr}
use Rattle.std.specs.Prelude.{Option, Some, None, if◌then◌else◌}
use Rattle.std.specs.Str.{bytes_eq}
use Rattle.std.proofs.lemmas.Slice.Eq.{bytes_eq-Decides}
use Rattle.object_values.specs.Texts.{Texts}
use Rattle.odin_outside.specs.Causes.{last_count}
use Rattle.odin_outside.specs.Spawned.{Spawned}
use Rattle.meaning_graph.specs.Graphs.{Text, Graph}
use Rattle.meaning_derive.specs.Derive.{Sources as Given, Outcomes}
use Rattle.meaning_records.specs.Tables.{kept_outcome}
use Rattle.meaning_derive.specs.Answers.{Refused, Answer, Plan as Steps}
use Rattle.meaning_commands.specs.Items.{Item}
use Rattle.meaning_commands.specs.Machines.{Transcript}
use Rattle.derive_walk.specs.Outcomes.{after}
use Rattle.odin_answers.proofs.Lemmas.{reply_of, refusal_counted, reply_later}
use Rattle.odin_bytes.specs.declared.commands.Command.{Command}
use Rattle.odin_bytes.specs.declared.commands.Command.TheVariants.{Put, Take, Remove, Ask, Plan, Sources, Kept, Quit, Nothing, Bad, BadName}
use Rattle.object_values.specs.declared.replies.Reply.{Reply}
use Rattle.object_values.specs.declared.replies.Reply.TheVariants as reply
use Rattle.meaning_commands.specs.Replies.{reply_text}
use Rattle.odin_shell.specs.Language.{commands}
use Rattle.odin_answers.specs.Edits.{TreeTold, Inserts, TakesFile, RemovesText, source_lines}
use Rattle.odin_shell.specs.Machine.{SessionState, Step}
use Rattle.odin_shell.specs.Laws.{count_of_reply, FitsCounts}

-- ---- bytes

-- two texts differ where a byte does
clash : {Z : Type 0} (a b : List ℕ) → a ≡ b → (k x y : ℕ) → get_or a k 0 ≡ x → get_or b k 0 ≡ y → x ≢ y → Z
clash a b e k x y at_a at_b other = absurd (other (sym at_a ∙ ap (λ (t : List ℕ). get_or t k 0) e ∙ at_b))

only_start : (r : Reply) → reply_text r ≡ reply_text reply.RefusedToolStart → r ≡ reply.RefusedToolStart
only_start (reply.Put name count) e = clash _ _ e 0 112 114 refl refl (λ z. omega arith)
only_start (reply.Took name count) e = clash _ _ e 0 116 114 refl refl (λ z. omega arith)
only_start (reply.NoFile name) e = clash _ _ e 0 110 114 refl refl (λ z. omega arith)
only_start (reply.Dropped name) e = clash _ _ e 0 100 114 refl refl (λ z. omega arith)
only_start (reply.NoSource name) e = clash _ _ e 0 110 114 refl refl (λ z. omega arith)
only_start (reply.Sources lines) e = clash _ _ e 0 115 114 refl refl (λ z. omega arith)
only_start (reply.Kept count) e = clash _ _ e 0 107 114 refl refl (λ z. omega arith)
only_start (reply.Plan lines) e = clash _ _ e 0 112 114 refl refl (λ z. omega arith)
only_start reply.Bye e = clash _ _ e 0 98 114 refl refl (λ z. omega arith)
only_start reply.RefusedCommand e = clash _ _ e 8 99 116 refl refl (λ z. omega arith)
only_start reply.RefusedName e = clash _ _ e 8 110 116 refl refl (λ z. omega arith)
only_start reply.RefusedSize e = clash _ _ e 8 115 116 refl refl (λ z. omega arith)
only_start reply.RefusedRead e = clash _ _ e 8 114 116 refl refl (λ z. omega arith)
only_start (reply.RefusedExpression place) e = clash _ _ e 8 101 116 refl refl (λ z. omega arith)
only_start (reply.RefusedParam name) e = clash _ _ e 8 112 116 refl refl (λ z. omega arith)
only_start (reply.RefusedType name) e = clash _ _ e 9 121 111 refl refl (λ z. omega arith)
only_start (reply.RefusedPath step) e = clash _ _ e 8 112 116 refl refl (λ z. omega arith)
only_start (reply.RefusedCircular lines) e = clash _ _ e 8 99 116 refl refl (λ z. omega arith)
only_start (reply.RefusedDeep lines) e = clash _ _ e 8 100 116 refl refl (λ z. omega arith)
only_start reply.RefusedToolStart e = refl
only_start (reply.Shown status body messages) e = clash _ _ e 0 111 114 refl refl (λ z. omega arith)

only_read : (r : Reply) → reply_text r ≡ reply_text reply.RefusedRead → r ≡ reply.RefusedRead
only_read (reply.Put name count) e = clash _ _ e 0 112 114 refl refl (λ z. omega arith)
only_read (reply.Took name count) e = clash _ _ e 0 116 114 refl refl (λ z. omega arith)
only_read (reply.NoFile name) e = clash _ _ e 0 110 114 refl refl (λ z. omega arith)
only_read (reply.Dropped name) e = clash _ _ e 0 100 114 refl refl (λ z. omega arith)
only_read (reply.NoSource name) e = clash _ _ e 0 110 114 refl refl (λ z. omega arith)
only_read (reply.Sources lines) e = clash _ _ e 0 115 114 refl refl (λ z. omega arith)
only_read (reply.Kept count) e = clash _ _ e 0 107 114 refl refl (λ z. omega arith)
only_read (reply.Plan lines) e = clash _ _ e 0 112 114 refl refl (λ z. omega arith)
only_read reply.Bye e = clash _ _ e 0 98 114 refl refl (λ z. omega arith)
only_read reply.RefusedCommand e = clash _ _ e 8 99 114 refl refl (λ z. omega arith)
only_read reply.RefusedName e = clash _ _ e 8 110 114 refl refl (λ z. omega arith)
only_read reply.RefusedSize e = clash _ _ e 8 115 114 refl refl (λ z. omega arith)
only_read reply.RefusedRead e = refl
only_read (reply.RefusedExpression place) e = clash _ _ e 8 101 114 refl refl (λ z. omega arith)
only_read (reply.RefusedParam name) e = clash _ _ e 8 112 114 refl refl (λ z. omega arith)
only_read (reply.RefusedType name) e = clash _ _ e 8 116 114 refl refl (λ z. omega arith)
only_read (reply.RefusedPath step) e = clash _ _ e 8 112 114 refl refl (λ z. omega arith)
only_read (reply.RefusedCircular lines) e = clash _ _ e 8 99 114 refl refl (λ z. omega arith)
only_read (reply.RefusedDeep lines) e = clash _ _ e 8 100 114 refl refl (λ z. omega arith)
only_read reply.RefusedToolStart e = clash _ _ e 8 116 114 refl refl (λ z. omega arith)
only_read (reply.Shown status body messages) e = clash _ _ e 0 111 114 refl refl (λ z. omega arith)

-- ---- replies that tell no fault

record IsSilent (r : Reply) : Type 0 where
  no_start : r ≢ reply.RefusedToolStart
  no_read : r ≢ reply.RefusedRead

silent_as : (r said : Reply) → said ≡ r → IsSilent r → IsSilent said
silent_as r said is silent = record { no_start = λ z. silent.no_start (sym is ∙ z); no_read = λ z. silent.no_read (sym is ∙ z) }

inserted_silent : (old : Texts) (name text : Text) (size : ℕ) (accepted said : Reply) (new : Texts) → IsSilent accepted → Inserts old name text size accepted said new → IsSilent said
inserted_silent old name text size accepted said new silent (inl put) = silent_as accepted said put.is silent
inserted_silent old name text size accepted said new silent (inr long) = silent_as reply.RefusedSize said long.is (record { no_start = λ z. cc; no_read = λ z. cc })

taken_silent : (old : Texts) (name : Text) (file : Option Text) (said : Reply) (new : Texts) → TakesFile old name file said new → IsSilent said
taken_silent old name None said new takes = silent_as (reply.NoFile name) said takes.0 (record { no_start = λ z. cc; no_read = λ z. cc })
taken_silent old name (Some text) said new takes = inserted_silent old name text _ (reply.Took name _) said new (record { no_start = λ z. cc; no_read = λ z. cc }) takes

removed_silent : (found : Option Text) (old : Texts) (name : Text) (said : Reply) (new : Texts) → RemovesText found old name said new → IsSilent said
removed_silent None old name said new removes = silent_as (reply.NoSource name) said removes.0 (record { no_start = λ z. cc; no_read = λ z. cc })
removed_silent (Some text) old name said new removes = silent_as (reply.Dropped name) said removes.0 (record { no_start = λ z. cc; no_read = λ z. cc })

refused_silent : (g : Graph) (text : Text) (said : Reply) → Refused g text said → IsSilent said
refused_silent g text said (Refused.expression _ place is) = record { no_start = λ z. cc; no_read = λ z. cc }
refused_silent g text said (Refused.param _ e name is none) = record { no_start = λ z. cc; no_read = λ z. cc }
refused_silent g text said (Refused.type _ e name is none) = record { no_start = λ z. cc; no_read = λ z. cc }
refused_silent g text said (Refused.path _ e step is none) = record { no_start = λ z. cc; no_read = λ z. cc }

answer_silent : (g : Graph) (s : Given) (outcomes : Outcomes) (text : Text) (said : Reply) → Answer g s outcomes text said → IsSilent said
answer_silent g s outcomes text said (Answer.refused _ _ is) = refused_silent g text said is
answer_silent g s outcomes text said (Answer.object _ n view asks is) = record { no_start = λ z. cc; no_read = λ z. cc }
answer_silent g s outcomes text said (Answer.circular _ n chain asks is) = record { no_start = λ z. cc; no_read = λ z. cc }
answer_silent g s outcomes text said (Answer.deep _ n chain asks is) = record { no_start = λ z. cc; no_read = λ z. cc }

steps_silent : (g : Graph) (text : Text) (said : Reply) → Steps g text said → IsSilent said
steps_silent g text said (Steps.refused_plan _ _ is) = refused_silent g text said is
steps_silent g text said (Steps.steps _ n asks) = record { no_start = λ z. cc; no_read = λ z. cc }

-- ---- counts

abbrev one_if : Bool → ℕ
one_if b = if b then 1 else 0

abbrev starts_in : List ℕ → ℕ
starts_in bytes = one_if (bytes_eq bytes (reply_text reply.RefusedToolStart))

abbrev reads_in : List ℕ → ℕ
reads_in bytes = one_if (bytes_eq bytes (reply_text reply.RefusedRead))

not_one : (bytes other : List ℕ) (b : Bool) → bytes_eq bytes other ≡ b → bytes ≢ other → one_if b ≡ 0
not_one bytes other true e differ = absurd (differ ((bytes_eq-Decides bytes other).0 e))
not_one bytes other false e differ = refl

at_most_one : (b : Bool) → one_if b ≤ 1
at_most_one true = omega arith
at_most_one false = omega arith

no_start_in : (bytes : List ℕ) (said : Reply) → bytes ≡ reply_text said → said ≢ reply.RefusedToolStart → starts_in bytes ≡ 0
no_start_in bytes said is other = not_one bytes (reply_text reply.RefusedToolStart) _ refl (λ e. other (only_start said (sym is ∙ e)))

no_read_in : (bytes : List ℕ) (said : Reply) → bytes ≡ reply_text said → said ≢ reply.RefusedRead → reads_in bytes ≡ 0
no_read_in bytes said is other = not_one bytes (reply_text reply.RefusedRead) _ refl (λ e. other (only_read said (sym is ∙ e)))

-- a reply tells no more faults than were counted
pub record Counts (old : SessionState) (bytes : List ℕ) (new : SessionState) : Type 0 where
  pub starts : min (old.tools.faults + starts_in bytes) last_count ≤ new.tools.faults
  pub reads : min (old.tree.faults + reads_in bytes) last_count ≤ new.tree.faults

by_none : (old : SessionState) (bytes : List ℕ) (new : SessionState) → starts_in bytes ≡ 0 → reads_in bytes ≡ 0 → old.tools.faults ≤ new.tools.faults → old.tree.faults ≤ new.tree.faults → Counts old bytes new
by_none old bytes new starts reads tools tree = record { starts = omega (arith, starts, tools); reads = omega (arith, reads, tree) }

by_silent : (old : SessionState) (bytes : List ℕ) (new : SessionState) (said : Reply) → bytes ≡ reply_text said → IsSilent said → old.tools.faults ≤ new.tools.faults → old.tree.faults ≤ new.tree.faults → Counts old bytes new
by_silent old bytes new said is silent = by_none old bytes new (no_start_in bytes said is silent.no_start) (no_read_in bytes said is silent.no_read)

tools_later : (old new : SessionState) → new.tools ≡ old.tools → old.tools.faults ≤ new.tools.faults
tools_later old new same = let count : new.tools.faults ≡ old.tools.faults = ap (λ (t : Spawned). t.faults) same in omega arith

tree_later : (old new : SessionState) → new.tree ≡ old.tree → old.tree.faults ≤ new.tree.faults
tree_later old new same = let count : new.tree.faults ≡ old.tree.faults = ap (λ (t : TreeTold). t.faults) same in omega arith

no_change : (old : SessionState) (bytes : List ℕ) (new : SessionState) (said : Reply) → bytes ≡ reply_text said → IsSilent said → new ≡ old → Counts old bytes new
no_change old bytes new said is silent same =
    by_silent old bytes new said is silent (tools_later old new (ap (λ (s : SessionState). s.tools) same)) (tree_later old new (ap (λ (s : SessionState). s.tree) same))

no_reply : (old : SessionState) (bytes : List ℕ) (new : SessionState) → bytes ≡ [] → new ≡ old → Counts old bytes new
no_reply old bytes new none same =
    by_none old bytes new
    (not_one bytes (reply_text reply.RefusedToolStart) _ refl (λ e. clash [] (reply_text reply.RefusedToolStart) (sym none ∙ e) 0 0 114 refl refl (λ z. omega arith)))
    (not_one bytes (reply_text reply.RefusedRead) _ refl (λ e. clash [] (reply_text reply.RefusedRead) (sym none ∙ e) 0 0 114 refl refl (λ z. omega arith)))
    (tools_later old new (ap (λ (s : SessionState). s.tools) same)) (tree_later old new (ap (λ (s : SessionState). s.tree) same))

pub counted : (g : Graph) (limit : ℕ) (old : SessionState) (c : Command) (body bytes : List ℕ) (new : SessionState) → Step g limit old c body bytes new → Counts old bytes new
counted g limit old (Put name count) body bytes new step =
    by_silent old bytes new step.says.said step.says.bytes_are
    (inserted_silent old.held.sources name body count (reply.Put name count) step.says.said new.held.sources (record { no_start = λ z. cc; no_read = λ z. cc }) step.says.holds)
    (tools_later old new step.tools) (tree_later old new step.tree)
counted g limit old (Take name) body bytes new step =
    let tree = step.asked.stays.later in
    elim step.says.holds [
      | inl taken ↦ by_silent old bytes new step.says.said step.says.bytes_are (taken_silent old.held.sources name taken.file step.says.said new.held.sources taken.takes) (tools_later old new step.tools) tree
      | inr unread ↦
          let rose = unread.failed.rose in
          let few = at_most_one (bytes_eq bytes (reply_text reply.RefusedRead)) in
          let none = no_start_in bytes step.says.said step.says.bytes_are (λ z. let is : step.says.said ≡ reply.RefusedRead = unread.is in let clashing : reply.RefusedRead ≡ reply.RefusedToolStart = sym is ∙ z in cc) in
          let tools = tools_later old new step.tools in
          record { starts = omega (arith, none, tools); reads = omega (arith, rose, few) }
    ]
counted g limit old (Remove name) body bytes new step =
    by_silent old bytes new step.says.said step.says.bytes_are (removed_silent _ old.held.sources name step.says.said new.held.sources step.says.holds) (tools_later old new step.tools) (tree_later old new step.tree)
counted g limit old (Ask text) body bytes new step =
    let holds = reply_of g old.held.sources old.held.calls limit text step.says.said step.given old.tools new.tools step.says.holds.is tt in
    let tools = reply_later g old.held.sources old.held.calls limit text step.says.said step.given old.tools new.tools holds in
    elim holds [
      | inl answered ↦
          let outcomes = after (kept_outcome old.held.calls) step.given in
          by_silent old bytes new step.says.said step.says.bytes_are (answer_silent g old.held.sources outcomes text step.says.said (answered.answer outcomes (λ call o e. e))) tools (tree_later old new step.tree)
      | inr refused ↦
          let counted = refusal_counted g old.held.sources old.held.calls limit text step.says.said step.given old.tools new.tools refused in
          let rose = counted.rose in
          let few = at_most_one (bytes_eq bytes (reply_text reply.RefusedToolStart)) in
          let none = no_read_in bytes step.says.said step.says.bytes_are (λ z. let is : step.says.said ≡ reply.RefusedToolStart = refused.is in let clashing : reply.RefusedToolStart ≡ reply.RefusedRead = sym is ∙ z in cc) in
          let tree = tree_later old new step.tree in
          record { starts = omega (arith, rose, few); reads = omega (arith, none, tree) }
    ]
counted g limit old (Plan text) body bytes new step = no_change old bytes new step.says.said step.says.bytes_are (steps_silent g text step.says.said step.says.holds) step.same
counted g limit old Sources body bytes new step = no_change old bytes new (reply.Sources (source_lines old.held.sources)) step.0 (record { no_start = λ z. cc; no_read = λ z. cc }) step.1
counted g limit old Kept body bytes new step = no_change old bytes new (reply.Kept (length old.held.calls)) step.0 (record { no_start = λ z. cc; no_read = λ z. cc }) step.1
counted g limit old Quit body bytes new step = no_change old bytes new reply.Bye step.0 (record { no_start = λ z. cc; no_read = λ z. cc }) step.1
counted g limit old Nothing body bytes new step = no_reply old bytes new step.0 step.1
counted g limit old Bad body bytes new step = no_change old bytes new reply.RefusedCommand step.0 (record { no_start = λ z. cc; no_read = λ z. cc }) step.1
counted g limit old (BadName count) body bytes new step = no_change old bytes new reply.RefusedName step.0 (record { no_start = λ z. cc; no_read = λ z. cc }) step.1

both : (f a r m s : ℕ) → min (f + a) last_count ≤ m → min (m + r) last_count ≤ s → min (f + (a + r)) last_count ≤ s
both f a r m s first rest = omega arith

pub counts : (g : Graph) (limit : ℕ) (first last : SessionState) (items : List Item) (replies : List (List ℕ)) → Transcript commands (Step g limit) first items replies last → FitsCounts first last replies
counts g limit first last [] [] run =
    let tools : last.tools.faults ≡ first.tools.faults = ap (λ (s : SessionState). s.tools.faults) run in
    let tree : last.tree.faults ≡ first.tree.faults = ap (λ (s : SessionState). s.tree.faults) run in
    record { starts = omega arith; reads = omega arith }
counts g limit first last [] (reply ∷ replies) run = absurd run
counts g limit first last (item ∷ items) [] run = absurd run
counts g limit first last (item ∷ items) (bytes ∷ replies) run =
    let step = counted g limit first run.1.command item.body bytes run.0 run.1.step in
    let rest = counts g limit run.0 last items replies run.2 in
    record {
      starts = both first.tools.faults (starts_in bytes) (count_of_reply reply.RefusedToolStart replies) run.0.tools.faults last.tools.faults step.starts rest.starts;
      reads = both first.tree.faults (reads_in bytes) (count_of_reply reply.RefusedRead replies) run.0.tree.faults last.tree.faults step.reads rest.reads;
    }
