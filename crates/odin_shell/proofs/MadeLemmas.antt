-- What is held is what its changes made, and by a table what is kept stays true.
use Rattle.std.proofs.Common.{◌≡◌, ℕ, Bool, true, false, cond, List, [], ◌∷◌, ◌++◌, append-nil, append_assoc, ap, sym, refl, ◌∙◌, subst, inl, inr}
use Rattle.std.specs.Prelude.{Option, Some, None}
use Rattle.std.specs.FinMap.{get}
use Rattle.std.specs.Str.{bytes_eq}
use Rattle.object_values.specs.declared.facts.Fact.{Fact}
use Rattle.odin_outside.specs.Spawned.{Table, Spawned}
use Rattle.odin_journal.specs.Trails.{after_changes}
use Rattle.meaning_graph.specs.Graphs.{Text, Graph}
use Rattle.meaning_records.specs.Tables.{Calls, kept_outcome}
use Rattle.meaning_commands.specs.Items.{Item}
use Rattle.meaning_commands.specs.Machines.{Transcript}
use Rattle.odin_bytes.specs.declared.commands.Command.{Command}
use Rattle.odin_bytes.specs.declared.commands.Command.TheVariants.{Put, Take, Remove, Ask, Plan, Sources, Kept, Quit, Nothing, Bad, BadName}
use Rattle.odin_store.specs.Held.{Held, Change, puts, drops, keeps, notes, apply}
use Rattle.odin_store.specs.Keeping.{store_keeping}
use Rattle.kept_derive.specs.Knowing.{AreTrueBeside, RecordsAreTrue}
use Rattle.kept_derive.specs.Runs.{keeps_of, changes_for}
use Rattle.odin_answers.specs.Laws.{IsTrueFor}
use Rattle.odin_answers.proofs.Lemmas.{reply_of, reply_true, begun_true}
use Rattle.odin_answers.specs.Changes.{source_changes, edit_changes}
use Rattle.odin_shell.specs.Language.{commands}
use Rattle.odin_shell.specs.Machine.{SessionState, Applies, Step, MayEdit, CommandMayLeave}
use Rattle.odin_shell.specs.Laws.{ChangesAreMade, HeldIsMade, RecordsStayTrue}
use Rattle.odin_shell.proofs.RecordLemmas.{after_both, NotesTruly, NoteTruly, puts_truly, drops_truly, both_truly, edit_truly, asked_truly, records_after}

-- ---- changes

-- calls that are kept come after the others, and are no sources
pub calls_of_keeps : (given : Calls) (held : Held) → (after_changes store_keeping (keeps_of given) held).calls ≡ held.calls ++ given
calls_of_keeps [] held = sym (append-nil held.calls)
calls_of_keeps (x ∷ given) held = calls_of_keeps given (apply (keeps x.0 x.1) held) ∙ append_assoc held.calls (x ∷ []) given

sources_of_keeps : (given : Calls) (held : Held) → (after_changes store_keeping (keeps_of given) held).sources ≡ held.sources
sources_of_keeps [] held = refl
sources_of_keeps (x ∷ given) held = sources_of_keeps given (apply (keeps x.0 x.1) held)

-- what is noted after them is neither
pub kept_calls : (given : Calls) (noted : List Fact) (held : Held) → (after_changes store_keeping (changes_for given noted) held).calls ≡ held.calls ++ given
kept_calls given [] held = calls_of_keeps given held
kept_calls given (fact ∷ facts) held = ap (λ (h : Held). h.calls) (after_both (keeps_of given) (notes (fact ∷ facts) ∷ []) held) ∙ calls_of_keeps given held

pub kept_sources : (given : Calls) (noted : List Fact) (held : Held) → (after_changes store_keeping (changes_for given noted) held).sources ≡ held.sources
kept_sources given [] held = sources_of_keeps given held
kept_sources given (fact ∷ facts) held = ap (λ (h : Held). h.sources) (after_both (keeps_of given) (notes (fact ∷ facts) ∷ []) held) ∙ sources_of_keeps given held

-- an edit changes no call that is kept
edit_calls : (name : Text) (old new : Option Text) (held : Held) → (after_changes store_keeping (source_changes name old new) held).calls ≡ held.calls
edit_calls name None None held = refl
edit_calls name (Some text) None held = refl
edit_calls name None (Some text) held = refl
edit_calls name (Some old) (Some text) held = by_test (bytes_eq old text)
  where
    by_test : (same : Bool) → (after_changes store_keeping (cond same [] (puts name text ∷ [])) held).calls ≡ held.calls
    by_test true = refl
    by_test false = refl

pub edits_keep : (name : Text) (old new : SessionState) → Applies (edit_changes name old.held.sources new.held.sources) old new → new.held.calls ≡ old.held.calls
edits_keep name old new makes = ap (λ (h : Held). h.calls) makes.held ∙ edit_calls name (get old.held.sources name) (get new.held.sources name) old.held

-- nor does a change that may be due
abbrev pub KeepsCalls : Change → Type 0
KeepsCalls change = (held : Held) → (apply change held).calls ≡ held.calls

pub edit_keeps : (Asked : Change → Type 0) (old new : SessionState) → ((change : Change) → Asked change → KeepsCalls change) → MayEdit Asked old new → new.held.calls ≡ old.held.calls
edit_keeps Asked old new due may = ap (λ (h : Held). h.calls) may.makes.held ∙ elim may.due [
  | inl none ↦ ap (λ c. (after_changes store_keeping c old.held).calls) none
  | inr one ↦ ap (λ c. (after_changes store_keeping c old.held).calls) one.3 ∙ due one.0 one.1 old.held
]

pub puts_keep : (name text : Text) (change : Change) → change ≡ puts name text → KeepsCalls change
puts_keep name text change is held = ap (λ c. (apply c held).calls) is

pub drops_keep : (name : Text) (change : Change) → change ≡ drops name → KeepsCalls change
drops_keep name change is held = ap (λ c. (apply c held).calls) is

-- ---- what is held is made

-- one after another
pub changes_on : (first mid last : SessionState) → ChangesAreMade first mid → ChangesAreMade mid last → ChangesAreMade first last
changes_on first mid last begins goes = record {
  made = begins.made ++ goes.made;
  list = goes.list ∙ ap (λ l. l ++ goes.made) begins.list ∙ append_assoc first.changes begins.made goes.made;
  held = goes.held ∙ ap (after_changes store_keeping goes.made) begins.held ∙ sym (after_both begins.made goes.made first.held);
}

module _ (g : Graph) where
  -- These changes were made, and what they note of nodes is true.
  pub record IsTrulyMade (first last : SessionState) : Type 0 where
    pub changes : ChangesAreMade first last
    pub truly : NoteTruly g first.held changes.made

  pub none_made : (old new : SessionState) → new ≡ old → IsTrulyMade old new
  none_made old new same = record {
    changes = record { made = []; list = ap (λ (s : SessionState). s.changes) same ∙ sym (append-nil old.changes); held = ap (λ (s : SessionState). s.held) same };
    truly = tt;
  }

  made_by : (changes : List Change) (old new : SessionState) → Applies changes old new → NoteTruly g old.held changes → IsTrulyMade old new
  made_by changes old new makes truly = record { changes = record { made = changes; list = makes.list; held = makes.held }; truly = truly }

  pub made_on : (first mid last : SessionState) → IsTrulyMade first mid → IsTrulyMade mid last → IsTrulyMade first last
  unfolding changes_on
  made_on first mid last begins goes = record {
    changes = changes_on first mid last begins.changes goes.changes;
    truly = both_truly g begins.changes.made goes.changes.made first.held begins.truly (subst (λ (h : Held). NoteTruly g h goes.changes.made) begins.changes.held goes.truly);
  }

  -- an edit notes nothing
  edit_made : (name : Text) (old new : SessionState) → Applies (edit_changes name old.held.sources new.held.sources) old new → IsTrulyMade old new
  edit_made name old new makes = made_by (edit_changes name old.held.sources new.held.sources) old new makes (edit_truly g name (get old.held.sources name) (get new.held.sources name) old.held)

  due_made : (Asked : Change → Type 0) (old new : SessionState) → ((change : Change) → Asked change → NotesTruly g old.held change) → MayEdit Asked old new → IsTrulyMade old new
  due_made Asked old new notes_none may = made_by may.changes old new may.makes (elim may.due [
    | inl none ↦ subst (NoteTruly g old.held) (sym none) tt
    | inr one ↦ subst (NoteTruly g old.held) (sym one.3) (notes_none one.0 one.1, tt)
  ])

  -- what an ask notes is true
  asked_made : (given : Calls) (noted : List Fact) (old new : SessionState) → Applies (changes_for given noted) old new → AreTrueBeside g (kept_outcome new.held.calls) noted → IsTrulyMade old new
  asked_made given noted old new makes truth =
      made_by (changes_for given noted) old new makes (asked_truly g given noted old.held (subst (λ (h : Held). AreTrueBeside g (kept_outcome h.calls) noted) makes.held truth))

  pub step_made : (limit : ℕ) (old : SessionState) (c : Command) (body bytes : List ℕ) (new : SessionState) → Step g limit old c body bytes new → IsTrulyMade old new
  step_made limit old (Put name count) body bytes new step = edit_made name old new step.makes
  step_made limit old (Take name) body bytes new step = edit_made name old new step.makes
  step_made limit old (Remove name) body bytes new step = edit_made name old new step.makes
  step_made limit old (Ask text) body bytes new step = asked_made step.given step.noted old new step.makes (step.truth tt)
  step_made limit old (Plan text) body bytes new step = none_made old new step.same
  step_made limit old Sources body bytes new step = none_made old new step.1
  step_made limit old Kept body bytes new step = none_made old new step.1
  step_made limit old Quit body bytes new step = none_made old new step.1
  step_made limit old Nothing body bytes new step = none_made old new step.1
  step_made limit old Bad body bytes new step = none_made old new step.1
  step_made limit old (BadName count) body bytes new step = none_made old new step.1

  pub is_made : (limit : ℕ) (first last : SessionState) (items : List Item) (replies : List (List ℕ)) → Transcript commands (Step g limit) first items replies last → IsTrulyMade first last
  is_made limit first last [] [] run = none_made first last run
  is_made limit first last [] (bytes ∷ replies) run = absurd run
  is_made limit first last (item ∷ items) [] run = absurd run
  is_made limit first last (item ∷ items) (bytes ∷ replies) run =
      made_on first run.0 last (step_made limit first run.1.command item.body bytes run.0 run.1.step) (is_made limit run.0 last items replies run.2)

  pub left_made : (limit : ℕ) (old furthest : SessionState) (c : Command) (body : List ℕ) → CommandMayLeave g limit old c body furthest → IsTrulyMade old furthest
  left_made limit old new (Put name count) body may = due_made _ old new (λ change due. puts_truly g old.held name body change due.1) may.0
  left_made limit old new (Take name) body may = due_made _ old new (λ change due. puts_truly g old.held name due.0 change due.3) may.0
  left_made limit old new (Remove name) body may = due_made _ old new (drops_truly g old.held name) may.0
  left_made limit old new (Ask text) body may = asked_made may.given may.noted old new may.makes (may.truth tt)
  left_made limit old new (Plan text) body may = none_made old new may
  left_made limit old new Sources body may = none_made old new may
  left_made limit old new Kept body may = none_made old new may
  left_made limit old new Quit body may = none_made old new may
  left_made limit old new Nothing body may = none_made old new may
  left_made limit old new Bad body may = none_made old new may
  left_made limit old new (BadName count) body may = none_made old new may

  -- ---- what is held of nodes stays true

  records_made : (first last : SessionState) → RecordsAreTrue g first.held → IsTrulyMade first last → RecordsAreTrue g last.held
  records_made first last are made = subst (RecordsAreTrue g) (sym made.changes.held) (records_after g made.changes.made first.held are made.truly)

-- so it is with each command, and without a reply
pub records_stay : RecordsStayTrue
records_stay = record {
  replied = λ g limit first last items replies are run. records_made g first last are (is_made g limit first last items replies run);
  left = λ g limit old furthest c body are may. records_made g old furthest are (left_made g limit old furthest c body may);
}

-- what is held after a session is what its changes made
pub held_made : HeldIsMade
held_made = record {
  replied = λ g limit first last items replies run. (is_made g limit first last items replies run).changes;
  left = λ g limit old furthest c body may. (left_made g limit old furthest c body may).changes;
}

-- ---- what is kept stays true

module _ (g : Graph) (limit : ℕ) (table : Table) (old new : SessionState) (right : IsTrueFor table old.tools old.held.calls) where
  -- the same calls are kept, and the same is told of the tools
  true_with : new.tools ≡ old.tools → new.held.calls ≡ old.held.calls → IsTrueFor table new.tools new.held.calls
  true_with tools calls = subst (IsTrueFor table new.tools) (sym calls) (subst (λ (t : Spawned). IsTrueFor table t old.held.calls) (sym tools) right)

  true_same : new ≡ old → IsTrueFor table new.tools new.held.calls
  true_same same = true_with (ap (λ (s : SessionState). s.tools) same) (ap (λ (s : SessionState). s.held.calls) same)

  -- these calls are kept more
  true_after : (given : Calls) (noted : List Fact) → Applies (changes_for given noted) old new → IsTrueFor table new.tools (old.held.calls ++ given) → IsTrueFor table new.tools new.held.calls
  true_after given noted makes more = subst (IsTrueFor table new.tools) (sym (ap (λ (h : Held). h.calls) makes.held ∙ kept_calls given noted old.held)) more

  pub step_true : (c : Command) (body bytes : List ℕ) → Step g limit old c body bytes new → IsTrueFor table new.tools new.held.calls
  step_true (Put name count) body bytes step = true_with step.tools (edits_keep name old new step.makes)
  step_true (Take name) body bytes step = true_with step.tools (edits_keep name old new step.makes)
  step_true (Remove name) body bytes step = true_with step.tools (edits_keep name old new step.makes)
  step_true (Ask text) body bytes step =
      true_after step.given step.noted step.makes
      (reply_true g table old.held.sources old.held.calls limit text old.tools new.tools right step.says.said step.given
      (reply_of g old.held.sources old.held.calls limit text step.says.said step.given old.tools new.tools step.says.holds.is tt))
  step_true (Plan text) body bytes step = true_same step.same
  step_true Sources body bytes step = true_same step.1
  step_true Kept body bytes step = true_same step.1
  step_true Quit body bytes step = true_same step.1
  step_true Nothing body bytes step = true_same step.1
  step_true Bad body bytes step = true_same step.1
  step_true (BadName count) body bytes step = true_same step.1

  left_step : (c : Command) (body : List ℕ) → CommandMayLeave g limit old c body new → IsTrueFor table new.tools new.held.calls
  left_step (Put name count) body may = true_with may.0.tools (edit_keeps _ old new (λ change due. puts_keep name body change due.1) may.0)
  left_step (Take name) body may = true_with may.0.tools (edit_keeps _ old new (λ change due. puts_keep name due.0 change due.3) may.0)
  left_step (Remove name) body may = true_with may.0.tools (edit_keeps _ old new (drops_keep name) may.0)
  left_step (Ask text) body may =
      let begun = may.begun tt in
      true_after may.given may.noted may.makes (begun_true g table old.held.sources old.held.calls limit text old.tools new.tools right may.given begun.rest begun.begun)
  left_step (Plan text) body may = true_same may
  left_step Sources body may = true_same may
  left_step Kept body may = true_same may
  left_step Quit body may = true_same may
  left_step Nothing body may = true_same may
  left_step Bad body may = true_same may
  left_step (BadName count) body may = true_same may

pub stays_true : (g : Graph) (limit : ℕ) (table : Table) (first last : SessionState) (items : List Item) (replies : List (List ℕ)) → IsTrueFor table first.tools first.held.calls
    → Transcript commands (Step g limit) first items replies last → IsTrueFor table last.tools last.held.calls
stays_true g limit table first last [] [] right run = true_same g limit table first last right run
stays_true g limit table first last [] (bytes ∷ replies) right run = absurd run
stays_true g limit table first last (item ∷ items) [] right run = absurd run
stays_true g limit table first last (item ∷ items) (bytes ∷ replies) right run =
    stays_true g limit table run.0 last items replies (step_true g limit table first run.0 right run.1.command item.body bytes run.1.step) run.2

pub left_true : (g : Graph) (limit : ℕ) (table : Table) (old furthest : SessionState) (c : Command) (body : List ℕ) → IsTrueFor table old.tools old.held.calls → CommandMayLeave g limit old c body furthest
    → IsTrueFor table furthest.tools furthest.held.calls
left_true g limit table old furthest c body right may = left_step g limit table old furthest right c body may
