-- After each command the sources are names with texts that are not too long.
use Rattle.std.proofs.Common.{◌≡◌, ℕ, ◌≤◌, inl, inr, List, length, ap, sym, ◌∙◌, subst, arith}
use Rattle.std.specs.Prelude.{⊤, Option, Some, None}
use Rattle.std.specs.FinMap.{get}
use Rattle.object_values.specs.Texts.{Text, Texts}
use Rattle.meaning_texts.specs.Classes.{IsName}
use Rattle.meaning_texts.specs.Limits.{body_limit}
use Rattle.meaning_graph.specs.Graphs.{Graph}
use Rattle.meaning_derive.specs.Given.{AreSources}
use Rattle.meaning_commands.specs.Items.{Item, IsItem}
use Rattle.odin_bytes.specs.declared.commands.Command.{Command}
use Rattle.odin_bytes.specs.declared.commands.Command.TheVariants.{Put, Take, Remove, Ask, Plan, Sources, Kept, Quit, Nothing, Bad, BadName}
use Rattle.object_values.specs.declared.replies.Reply.{Reply}
use Rattle.meaning_commands.specs.Commands as spelling
use Rattle.meaning_commands.specs.Commands.{bytes_after_line}
use Rattle.odin_journal.specs.Trails.{after_changes}
use Rattle.odin_store.specs.Held.{Held, Change, drops, apply}
use Rattle.odin_store.specs.Keeping.{store_keeping}
use Rattle.odin_store.proofs.Lemmas.{put_stays, drop_stays}
use Rattle.odin_shell.specs.Language.{commands}
use Rattle.odin_answers.specs.Edits.{Inserts, TakesFile, RemovesText}
use Rattle.odin_shell.specs.Machine.{SessionState, Step, IsPutChange, IsTakeChange, MayEdit, CommandMayLeave}
use Rattle.odin_shell.proofs.MadeLemmas.{kept_sources}

-- ---- names

-- the name of a source that a command may bring is one
abbrev BringsName : Command → Type 0
BringsName (Put name count) = IsName name
BringsName (Take name) = IsName name
BringsName other = ⊤

form_names : (line : List ℕ) (c : Command) → spelling.IsForm line c → BringsName c
form_names line _ (spelling.put name count is named) = named
form_names line _ (spelling.put_bad word count is not) = tt
form_names line _ (spelling.take name is named) = named
form_names line _ (spelling.take_bad word is not) = tt
form_names line _ (spelling.remove name is named) = tt
form_names line _ (spelling.remove_bad word is not) = tt
form_names line _ (spelling.ask text is) = tt
form_names line _ (spelling.plan text is) = tt
form_names line _ (spelling.sources is) = tt
form_names line _ (spelling.kept is) = tt
form_names line _ (spelling.quit is) = tt

names : (line : List ℕ) (c : Command) → spelling.Spells line c → BringsName c
names line _ (spelling.nothing is) = tt
names line _ (spelling.formed c short form) = form_names line c form
names line _ (spelling.too_long long) = tt
names line _ (spelling.formless some none) = tt

-- ---- edits

insert_stays : (old : Texts) (name text : Text) (size : ℕ) (accepted said : Reply) (new : Texts) → AreSources old → IsName name → (size ≤ body_limit → length text ≤ body_limit) → Inserts old name text size accepted said new → AreSources new
insert_stays old name text size accepted said new are named short (inl put) = subst AreSources (sym put.put) (put_stays old name text are named (short put.fits))
insert_stays old name text size accepted said new are named short (inr long) = subst AreSources (sym long.same) are

take_stays : (old : Texts) (name : Text) (file : Option Text) (said : Reply) (new : Texts) → AreSources old → IsName name → TakesFile old name file said new → AreSources new
take_stays old name None said new are named bytes_after_line = subst AreSources (sym bytes_after_line.1) are
take_stays old name (Some text) said new are named bytes_after_line = insert_stays old name text (length text) _ said new are named (λ le. le) bytes_after_line

remove_stays : (found : Option Text) (old : Texts) (name : Text) (said : Reply) (new : Texts) → AreSources old → RemovesText found old name said new → AreSources new
remove_stays None old name said new are removes = subst AreSources (sym removes.1) are
remove_stays (Some text) old name said new are removes = subst AreSources (sym removes.1) (drop_stays old name are)

-- ---- commands

same_stays : (old new : SessionState) → AreSources old.held.sources → new ≡ old → AreSources new.held.sources
same_stays old new are same = subst (λ (s : SessionState). AreSources s.held.sources) (sym same) are

-- a command whose bytes are not too long
step_stays : (g : Graph) (limit : ℕ) (old new : SessionState) (command : Command) (body reply : List ℕ) → AreSources old.held.sources → BringsName command → (bytes_after_line command ≤ body_limit → length body ≤ body_limit)
    → Step g limit old command body reply new → AreSources new.held.sources
step_stays g limit old new (Put name count) body reply are named short step = insert_stays old.held.sources name body count _ step.says.said new.held.sources are named short step.says.holds
step_stays g limit old new (Take name) body reply are named short step = elim step.says.holds [
  | inl taken ↦ take_stays old.held.sources name taken.file step.says.said new.held.sources are named taken.takes
  | inr unread ↦ subst AreSources (sym unread.same) are
]
step_stays g limit old new (Remove name) body reply are named short step = remove_stays (get old.held.sources name) old.held.sources name step.says.said new.held.sources are step.says.holds
step_stays g limit old new (Ask text) body reply are named short step = subst AreSources (sym (ap (λ (h : Held). h.sources) step.makes.held ∙ kept_sources step.given step.noted old.held)) are
step_stays g limit old new (Plan text) body reply are named short step = same_stays old new are step.same
step_stays g limit old new Sources body reply are named short step = same_stays old new are step.1
step_stays g limit old new Kept body reply are named short step = same_stays old new are step.1
step_stays g limit old new Quit body reply are named short step = same_stays old new are step.1
step_stays g limit old new Nothing body reply are named short step = same_stays old new are step.1
step_stays g limit old new Bad body reply are named short step = same_stays old new are step.1
step_stays g limit old new (BadName count) body reply are named short step = same_stays old new are step.1

pub stay : (g : Graph) (limit : ℕ) (old new : SessionState) (item : Item) (command : Command) (reply : List ℕ) → AreSources old.held.sources → IsItem commands item command → Step g limit old command item.body reply new
    → AreSources new.held.sources
stay g limit old new item command reply are i step =
    let size = i.size in
    step_stays g limit old new command item.body reply are (names _ command i.spelled) (λ few. omega (arith, size, few)) step

-- ---- without a reply

due_stays : (Asked : Change → Type 0) (old new : SessionState) → ((change : Change) → Asked change → AreSources (apply change old.held).sources) → AreSources old.held.sources → MayEdit Asked old new → AreSources new.held.sources
due_stays Asked old new each are may = subst (λ (h : Held). AreSources h.sources) (sym may.makes.held) (elim may.due [
  | inl none ↦ subst (λ c. AreSources (after_changes store_keeping c old.held).sources) (sym none) are
  | inr one ↦ subst (λ c. AreSources (after_changes store_keeping c old.held).sources) (sym one.3) (each one.0 one.1)
])

step_left : (g : Graph) (limit : ℕ) (old new : SessionState) (command : Command) (body : List ℕ) → AreSources old.held.sources → BringsName command → (bytes_after_line command ≤ body_limit → length body ≤ body_limit)
    → CommandMayLeave g limit old command body new → AreSources new.held.sources
step_left g limit old new (Put name count) body are named short may =
    due_stays (IsPutChange name count body) old new (λ change due. subst (λ c. AreSources (apply c old.held).sources) (sym due.1) (put_stays old.held.sources name body are named (short due.0))) are may.0
step_left g limit old new (Take name) body are named short may =
    due_stays (IsTakeChange name old.tree) old new (λ change due. subst (λ c. AreSources (apply c old.held).sources) (sym due.3) (put_stays old.held.sources name due.0 are named due.1)) are may.0
step_left g limit old new (Remove name) body are named short may =
    due_stays (λ change. change ≡ drops name) old new (λ change due. subst (λ c. AreSources (apply c old.held).sources) (sym due) (drop_stays old.held.sources name are)) are may.0
step_left g limit old new (Ask text) body are named short may = subst AreSources (sym (ap (λ (h : Held). h.sources) may.makes.held ∙ kept_sources may.given may.noted old.held)) are
step_left g limit old new (Plan text) body are named short may = same_stays old new are may
step_left g limit old new Sources body are named short may = same_stays old new are may
step_left g limit old new Kept body are named short may = same_stays old new are may
step_left g limit old new Quit body are named short may = same_stays old new are may
step_left g limit old new Nothing body are named short may = same_stays old new are may
step_left g limit old new Bad body are named short may = same_stays old new are may
step_left g limit old new (BadName count) body are named short may = same_stays old new are may

pub stay_left : (g : Graph) (limit : ℕ) (old furthest : SessionState) (item : Item) (command : Command) → AreSources old.held.sources → IsItem commands item command → CommandMayLeave g limit old command item.body furthest
    → AreSources furthest.held.sources
stay_left g limit old furthest item command are i may =
    let size = i.size in
    step_left g limit old furthest command item.body are (names _ command i.spelled) (λ few. omega (arith, size, few)) may
