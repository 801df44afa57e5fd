-- What a crash leaves of a session.
use Rattle.std.proofs.Common.{◌≡◌, ◌⊎◌, ℕ, List, [], ◌∷◌, ◌++◌, length, take, drop, append_assoc, ap, sym, refl, ◌∙◌, subst, inl, inr, is_some}
use Rattle.std.specs.Prelude.{Option, Some, None, IsSome}
use Rattle.std.proofs.lemmas.List.{take-append-drop}
use Rattle.object_values.specs.declared.nodes.Node.{Node}
use Rattle.object_values.specs.declared.calls.Call.{Call}
use Rattle.object_values.specs.declared.calls.Outcome.{Outcome}
use Rattle.object_values.specs.declared.facts.Fact.{Fact}
use Rattle.odin_outside.specs.Disk.{IsQuiet}
use Rattle.odin_outside.specs.Spawned.{Table, Spawned}
use Rattle.odin_journal.specs.Trails.{after_changes, IsPrefix}
use Rattle.meaning_graph.specs.Graphs.{Text, Graph}
use Rattle.meaning_derive.specs.Given.{table_outcomes}
use Rattle.meaning_texts.specs.Lists.{IsIn}
use Rattle.meaning_records.specs.Tables.{Calls, kept_outcome}
use Rattle.meaning_derive.specs.Answers as answers
use Rattle.meaning_commands.specs.Items.{Item, IsItem}
use Rattle.meaning_commands.specs.Machines.{AnswersItem, Transcript}
use Rattle.odin_bytes.specs.declared.commands.Command.{Command}
use Rattle.odin_bytes.specs.declared.commands.Command.TheVariants.{Put, Take, Remove, Ask, Plan, Sources, Kept, Quit, Nothing, Bad, BadName}
use Rattle.object_values.specs.declared.replies.Reply.{Reply}
use Rattle.job_runner.specs.declared.jobs.Flying.{Flying}
use Rattle.plain_derive.specs.Given.{calls_of, AreGiven, HaveCome}
use Rattle.plain_derive.specs.Flights.{Flight, Course, off_course, for_spawn, Flies}
use Rattle.plain_derive.proofs.Lemmas.{given_are_calls, given_are_true, flown_given, flown_came}
use Rattle.odin_store.specs.Held.{Held, Change, puts, drops, keeps, notes, apply}
use Rattle.odin_store.specs.Keeping.{store_keeping}
use Rattle.kept_derive.specs.Knowing.{RecordsAreTrue}
use Rattle.kept_derive.specs.Runs.{changes_for, course_of}
use Rattle.odin_answers.specs.Answers.{Agrees, IsReply, MayHaveBegun}
use Rattle.odin_answers.specs.Laws.{IsTrueFor}
use Rattle.odin_answers.proofs.Lemmas.{reply_of, kept_first, kept_by_either}
use Rattle.odin_outside.specs.declared.disk.Disk.{Ghosts as DiskView}
use Rattle.odin_shell.specs.Language.{commands}
use Rattle.odin_shell.specs.Machine.{SessionState, Told, Applies, Step, CommandMayLeave, StateAtExit}
use Rattle.odin_shell.specs.Crashes.{SessionComesTo, IsCallOfAsk, ComesOfAsk, ComesByTable, IsOurs, HoldsOurs, LeavesOurs}
use Rattle.odin_shell.proofs.RecordLemmas.{after_both, NoteTruly, first_truly, records_after}
use Rattle.odin_shell.proofs.MadeLemmas.{kept_calls, edits_keep, edit_keeps, puts_keep, drops_keep, IsTrulyMade, is_made, left_made, made_on, stays_true, left_true}

-- ---- calls that are kept stay

pub grows : (changes : List Change) (held : Held) (call : Call) (o : Outcome) → kept_outcome held.calls call ≡ Some o → kept_outcome (after_changes store_keeping changes held).calls call ≡ Some o
grows [] held call o e = e
grows (puts name text ∷ changes) held call o e = grows changes (apply (puts name text) held) call o e
grows (drops name ∷ changes) held call o e = grows changes (apply (drops name) held) call o e
grows (notes facts ∷ changes) held call o e = grows changes (apply (notes facts) held) call o e
grows (keeps c outcome ∷ changes) held call o e = grows changes (apply (keeps c outcome) held) call o (kept_first held.calls ((c, outcome) ∷ []) call o e)

-- what the first changes keep, all keep
first_grows : (k : ℕ) (changes : List Change) (held : Held) (call : Call) (o : Outcome) → kept_outcome (after_changes store_keeping (take k changes) held).calls call ≡ Some o
    → kept_outcome (after_changes store_keeping changes held).calls call ≡ Some o
first_grows k changes held call o e =
    ap (λ l. kept_outcome (after_changes store_keeping l held).calls call) (sym (take-append-drop k changes))
    ∙ ap (λ (h : Held). kept_outcome h.calls call) (after_both (take k changes) (drop k changes) held)
    ∙ grows (drop k changes) (after_changes store_keeping (take k changes) held) call o e

there : (x y : Option Outcome) → ((o : Outcome) → x ≡ Some o → y ≡ Some o) → IsSome x → IsSome y
there (Some o) y grows is = ap is_some (grows o refl)
there None y grows is = absurd (let no : ⊥ = cc in no)

-- ---- one item

-- calls that came of an ask
module _ (g : Graph) (old : SessionState) (item : Item) (text : Text) (given : Calls) (is : IsItem commands item (Ask text)) where
  run_ours : (n : Node) → answers.Asks g text n → HaveCome old.tools.answer given → AreGiven g old.held.sources (kept_outcome old.held.calls) n given → (call : Call) → IsIn call (calls_of given) → IsCallOfAsk g old item call
  run_ours n asks came are call i = record {
    text = text;
    is = is;
    node = n;
    asks = asks;
    given = given;
    came = came;
    are = are;
    from = λ outcomes agrees. given_are_calls g old.held.sources (kept_outcome old.held.calls) n given are outcomes agrees call i;
  }

  -- so it is of a flight
  flown_ours : (n : Node) → answers.Asks g text n → (limit : ℕ) (course : Course) (running : List Flying) (now : Spawned)
      → Flies g old.held.sources (kept_outcome old.held.calls) n limit old.tools course (record { running = running; given = given; tools = now }) → (call : Call) → IsIn call (calls_of given) → IsCallOfAsk g old item call
  flown_ours n asks limit course running now flown =
      let at : Flight = record { running = running; given = given; tools = now } in
      run_ours n asks (flown_came g old.held.sources (kept_outcome old.held.calls) n limit old.tools course at flown) (flown_given g old.held.sources (kept_outcome old.held.calls) n limit old.tools course at flown)

  reply_ours : (limit : ℕ) (said : Reply) (now : Spawned) → IsReply g old.held.sources old.held.calls limit text said given old.tools now → (call : Call) → IsIn call (calls_of given) → IsCallOfAsk g old item call
  reply_ours limit said now (inl answer) call i = elim answer.did [
    | inl alone ↦ absurd (subst (λ (l : Calls). IsIn call (calls_of l)) alone.none i)
    | inr d ↦ flown_ours d.node d.asks limit (course_of d.found) [] now d.run.flown call i
  ]
  reply_ours limit said now (inr refused) call i = let d = refused.drained in flown_ours d.node d.asks limit (off_course for_spawn) [] now d.run.flown call i

  begun_ours : (limit : ℕ) (now : Spawned) → MayHaveBegun g old.held.sources old.held.calls limit text given old.tools now → (call : Call) → IsIn call (calls_of given) → IsCallOfAsk g old item call
  begun_ours limit now (inl untouched) call i = absurd (subst (λ (l : Calls). IsIn call (calls_of l)) untouched.none i)
  begun_ours limit now (inr b) call i = flown_ours b.node b.asks limit b.flown.course b.flown.running now b.flown.flown call i

-- the first of them are among them
among : (call : Call) (given rest : Calls) → IsIn call (calls_of given) → IsIn call (calls_of (given ++ rest))
among call [] rest i = absurd i
among call (x ∷ given) rest (inl e) = inl e
among call (x ∷ given) rest (inr i) = inr (among call given rest i)

-- a call that is kept after an item was kept before it, or is one of its ask
abbrev Either : Graph → SessionState → Item → SessionState → Call → Type 0
Either g old item new call = IsSome (kept_outcome new.held.calls call) → IsSome (kept_outcome old.held.calls call) ⊎ IsCallOfAsk g old item call

module _ (g : Graph) (old new : SessionState) (item : Item) (call : Call) where
  same_calls : new.held.calls ≡ old.held.calls → Either g old item new call
  same_calls same kept = inl (subst (λ l. IsSome (kept_outcome l call)) same kept)

  same_state : new ≡ old → Either g old item new call
  same_state same = same_calls (ap (λ (s : SessionState). s.held.calls) same)

  more_calls : (given : Calls) (noted : List Fact) → Applies (changes_for given noted) old new → ((c : Call) → IsIn c (calls_of given) → IsCallOfAsk g old item c) → Either g old item new call
  more_calls given noted makes ours kept =
      elim (kept_by_either old.held.calls given call (subst (λ l. IsSome (kept_outcome l call)) (ap (λ (h : Held). h.calls) makes.held ∙ kept_calls given noted old.held) kept)) [
        | inl was ↦ inl was
        | inr i ↦ inr (ours call i)
      ]

  step_ours : (limit : ℕ) (c : Command) (bytes : List ℕ) → IsItem commands item c → Step g limit old c item.body bytes new → Either g old item new call
  step_ours limit (Put name count) bytes is step = same_calls (edits_keep name old new step.makes)
  step_ours limit (Take name) bytes is step = same_calls (edits_keep name old new step.makes)
  step_ours limit (Remove name) bytes is step = same_calls (edits_keep name old new step.makes)
  step_ours limit (Ask text) bytes is step =
      more_calls step.given step.noted step.makes
      (reply_ours g old item text step.given is limit step.says.said new.tools
      (reply_of g old.held.sources old.held.calls limit text step.says.said step.given old.tools new.tools step.says.holds.is tt))
  step_ours limit (Plan text) bytes is step = same_state step.same
  step_ours limit Sources bytes is step = same_state step.1
  step_ours limit Kept bytes is step = same_state step.1
  step_ours limit Quit bytes is step = same_state step.1
  step_ours limit Nothing bytes is step = same_state step.1
  step_ours limit Bad bytes is step = same_state step.1
  step_ours limit (BadName count) bytes is step = same_state step.1

  left_ours : (limit : ℕ) (c : Command) → IsItem commands item c → CommandMayLeave g limit old c item.body new → Either g old item new call
  left_ours limit (Put name count) is may = same_calls (edit_keeps _ old new (λ change due. puts_keep name item.body change due.1) may.0)
  left_ours limit (Take name) is may = same_calls (edit_keeps _ old new (λ change due. puts_keep name due.0 change due.3) may.0)
  left_ours limit (Remove name) is may = same_calls (edit_keeps _ old new (drops_keep name) may.0)
  left_ours limit (Ask text) is may =
      let begun = may.begun tt in
      more_calls may.given may.noted may.makes (λ c i. begun_ours g old item text (may.given ++ begun.rest) is limit new.tools begun.begun c (among c may.given begun.rest i))
  left_ours limit (Plan text) is may = same_state may
  left_ours limit Sources is may = same_state may
  left_ours limit Kept is may = same_state may
  left_ours limit Quit is may = same_state may
  left_ours limit Nothing is may = same_state may
  left_ours limit Bad is may = same_state may
  left_ours limit (BadName count) is may = same_state may

-- ---- all items

-- an ask after one more item
behind_one : (g : Graph) (limit : ℕ) (first mid : SessionState) (item : Item) (items : List Item) (bytes : List ℕ) → AnswersItem commands (Step g limit) first item bytes mid → (call : Call) → ComesOfAsk g limit mid items call → ComesOfAsk g limit first (item ∷ items) call
behind_one g limit first mid item items bytes a call c = record {
  front = item ∷ c.front;
  item = c.item;
  rest = c.rest;
  cuts = ap (λ l. item ∷ l) c.cuts;
  replies = bytes ∷ c.replies;
  old = c.old;
  run = (mid, a, c.run);
  is = c.is;
}

-- one of the first of the items, or of the one after them
at_front : (g : Graph) (limit : ℕ) (first : SessionState) (item : Item) (items : List Item) (call : Call) → IsCallOfAsk g first item call → ComesOfAsk g limit first (item ∷ items) call
at_front g limit first item items call is = record { front = []; item = item; rest = items; cuts = refl; replies = []; old = first; run = refl; is = is }

all_ours : (g : Graph) (limit : ℕ) (first last : SessionState) (items : List Item) (replies : List (List ℕ)) → Transcript commands (Step g limit) first items replies last → (call : Call) → IsSome (kept_outcome last.held.calls call) → IsOurs g limit first items call
all_ours g limit first last [] [] run call kept = inl (subst (λ (s : SessionState). IsSome (kept_outcome s.held.calls call)) run kept)
all_ours g limit first last [] (bytes ∷ replies) run call kept = absurd run
all_ours g limit first last (item ∷ items) [] run call kept = absurd run
all_ours g limit first last (item ∷ items) (bytes ∷ replies) run call kept = elim (all_ours g limit run.0 last items replies run.2 call kept) [
  | inl mid ↦ elim (step_ours g first run.0 item call limit run.1.command bytes run.1.item_is run.1.step mid) [
    | inl was ↦ inl was
    | inr is ↦ inr (at_front g limit first item items call is)
  ]
  | inr c ↦ inr (behind_one g limit first run.0 item items bytes run.1 call c)
]

longer : (g : Graph) (limit : ℕ) (first : SessionState) (items : List Item) (item : Item) (call : Call) → ComesOfAsk g limit first items call → ComesOfAsk g limit first (items ++ item ∷ []) call
longer g limit first items item call c = record {
  front = c.front;
  item = c.item;
  rest = c.rest ++ item ∷ [];
  cuts = ap (λ l. l ++ item ∷ []) c.cuts ∙ append_assoc c.front (c.item ∷ c.rest) (item ∷ []);
  replies = c.replies;
  old = c.old;
  run = c.run;
  is = c.is;
}

come_ours : (g : Graph) (limit : ℕ) (first : SessionState) (items : List Item) (furthest : SessionState) → SessionComesTo g limit first items furthest → (call : Call) → IsSome (kept_outcome furthest.held.calls call) → IsOurs g limit first items call
come_ours g limit first items furthest (SessionComesTo.answered _ replies _ run) call kept = all_ours g limit first furthest items replies run call kept
come_ours g limit first _ furthest (SessionComesTo.begun items replies state item command _ run is may) call kept = elim (left_ours g state furthest item call limit command is may kept) [
  | inl was ↦ elim (all_ours g limit first state items replies run call was) [
    | inl first_kept ↦ inl first_kept
    | inr c ↦ inr (longer g limit first items item call c)
  ]
  | inr ask ↦ inr (record { front = items; item = item; rest = []; cuts = refl; replies = replies; old = state; run = run; is = ask })
]

come_made : (g : Graph) (limit : ℕ) (first : SessionState) (items : List Item) (furthest : SessionState) → SessionComesTo g limit first items furthest → IsTrulyMade g first furthest
come_made g limit first items furthest (SessionComesTo.answered _ replies _ run) = is_made g limit first furthest items replies run
come_made g limit first _ furthest (SessionComesTo.begun items replies state item command _ run is may) = made_on g first state furthest (is_made g limit first state items replies run) (left_made g limit state furthest command item.body may)

come_true : (g : Graph) (limit : ℕ) (table : Table) (first : SessionState) (items : List Item) (furthest : SessionState) → IsTrueFor table first.tools first.held.calls → SessionComesTo g limit first items furthest → IsTrueFor table furthest.tools furthest.held.calls
come_true g limit table first items furthest right (SessionComesTo.answered _ replies _ run) = stays_true g limit table first furthest items replies right run
come_true g limit table first _ furthest right (SessionComesTo.begun items replies state item command _ run is may) =
    left_true g limit table state furthest command item.body (stays_true g limit table first state items replies right run) may

-- ---- by a table

module _ (g : Graph) (limit : ℕ) (table : Table) (first : SessionState) (items : List Item) (right : IsTrueFor table first.tools first.held.calls) (call : Call) where
  -- what is kept then, and what came, is what the table gives
  agrees_by : (c : ComesOfAsk g limit first items call) → Agrees c.old.held.calls c.is.given (table_outcomes table)
  agrees_by c =
      let there = stays_true g limit table first c.old c.front c.replies right c.run in
      given_are_true table (kept_outcome c.old.held.calls) c.is.given there.gives (subst (λ (a : Option Table). HaveCome a c.is.given) there.told c.is.came)

  by_table : IsOurs g limit first items call → IsSome (kept_outcome first.held.calls call) ⊎ ComesByTable g limit first items table call
  by_table (inl was) = inl was
  by_table (inr c) = inr (record { ask = c; from = c.is.from (table_outcomes table) (agrees_by c) })

-- ---- images

module _ (g : Graph) (limit : ℕ) (first : SessionState) (items : List Item) (furthest : SessionState) (none : first.changes ≡ []) (comes : SessionComesTo g limit first items furthest) where
  made_is : IsTrulyMade g first furthest
  made_is = come_made g limit first items furthest comes

  changes_are : furthest.changes ≡ made_is.changes.made
  changes_are = made_is.changes.list ∙ ap (λ l. l ++ made_is.changes.made) none

  held_is : furthest.held ≡ after_changes store_keeping furthest.changes first.held
  held_is = made_is.changes.held ∙ ap (λ l. after_changes store_keeping l first.held) (sym changes_are)

  -- what the first changes keep is kept in the furthest state
  kept_furthest : (k : ℕ) (call : Call) (o : Outcome) → kept_outcome (after_changes store_keeping (take k furthest.changes) first.held).calls call ≡ Some o → kept_outcome furthest.held.calls call ≡ Some o
  kept_furthest k call o e = ap (λ (h : Held). kept_outcome h.calls call) held_is ∙ first_grows k furthest.changes first.held call o e

  kept_ours : (k : ℕ) (call : Call) → IsSome (kept_outcome (after_changes store_keeping (take k furthest.changes) first.held).calls call) → IsOurs g limit first items call
  kept_ours k call kept =
      come_ours g limit first items furthest comes call
      (there (kept_outcome (after_changes store_keeping (take k furthest.changes) first.held).calls call) (kept_outcome furthest.held.calls call) (kept_furthest k call) kept)

  -- what the first changes note is true
  records_first : (k : ℕ) → RecordsAreTrue g first.held → RecordsAreTrue g (after_changes store_keeping (take k furthest.changes) first.held)
  records_first k are =
      let truly : NoteTruly g first.held furthest.changes = subst (NoteTruly g first.held) (sym changes_are) made_is.truly in
      records_after g (take k furthest.changes) first.held are (first_truly g k furthest.changes first.held truly)

  holds_ours : (least : ℕ) (image : List ℕ) → IsPrefix store_keeping first.held least furthest.changes image → HoldsOurs g limit first items furthest least image
  holds_ours least image some = record {
    held = after_changes store_keeping (take some.k furthest.changes) first.held;
    stands = some.stands;
    count = some.k;
    at_least = some.at_least;
    is = refl;
    calls = kept_ours some.k;
    table_calls = λ table right call kept. by_table g limit table first items right call (kept_ours some.k call kept);
    right = λ table right call o e. (let kept_true = come_true g limit table first items furthest right comes in kept_true.gives call o (kept_furthest some.k call o e));
    records = records_first some.k;
  }

pub images_hold_ours : {D : Type 0} (disk : DiskView D) (g : Graph) (limit : ℕ) (text : Text) (first : SessionState) (items : List Item) (start : Told D) (acknowledged furthest : SessionState) (now : Told D)
    → first.changes ≡ [] → IsQuiet (disk.told start.disk) → SessionComesTo g limit first items furthest → StateAtExit disk g text limit first start acknowledged furthest now → LeavesOurs disk g limit first items start acknowledged furthest now
images_hold_ours disk g limit text first items start acknowledged furthest now none quiet comes left =
    let safe = left.safe.crash quiet in
    record {
      since = λ image was. holds_ours g limit first items furthest none comes 0 image (safe.crash.each image was);
      left = λ image may. holds_ours g limit first items furthest none comes (length acknowledged.changes) image (safe.durable image may);
    }
