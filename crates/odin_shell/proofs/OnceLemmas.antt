-- Over a session no call comes to an outcome twice, and an acknowledged answer survives a crash.
use Rattle.std.proofs.Common.{◌≡◌, ◌≤◌, ◌+◌, ◌-◌, ℕ, Bool, true, false, cond, List, [], ◌∷◌, ◌++◌, map, length, take, append-nil, append_assoc, arith, ap, sym, refl, ◌∙◌, subst, inl, inr}
use Rattle.std.specs.Prelude.{Some, None}
use Rattle.std.proofs.lemmas.List.{length-append, map-append}
use Rattle.std.proofs.Math.Seq.{take-append-add}
use Rattle.object_values.specs.declared.calls.Call.{Call}
use Rattle.object_values.specs.declared.calls.Outcome.{Outcome}
use Rattle.object_values.specs.declared.jobs.Job.{Job}
use Rattle.object_values.specs.contracts.calls.CallPartialEq.TheImpl.{ghosts as call_eq}
use Rattle.object_values.specs.Exact.{call_exact}
use Rattle.odin_outside.specs.Disk.{MayLeave as MayBeLeft, IsQuiet}
use Rattle.odin_outside.specs.Spawned.{Spawned}
use Rattle.odin_journal.specs.Trails.{after_changes, IsPrefix}
use Rattle.meaning_texts.specs.Lists.{IsIn}
use Rattle.meaning_texts.proofs.Lemmas.{in_either, in_map}
use Rattle.meaning_calls.specs.Jobs.{job_of}
use Rattle.meaning_graph.specs.Graphs.{Text, Graph}
use Rattle.meaning_derive.specs.Derive.{Sources}
use Rattle.meaning_records.specs.Tables.{Calls, kept_outcome}
use Rattle.meaning_commands.specs.Items.{Item}
use Rattle.meaning_commands.specs.Machines.{Transcript}
use Rattle.odin_bytes.specs.declared.commands.Command.{Command}
use Rattle.odin_bytes.specs.declared.commands.Command.TheVariants.{Put, Take, Remove, Ask, Plan, Sources as ListSources, Kept, Quit, Nothing, Bad, BadName}
use Rattle.object_values.specs.declared.replies.Reply.{Reply}
use Rattle.derive_walk.specs.Calls.{AreOnce}
use Rattle.derive_walk.specs.Outcomes.{after}
use Rattle.plain_derive.specs.Given.{calls_of}
use Rattle.plain_derive.specs.GivenLaws.{AreNew}
use Rattle.plain_derive.specs.Flights.{at_rest, off_course, for_spawn}
use Rattle.plain_derive.specs.Followed.{LogLeadsTo}
use Rattle.plain_derive.proofs.Lemmas.{flown_given, given_are_new, given_or_kept, given_is_in, log_stays, log_both, flights_are_logged}
use Rattle.odin_store.specs.Held.{Held, Change, StandsFor}
use Rattle.odin_store.specs.Keeping.{store_keeping}
use Rattle.kept_derive.specs.Runs.{changes_for, course_of}
use Rattle.odin_answers.specs.Answers.{Agrees, HasAnswer, HasFact, IsReply}
use Rattle.odin_answers.specs.Laws.{AskedAgain}
use Rattle.odin_answers.proofs.Lemmas.{reply_of, kept_first}
use Rattle.odin_outside.specs.declared.disk.Disk.{Ghosts as DiskView}
use Rattle.odin_shell.specs.Language.{commands}
use Rattle.odin_shell.specs.Machine.{SessionState, Told, Step, StateAtExit}
use Rattle.odin_shell.specs.Laws.{ChangesAreMade}
use Rattle.odin_shell.specs.Once.{CameOnce, IsAcknowledged, IsAskedFor, GoesBeyond, StaysAnswered, StaysRecorded}
use Rattle.odin_shell.proofs.MadeLemmas.{kept_calls, edits_keep, step_made, is_made, left_made, changes_on}
use Rattle.odin_shell.proofs.RecordLemmas.{after_both, fact_stays}
use Rattle.odin_shell.proofs.CrashLemmas.{grows}

-- ---- calls after others

-- what is not kept after others is not kept among them, nor was it given
none_first : (kept given : Calls) (call : Call) → kept_outcome (kept ++ given) call ≡ None → kept_outcome kept call ≡ None
none_first [] given call none = refl
none_first (x ∷ kept) given call none = by_test (call_eq.eq call x.0) none (none_first kept given call)
  where
    by_test : (b : Bool) → cond b (Some x.1) (kept_outcome (kept ++ given) call) ≡ None → (kept_outcome (kept ++ given) call ≡ None → kept_outcome kept call ≡ None) → cond b (Some x.1) (kept_outcome kept call) ≡ None
    by_test true none more = none
    by_test false none more = more none

-- after others that don't keep it a call has the outcome that it was given
behind_none : (kept given : Calls) (call : Call) → kept_outcome kept call ≡ None → kept_outcome (kept ++ given) call ≡ kept_outcome given call
behind_none [] given call none = refl
behind_none (x ∷ kept) given call none = by_test (call_eq.eq call x.0) none (behind_none kept given call)
  where
    by_test : (b : Bool) → cond b (Some x.1) (kept_outcome kept call) ≡ None → (kept_outcome kept call ≡ None → kept_outcome (kept ++ given) call ≡ kept_outcome given call) → cond b (Some x.1) (kept_outcome (kept ++ given) call) ≡ kept_outcome given call
    by_test true none more = absurd (let no : ⊥ = cc in no)
    by_test false none more = more none

-- a call that was given an outcome has one
pub given_there : (given : Calls) (call : Call) → IsIn call (calls_of given) → kept_outcome given call ≡ None → ⊥
given_there [] call i none = i
given_there (x ∷ given) call i none = by_test (call_eq.eq call x.0) refl none (given_there given call)
  where
    by_test : (b : Bool) → call_eq.eq call x.0 ≡ b → cond b (Some x.1) (kept_outcome given call) ≡ None → (IsIn call (calls_of given) → kept_outcome given call ≡ None → ⊥) → ⊥
    by_test true same none more = let no : ⊥ = cc in no
    by_test false other none more = elim i [
      | inl e ↦ let yes : call_eq.eq call x.0 ≡ true = (call_exact call x.0).1 e in let no : ⊥ = cc in no
      | inr j ↦ more j none
    ]

once_both : (xs ys : List Call) → AreOnce xs → AreOnce ys → ((c : Call) → IsIn c ys → IsIn c xs → ⊥) → AreOnce (xs ++ ys)
once_both [] ys one other apart = other
once_both (x ∷ xs) ys one other apart = (
  (λ i. elim (in_either x xs ys i) [
    | inl here ↦ one.0 here
    | inr there ↦ apart x there (inl refl)
  ]),
  once_both xs ys one.1 other (λ c i j. apart c i (inr j)),
)

new_both : (kept given rest : Calls) → AreNew (kept_outcome kept) given → AreNew (kept_outcome (kept ++ given)) rest → AreNew (kept_outcome kept) (given ++ rest)
new_both kept given rest first next =
    let both : calls_of (given ++ rest) ≡ calls_of given ++ calls_of rest = map-append (λ (x : Call × Outcome). x.0) given rest in
    let apart : (c : Call) → IsIn c (calls_of rest) → IsIn c (calls_of given) → ⊥ =
    λ c i j. given_there given c j (sym (behind_none kept given c (first.none c j)) ∙ next.none c i) in
    record {
      once = subst AreOnce (sym both) (once_both (calls_of given) (calls_of rest) first.once next.once apart);
      none = λ c i. elim (in_either c (calls_of given) (calls_of rest) (subst (IsIn c) both i)) [
        | inl was ↦ first.none c was
        | inr came ↦ none_first kept given c (next.none c came)
      ];
    }

none_new : (kept given : Calls) → given ≡ [] → AreNew (kept_outcome kept) given
none_new kept given none = subst (AreNew (kept_outcome kept)) (sym none) (record { once = tt; none = λ c i. absurd i })

-- ---- what came of an ask

module _ (g : Graph) (s : Sources) (kept : Calls) (limit : ℕ) (text : Text) (said : Reply) (given : Calls) (before now : Spawned) where
  answer_new : HasAnswer g s kept limit text said given before now → AreNew (kept_outcome kept) given
  answer_new answer = elim answer.did [
    | inl alone ↦ none_new kept given alone.none
    | inr d ↦ given_are_new g s (kept_outcome kept) d.node given (flown_given g s (kept_outcome kept) d.node limit before (course_of d.found) (at_rest given now) d.run.flown)
  ]

  reply_new : IsReply g s kept limit text said given before now → AreNew (kept_outcome kept) given
  reply_new (inl answer) = answer_new answer
  reply_new (inr refused) =
      let d = refused.drained in
      given_are_new g s (kept_outcome kept) d.node given (flown_given g s (kept_outcome kept) d.node limit before (off_course for_spawn) (at_rest given now) d.run.flown)

  -- the tools' log has the ends of just these calls
  answer_logged : HasAnswer g s kept limit text said given before now → LogLeadsTo before.log now.log [] (map job_of (calls_of given))
  answer_logged answer = elim answer.did [
    | inl alone ↦ subst (λ (z : Calls × Spawned). LogLeadsTo before.log z.1.log [] (map job_of (calls_of z.0))) (λ i. (sym alone.none i, sym alone.told i)) (log_stays before.log)
    | inr d ↦ flights_are_logged g s (kept_outcome kept) d.node limit before (course_of d.found) (at_rest given now) d.run.flown
  ]

  reply_logged : IsReply g s kept limit text said given before now → LogLeadsTo before.log now.log [] (map job_of (calls_of given))
  reply_logged (inl answer) = answer_logged answer
  reply_logged (inr refused) =
      let d = refused.drained in
      flights_are_logged g s (kept_outcome kept) d.node limit before (off_course for_spawn) (at_rest given now) d.run.flown

  -- What is kept after an answer agrees with all that was known at it.
  answer_agrees : HasAnswer g s kept limit text said given before now → Agrees kept given (kept_outcome (kept ++ given))
  answer_agrees answer call o e = elim (given_or_kept (kept_outcome kept) given call o e) [
    | inl came ↦
        let new = answer_new answer in
        let i : IsIn call (calls_of given) = in_map (λ (x : Call × Outcome). x.0) (call, o) given (given_is_in given call o came) in
        behind_none kept given call (new.none call i) ∙ came
    | inr was ↦ kept_first kept given call o was
  ]

-- ---- over a session

none_came : (old new : SessionState) → new.held.calls ≡ old.held.calls → new.tools ≡ old.tools → CameOnce old new
none_came old new same tools = record {
  came = [];
  kept = same ∙ sym (append-nil old.held.calls);
  new = none_new old.held.calls [] refl;
  log = subst (λ (t : Spawned). LogLeadsTo old.tools.log t.log [] []) (sym tools) (log_stays old.tools.log);
}

-- the same, of a state that is the same
none_done : (old new : SessionState) → new ≡ old → CameOnce old new
none_done old new same = none_came old new (ap (λ (s : SessionState). s.held.calls) same) (ap (λ (s : SessionState). s.tools) same)

jobs_both : (calls more : Calls) → ◌≡◌ {A = List Job} (map job_of (calls_of (calls ++ more))) (map job_of (calls_of calls) ++ map job_of (calls_of more))
jobs_both [] more = refl
jobs_both (x ∷ calls) more = ap (λ (l : List Job). job_of x.0 ∷ l) (jobs_both calls more)

came_both : (first mid last : SessionState) → CameOnce first mid → CameOnce mid last → CameOnce first last
came_both first mid last a b = record {
  came = a.came ++ b.came;
  kept = b.kept ∙ ap (λ l. l ++ b.came) a.kept ∙ append_assoc first.held.calls a.came b.came;
  new = new_both first.held.calls a.came b.came a.new (subst (λ l. AreNew (kept_outcome l) b.came) a.kept b.new);
  log = subst (λ (l : List Job). LogLeadsTo first.tools.log last.tools.log [] l) (sym (jobs_both a.came b.came))
      (log_both first.tools.log mid.tools.log last.tools.log (map job_of (calls_of a.came)) (map job_of (calls_of b.came)) a.log b.log);
}

step_once : (g : Graph) (limit : ℕ) (old : SessionState) (c : Command) (body bytes : List ℕ) (new : SessionState) → Step g limit old c body bytes new → CameOnce old new
step_once g limit old (Put name count) body bytes new step = none_came old new (edits_keep name old new step.makes) step.tools
step_once g limit old (Take name) body bytes new step = none_came old new (edits_keep name old new step.makes) step.tools
step_once g limit old (Remove name) body bytes new step = none_came old new (edits_keep name old new step.makes) step.tools
step_once g limit old (Ask text) body bytes new step =
    let holds = reply_of g old.held.sources old.held.calls limit text step.says.said step.given old.tools new.tools step.says.holds.is tt in
    record {
      came = step.given;
      kept = ap (λ (h : Held). h.calls) step.makes.held ∙ kept_calls step.given step.noted old.held;
      new = reply_new g old.held.sources old.held.calls limit text step.says.said step.given old.tools new.tools holds;
      log = reply_logged g old.held.sources old.held.calls limit text step.says.said step.given old.tools new.tools holds;
    }
step_once g limit old (Plan text) body bytes new step = none_done old new step.same
step_once g limit old ListSources body bytes new step = none_done old new step.1
step_once g limit old Kept body bytes new step = none_done old new step.1
step_once g limit old Quit body bytes new step = none_done old new step.1
step_once g limit old Nothing body bytes new step = none_done old new step.1
step_once g limit old Bad body bytes new step = none_done old new step.1
step_once g limit old (BadName count) body bytes new step = none_done old new step.1

pub came_once : (g : Graph) (limit : ℕ) (first last : SessionState) (items : List Item) (replies : List (List ℕ)) → Transcript commands (Step g limit) first items replies last → CameOnce first last
came_once g limit first last [] [] run = none_done first last run
came_once g limit first last [] (bytes ∷ replies) run = absurd run
came_once g limit first last (item ∷ items) [] run = absurd run
came_once g limit first last (item ∷ items) (bytes ∷ replies) run =
    came_both first run.0 last (step_once g limit first run.1.command item.body bytes run.0 run.1.step) (came_once g limit run.0 last items replies run.2)

-- ---- after a crash

beyond_made : (g : Graph) (limit : ℕ) (acknowledged furthest : SessionState) → GoesBeyond g limit acknowledged furthest → ChangesAreMade acknowledged furthest
beyond_made g limit acknowledged furthest (GoesBeyond.no_more same) =
    record { made = []; list = ap (λ (s : SessionState). s.changes) same ∙ sym (append-nil acknowledged.changes); held = ap (λ (s : SessionState). s.held) same }
beyond_made g limit acknowledged furthest (GoesBeyond.unreplied item command is may) = (left_made g limit acknowledged furthest command item.body may).changes
beyond_made g limit acknowledged furthest (GoesBeyond.cut_off item reply a) = (step_made g limit acknowledged a.command item.body reply furthest a.step).changes

-- the first changes of all, where they are at least those that made what is held at a moment
first_changes : (made more : List Change) (k : ℕ) → length made ≤ k → take k (made ++ more) ≡ made ++ take (k - length made) more
first_changes made more k least = ap (λ n. take n (made ++ more)) (let e : k ≡ length made + (k - length made) = omega (arith, least) in e) ∙ take-append-add made more (k - length made)

-- what the image stands for is what was held at a moment, with some more changes
record HoldsMore (mid : Held) (image : List ℕ) : Type 0 where
  held : Held
  stands : StandsFor held image
  more : List Change
  is : held ≡ after_changes store_keeping more mid

-- a moment before the last acknowledged command
module _ (g : Graph) (limit : ℕ) (first mid acknowledged furthest : SessionState) (none : first.changes ≡ []) (before_it : ChangesAreMade first mid) (to_acknowledged : ChangesAreMade mid acknowledged) (beyond : GoesBeyond g limit acknowledged furthest) where
  after_it : ChangesAreMade mid furthest
  after_it = changes_on mid acknowledged furthest to_acknowledged (beyond_made g limit acknowledged furthest beyond)

  mid_changes : mid.changes ≡ before_it.made
  mid_changes = before_it.list ∙ ap (λ l. l ++ before_it.made) none

  furthest_changes : furthest.changes ≡ before_it.made ++ after_it.made
  furthest_changes = after_it.list ∙ ap (λ l. l ++ after_it.made) mid_changes

  -- all of the first are acknowledged
  long_enough : length before_it.made ≤ length acknowledged.changes
  long_enough =
      let e : length acknowledged.changes ≡ length mid.changes + length to_acknowledged.made = ap length to_acknowledged.list ∙ length-append mid.changes to_acknowledged.made in
      let f : length mid.changes ≡ length before_it.made = ap length mid_changes in
      omega (arith, e, f)

  holds_more : (image : List ℕ) → IsPrefix store_keeping first.held (length acknowledged.changes) furthest.changes image → HoldsMore mid.held image
  holds_more image some =
      let k = some.k in
      let rest : List Change = take (k - length before_it.made) after_it.made in
      let least = some.at_least in
      let enough : length before_it.made ≤ k = (let long = long_enough in omega (arith, long, least)) in
      record {
        held = after_changes store_keeping (take k furthest.changes) first.held;
        stands = some.stands;
        more = rest;
        is = ap (λ l. after_changes store_keeping (take k l) first.held) furthest_changes
            ∙ ap (λ l. after_changes store_keeping l first.held) (first_changes before_it.made after_it.made k enough)
            ∙ after_both before_it.made rest first.held
            ∙ ap (after_changes store_keeping rest) (sym before_it.held);
      }

module _ (again : AskedAgain) (g : Graph) (limit : ℕ) (text : Text) (reply : Reply) (first acknowledged : SessionState) (a : IsAcknowledged g limit text reply first acknowledged) where
  mid_calls : a.mid.held.calls ≡ a.old.held.calls ++ a.given
  mid_calls = ap (λ (h : Held). h.calls) a.makes.held ∙ kept_calls a.given a.noted a.old.held

  agrees : (image : List ℕ) → (h : HoldsMore a.mid.held image) → Agrees a.old.held.calls a.given (kept_outcome h.held.calls)
  agrees image h call o e =
      ap (λ (x : Held). kept_outcome x.calls call) h.is
      ∙ grows h.more a.mid.held call o
      (ap (λ l. kept_outcome l call) mid_calls ∙ answer_agrees g a.old.held.sources a.old.held.calls limit text reply a.given a.old.tools a.mid.tools a.answer call o e)

  stays_answered : (image : List ℕ) → HoldsMore a.mid.held image → StaysAnswered g text a.old.held.sources image
  stays_answered image h = record {
    held = h.held;
    stands = h.stands;
    again = λ most other given before now is. again g a.old.held.sources a.old.held.calls h.held.calls limit most text reply other a.given given a.old.tools a.mid.tools before now
        a.answer (agrees image h) is;
  }

pub survives : AskedAgain → {D : Type 0} (disk : DiskView D) (g : Graph) (graph_text : Text) (limit : ℕ) (first : SessionState) (start : Told D) (acknowledged furthest : SessionState) (now : Told D)
    → first.changes ≡ [] → IsQuiet (disk.told start.disk) → GoesBeyond g limit acknowledged furthest → StateAtExit disk g graph_text limit first start acknowledged furthest now
    → (text : Text) (reply : Reply) → (a : IsAcknowledged g limit text reply first acknowledged) → (image : List ℕ) → MayBeLeft (disk.told now.disk) image → StaysAnswered g text a.old.held.sources image
survives again disk g graph_text limit first start acknowledged furthest now none quiet beyond left text reply a image may =
    let safe = left.safe.crash quiet in
    let before : ChangesAreMade first a.mid = changes_on first a.old a.mid (is_made g limit first a.old a.front a.replies a.begins).changes (record { made = changes_for a.given a.noted; list = a.makes.list; held = a.makes.held }) in
    let goes : ChangesAreMade a.mid acknowledged = (is_made g limit a.mid acknowledged a.back a.others a.goes).changes in
    stays_answered again g limit text reply first acknowledged a image (holds_more g limit first a.mid acknowledged furthest none before goes beyond image (safe.durable image may))

-- a record that was there then is there
pub records_there : {D : Type 0} (disk : DiskView D) (g : Graph) (graph_text : Text) (limit : ℕ) (first : SessionState) (start : Told D) (acknowledged furthest : SessionState) (now : Told D)
    → first.changes ≡ [] → IsQuiet (disk.told start.disk) → GoesBeyond g limit acknowledged furthest → StateAtExit disk g graph_text limit first start acknowledged furthest now
    → (text : Text) → (a : IsAskedFor g limit text first acknowledged) → (image : List ℕ) → MayBeLeft (disk.told now.disk) image
    → StaysRecorded g text a.old.held.sources (after (kept_outcome a.old.held.calls) a.asks.given) a.asks.says.said image
records_there disk g graph_text limit first start acknowledged furthest now none quiet beyond left text a image may =
    let safe = left.safe.crash quiet in
    let before : ChangesAreMade first a.mid =
    changes_on first a.old a.mid (is_made g limit first a.old a.front a.replies a.begins).changes (record { made = changes_for a.asks.given a.asks.noted; list = a.asks.makes.list; held = a.asks.makes.held }) in
    let goes : ChangesAreMade a.mid acknowledged = (is_made g limit a.mid acknowledged a.back a.others a.goes).changes in
    let h = holds_more g limit first a.mid acknowledged furthest none before goes beyond image (safe.durable image may) in
    record {
      held = h.held;
      stands = h.stands;
      recorded = λ n view asks derives shows stepped.
          subst (λ (x : Held). HasFact n x.records) (sym h.is) (fact_stays n h.more a.mid.held (a.asks.says.holds.recorded tt n view asks derives shows stepped));
    }
