-- The replies of a session are those of the machine with nothing kept.
use Rattle.std.proofs.Common.{◌≡◌, ◌⊎◌, ℕ, Bool, true, false, cond, List, [], ◌∷◌, ◌++◌, append-nil, ap, sym, refl, ◌∙◌, subst, inl, inr, is_some}
use Rattle.std.specs.Prelude.{⊤, Some, IsSome}
use Rattle.std.proofs.lemmas.List.{length-map, map-append}
use Rattle.object_values.specs.declared.nodes.Node.{Node}
use Rattle.object_values.specs.declared.views.View.{View}
use Rattle.object_values.specs.declared.calls.Call.{Call}
use Rattle.object_values.specs.declared.calls.Outcome.{Outcome}
use Rattle.object_values.specs.contracts.calls.CallPartialEq.TheImpl.{ghosts as call_eq}
use Rattle.object_values.specs.Exact.{call_exact}
use Rattle.object_values.specs.Texts.{Texts}
use Rattle.odin_outside.specs.Spawned.{Table}
use Rattle.meaning_texts.specs.Lists.{IsIn}
use Rattle.meaning_texts.proofs.Lemmas.{in_left, in_right}
use Rattle.meaning_graph.specs.Graphs.{Text, Graph}
use Rattle.meaning_derive.specs.Derive.{derived}
use Rattle.meaning_derive.specs.Given.{table_outcomes}
use Rattle.meaning_records.specs.Tables.{Calls, kept_outcome}
use Rattle.meaning_commands.specs.Items.{Item}
use Rattle.meaning_commands.specs.Machines.{Transcript}
use Rattle.odin_bytes.specs.declared.commands.Command.{Command}
use Rattle.odin_bytes.specs.declared.commands.Command.TheVariants.{Put, Take, Remove, Ask, Plan, Sources, Kept, Quit, Nothing, Bad, BadName}
use Rattle.object_values.specs.declared.replies.Reply.{Reply}
use Rattle.object_values.specs.declared.replies.Reply.TheVariants as reply
use Rattle.meaning_commands.specs.Replies.{reply_text}
use Rattle.meaning_derive.specs.Answers.{Answer}
use Rattle.meaning_derive.proofs.Lemmas.{not_refused, one_node}
use Rattle.plain_derive.specs.Given.{calls_of, HaveCome}
use Rattle.plain_derive.specs.Flights.{Course, AreRun, at_rest, off_course, for_spawn}
use Rattle.plain_derive.proofs.Lemmas.{given_are_calls, given_are_new, given_are_true, flown_given, flown_came}
use Rattle.odin_store.specs.Held.{Held}
use Rattle.kept_derive.specs.Runs.{course_of}
use Rattle.odin_answers.specs.Answers.{Agrees, AreAll, IsLeftAlone, IsDerived, IsReply}
use Rattle.odin_answers.specs.Laws.{IsTrueFor}
use Rattle.odin_answers.proofs.Lemmas.{reply_of}
use Rattle.odin_answers.specs.Edits.{SaysReply}
use Rattle.odin_shell.specs.Language.{commands}
use Rattle.odin_shell.specs.Machine.{SessionState, Step, AsksForObject}
use Rattle.odin_shell.specs.Fresh.{fresh_of, GrowsBySome, GrowsByAll, FreshAnswer, FreshStep}
use Rattle.odin_shell.proofs.MadeLemmas.{kept_calls, kept_sources, edits_keep, step_true}
use Rattle.odin_shell.proofs.OnceLemmas.{given_there}

-- a call that has an outcome is one of those that are kept
kept_in : (kept : Calls) (call : Call) → IsSome (kept_outcome kept call) → IsIn call (calls_of kept)
kept_in [] call there = absurd (let no : ⊥ = cc in no)
kept_in (x ∷ kept) call there = by_test (call_eq.eq call x.0) refl (kept_in kept call) there
  where
    by_test : (b : Bool) → call_eq.eq call x.0 ≡ b → (IsSome (kept_outcome kept call) → IsIn call (calls_of kept)) → IsSome (cond b (Some x.1) (kept_outcome kept call)) → IsIn call (calls_of (x ∷ kept))
    by_test true same more there = inl ((call_exact call x.0).0 same)
    by_test false other more there = inr (more there)

-- ---- an ask

module _ (g : Graph) (table : Table) (limit : ℕ) (text : Text) (old new : SessionState) (bytes : List ℕ) (right : IsTrueFor table old.tools old.held.calls) (asks : AsksForObject ⊤ g limit text old bytes new) where
  abbrev s : Texts
  s = old.held.sources

  abbrev kept : Calls
  kept = old.held.calls

  abbrev given : Calls
  given = asks.given

  calls_are : calls_of new.held.calls ≡ calls_of kept ++ calls_of given
  calls_are = ap (λ (h : Held). calls_of h.calls) asks.makes.held ∙ ap calls_of (kept_calls given asks.noted old.held) ∙ map-append (λ (x : Call × Outcome). x.0) kept given

  sources_are : new.held.sources ≡ s
  sources_are = ap (λ (h : Held). h.sources) asks.makes.held ∙ kept_sources given asks.noted old.held

  -- where nothing came, nothing changes
  none_changes : given ≡ [] → fresh_of new ≡ fresh_of old
  none_changes none =
      let calls : calls_of new.held.calls ≡ calls_of kept = calls_are ∙ ap (λ (l : Calls). calls_of kept ++ calls_of l) none ∙ append-nil (calls_of kept) in
      λ i. record { sources = sources_are i; calls = calls i; tree = asks.tree i }

  -- what came agrees with the table
  came_agrees : HaveCome old.tools.answer given → Agrees kept given (table_outcomes table)
  came_agrees came = given_are_true table (kept_outcome kept) given right.gives (subst (λ a. HaveCome a given) right.told came)

  none_agrees : given ≡ [] → Agrees kept given (table_outcomes table)
  none_agrees none = came_agrees (subst (HaveCome old.tools.answer) (sym none) (λ call o i. absurd i))

  run_agrees : (n : Node) (course : Course) → AreRun g s (kept_outcome kept) n limit course given old.tools new.tools → Agrees kept given (table_outcomes table)
  run_agrees n course run = came_agrees (flown_came g s (kept_outcome kept) n limit old.tools course (at_rest given new.tools) run.flown)

  -- the calls that came are those of the node, and weren't kept
  grows : (n : Node) (course : Course) → AreRun g s (kept_outcome kept) n limit course given old.tools new.tools → GrowsBySome g table (fresh_of old) (fresh_of new) n
  grows n course run =
      let are = flown_given g s (kept_outcome kept) n limit old.tools course (at_rest given new.tools) run.flown in
      let unkept = given_are_new g s (kept_outcome kept) n given are in
      record {
        came = calls_of given;
        kept = calls_are;
        once = unkept.once;
        unkept = λ call i j. given_there kept call j (unkept.none call i);
        only = λ call i. given_are_calls g s (kept_outcome kept) n given are (table_outcomes table) (run_agrees n course run) call i;
        sources = sources_are;
        tree = asks.tree;
      }

  grows_found : (n : Node) → (d : IsDerived g s kept limit text given old.tools new.tools) → d.node ≡ n → GrowsBySome g table (fresh_of old) (fresh_of new) n
  grows_found n d same = subst (GrowsBySome g table (fresh_of old) (fresh_of new)) same (grows d.node (course_of d.found) d.run)

  -- and all of them where it has a view
  grows_all : (n : Node) (view : View) → derived g s (table_outcomes table) n ≡ Some view → (d : IsDerived g s kept limit text given old.tools new.tools) → d.node ≡ n → GrowsByAll g table (fresh_of old) (fresh_of new) n
  grows_all n view is d same =
      let all : AreAll g s kept n given = subst (λ m. AreAll g s kept m given) same d.all in
      record {
        some = grows_found n d same;
        all = λ call from. subst (IsIn call) (sym calls_are) (elim (all (table_outcomes table) (run_agrees d.node (course_of d.found) d.run) (ap is_some is) call from) [
          | inl was ↦ in_left call (calls_of kept) (calls_of given) (kept_in kept call was)
          | inr came ↦ in_right call (calls_of kept) (calls_of given) came
        ]);
      }

  by_answer : (said : Reply) → Answer g s (table_outcomes table) text said → IsLeftAlone g text said given old.tools new.tools ⊎ IsDerived g s kept limit text given old.tools new.tools
      → FreshAnswer g table (fresh_of old) (fresh_of new) text said
  by_answer said (Answer.refused _ _ refused) (inl alone) = FreshAnswer.refused said refused (none_changes alone.none)
  by_answer said (Answer.refused _ _ refused) (inr d) = absurd (not_refused g text said d.node d.asks refused)
  by_answer said (Answer.object _ n view asked is) (inl alone) = absurd (not_refused g text said n asked alone.refused)
  by_answer said (Answer.object _ n view asked is) (inr d) = FreshAnswer.object n view asked is (grows_all n view is d (one_node g text n d.node asked d.asks))
  by_answer said (Answer.circular _ n chain asked is) (inl alone) = absurd (not_refused g text said n asked alone.refused)
  by_answer said (Answer.circular _ n chain asked is) (inr d) = FreshAnswer.circular n chain asked is (grows_found n d (one_node g text n d.node asked d.asks))
  by_answer said (Answer.deep _ n chain asked is) (inl alone) = absurd (not_refused g text said n asked alone.refused)
  by_answer said (Answer.deep _ n chain asked is) (inr d) = FreshAnswer.deep n chain asked is (grows_found n d (one_node g text n d.node asked d.asks))

  said_fresh : (said : Reply) → IsReply g s kept limit text said given old.tools new.tools → FreshAnswer g table (fresh_of old) (fresh_of new) text said
  said_fresh said (inl answer) =
      by_answer said (answer.answer (table_outcomes table) (elim answer.did [
        | inl alone ↦ none_agrees alone.none
        | inr d ↦ run_agrees d.node (course_of d.found) d.run
      ])) answer.did
  said_fresh said (inr refused) =
      let d = refused.drained in
      subst (FreshAnswer g table (fresh_of old) (fresh_of new) text) (sym refused.is) (FreshAnswer.not_started d.node d.asks (grows d.node (off_course for_spawn) d.run))

  ask_fresh : SaysReply (FreshAnswer g table (fresh_of old) (fresh_of new) text) bytes
  ask_fresh = record { said = asks.says.said; bytes_are = asks.says.bytes_are; holds = said_fresh asks.says.said (reply_of g s kept limit text asks.says.said given old.tools new.tools asks.says.holds.is tt) }

-- ---- a command

module _ (g : Graph) (limit : ℕ) (table : Table) (old new : SessionState) (right : IsTrueFor table old.tools old.held.calls) where
  step_fresh : (c : Command) (body bytes : List ℕ) → Step g limit old c body bytes new → FreshStep g table (fresh_of old) c body bytes (fresh_of new)
  step_fresh (Put name count) body bytes step = record { says = step.says; calls = ap calls_of (edits_keep name old new step.makes); tree = step.tree }
  step_fresh (Take name) body bytes step = record { says = step.says; asked = step.asked; calls = ap calls_of (edits_keep name old new step.makes) }
  step_fresh (Remove name) body bytes step = record { says = step.says; calls = ap calls_of (edits_keep name old new step.makes); tree = step.tree }
  step_fresh (Ask text) body bytes step = ask_fresh g table limit text old new bytes right step
  step_fresh (Plan text) body bytes step = (step.says, ap fresh_of step.same)
  step_fresh Sources body bytes step = (step.0, ap fresh_of step.1)
  step_fresh Kept body bytes step = (step.0 ∙ ap (λ n. reply_text (reply.Kept n)) (sym (length-map old.held.calls (λ (x : Call × Outcome). x.0))), ap fresh_of step.1)
  step_fresh Quit body bytes step = (step.0, ap fresh_of step.1)
  step_fresh Nothing body bytes step = (step.0, ap fresh_of step.1)
  step_fresh Bad body bytes step = (step.0, ap fresh_of step.1)
  step_fresh (BadName count) body bytes step = (step.0, ap fresh_of step.1)

-- ---- a transcript

pub run_fresh : (g : Graph) (limit : ℕ) (table : Table) (first last : SessionState) (items : List Item) (replies : List (List ℕ)) → IsTrueFor table first.tools first.held.calls
    → Transcript commands (Step g limit) first items replies last → Transcript commands (FreshStep g table) (fresh_of first) items replies (fresh_of last)
run_fresh g limit table first last [] [] right run = ap fresh_of run
run_fresh g limit table first last [] (bytes ∷ replies) right run = absurd run
run_fresh g limit table first last (item ∷ items) [] right run = absurd run
run_fresh g limit table first last (item ∷ items) (bytes ∷ replies) right run =
    let a = run.1 in (
      fresh_of run.0,
      record { command = a.command; item_is = a.item_is; step = step_fresh g limit table first run.0 right a.command item.body bytes a.step },
      run_fresh g limit table run.0 last items replies (step_true g limit table first run.0 right a.command item.body bytes a.step) run.2,
    )
