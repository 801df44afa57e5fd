-- What follows of calls that were run and kept.
use Rattle.std.proofs.Common.{◌≡◌, ℕ, List, [], inl, inr, sym, ap, subst, ◌∙◌}
use Rattle.std.specs.Prelude.{Some, IsSome, is_some}
use Rattle.object_values.specs.declared.facts.Fact.{Fact}
use Rattle.object_values.specs.declared.nodes.Node.{Node}
use Rattle.object_values.specs.declared.views.View.{View}
use Rattle.object_values.specs.declared.calls.Call.{Call}
use Rattle.odin_outside.specs.Disk.{Telling}
use Rattle.odin_outside.specs.Spawned.{Table}
use Rattle.meaning_graph.specs.Graphs.{Graph}
use Rattle.meaning_derive.specs.Derive.{Sources, Outcomes, derived}
use Rattle.meaning_derive.specs.Calls.{IsCallFrom}
use Rattle.meaning_derive.specs.Given.{table_outcomes}
use Rattle.meaning_derive.specs.Laws.{HasMore}
use Rattle.meaning_derive.proofs.Lemmas.{known, no_frontier, no_chain}
use Rattle.meaning_records.specs.Tables.{Calls, kept_outcome}
use Rattle.odin_store.specs.Going.{Performs}
use Rattle.derive_walk.specs.declared.found.Found.{Found}
use Rattle.derive_walk.specs.declared.found.Found.TheVariants.{Answer, Circular, Deep}
use Rattle.derive_walk.specs.Founds.{IsFound}
use Rattle.derive_walk.specs.Outcomes.{after}
use Rattle.derive_walk.proofs.Lemmas.{found_stays}
use Rattle.plain_derive.specs.Given.{AreGiven, HaveCome}
use Rattle.plain_derive.specs.Flights.{Course, at_rest}
use Rattle.plain_derive.specs.FlightLaws.{IsFlown, IsUnflown}
use Rattle.plain_derive.proofs.Lemmas.{given_are_calls, given_are_new, given_are_true, is_flown, known_fly_none, refused_fly_none}
use Rattle.kept_derive.specs.Knowing.{known_in, KnowsStore}
use Rattle.kept_derive.specs.Runs.{At, keeps_of, changes_for, HasRun, HasFound, course_of}
use Rattle.kept_derive.specs.Laws.{AreRunNew, IsSpared}
use Rattle.kept_derive.proofs.HeldLemmas.{calls_after_all, sources_after_all, known_after, more_known}

-- what is known once calls that were given outcomes are kept, whatever is noted after them
pub known_by_all : {D : Type 0} (told : D → Telling) (g : Graph) (n : Node) (old new : At D) (given : Calls) (noted : List Fact) → AreGiven g old.store.sources.texts (known_in old.store) n given
    → Performs told (changes_for given noted) old.store new.store old.disk new.disk → ◌≡◌ {A = Outcomes} (known_in new.store) (after (known_in old.store) given)
known_by_all told g n old new given noted are goes =
    ap kept_outcome (calls_after_all told given noted old.store new.store old.disk new.disk goes)
    ∙ known_after old.store.kept.tables.calls given (given_are_new g old.store.sources.texts (known_in old.store) n given are)

pub known_by : {D : Type 0} (told : D → Telling) (g : Graph) (n : Node) (old new : At D) (given : Calls) → AreGiven g old.store.sources.texts (known_in old.store) n given
    → Performs told (keeps_of given) old.store new.store old.disk new.disk → ◌≡◌ {A = Outcomes} (known_in new.store) (after (known_in old.store) given)
known_by told g n old new given are goes = known_by_all told g n old new given [] are goes

module _ {D : Type 0} (told : D → Telling) (g : Graph) (n : Node) (limit : ℕ) (old new : At D) where
  abbrev sources : Sources
  sources = old.store.sources.texts

  flown : (course : Course) (given : Calls) (noted : List Fact) → HasRun told g n limit course old given noted new → IsFlown g sources (known_in old.store) n old.tools (at_rest given new.tools)
  flown course given noted run = is_flown g sources (known_in old.store) n limit old.tools course (at_rest given new.tools) run.run.flown

  pub known_is : (course : Course) (given : Calls) (noted : List Fact) → HasRun told g n limit course old given noted new → ◌≡◌ {A = Outcomes} (known_in new.store) (after (known_in old.store) given)
  known_is course given noted run = let is = flown course given noted run in known_by_all told g n old new given noted is.are run.goes

  pub runs_new : (course : Course) (given : Calls) (noted : List Fact) → HasRun told g n limit course old given noted new → AreRunNew told g n old given new
  runs_new course given noted run =
      let is = flown course given noted run in
      let known_now = known_is course given noted run in
      record {
        new = given_are_new g sources (known_in old.store) n given is.are;
        each = λ outcomes has call i. given_are_calls g sources (known_in old.store) n given is.are outcomes (subst (λ (p : Outcomes). HasMore p outcomes) known_now has) call i;
        known = known_now;
        sources = sources_after_all told given noted old.store new.store old.disk new.disk run.goes;
      }

  -- What was kept stays.
  pub found_keeps : (found : Found) → HasFound told g n limit old new found → HasMore (known_in old.store) (known_in new.store)
  found_keeps found has = more_known old.store new.store has.given (calls_after_all told has.given has.noted old.store new.store old.disk new.disk has.goes)

  -- ---- what is found by what is kept then, where what was kept of nodes was known

  pub found_has_run : (found : Found) → KnowsStore g old.store → (has : HasFound told g n limit old new found) → HasRun told g n limit (course_of found) old has.given has.noted new
  found_has_run found knows has = record { run = (has.right knows).run; goes = has.goes; epoch = has.epoch }

  pub found_now : (found : Found) → KnowsStore g old.store → HasFound told g n limit old new found → IsFound g sources (known_in new.store) n found
  found_now found knows has =
      subst (λ (p : Outcomes). IsFound g sources p n found) (sym (known_is (course_of found) has.given has.noted (found_has_run found knows has))) (has.right knows).is

  pub all_kept : (view : View) → KnowsStore g old.store → HasFound told g n limit old new (Answer view)
      → (call : Call) → IsCallFrom g (derived g sources (known_in new.store)) n call → IsSome (known_in new.store call)
  all_kept view knows has call from = known g sources (known_in new.store) n call (ap is_some (found_now (Answer view) knows has)) from

  -- ---- again

  found_again : (again : At D) → again.store.sources.texts ≡ sources → HasMore (known_in new.store) (known_in again.store) → (found : Found) → KnowsStore g old.store → HasFound told g n limit old new found
      → IsFound g again.store.sources.texts (known_in again.store) n found
  found_again again same more found knows has =
      subst (λ (s : Sources). IsFound g s (known_in again.store) n found) (sym same) (found_stays g sources (known_in new.store) (known_in again.store) more n found (found_now found knows has))

  -- ---- tools that answer by a table

  pub runs_true : (table : Table) (course : Course) (given : Calls) (noted : List Fact) → old.tools.answer ≡ Some table → HasMore (known_in old.store) (table_outcomes table)
      → HasRun told g n limit course old given noted new → HasMore (after (known_in old.store) given) (table_outcomes table)
  runs_true table course given noted answer right run =
      let is = flown course given noted run in given_are_true table (known_in old.store) given right (subst (λ a. HaveCome a given) answer is.came)

-- ---- again

-- where something is found by what is kept nothing is run
none_flies : {D : Type 0} (told : D → Telling) (g : Graph) (n : Node) (found : Found) (again : At D) → IsFound g again.store.sources.texts (known_in again.store) n found
    → (most : ℕ) (course : Course) (given : Calls) (noted : List Fact) (later : At D) → HasRun told g n most course again given noted later → IsUnflown again.tools course (at_rest given later.tools)
none_flies told g n (Answer view) again is most course given noted later run =
    known_fly_none g again.store.sources.texts (known_in again.store) n most again.tools course (at_rest given later.tools) run.run.flown
    (λ call waits. no_frontier g again.store.sources.texts (known_in again.store) n call (ap is_some is) waits)
none_flies told g n (Circular chain) again is most course given noted later run =
    refused_fly_none g again.store.sources.texts (known_in again.store) n most again.tools course (at_rest given later.tools) run.run.flown (record { chain = chain; is = inl is })
none_flies told g n (Deep chain) again is most course given noted later run =
    refused_fly_none g again.store.sources.texts (known_in again.store) n most again.tools course (at_rest given later.tools) run.run.flown (record { chain = chain; is = inr is })

pub none_run_again : {D : Type 0} (told : D → Telling) (g : Graph) (n : Node) (limit : ℕ) (old new : At D) (found : Found) → KnowsStore g old.store → HasFound told g n limit old new found
    → (again : At D) → again.store.sources.texts ≡ old.store.sources.texts → HasMore (known_in new.store) (known_in again.store)
    → (most : ℕ) (course : Course) (given : Calls) (noted : List Fact) (later : At D) → HasRun told g n most course again given noted later → IsSpared course again given later
none_run_again told g n limit old new found knows has again same more most course given noted later run =
    let none = none_flies told g n found again (found_again told g n limit old new again same more found knows has) most course given noted later run in
    record { none = none.none; told = none.told; unrefused = none.unrefused }

same_answer : (g : Graph) (s : Sources) (outcomes : Outcomes) (n : Node) (view : View) (found : Found) → IsFound g s outcomes n (Answer view) → IsFound g s outcomes n found → found ≡ Answer view
same_answer g s outcomes n view (Answer other) first is = cc
same_answer g s outcomes n view (Circular chain) first is = absurd (no_chain g s outcomes n (ap is_some first) chain (inl is))
same_answer g s outcomes n view (Deep chain) first is = absurd (no_chain g s outcomes n (ap is_some first) chain (inr is))

pub answer_stays : {D : Type 0} (told : D → Telling) (g : Graph) (n : Node) (limit : ℕ) (old new : At D) (view : View) → KnowsStore g old.store → HasFound told g n limit old new (Answer view)
    → (again : At D) → again.store.sources.texts ≡ old.store.sources.texts → HasMore (known_in new.store) (known_in again.store)
    → (most : ℕ) (later : At D) (found : Found) → KnowsStore g again.store → HasFound told g n most again later found → found ≡ Answer view
answer_stays told g n limit old new view knows has again same more most later found later_knows later_has =
    let later_run = found_has_run told g n most again later found later_knows later_has in
    let none = none_run_again told g n limit old new (Answer view) knows has again same more most (course_of found) later_has.given later_has.noted later later_run in
    let by_kept : IsFound g again.store.sources.texts (known_in again.store) n found =
    subst (λ (l : Calls). IsFound g again.store.sources.texts (after (known_in again.store) l) n found) none.none (later_has.right later_knows).is in
    same_answer g again.store.sources.texts (known_in again.store) n view found (found_again told g n limit old new again same more (Answer view) knows has) by_kept

-- ---- tools that answer by a table

pub runs_are_true : {D : Type 0} (told : D → Telling) (table : Table) (g : Graph) (n : Node) (limit : ℕ) (course : Course) (old : At D) (given : Calls) (noted : List Fact) (new : At D)
    → old.tools.answer ≡ Some table → HasMore (known_in old.store) (table_outcomes table) → HasRun told g n limit course old given noted new → HasMore (known_in new.store) (table_outcomes table)
runs_are_true told table g n limit course old given noted new answer right run =
    subst (λ (p : Outcomes). HasMore p (table_outcomes table)) (sym (known_is told g n limit old new course given noted run)) (runs_true told g n limit old new table course given noted answer right run)

pub found_is_true : {D : Type 0} (told : D → Telling) (table : Table) (g : Graph) (n : Node) (limit : ℕ) (old new : At D) (found : Found)
    → old.tools.answer ≡ Some table → HasMore (known_in old.store) (table_outcomes table) → KnowsStore g old.store → HasFound told g n limit old new found
    → IsFound g old.store.sources.texts (table_outcomes table) n found
found_is_true told table g n limit old new found answer right knows has =
    let run = found_has_run told g n limit old new found knows has in
    let true_then = runs_true told g n limit old new table (course_of found) has.given has.noted answer right run in
    found_stays g old.store.sources.texts (after (known_in old.store) has.given) (table_outcomes table) true_then n found (has.right knows).is
