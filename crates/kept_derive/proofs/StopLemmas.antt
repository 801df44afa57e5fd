-- What follows where a derivation over what a store keeps did not come to its end.
use Rattle.std.proofs.Common.{◌≡◌, ◌≢◌, ℕ, [], ◌++◌, refl, sym, ap, subst, ◌∙◌}
use Rattle.std.specs.Prelude.{Option, Some, None}
use Rattle.object_values.specs.declared.nodes.Node.{Node}
use Rattle.object_values.specs.declared.calls.Outcome.{Outcome}
use Rattle.odin_outside.specs.Disk.{Telling}
use Rattle.odin_outside.specs.Spawned.{Table, Spawned}
use Rattle.meaning_texts.proofs.Lemmas.{in_left}
use Rattle.meaning_graph.specs.Graphs.{Graph}
use Rattle.meaning_derive.specs.Derive.{Sources}
use Rattle.meaning_derive.specs.Given.{table_outcomes}
use Rattle.meaning_derive.specs.Laws.{HasMore}
use Rattle.meaning_records.specs.Tables.{Calls, Tables, kept_outcome}
use Rattle.odin_store.specs.declared.store.Store.{Store}
use Rattle.odin_store.specs.OnDisk.{IsSame}
use Rattle.odin_store.specs.Going.{Performs, ChangesFollow}
use Rattle.derive_walk.specs.Calls.{outcome_in}
use Rattle.derive_walk.specs.Outcomes.{given_or}
use Rattle.plain_derive.specs.Given.{HaveCome}
use Rattle.plain_derive.specs.Flights.{AreFlown}
use Rattle.plain_derive.proofs.Lemmas.{given_is_in, is_flown}
use Rattle.kept_derive.specs.declared.fault.KeptFault.{KeptFault}
use Rattle.kept_derive.specs.declared.fault.KeptFault.TheVariants as fault
use Rattle.kept_derive.specs.Knowing.{known_in, KnowsStore}
use Rattle.kept_derive.specs.Runs.{At, keeps_of}
use Rattle.kept_derive.specs.Stops.{IsStopped}
use Rattle.kept_derive.specs.StopLaws.{KeepsResults, StopsInResults}
use Rattle.kept_derive.proofs.HeldLemmas.{nothing_behind, in_both, calls_after}
use Rattle.kept_derive.proofs.LawLemmas.{runs_are_true}

-- ---- tools that answer by a table

-- What is kept after others is true where both are.
true_behind : (table : Table) (calls given : Calls) → HasMore (kept_outcome calls) (table_outcomes table) → HaveCome (Some table) given → HasMore (kept_outcome (calls ++ given)) (table_outcomes table)
true_behind table calls given right came call o e = by_kept (kept_outcome calls call) refl
  where
    by_kept : (x : Option Outcome) → kept_outcome calls call ≡ x → table_outcomes table call ≡ Some o
    by_kept (Some p) is =
        let same : Some p ≡ Some o = sym (ap (λ z. given_or z (outcome_in given call)) is) ∙ sym (in_both calls given call) ∙ e in
        right call o (is ∙ same)
    by_kept None is =
        let there : outcome_in given call ≡ Some o = sym (ap (λ z. given_or z (outcome_in given call)) is) ∙ sym (in_both calls given call) ∙ e in
        (came call o (given_is_in given call o there)).told table refl

-- The first outcomes that came of tools are true by the table by which they answer.
flown_true : (table : Table) (g : Graph) (s : Sources) (n : Node) (limit : ℕ) (calls given rest : Calls) (before now : Spawned) → before.answer ≡ Some table → HasMore (kept_outcome calls) (table_outcomes table)
    → AreFlown g s (kept_outcome calls) n limit (given ++ rest) before now → HasMore (kept_outcome (calls ++ given)) (table_outcomes table)
flown_true table g s n limit calls given rest before now answer right flown =
    let is = is_flown g s (kept_outcome calls) n limit before flown.course (record { running = flown.running; given = given ++ rest; tools = now }) flown.flown in
    true_behind table calls given right (subst (λ a. HaveCome a given) answer (λ call o i. is.came call o (in_left (call, o) given rest i)))

module _ {D : Type 0} (told : D → Telling) (g : Graph) (n : Node) (limit : ℕ) (old new : At D) where
  -- calls were kept, nothing was noted, and then nothing changed
  keeps_before : ChangesFollow told → (given : Calls) (mid : At D) → Performs told (keeps_of given) old.store mid.store old.disk mid.disk → mid.store.epoch ≡ old.store.epoch → IsSame mid.store new.store mid.disk new.disk
      → KeepsResults told old new
  keeps_before follow given mid goes epoch same = record {
    given = given;
    noted = [];
    goes = subst (λ l. Performs told l old.store new.store old.disk new.disk) (nothing_behind (keeps_of given))
        (follow.behind (keeps_of given) [] old.store mid.store new.store old.disk mid.disk new.disk goes (follow.none mid.store new.store mid.disk new.disk same));
    epoch = same.store_is.epoch ∙ epoch;
  }

  pub stops_keep : ChangesFollow told → (f : KeptFault) → f ≢ fault.Disk → IsStopped told g n limit old new f → KeepsResults told old new
  stops_keep follow fault.Spawn apart drained = record { given = drained.given; noted = []; goes = drained.goes; epoch = drained.epoch }
  stops_keep follow fault.Disk apart unkept = absurd (apart refl)
  stops_keep follow (fault.Full end count) apart unkept = keeps_before follow unkept.given unkept.mid unkept.goes unkept.epoch unkept.failed.1.0
  stops_keep follow fault.Memory apart wanting = record { given = wanting.given; noted = []; goes = wanting.goes; epoch = wanting.epoch }

  pub disk_stops : IsStopped told g n limit old new fault.Disk → StopsInResults told old new
  disk_stops unkept = record {
    given = unkept.given;
    last = unkept.last;
    is = unkept.is;
    mid = unkept.mid;
    goes = unkept.goes;
    stops = unkept.failed.1;
  }

  -- ---- tools that answer by a table

  true_after : (table : Table) (given rest : Calls) (next : Store) → old.tools.answer ≡ Some table → HasMore (known_in old.store) (table_outcomes table)
      → AreFlown g old.store.sources.texts (known_in old.store) n limit (given ++ rest) old.tools new.tools → next.kept.tables.calls ≡ old.store.kept.tables.calls ++ given → HasMore (known_in next) (table_outcomes table)
  true_after table given rest next answer right flown calls =
      subst (λ (l : Calls). HasMore (kept_outcome l) (table_outcomes table)) (sym calls) (flown_true table g old.store.sources.texts n limit old.store.kept.tables.calls given rest old.tools new.tools answer right flown)

  pub stops_are_true : (table : Table) (f : KeptFault) → f ≢ fault.Disk → old.tools.answer ≡ Some table → HasMore (known_in old.store) (table_outcomes table) → KnowsStore g old.store
      → IsStopped told g n limit old new f → HasMore (known_in new.store) (table_outcomes table)
  stops_are_true table fault.Spawn apart answer right knows drained =
      runs_are_true told table g n limit _ old drained.given [] new answer right (record { run = (drained.right knows).run; goes = drained.goes; epoch = drained.epoch })
  stops_are_true table fault.Disk apart answer right knows unkept = absurd (apart refl)
  stops_are_true table (fault.Full end count) apart answer right knows unkept =
      let rightly = unkept.right knows in
      true_after table unkept.given rightly.rest new.store answer right rightly.flown
      (ap (λ (t : Tables). t.calls) unkept.failed.1.0.store_is.tables ∙ calls_after told unkept.given old.store unkept.mid.store old.disk unkept.mid.disk unkept.goes)
  stops_are_true table fault.Memory apart answer right knows wanting =
      let rightly = wanting.right knows in
      true_after table wanting.given rightly.rest new.store answer right rightly.flown (calls_after told wanting.given old.store new.store old.disk new.disk wanting.goes)
