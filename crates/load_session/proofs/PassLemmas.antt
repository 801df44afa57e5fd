-- A load that fails for its disk passes the room by its own batches.
use Rattle.std.proofs.Common.{◌≡◌, ◌≢◌, ◌⊎◌, inl, inr, ℕ, ◌+◌, ◌*◌, ◌<◌, ◌≤◌, List, [], ◌∷◌, ◌++◌, length, cond, Some, None, refl, ap, subst, ◌∙◌, arith}
use Rattle.odin_outside.specs.Disk.{Telling}
use Rattle.meaning_graph.specs.Graphs.{Graph}
use Rattle.meaning_records.specs.Tables.{Calls}
use Rattle.meaning_records.specs.States.{State, nothing}
use Rattle.object_values.specs.declared.replies.Reply.{Reply}
use Rattle.odin_journal.specs.Moments.{Works}
use Rattle.odin_journal.specs.declared.fault.JournalFault.TheVariants as fault
use Rattle.odin_store.specs.declared.store.Store.{Store}
use Rattle.odin_store.specs.Held as held
use Rattle.odin_store.specs.OnDisk.{state_in}
use Rattle.odin_store.specs.Opening.{graph_record, IsOpening, OpensStore}
use Rattle.odin_store.specs.Written.{written_in, WorksFor}
use Rattle.odin_store.specs.Going.{AreBatches, Performs, HasPartialBatches, StopsPerforming}
use Rattle.odin_store.proofs.Lemmas.{first_noted, goes_none, goes_on, stops_behind, works_after}
use Rattle.kept_derive.specs.Runs.{keeps_of, changes_for}
use Rattle.load_session.specs.Graph.{graph_text}
use Rattle.load_session.specs.Room.{LoadFile, most_bytes, most_calls, empty_disk, told_of_disk, PassesRoom}
use Rattle.load_session.specs.Session.{LoadStep, puts, asks}
use Rattle.load_session.specs.Served.{Moment, ServesSteps, none, put, ask, StepFails, StopsAtStep, changes_of, failed_changes}
use Rattle.load_session.specs.Loads.{LoadIsOpened, PassesWith}
use Rattle.load_session.proofs.OpenLemmas.{quiet, empty_records, empty_state}

-- ---- the changes of steps

serves_goes : (g : Graph) (old : Moment) (steps : List LoadStep) (answers : List (Calls × Reply)) (new : Moment) → (serves : ServesSteps g old steps answers new)
    → Performs told_of_disk (changes_of g old steps answers new serves) old.store new.store old.disk new.disk
serves_goes g old steps answers new none = goes_none told_of_disk old.store old.store old.disk old.disk (record { disk_is = refl; store_is = record { journal = refl; tables = refl; sources = refl; graph = refl; epoch = refl }; nodes = refl })
serves_goes g old steps answers new (put before others mid _ name text changed serves has same) =
    goes_on told_of_disk (changes_of g old before others mid serves) (cond changed (held.puts name text ∷ []) []) old.store mid.store new.store old.disk mid.disk new.disk (serves_goes g old before others mid serves) has.goes
serves_goes g old steps answers new (ask before others mid _ given reply serves has) =
    goes_on told_of_disk (changes_of g old before others mid serves) (changes_for given has.noted) old.store mid.store new.store old.disk mid.disk new.disk
    (serves_goes g old before others mid serves) has.goes

step_begins : (g : Graph) (step : LoadStep) (old new : Moment) (fails : StepFails g step old new fault.Disk) → StopsPerforming told_of_disk (failed_changes g step old new fails) old.store old.disk new.disk
step_begins g (puts name text) old new fails = fails.1
step_begins g asks old new fails =
    stops_behind told_of_disk (keeps_of fails.given) (fails.last ∷ []) old.store fails.mid.store old.disk fails.mid.disk new.disk fails.goes fails.stops

-- ---- the room

-- the store of a load begins with the batch of its graph alone
opening_is : (store : Store) (new : Telling) → (opens : OpensStore graph_text (told_of_disk empty_disk) new store) → (opens.records ≡ []) × (opens.opening ≡ graph_record graph_text ∷ [])
opening_is store new opens =
    let unread : opens.records ≡ [] = empty_records opens.records opens.stored in
    let state : opens.state ≡ nothing = empty_state opens.records opens.state unread opens.read in
    (unread, by (ap (λ (s : State). s.graph) state) opens.opens)
  where
    by : opens.state.graph ≡ None → IsOpening graph_text opens.state.graph opens.opening → opens.opening ≡ graph_record graph_text ∷ []
    by absent (inl (is, empty)) = let absurdity : ⊥ = cc in absurd absurdity
    by absent (inr added) = added.1

-- the work of it all
all_work : (store : Store) (mid new : Telling) (more : List (List ℕ)) → OpensStore graph_text (told_of_disk empty_disk) mid store → WorksFor more mid new
    → Works (66 + written_in (graph_record graph_text ∷ more)) (16 + 4 * length (graph_record graph_text ∷ more)) (told_of_disk empty_disk) new
all_work store mid new more opens works =
    let is = opening_is store mid opens in
    let none_read : List (List ℕ) = [] in
    let first : Works (66 + written_in (graph_record graph_text ∷ [])) (16 + 2 * length none_read + 4 * length (graph_record graph_text ∷ [])) (told_of_disk empty_disk) mid =
    subst (λ (l : List (List ℕ)). Works (66 + written_in (graph_record graph_text ∷ [])) (16 + 2 * length l + 4 * length (graph_record graph_text ∷ [])) (told_of_disk empty_disk) mid) is.0
    (subst (λ (l : List (List ℕ)). Works (66 + written_in l) (16 + 2 * length opens.records + 4 * length l) (told_of_disk empty_disk) mid) is.1 opens.works) in
    works_after 66 16 (graph_record graph_text ∷ []) more (told_of_disk empty_disk) mid new first works

-- the disk counts no more than that
passes : (new : LoadFile) (bytes calls : ℕ) → Works bytes calls (told_of_disk empty_disk) (told_of_disk new) → PassesRoom new → (most_bytes < bytes) ⊎ (most_calls < calls)
passes new bytes calls works (inl more) = inl (omega (arith, works.0, more))
passes new bytes calls works (inr more) = inr (omega (arith, works.1, more))

pub passes_with : (g : Graph) (start : Moment) (steps : List LoadStep) → LoadIsOpened g start → (stops : StopsAtStep g start steps fault.Disk)
    → PassesWith (state_in start.store (Some graph_text) []) (changes_of g start stops.served stops.answers stops.mid stops.serves ++ failed_changes g stops.step stops.mid stops.new stops.fails)
passes_with g start steps opened stops =
    let made = changes_of g start stops.served stops.answers stops.mid stops.serves in
    let last = failed_changes g stops.step stops.mid stops.new stops.fails in
    let opens : OpensStore graph_text (told_of_disk empty_disk) (told_of_disk start.disk) start.store = opened.opened quiet in
    let all : StopsPerforming told_of_disk (made ++ last) start.store start.disk stops.new.disk =
    stops_behind told_of_disk made last start.store stops.mid.store start.disk stops.mid.disk stops.new.disk
    (serves_goes g start stops.served stops.answers stops.mid stops.serves) (step_begins g stops.step stops.mid stops.new stops.fails) in
    let begun : HasPartialBatches told_of_disk (made ++ last) start.store start.disk stops.new.disk (Some graph_text) opens.on.noted = all.begun (opens.records ++ opens.opening) (Some graph_text) opens.on in
    let none : opens.on.noted ≡ [] = first_noted graph_text (told_of_disk empty_disk) (told_of_disk start.disk) start.store opened.read.short opens (opening_is start.store (told_of_disk start.disk) opens).1 in
    let more = begun.payloads ++ begun.begun in
    record {
      made = begun.made;
      rest = begun.rest;
      whole = begun.whole;
      payloads = begun.payloads;
      last = begun.last;
      are = subst (λ l. AreBatches (state_in start.store (Some graph_text) l) begun.made begun.payloads begun.last) none begun.are;
      begun = begun.begun;
      next = begun.next;
      over = passes stops.new.disk (66 + written_in (graph_record graph_text ∷ more)) (16 + 4 * length (graph_record graph_text ∷ more))
          (all_work start.store (told_of_disk start.disk) (told_of_disk stops.new.disk) more opens begun.works) stops.room;
    }
