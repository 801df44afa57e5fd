-- What a put and an ask of a load leave of the kept calls and of the tools.
use Rattle.std.proofs.Common.{◌≡◌, ℕ, ◌+◌, ◌≤◌, ◌<◌, ◌^◌, min, Bool, true, false, cond, [], ◌∷◌, ◌++◌, length, ap, arith, inl, inr}
use Rattle.std.proofs.lemmas.List.{length-append}
use Rattle.object_values.specs.declared.nodes.Node.{Node}
use Rattle.odin_outside.specs.Causes.{last_count}
use Rattle.odin_outside.specs.Spawned.{Spawned}
use Rattle.odin_journal.specs.Trails as trails
use Rattle.meaning_graph.specs.Graphs.{Text, Graph}
use Rattle.meaning_derive.specs.Derive.{Sources, Outcomes}
use Rattle.meaning_records.specs.Tables.{Calls, kept_outcome}
use Rattle.object_values.specs.declared.replies.Reply.{Reply}
use Rattle.odin_store.specs.declared.store.Store.{Store}
use Rattle.odin_store.specs.Held.{Held, puts}
use Rattle.odin_store.specs.Keeping.{store_keeping}
use Rattle.odin_store.specs.OnDisk.{held_in}
use Rattle.odin_store.specs.Edited.{HasPut}
use Rattle.derive_walk.specs.declared.found.Found.{Found}
use Rattle.derive_walk.specs.declared.found.Found.TheVariants as found
use Rattle.job_runner.specs.Flights.{flying}
use Rattle.plain_derive.specs.Flights.{Flight, at_rest, off_course, for_chain, Flies, AreRun}
use Rattle.plain_derive.proofs.Lemmas.{flown_starts, faults_later}
use Rattle.kept_derive.specs.Runs.{course_of}
use Rattle.odin_answers.specs.Answers.{HasAnswer}
use Rattle.load_session.specs.Room.{LoadFile, told_of_disk}

-- ---- the kept calls

put_held : (changed : Bool) (name text : Text) (store next : Store)
    → held_in next ≡ trails.after_changes store_keeping (cond changed (puts name text ∷ []) []) (held_in store)
    → next.kept.tables.calls ≡ store.kept.tables.calls
put_held true name text store next holds = ap (λ (h : Held). h.calls) holds
put_held false name text store next holds = ap (λ (h : Held). h.calls) holds

-- a put keeps them
pub put_calls : (name text : Text) (store next : Store) (disk after : LoadFile) (changed : Bool)
    → HasPut told_of_disk name text store next disk after changed → next.kept.tables.calls ≡ store.kept.tables.calls
put_calls name text store next disk after changed has = put_held changed name text store next has.goes.holds

-- ---- the starts

-- A chain was found, and no fault was counted: no end was lost while what ran was drained.
chain_starts : (g : Graph) (s : Sources) (kept : Outcomes) (n : Node) (limit : ℕ) (before : Spawned) (f : Flight) → Flies g s kept n limit before (off_course for_chain) f
    → before.starts ≤ last_count → f.tools.faults ≡ before.faults → before.faults < last_count → f.tools.starts ≡ min (before.starts + (length f.given + length f.running)) last_count
chain_starts g s kept n limit before f (Flies.chain_found o flown refused) small same below = flown_starts g s kept n limit before f small flown
chain_starts g s kept n limit before f (Flies.one_drained why o front back slot call outcome flown is waits came) small same below =
    let old = chain_starts g s kept n limit before o flown small same below in
    omega (arith, old, length-append o.given ((call, outcome) ∷ []), ap length is, length-append front (flying slot call ∷ back), length-append front back)
chain_starts g s kept n limit before f (Flies.drain_lost why o front back slot call faults flown is counted) small same below =
    let later = faults_later g s kept n limit before o flown in absurd (omega (arith, later, counted.rose))

-- as many tools were started as calls came, where what was found is found without a fault
found_starts : (g : Graph) (s : Sources) (kept : Outcomes) (n : Node) (limit : ℕ) (before now : Spawned) (given : Calls) (f : Found) → AreRun g s kept n limit (course_of f) given before now
    → before.starts ≤ last_count → now.faults ≡ before.faults → before.faults < last_count → now.starts ≡ min (before.starts + length given) last_count
found_starts g s kept n limit before now given (found.Answer view) run small same below = let all = flown_starts g s kept n limit before (at_rest given now) small run.flown in omega (arith, all)
found_starts g s kept n limit before now given (found.Circular chain) run small same below = let all = chain_starts g s kept n limit before (at_rest given now) run.flown small same below in omega (arith, all)
found_starts g s kept n limit before now given (found.Deep chain) run small same below = let all = chain_starts g s kept n limit before (at_rest given now) run.flown small same below in omega (arith, all)

-- as many tools were started as calls came, where none of them failed and their count has room
pub answer_starts : (g : Graph) (s : Sources) (kept : Calls) (limit : ℕ) (text : Text) (reply : Reply) (given : Calls) (before now : Spawned)
    → HasAnswer g s kept limit text reply given before now → now.faults ≡ before.faults → before.faults < last_count → before.starts + length given < 2 ^ 64
    → now.starts ≡ before.starts + length given
answer_starts g s kept limit text reply given before now answer same below small = elim answer.did [
  | inl alone ↦
      let told : now.starts ≡ before.starts = ap (λ (z : Spawned). z.starts) alone.told in
      let none : length given ≡ 0 = ap length alone.none in
      omega (arith, told, none)
  | inr derived ↦
      let most : before.starts ≤ last_count = omega arith in
      let run = found_starts g s (kept_outcome kept) derived.node limit before now given derived.found derived.run most same below in
      omega (arith, run)
]
