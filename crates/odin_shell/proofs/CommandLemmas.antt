-- One command, by what the call for it answers.
use Rattle.std.proofs.Common.{◌≡◌, ◌≤◌, List, [], ◌∷◌, ℕ, Bool, true, false, cond, length, Option, Some, None, Result, Ok, Err, IfOk, OnOk, IfErr, sym, refl, subst, arith}
use Rattle.std.specs.Str.{bytes_eq}
use Rattle.std.specs.FinMap.{get}
use Rattle.object_values.specs.Texts.{Text}
use Rattle.odin_outside.specs.Spawned.{Spawned}
use Rattle.meaning_graph.specs.Graphs.{Graph}
use Rattle.meaning_commands.specs.Objects.{SinkTold}
use Rattle.odin_bytes.specs.declared.commands.Command.{Command}
use Rattle.odin_bytes.specs.declared.commands.Command.TheVariants.{Put, Take, Remove, Ask}
use Rattle.odin_journal.specs.Faults.{JournalFaultIsCounted}
use Rattle.odin_journal.specs.declared.fault.JournalFault.{JournalFault}
use Rattle.odin_journal.specs.declared.fault.JournalFault.TheVariants as fault
use Rattle.odin_journal.specs.Rest.{IsReady}
use Rattle.odin_store.specs.Held.{puts, drops}
use Rattle.odin_store.specs.OnDisk.{StoreAfter}
use Rattle.odin_store.specs.Edited.{HasFailed}
use Rattle.odin_engine.specs.Engaged.{Engaged, GraphStays}
use Rattle.odin_answers.specs.Edits.{SaysReply, TreeTold, TreeIsAsked, Puts, Takes, Removes}
use Rattle.odin_answers.specs.Changes.{source_changes, EditsSource, IsPutText, MayBeTaken, HasFailedToPut}
use Rattle.odin_outside.specs.declared.disk.Disk.{Ghosts as DiskView}
use Rattle.odin_shell.specs.Machine.{SessionState, Told, CommandMayLeaveIf}
use Rattle.odin_shell.specs.Served.{telling, IsOnward, Answers, HaltsCommand, AnswersAsk, HaltsAsk}
use Rattle.odin_shell.proofs.AnswerLemmas.{same_halts}
use Rattle.odin_shell.proofs.EditLemmas.{IsMadeOf, put_answers, remove_answers, take_answers, put_halts, remove_halts, take_halts}

-- an edit is one change at most
few_changes : (name : Text) (old new : Option Text) → length (source_changes name old new) ≤ 1
few_changes name None None = omega arith
few_changes name (Some old) None = omega arith
few_changes name None (Some text) = omega arith
few_changes name (Some old) (Some text) = by (bytes_eq old text)
  where
    by : (same : Bool) → length (cond same [] (puts name text ∷ [])) ≤ 1
    by true = omega arith
    by false = omega arith

-- so the epoch rises by one at most
pub edit_onward : {D : Type 0} (disk : DiskView D) (code code' : Engaged) (now now' : D) (name : Text) (r : Result (List ℕ) JournalFault) → OnOk r (EditsSource disk.told name code.store code'.store now now')
    → StoreAfter code'.store (disk.size_of now') r → JournalFaultIsCounted (disk.faults now) (disk.faults now') r → OnOk r (IsOnward disk 1 code code' now now')
edit_onward disk code code' now now' name (Ok bytes) edited left cause =
    let few = few_changes name (get code.store.sources.texts name) (get code'.store.sources.texts name) in
    let epoch = edited.epoch in
    record { epoch = omega (arith, few, epoch); ready = left.ready; faults = cause.ok }
edit_onward disk code code' now now' name (Err e) edited left cause = tt

module _ {D : Type 0} (disk : DiskView D) (code code' : Engaged) (given : Command) (kept : List ℕ) (tools : Spawned) (tree : TreeTold) (now now' : D) where
  abbrev before : SinkTold → Told D
  before sink = telling sink tools tree now

  -- ---- an edit that touches neither tools nor tree

  abbrev after : SinkTold → Told D
  after sink = telling sink tools tree now'

  made : (name : Text) (sink : SinkTold) → EditsSource disk.told name code.store code'.store now now' → GraphStays code code' → IsReady code'.store.journal (disk.size_of now')
      → disk.faults now' ≡ disk.faults now → IsMadeOf disk code code' (before sink) (after sink) name
  made name sink edited stays ready faults = record { edited = edited; stays = stays; ready = ready; faults = faults; tools = refl; within = refl }

  pub put_said : (name : Text) (count : ℕ) (text : List ℕ) → given ≡ Put name count → text ≡ kept → (r : Result (List ℕ) JournalFault)
      → IfOk r (λ bytes. SaysReply (λ said. Puts code.store.sources.texts name count text said code'.store.sources.texts) bytes) → OnOk r (EditsSource disk.told name code.store code'.store now now')
      → GraphStays code code' → StoreAfter code'.store (disk.size_of now') r → JournalFaultIsCounted (disk.faults now) (disk.faults now') r
      → IfOk r (λ reply. (sink : SinkTold) → Answers disk code given kept (before sink) reply code' (after sink))
  put_said name count text is body (Ok bytes) says edited stays left cause = λ sink.
      subst (λ k. Answers disk code k kept (before sink) bytes code' (after sink)) (sym is)
      (subst (λ b. Answers disk code (Put name count) b (before sink) bytes code' (after sink)) body
      (put_answers disk code code' (before sink) (after sink) name count text bytes says (made name sink edited stays left.ready cause.ok) refl))
  put_said name count text is body (Err e) says edited stays left cause = tt

  pub put_unsaid : (name : Text) (count : ℕ) (text : List ℕ) → given ≡ Put name count → text ≡ kept → (r : Result (List ℕ) JournalFault)
      → IfErr r (HasFailedToPut disk.told (IsPutText count text) name code.store code'.store now now') → JournalFaultIsCounted (disk.faults now) (disk.faults now') r
      → IfErr r (λ why. (sink : SinkTold) → HaltsCommand disk code given kept (before sink) why (after sink))
  put_unsaid name count text is body (Ok bytes) failed cause = tt
  put_unsaid name count text is body (Err e) failed cause = λ sink.
      subst (λ k. HaltsCommand disk code k kept (before sink) e (after sink)) (sym is)
      (subst (λ b. HaltsCommand disk code (Put name count) b (before sink) e (after sink)) body
      (put_halts disk code code' (before sink) (after sink) name count text e failed (record { later = cause.later; cause = cause.err; tools = refl }) refl))

  pub remove_said : (name : Text) → given ≡ Remove name → (r : Result (List ℕ) JournalFault)
      → IfOk r (λ bytes. SaysReply (λ said. Removes code.store.sources.texts name said code'.store.sources.texts) bytes) → OnOk r (EditsSource disk.told name code.store code'.store now now')
      → GraphStays code code' → StoreAfter code'.store (disk.size_of now') r → JournalFaultIsCounted (disk.faults now) (disk.faults now') r
      → IfOk r (λ reply. (sink : SinkTold) → Answers disk code given kept (before sink) reply code' (after sink))
  remove_said name is (Ok bytes) says edited stays left cause = λ sink.
      subst (λ k. Answers disk code k kept (before sink) bytes code' (after sink)) (sym is)
      (remove_answers disk code code' (before sink) (after sink) name kept bytes says (made name sink edited stays left.ready cause.ok) refl)
  remove_said name is (Err e) says edited stays left cause = tt

  pub remove_unsaid : (name : Text) → given ≡ Remove name → (r : Result (List ℕ) JournalFault) → IfErr r (HasFailed disk.told (drops name) code.store code'.store now now') → JournalFaultIsCounted (disk.faults now) (disk.faults now') r
      → IfErr r (λ why. (sink : SinkTold) → HaltsCommand disk code given kept (before sink) why (after sink))
  remove_unsaid name is (Ok bytes) failed cause = tt
  remove_unsaid name is (Err e) failed cause = λ sink.
      subst (λ k. HaltsCommand disk code k kept (before sink) e (after sink)) (sym is)
      (remove_halts disk code code' (before sink) (after sink) name kept e failed (record { later = cause.later; cause = cause.err; tools = refl }) refl)

  -- ---- one that asks the tree

  module _ (tree' : TreeTold) (name : Text) (is : given ≡ Take name) (asked : TreeIsAsked tree tree') where
    abbrev behind : SinkTold → Told D
    behind sink = telling sink tools tree' now'

    pub take_said : (r : Result (List ℕ) JournalFault) → IfOk r (λ bytes. SaysReply (λ said. Takes code.store.sources.texts name tree said code'.store.sources.texts tree') bytes)
        → OnOk r (EditsSource disk.told name code.store code'.store now now') → GraphStays code code' → StoreAfter code'.store (disk.size_of now') r → JournalFaultIsCounted (disk.faults now) (disk.faults now') r
        → IfOk r (λ reply. (sink : SinkTold) → Answers disk code given kept (before sink) reply code' (behind sink))
    take_said (Ok bytes) says edited stays left cause = λ sink.
        subst (λ k. Answers disk code k kept (before sink) bytes code' (behind sink)) (sym is)
        (take_answers disk code code' (before sink) (behind sink) name kept bytes says
        (record { edited = edited; stays = stays; ready = left.ready; faults = cause.ok; tools = refl; within = refl }) asked)
    take_said (Err e) says edited stays left cause = tt

    pub take_unsaid : (r : Result (List ℕ) JournalFault) → IfErr r (HasFailedToPut disk.told (MayBeTaken tree.files name) name code.store code'.store now now') → JournalFaultIsCounted (disk.faults now) (disk.faults now') r
        → IfErr r (λ why. (sink : SinkTold) → HaltsCommand disk code given kept (before sink) why (behind sink))
    take_unsaid (Ok bytes) failed cause = tt
    take_unsaid (Err e) failed cause = λ sink.
        subst (λ k. HaltsCommand disk code k kept (before sink) e (behind sink)) (sym is)
        (take_halts disk code code' (before sink) (behind sink) name kept e (record { later = cause.later; cause = cause.err; tools = refl }) asked failed)

  -- ---- asks

  module _ (tools' : Spawned) (query slice : Text) (is : given ≡ Ask query) (same : slice ≡ query) where
    pub ask_said : (r : Result (List ℕ) JournalFault) → IfOk r (λ reply. AnswersAsk disk code slice tools now reply code' tools' now')
        → IfOk r (λ reply. (sink : SinkTold) → Answers disk code given kept (before sink) reply code' (telling sink tools' tree now'))
    ask_said (Ok bytes) answers = λ sink.
        subst (λ k. Answers disk code k kept (before sink) bytes code' (telling sink tools' tree now')) (sym is)
        (subst (λ q. Answers disk code (Ask q) kept (before sink) bytes code' (telling sink tools' tree now')) same (answers kept sink tree))
    ask_said (Err e) answers = tt

    pub ask_unsaid : (r : Result (List ℕ) JournalFault) → IfErr r (λ why. HaltsAsk disk code slice tools now why tools' now')
        → IfErr r (λ why. (sink : SinkTold) → HaltsCommand disk code given kept (before sink) why (telling sink tools' tree now'))
    ask_unsaid (Ok bytes) halts = tt
    ask_unsaid (Err e) halts = λ sink.
        subst (λ k. HaltsCommand disk code k kept (before sink) e (telling sink tools' tree now')) (sym is)
        (subst (λ q. HaltsCommand disk code (Ask q) kept (before sink) e (telling sink tools' tree now')) same (halts kept sink tree))

-- ---- commands that change nothing

module _ {D : Type 0} (disk : DiskView D) (code : Engaged) (given is_given : Command) (kept : List ℕ) (tools : Spawned) (tree : TreeTold) (now : D) (is : given ≡ is_given) where
  pub shown : (bytes : List ℕ) → ((told : Told D) → Answers disk code is_given kept told bytes code told) → (sink : SinkTold) → Answers disk code given kept (telling sink tools tree now) bytes code (telling sink tools tree now)
  shown bytes answers sink = subst (λ k. Answers disk code k kept (telling sink tools tree now) bytes code (telling sink tools tree now)) (sym is) (answers (telling sink tools tree now))

  pub unshown : ((trust : Type 0) (g : Graph) (limit : ℕ) (state : SessionState) (body : List ℕ) → CommandMayLeaveIf trust g limit state is_given body state) → (sink : SinkTold) → HaltsCommand disk code given kept (telling sink tools tree now) fault.Memory (telling sink tools tree now)
  unshown may sink =
      subst (λ k. HaltsCommand disk code k kept (telling sink tools tree now) fault.Memory (telling sink tools tree now)) (sym is)
      (same_halts disk code is_given kept (telling sink tools tree now) (λ trust g limit state body held told_tools told_tree. may trust g limit state body) refl)
