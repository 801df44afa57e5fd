-- What an ask without a view leaves of tools, store and disk, by its reply or by the fault for which it has none.
use Rattle.std.proofs.Common.{◌≡◌, ◌≤◌, ℕ, [], length, ap, refl, sym, subst}
use Rattle.std.specs.Prelude.{Result, Ok, Err, IfOk, IfErr, IsErrOf, IsErrAnd}
use Rattle.std.proofs.lemmas.Result.{err_from_is_err_and}
use Rattle.object_values.specs.declared.views.View.{View}
use Rattle.odin_outside.specs.Spawned.{Spawned}
use Rattle.meaning_graph.specs.Graphs.{Graph}
use Rattle.object_values.specs.declared.replies.Reply.{Reply}
use Rattle.odin_journal.specs.Faults.{JournalFaultIsCounted, CountAfterJournalFault}
use Rattle.odin_journal.specs.Rest.{IsReady}
use Rattle.odin_journal.specs.declared.fault.JournalFault.{JournalFault}
use Rattle.odin_journal.specs.declared.fault.JournalFault.TheVariants as store
use Rattle.odin_store.specs.declared.store.Store.{Store}
use Rattle.odin_store.specs.OnDisk.{StoreAfter}
use Rattle.kept_derive.specs.Rests.{ComesToRest, LeavesAll}
use Rattle.odin_engine.specs.declared.fault.AskFault.{AskFault}
use Rattle.odin_engine.specs.declared.fault.AskFault.TheVariants as fault
use Rattle.odin_engine.specs.Asking as asking
use Rattle.odin_answers.specs.Faults.{IsReplyToFault, StopsWithoutReply}

-- ---- answers that are no fault of the disk

ready_left : (made : Store) (size : ℕ) (r : Result Reply JournalFault) → (IsErrOf r store.Disk → ⊥) → IsReady made.journal size → StoreAfter made size r
ready_left made size (Ok reply) not ready = record { ready = ready; spent = λ e. absurd (not e) }
ready_left made size (Err why) not ready = record { ready = tt; spent = λ e. absurd (not e) }

uncounted : (before now : ℕ) (why : JournalFault) → (why ≡ store.Disk → ⊥) → now ≡ before → CountAfterJournalFault before now why
uncounted before now store.Disk not same = absurd (not refl)
uncounted before now (store.NotOurs at) not same = same
uncounted before now (store.Full end size) not same = same
uncounted before now store.Memory not same = same

same_cause : (before now : ℕ) (r : Result Reply JournalFault) → (IsErrOf r store.Disk → ⊥) → before ≤ now → now ≡ before → JournalFaultIsCounted before now r
same_cause before now (Ok reply) not later same = record { later = later; ok = same; err = tt }
same_cause before now (Err why) not later same = record { later = later; ok = tt; err = uncounted before now why (λ e. not (ap (λ w. Err w) e)) same }

-- want of memory, and a batch that doesn't fit, are none
wanted : (r : Result Reply JournalFault) → IfErr r (λ why. why ≡ store.Memory) → IsErrOf r store.Disk → ⊥
wanted (Ok reply) says e = cc
wanted (Err why) says e = cc

full : (end size : ℕ) (r : Result Reply JournalFault) → IfErr r (λ why. why ≡ store.Full end size) → IsErrOf r store.Disk → ⊥
full end size (Ok reply) says e = cc
full end size (Err why) says e = cc

-- what holds at want of memory holds where the result is that
pub at_want : (r : Result Reply JournalFault) (Q : JournalFault → Type 0) → IsErrAnd r (λ e. e ≡ store.Memory) → Q store.Memory → IfErr r Q
at_want r Q is q =
    let p = err_from_is_err_and r is in
    subst (λ v. IfErr v Q) (sym p.1) (subst Q (sym p.2) q)

-- ---- what runs

at_rest : (limit : ℕ) (before now : Spawned) (r : Result Reply JournalFault) → now.answer ≡ before.answer → before.faults ≤ now.faults → length now.running ≤ limit
    → now.running ≡ [] → ComesToRest LeavesAll limit before now r
at_rest limit before now (Ok reply) answer later few idle = record { answer = answer; later = later; few = few; idle = idle; left = tt }
at_rest limit before now (Err why) answer later few idle = record { answer = answer; later = later; few = few; idle = tt; left = λ not. idle }

-- what runs is left where there is no reply
pub tools_left : (limit : ℕ) (before now : Spawned) (r : Result Reply JournalFault) → IfOk r (λ reply. ⊥) → now.answer ≡ before.answer → before.faults ≤ now.faults
    → length now.running ≤ limit → ComesToRest LeavesAll limit before now r
tools_left limit before now (Ok reply) none answer later few = absurd none
tools_left limit before now (Err why) none answer later few = record { answer = answer; later = later; few = few; idle = tt; left = λ not. absurd (not tt) }

-- ---- after a fault

module _ (g : Graph) where
  pub refused_rests : (limit : ℕ) (before now : Spawned) (f : AskFault) (r : Result Reply JournalFault) → IfOk r (IsReplyToFault g f) → IfErr r (StopsWithoutReply f) → ComesToRest {T = View} asking.AskLeavesTools limit before now (Err f) → ComesToRest LeavesAll limit before now r
  refused_rests limit before now (fault.Expression place) r ok err rest = at_rest limit before now r rest.answer rest.later rest.few (rest.left (λ not. not))
  refused_rests limit before now (fault.UnknownType name) r ok err rest = at_rest limit before now r rest.answer rest.later rest.few (rest.left (λ not. not))
  refused_rests limit before now (fault.UnknownParam name) r ok err rest = at_rest limit before now r rest.answer rest.later rest.few (rest.left (λ not. not))
  refused_rests limit before now (fault.Path step) r ok err rest = at_rest limit before now r rest.answer rest.later rest.few (rest.left (λ not. not))
  refused_rests limit before now (fault.Circular chain) r ok err rest = at_rest limit before now r rest.answer rest.later rest.few (rest.left (λ not. not))
  refused_rests limit before now (fault.Deep chain) r ok err rest = at_rest limit before now r rest.answer rest.later rest.few (rest.left (λ not. not))
  refused_rests limit before now fault.Spawn r ok err rest = at_rest limit before now r rest.answer rest.later rest.few (rest.left (λ not. not))
  refused_rests limit before now fault.Disk r ok err rest = tools_left limit before now r ok rest.answer rest.later rest.few
  refused_rests limit before now (fault.Full end size) r ok err rest = tools_left limit before now r ok rest.answer rest.later rest.few
  refused_rests limit before now fault.Memory r ok err rest = tools_left limit before now r ok rest.answer rest.later rest.few

  pub refused_left : (made : Store) (size : ℕ) (f : AskFault) (r : Result Reply JournalFault) → IfOk r (IsReplyToFault g f) → IfErr r (StopsWithoutReply f) → asking.StoreAfterAskFault made size f → StoreAfter made size r
  refused_left made size (fault.Expression place) r ok err left = ready_left made size r (wanted r err) left
  refused_left made size (fault.UnknownType name) r ok err left = ready_left made size r (wanted r err) left
  refused_left made size (fault.UnknownParam name) r ok err left = ready_left made size r (wanted r err) left
  refused_left made size (fault.Path step) r ok err left = ready_left made size r (wanted r err) left
  refused_left made size (fault.Circular chain) r ok err left = ready_left made size r (wanted r err) left
  refused_left made size (fault.Deep chain) r ok err left = ready_left made size r (wanted r err) left
  refused_left made size fault.Memory r ok err left = ready_left made size r (wanted r err) left
  refused_left made size fault.Spawn (Ok reply) ok err left = ready_left made size (Ok reply) (λ e. cc) left
  refused_left made size fault.Spawn (Err why) ok err left = absurd err
  refused_left made size fault.Disk (Ok reply) ok err left = absurd ok
  refused_left made size fault.Disk (Err why) ok err left = record { ready = tt; spent = λ e. left }
  refused_left made size (fault.Full end most) r ok err left = ready_left made size r (full end most r err) left

  pub refused_cause : (before now : ℕ) (f : AskFault) (r : Result Reply JournalFault) → IfOk r (IsReplyToFault g f) → IfErr r (StopsWithoutReply f) → before ≤ now → asking.CountAfterAskFault before now f → JournalFaultIsCounted before now r
  refused_cause before now (fault.Expression place) r ok err later cause = same_cause before now r (wanted r err) later cause
  refused_cause before now (fault.UnknownType name) r ok err later cause = same_cause before now r (wanted r err) later cause
  refused_cause before now (fault.UnknownParam name) r ok err later cause = same_cause before now r (wanted r err) later cause
  refused_cause before now (fault.Path step) r ok err later cause = same_cause before now r (wanted r err) later cause
  refused_cause before now (fault.Circular chain) r ok err later cause = same_cause before now r (wanted r err) later cause
  refused_cause before now (fault.Deep chain) r ok err later cause = same_cause before now r (wanted r err) later cause
  refused_cause before now fault.Memory r ok err later cause = same_cause before now r (wanted r err) later cause
  refused_cause before now fault.Spawn (Ok reply) ok err later cause = same_cause before now (Ok reply) (λ e. cc) later cause
  refused_cause before now fault.Spawn (Err why) ok err later cause = absurd err
  refused_cause before now fault.Disk (Ok reply) ok err later cause = absurd ok
  refused_cause before now fault.Disk (Err why) ok err later cause = record { later = later; ok = tt; err = subst (CountAfterJournalFault before now) (sym err) cause }
  refused_cause before now (fault.Full end most) r ok err later cause = same_cause before now r (full end most r err) later cause
