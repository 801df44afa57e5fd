-- One end of a call, and what comes of it.
use Rattle.std.proofs.Common.{◌≡◌, ◌≢◌, ◌↔◌, ◌<◌, ◌≤◌, ◌+◌, ◌++◌, ◌∷◌, List, [], ℕ, zero, suc, get_or, Bool, true, false, cond, length, inl, inr, refl, sym, ap, subst, arith, length-append, ◌∙◌}
use Rattle.std.specs.Prelude.{Some, None, Result, Ok, Err, IfErr, IsTrue, take}
use Rattle.object_values.specs.declared.calls.Call.{Call}
use Rattle.object_values.specs.declared.calls.Outcome.{Outcome}
use Rattle.object_values.specs.contracts.calls.CallPartialEq.TheImpl.{ghosts as call_eq}
use Rattle.object_values.specs.Exact.{call_exact}
use Rattle.odin_outside.specs.Disk.{Telling}
use Rattle.odin_outside.specs.Spawned.{Spawned}
use Rattle.meaning_texts.specs.Lists.{IsIn}
use Rattle.meaning_records.specs.Tables.{Calls, Tables, kept_outcome}
use Rattle.odin_journal.specs.declared.fault.JournalFault.{JournalFault}
use Rattle.odin_journal.specs.declared.fault.JournalFault.TheVariants as store
use Rattle.odin_journal.specs.Faults.{IsRefused, JournalFaultIsCounted as IsStoreCause}
use Rattle.odin_journal.specs.Rest.{IsReady}
use Rattle.odin_store.specs.declared.store.Store.{Store}
use Rattle.odin_store.specs.Held.{keeps}
use Rattle.odin_store.specs.OnDisk.{IsSame, StoreAfter as IsStoreLeft}
use Rattle.odin_store.specs.Edited.{HasFailed}
use Rattle.derive_walk.specs.Calls.{AreOnce}
use Rattle.derive_walk.specs.Walks.{Walked}
use Rattle.job_runner.specs.Flights.{InFlight, flying, calls_in, AreDistinct, IsOut, HasEnded}
use Rattle.job_runner.proofs.Lemmas.{distinct_less, calls_both, calls_cut, call_there, call_before, call_is_out}
use Rattle.plain_derive.proofs.Lemmas.{last_or}
use Rattle.kept_derive.specs.declared.fault.KeptFault.{KeptFault}
use Rattle.kept_derive.specs.declared.landing.Landed.{Landed}
use Rattle.kept_derive.specs.declared.landing.Landed.TheVariants.{Kept, Lost}
use Rattle.kept_derive.specs.Calls.{IsKeepable, MayDrain, HasLanded, HasCrashed, Lands, FailsToLand}
use Rattle.kept_derive.specs.Faults.{of_store, StoreAfterKeptFault, StoreAfterDerive, CountAfterKeptFault, KeptFaultIsCounted}
use Rattle.kept_derive.specs.Runs.{At}
use Rattle.kept_derive.proofs.HeldLemmas.{calls_after}

-- nothing happened to a store and its disk
pub same_here : {D : Type 0} (store : Store) (disk : D) → IsSame store store disk disk
same_here store disk = record { disk_is = refl; store_is = record { journal = refl; tables = refl; sources = refl; graph = refl; epoch = refl }; nodes = refl }

-- ---- the first that doesn't run

pub room_left : (full : Bool) (running limit : ℕ) → running ≤ limit → (IsTrue full ↔ (running ≡ limit)) → full ≡ false → running < limit
room_left full running limit few exact is = let apart : running ≢ limit = λ e. let yes : full ≡ true = exact.1 e in cc in omega (arith, few, apart)

pub item_in : (xs : List Call) (k : ℕ) (x : Call) → k < length xs → x ≡ get_or xs k x → IsIn x xs
item_in [] k x inside at = absurd (omega (arith, inside))
item_in (y ∷ xs) zero x inside at = inl at
item_in (y ∷ xs) (suc k) x inside at = inr (item_in xs k x (omega (arith, inside)) at)

-- what holds of the first ones, and of the next
all_further : (P : Call → Type 0) (xs : List Call) (k : ℕ) (x : Call) → k < length xs → x ≡ get_or xs k x → P x → ((y : Call) → IsIn y (take k xs) → P y) → (y : Call) → IsIn y (take (suc k) xs) → P y
all_further P [] k x inside at here before y i = absurd (omega (arith, inside))
all_further P (z ∷ xs) zero x inside at here before y (inl e) = subst P (at ∙ sym e) here
all_further P (z ∷ xs) zero x inside at here before y (inr i) = absurd i
all_further P (z ∷ xs) (suc k) x inside at here before y (inl e) = before y (inl e)
all_further P (z ∷ xs) (suc k) x inside at here before y (inr i) = all_further P xs k x (omega (arith, inside)) at here (λ w j. before w (inr j)) y i

pub all_on : (P : Call → Type 0) (xs : List Call) (k : ℕ) (x : Call) → k < length xs → x ≡ get_or xs k x → P x → ((y : Call) → IsIn y (take k xs) → P y) → (y : Call) → IsIn y (take (k + 1) xs) → P y
all_on P xs k x inside at here before = let e : suc k ≡ k + 1 = omega arith in subst (λ m. (y : Call) → IsIn y (take m xs) → P y) e (all_further P xs k x inside at here before)

pub in_taken : (xs : List Call) (k : ℕ) → length xs ≤ k → (y : Call) → IsIn y xs → IsIn y (take k xs)
in_taken [] k all y i = absurd i
in_taken (z ∷ xs) zero all y i = absurd (omega (arith, all))
in_taken (z ∷ xs) (suc k) all y (inl e) = inl e
in_taken (z ∷ xs) (suc k) all y (inr i) = inr (in_taken xs k (omega (arith, all)) y i)

-- ---- one that is out

module _ (slot : ℕ) (call : Call) (jobs jobs' : InFlight) (out : IsOut slot call jobs jobs') where
  -- those that are left
  pub out_rest : jobs'.running ≡ out.front ++ out.back
  out_rest = ap (λ (z : InFlight). z.running) out.is

  pub out_limit : jobs'.limit ≡ jobs.limit
  out_limit = ap (λ (z : InFlight). z.limit) out.is

  pub out_ran : IsIn call (calls_in jobs.running)
  out_ran = subst (λ l. IsIn call (calls_in l)) (sym out.was) (call_there slot call out.front out.back)

  pub out_fewer : length jobs.running ≡ length jobs'.running + 1
  out_fewer = omega (arith, ap length out.was, ap length out_rest, length-append out.front (flying slot call ∷ out.back), length-append out.front out.back)

  -- What runs still ran before, and is another call.
  pub out_before : (c : Call) → IsIn c (calls_in jobs'.running) → IsIn c (calls_in jobs.running)
  out_before c i = subst (λ l. IsIn c (calls_in l)) (sym out.was) (call_before out.front out.back (flying slot call) c (subst (λ l. IsIn c (calls_in l)) out_rest i))

  pub out_other : AreDistinct (calls_in jobs.running) → (c : Call) → IsIn c (calls_in jobs'.running) → c ≢ call
  out_other apart c i e =
      let all = subst (λ l. AreDistinct (calls_in l)) out.was apart in
      call_is_out out.front out.back (flying slot call) all (subst (λ z. IsIn z (calls_in (out.front ++ out.back))) e (subst (λ l. IsIn c (calls_in l)) out_rest i))

  pub out_apart : AreDistinct (calls_in jobs.running) → AreDistinct (calls_in jobs'.running)
  out_apart apart =
      let all = subst (λ l. AreDistinct (calls_in l)) out.was apart in
      let less = distinct_less (calls_in out.front) (calls_in out.back) call (subst AreDistinct (calls_cut out.front out.back (flying slot call)) all) in
      subst (λ l. AreDistinct (calls_in l)) (sym out_rest) (subst AreDistinct (sym (calls_both out.front out.back)) less)

-- ---- what may be kept next

differs : (c call : Call) → c ≢ call → call_eq.eq c call ≡ false
differs c call apart = by_test (call_eq.eq c call) refl
  where
    by_test : (b : Bool) → call_eq.eq c call ≡ b → call_eq.eq c call ≡ false
    by_test true e = absurd (apart ((call_exact c call).0 e))
    by_test false e = e

module _ {D : Type 0} (told : D → Telling) (walked : Walked) (jobs : InFlight) (old : At D) (walked' : Walked) (jobs' : InFlight) (new : At D) (size next : ℕ) (may : MayDrain walked jobs old.store size old.tools) where
  -- Another call that may be kept may be so still.
  still_keepable : (has : HasLanded told walked jobs old walked' jobs' new) (c : Call) → IsKeepable old.store c → c ≢ has.call → IsKeepable new.store c
  still_keepable has c keepable apart = record {
    formed = keepable.formed;
    new =
        let calls : new.store.kept.tables.calls ≡ old.store.kept.tables.calls ++ (has.call, has.outcome) ∷ [] = calls_after told ((has.call, has.outcome) ∷ []) old.store new.store old.disk new.disk has.goes in
        ap (λ (l : Calls). kept_outcome l c) calls ∙ last_or old.store.kept.tables.calls has.call has.outcome c keepable.new ∙ ap (λ b. cond b (Some has.outcome) None) (differs c has.call apart);
  }

  drains_on : HasLanded told walked jobs old walked' jobs' new → IsReady new.store.journal next → MayDrain walked' jobs' new.store next new.tools
  drains_on has ready =
      let before = out_before has.ended.slot has.call jobs jobs' has.ended.out in
      let other = out_other has.ended.slot has.call jobs jobs' has.ended.out may.apart in
      record {
        told = ap (λ (z : Spawned). z.running) has.ended.told;
        apart = out_apart has.ended.slot has.call jobs jobs' has.ended.out may.apart;
        once = has.given.once;
        wanted = λ c i. (has.given.wanted c).1 (may.wanted c (before c i), other c i);
        keepable = λ c i. still_keepable has c (may.keepable c (before c i)) (other c i);
        ready = ready;
      }

  drains_past : HasCrashed told walked jobs old walked' jobs' new → IsReady new.store.journal next → MayDrain walked' jobs' new.store next new.tools
  drains_past has ready =
      let before = out_before has.lost.slot has.lost.call jobs jobs' has.lost.out in
      record {
        told = ap (λ (z : Spawned). z.running) has.lost.told;
        apart = out_apart has.lost.slot has.lost.call jobs jobs' has.lost.out may.apart;
        once = subst (λ (z : Walked). AreOnce z.wanted) (sym has.walk) may.once;
        wanted = λ c i. subst (λ (z : Walked). IsIn c z.wanted) (sym has.walk) (may.wanted c (before c i));
        keepable = λ c i.
            let was = may.keepable c (before c i) in
            record { formed = was.formed; new = ap (λ (t : Tables). kept_outcome t.calls c) has.same.store_is.tables ∙ was.new };
        ready = ready;
      }

  -- ---- whether its end was lost or not

  pub drains_more : (landed : Landed) → Lands told walked jobs old walked' jobs' new landed → IsReady new.store.journal next → MayDrain walked' jobs' new.store next new.tools
  drains_more Kept has ready = drains_on has ready
  drains_more Lost has ready = drains_past has ready

  pub same_found : (landed : Landed) → Lands told walked jobs old walked' jobs' new landed → walked'.result ≡ walked.result
  same_found Kept has = has.given.result
  same_found Lost has = ap (λ (z : Walked). z.result) has.walk

  pub one_fewer : (landed : Landed) → Lands told walked jobs old walked' jobs' new landed → length jobs.running ≡ length jobs'.running + 1
  one_fewer Kept has = out_fewer has.ended.slot has.call jobs jobs' has.ended.out
  one_fewer Lost has = out_fewer has.lost.slot has.lost.call jobs jobs' has.lost.out

pub kept_is : {D : Type 0} (told : D → Telling) (walked : Walked) (jobs : InFlight) (old : At D) (walked' : Walked) (jobs' : InFlight) (new : At D) (landed : Landed)
    → landed ≡ Kept → Lands told walked jobs old walked' jobs' new landed → HasLanded told walked jobs old walked' jobs' new
kept_is told walked jobs old walked' jobs' new landed is has = subst (Lands told walked jobs old walked' jobs' new) is has

pub lost_is : {D : Type 0} (told : D → Telling) (walked : Walked) (jobs : InFlight) (old : At D) (walked' : Walked) (jobs' : InFlight) (new : At D) (landed : Landed)
    → landed ≡ Lost → Lands told walked jobs old walked' jobs' new landed → HasCrashed told walked jobs old walked' jobs' new
lost_is told walked jobs old walked' jobs' new landed is has = subst (Lands told walked jobs old walked' jobs' new) is has

-- ---- an outcome that is not kept

pub unkept : {D : Type 0} (told : D → Telling) (walked : Walked) (jobs : InFlight) (old : At D) (walked' : Walked) (jobs' : InFlight) (new : At D) (call : Call) (outcome : Outcome) (fault : JournalFault)
    → HasEnded call outcome jobs old.tools jobs' new.tools → HasFailed told (keeps call outcome) old.store new.store old.disk new.disk fault → FailsToLand told walked jobs old walked' jobs' new (of_store fault)
unkept told walked jobs old walked' jobs' new call outcome store.Disk ended failed = record { call = call; outcome = outcome; ended = ended; failed = failed }
unkept told walked jobs old walked' jobs' new call outcome (store.NotOurs place) ended failed = absurd failed
unkept told walked jobs old walked' jobs' new call outcome (store.Full end count) ended failed = record { call = call; outcome = outcome; ended = ended; failed = failed }
unkept told walked jobs old walked' jobs' new call outcome store.Memory ended failed = inl (record { may = inr (record { call = call; outcome = outcome; ended = ended }); same = failed })

-- a fault that is not the disk's
pub refused_but : (T : Type 0) (fault : JournalFault) → fault ≢ store.Disk → IsRefused {T = T} (Err fault)
refused_but T store.Disk apart = absurd (apart refl)
refused_but T (store.NotOurs place) apart = tt
refused_but T (store.Full end count) apart = tt
refused_but T store.Memory apart = tt

-- ---- what is left

pub still_ready : {D : Type 0} (size_of : D → ℕ) (store next : Store) (disk after : D) → IsReady store.journal (size_of disk) → IsSame store next disk after → IsReady next.journal (size_of after)
still_ready size_of store next disk after ready same = subst (λ j. IsReady j (size_of after)) (sym same.store_is.journal) (subst (λ d. IsReady store.journal (size_of d)) (sym same.disk_is) ready)

pub unkept_left : {D T : Type 0} (size_of : D → ℕ) (fault : JournalFault) (store next : Store) (disk after : D) → IsReady store.journal (size_of disk) → (IsRefused {T = T} (Err fault) → IsSame store next disk after)
    → IsStoreLeft {T = T} next (size_of after) (Err fault) → StoreAfterKeptFault next (size_of after) (of_store fault)
unkept_left size_of store.Disk store next disk after ready same left = left.spent refl
unkept_left size_of (store.NotOurs place) store next disk after ready same left = still_ready size_of store next disk after ready (same tt)
unkept_left size_of (store.Full end count) store next disk after ready same left = still_ready size_of store next disk after ready (same tt)
unkept_left size_of store.Memory store next disk after ready same left = still_ready size_of store next disk after ready (same tt)

-- ---- the count of the disk's faults

cause_of : {T : Type 0} (fault : JournalFault) (before now : ℕ) → IsStoreCause {T = T} before now (Err fault) → CountAfterKeptFault before now (of_store fault)
cause_of store.Disk before now cause = cause.err
cause_of (store.NotOurs place) before now cause = cause.err
cause_of (store.Full end count) before now cause = cause.err
cause_of store.Memory before now cause = cause.err

pub store_cause : {T V : Type 0} (result : Result T KeptFault) (fault : JournalFault) (before now : ℕ) → result ≡ Err (of_store fault) → IsStoreCause {T = V} before now (Err fault) → KeptFaultIsCounted before now result
store_cause result fault before now is cause = subst (KeptFaultIsCounted before now) (sym is) (record { later = cause.later; ok = tt; err = cause_of fault before now cause })

-- ---- as the answers say it

pub left_by : {T : Type 0} (result : Result T KeptFault) (fault : KeptFault) (store : Store) (size : ℕ) → result ≡ Err fault → StoreAfterKeptFault store size fault → StoreAfterDerive store size result
left_by result fault store size is left = subst (StoreAfterDerive store size) (sym is) (record { ready = tt; left = left })

-- an answer leaves a store ready that is one that was, on a disk of that size
pub ready_by : {T : Type 0} (value : T) (store was : Store) (size before : ℕ) → store ≡ was → size ≡ before → IsReady was.journal before → StoreAfterDerive {T = T} store size (Ok value)
ready_by value store was size before same sized ready = record {
  ready = subst (λ n. IsReady store.journal n) (sym sized) (subst (λ (s : Store). IsReady s.journal before) (sym same) ready);
  left = tt;
}

pub fails_at : {T D : Type 0} (result : Result T KeptFault) (told : D → Telling) (walked : Walked) (jobs : InFlight) (old : At D) (walked' : Walked) (jobs' : InFlight) (new : At D) (fault : KeptFault)
    → result ≡ Err fault → FailsToLand told walked jobs old walked' jobs' new fault → IfErr result (FailsToLand told walked jobs old walked' jobs' new)
fails_at result told walked jobs old walked' jobs' new fault is fails = subst (λ r. IfErr r (FailsToLand told walked jobs old walked' jobs' new)) (sym is) fails
