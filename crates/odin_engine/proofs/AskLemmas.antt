-- What an ask of an engine answers, by what its derivation came to.
use Rattle.std.proofs.Common.{◌≡◌, ℕ, [], length, inl, inr, refl, ap, sym, subst, arith}
use Rattle.std.specs.Prelude.{Result, Ok, Err, IfOk, IfErr}
use Rattle.object_values.specs.declared.nodes.Node.{Node}
use Rattle.object_values.specs.declared.views.View.{View}
use Rattle.odin_outside.specs.Disk.{Telling}
use Rattle.odin_outside.specs.Spawned.{Spawned}
use Rattle.meaning_graph.specs.Graphs.{Text, Graph}
use Rattle.odin_journal.specs.Rest.{IsReady}
use Rattle.odin_store.specs.declared.store.Store.{Store}
use Rattle.derive_walk.specs.declared.found.Found.{Found}
use Rattle.derive_walk.specs.declared.found.Found.TheVariants as found
use Rattle.kept_derive.specs.declared.fault.KeptFault.{KeptFault}
use Rattle.kept_derive.specs.declared.fault.KeptFault.TheVariants as stop
use Rattle.kept_derive.specs.Runs.{At, HasFound}
use Rattle.kept_derive.specs.Stops.{IsStopped}
use Rattle.kept_derive.specs.Rests.{ComesToRest, LeavesTools as LeavesKept}
use Rattle.kept_derive.specs.Faults.{StoreAfterDerive as IsKeptLeft, KeptFaultIsCounted as IsKeptCause}
use Rattle.odin_engine.specs.declared.fault.AskFault.{AskFault}
use Rattle.odin_engine.specs.declared.fault.AskFault.TheVariants as fault
use Rattle.odin_engine.specs.Asked.{IsNodeOf, IsRefusedFor}
use Rattle.odin_engine.specs.Asking.{IsAnswered, IsAskFault, answer_of, AskLeavesTools, StoreAfterAskFault, StoreAfterAsk, CountAfterAskFault, AskFaultIsCounted}

module _ {D : Type 0} (told : D → Telling) (g : Graph) (limit : ℕ) (text : Text) (node : Node) (is : IsNodeOf g text node) (old new : At D) where
  pub answered : (r : Result Found KeptFault) → IfOk r (HasFound told g node limit old new) → IfOk (answer_of r) (IsAnswered told g limit text old new)
  answered (Ok (found.Answer view)) has = record { node = node; is = is; has = has }
  answered (Ok (found.Circular chain)) has = tt
  answered (Ok (found.Deep chain)) has = tt
  answered (Err stop.Spawn) has = tt
  answered (Err stop.Disk) has = tt
  answered (Err (stop.Full end count)) has = tt
  answered (Err stop.Memory) has = tt

  pub faulted : (r : Result Found KeptFault) → IfOk r (HasFound told g node limit old new) → IfErr r (IsStopped told g node limit old new) → IfErr (answer_of r) (IsAskFault told g limit text old new)
  faulted (Ok (found.Answer view)) has stopped = tt
  faulted (Ok (found.Circular chain)) has stopped = record { node = node; is = is; has = has }
  faulted (Ok (found.Deep chain)) has stopped = record { node = node; is = is; has = has }
  faulted (Err stop.Spawn) has stopped = record { node = node; is = is; stopped = stopped }
  faulted (Err stop.Disk) has stopped = record { node = node; is = is; stopped = stopped }
  faulted (Err (stop.Full end count)) has stopped = record { node = node; is = is; stopped = stopped }
  faulted (Err stop.Memory) has stopped = inr (record { node = node; is = is; stopped = stopped })

-- ---- what is left

pub left_so : (store : Store) (size : ℕ) (r : Result Found KeptFault) → IsKeptLeft store size r → StoreAfterAsk store size (answer_of r)
left_so store size (Ok (found.Answer view)) left = record { ready = left.ready; left = tt }
left_so store size (Ok (found.Circular chain)) left = record { ready = tt; left = left.ready }
left_so store size (Ok (found.Deep chain)) left = record { ready = tt; left = left.ready }
left_so store size (Err stop.Spawn) left = record { ready = tt; left = left.left }
left_so store size (Err stop.Disk) left = record { ready = tt; left = left.left }
left_so store size (Err (stop.Full end count)) left = record { ready = tt; left = left.left }
left_so store size (Err stop.Memory) left = record { ready = tt; left = left.left }

pub cause_so : (before now : ℕ) (r : Result Found KeptFault) → IsKeptCause before now r → AskFaultIsCounted before now (answer_of r)
cause_so before now (Ok (found.Answer view)) cause = record { later = cause.later; ok = cause.ok; err = tt }
cause_so before now (Ok (found.Circular chain)) cause = record { later = cause.later; ok = tt; err = cause.ok }
cause_so before now (Ok (found.Deep chain)) cause = record { later = cause.later; ok = tt; err = cause.ok }
cause_so before now (Err stop.Spawn) cause = record { later = cause.later; ok = tt; err = cause.err }
cause_so before now (Err stop.Disk) cause = record { later = cause.later; ok = tt; err = cause.err }
cause_so before now (Err (stop.Full end count)) cause = record { later = cause.later; ok = tt; err = cause.err }
cause_so before now (Err stop.Memory) cause = record { later = cause.later; ok = tt; err = cause.err }

pub rests_so : (limit : ℕ) (before now : Spawned) (r : Result Found KeptFault) → ComesToRest LeavesKept limit before now r → ComesToRest AskLeavesTools limit before now (answer_of r)
rests_so limit before now (Ok (found.Answer view)) rest = record { answer = rest.answer; later = rest.later; few = rest.few; idle = rest.idle; left = tt }
rests_so limit before now (Ok (found.Circular chain)) rest = record { answer = rest.answer; later = rest.later; few = rest.few; idle = tt; left = λ not. rest.idle }
rests_so limit before now (Ok (found.Deep chain)) rest = record { answer = rest.answer; later = rest.later; few = rest.few; idle = tt; left = λ not. rest.idle }
rests_so limit before now (Err stop.Spawn) rest = record { answer = rest.answer; later = rest.later; few = rest.few; idle = tt; left = rest.left }
rests_so limit before now (Err stop.Disk) rest = record { answer = rest.answer; later = rest.later; few = rest.few; idle = tt; left = rest.left }
rests_so limit before now (Err (stop.Full end count)) rest = record { answer = rest.answer; later = rest.later; few = rest.few; idle = tt; left = rest.left }
rests_so limit before now (Err stop.Memory) rest = record { answer = rest.answer; later = rest.later; few = rest.few; idle = tt; left = rest.left }

-- ---- a text that asks for nothing

pub refused_so : {D : Type 0} (told : D → Telling) (g : Graph) (limit : ℕ) (text : Text) (now : At D) (given : AskFault) → IsRefusedFor g text given → IsAskFault told g limit text now now given
refused_so told g limit text now (fault.Expression place) refused = (refused, refl)
refused_so told g limit text now (fault.UnknownType name) refused = (refused, refl)
refused_so told g limit text now (fault.UnknownParam name) refused = (refused, refl)
refused_so told g limit text now (fault.Path step) refused = (refused, refl)
refused_so told g limit text now (fault.Circular chain) refused = absurd refused
refused_so told g limit text now (fault.Deep chain) refused = absurd refused
refused_so told g limit text now fault.Spawn refused = absurd refused
refused_so told g limit text now fault.Disk refused = absurd refused
refused_so told g limit text now (fault.Full end count) refused = absurd refused
refused_so told g limit text now fault.Memory refused = inl refl

refused_left : (g : Graph) (text : Text) (store : Store) (size : ℕ) (given : AskFault) → IsRefusedFor g text given → IsReady store.journal size → StoreAfterAskFault store size given
refused_left g text store size (fault.Expression place) refused ready = ready
refused_left g text store size (fault.UnknownType name) refused ready = ready
refused_left g text store size (fault.UnknownParam name) refused ready = ready
refused_left g text store size (fault.Path step) refused ready = ready
refused_left g text store size (fault.Circular chain) refused ready = ready
refused_left g text store size (fault.Deep chain) refused ready = ready
refused_left g text store size fault.Spawn refused ready = ready
refused_left g text store size fault.Disk refused ready = absurd refused
refused_left g text store size (fault.Full end count) refused ready = ready
refused_left g text store size fault.Memory refused ready = ready

refused_cause : (g : Graph) (text : Text) (count : ℕ) (given : AskFault) → IsRefusedFor g text given → CountAfterAskFault count count given
refused_cause g text count (fault.Expression place) refused = refl
refused_cause g text count (fault.UnknownType name) refused = refl
refused_cause g text count (fault.UnknownParam name) refused = refl
refused_cause g text count (fault.Path step) refused = refl
refused_cause g text count (fault.Circular chain) refused = refl
refused_cause g text count (fault.Deep chain) refused = refl
refused_cause g text count fault.Spawn refused = refl
refused_cause g text count fault.Disk refused = absurd refused
refused_cause g text count (fault.Full end count') refused = refl
refused_cause g text count fault.Memory refused = refl

-- as the answers say it
pub refused_at : {D : Type 0} (r : Result View AskFault) (told : D → Telling) (g : Graph) (limit : ℕ) (text : Text) (now : At D) (given : AskFault) → r ≡ Err given → IsRefusedFor g text given → IfErr r (IsAskFault told g limit text now now)
refused_at r told g limit text now given is refused = subst (λ z. IfErr z (IsAskFault told g limit text now now)) (sym is) (refused_so told g limit text now given refused)

pub refused_leaves : (g : Graph) (text : Text) (store : Store) (size : ℕ) (r : Result View AskFault) (given : AskFault) → r ≡ Err given → IsRefusedFor g text given → IsReady store.journal size → StoreAfterAsk store size r
refused_leaves g text store size r given is refused ready = subst (StoreAfterAsk store size) (sym is) (record { ready = tt; left = refused_left g text store size given refused ready })

pub refused_counts : (g : Graph) (text : Text) (count : ℕ) (r : Result View AskFault) (given : AskFault) → r ≡ Err given → IsRefusedFor g text given → AskFaultIsCounted count count r
refused_counts g text count r given is refused = subst (AskFaultIsCounted count count) (sym is) (record { later = omega arith; ok = tt; err = refused_cause g text count given refused })

pub refused_rests : (r : Result View AskFault) (limit : ℕ) (now : Spawned) → now.running ≡ [] → ComesToRest AskLeavesTools limit now now r
refused_rests (Ok view) limit now idle = let none = ap length idle in record { answer = refl; later = omega arith; few = omega (arith, none); idle = idle; left = tt }
refused_rests (Err given) limit now idle = let none = ap length idle in record { answer = refl; later = omega arith; few = omega (arith, none); idle = tt; left = λ not. idle }
