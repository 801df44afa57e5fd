-- Jobs and tools agree after each start and each end, whatever it answered.
use Rattle.std.proofs.Common.{◌≡◌, List, [], ◌∷◌, ◌++◌, map, inl, inr, refl, sym, ap, ◌∙◌}
use Rattle.std.specs.Prelude.{Result, Ok, Err, OnOk, OnErr, IfOk}
use Rattle.object_values.specs.declared.calls.Call.{Call}
use Rattle.object_values.specs.declared.calls.Outcome.{Outcome}
use Rattle.odin_outside.specs.declared.events.Running.{Running}
use Rattle.odin_outside.specs.Spawned.{Spawned, Fails}
use Rattle.job_runner.specs.declared.fault.JobFault.{JobFault}
use Rattle.job_runner.specs.declared.fault.JobFault.TheVariants.{Spawn, Memory}
use Rattle.job_runner.specs.Flights.{flying, tool_of, AreTold, InFlight, HasBegun, HasEnded, HasLost, MayHaveEnded}
use Rattle.job_runner.proofs.ListLemmas.{told_one_more}

module _ (old : InFlight) (before : Spawned) (told : AreTold old.running before) (new : InFlight) (now : Spawned) where
  same_told : new ≡ old → now.running ≡ before.running → AreTold new.running now
  same_told same running = running ∙ told ∙ ap (λ (z : InFlight). map tool_of z.running) (sym same)

  pub begun_told : (call : Call) → HasBegun call old before new now → AreTold new.running now
  begun_told call begun =
      ap (λ (z : Spawned). z.running) begun.told ∙ ap (λ (l : List Running). l ++ tool_of (flying begun.slot call) ∷ []) told
      ∙ sym (told_one_more old.running (flying begun.slot call)) ∙ ap (λ (z : InFlight). map tool_of z.running) (sym begun.is)

  pub start_told : {T : Type 0} (result : Result T JobFault) (call : Call) → OnOk result (HasBegun call old before new now) → OnErr result (new ≡ old) → (result ≡ Err Spawn → Fails before now)
      → (result ≡ Err Memory → now ≡ before) → AreTold new.running now
  start_told (Ok done) call begun same failed wanted = begun_told call begun
  start_told (Err Spawn) call begun same failed wanted = same_told same (ap (λ (z : Spawned). z.running) (failed refl).is)
  start_told (Err Memory) call begun same failed wanted = same_told same (ap (λ (z : Spawned). z.running) (wanted refl))

  pub finish_told : (result : Result (Call × Outcome) JobFault) → IfOk result (λ end. HasEnded end.0 end.1 old before new now) → (result ≡ Err Spawn → HasLost old before new now)
      → (result ≡ Err Memory → MayHaveEnded old before new now) → AreTold new.running now
  finish_told (Ok end) ended lost wanted = ap (λ (z : Spawned). z.running) ended.told
  finish_told (Err Spawn) ended lost wanted = ap (λ (z : Spawned). z.running) (lost refl).told
  finish_told (Err Memory) ended lost wanted = elim (wanted refl) [
    | inl same ↦ same_told same.0 (ap (λ (z : Spawned). z.running) same.1)
    | inr given_up ↦ ap (λ (z : Spawned). z.running) given_up.ended.told
  ]
