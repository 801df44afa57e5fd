-- What an ask of an engine leaves of its store, whatever it answers.
use Rattle.std.proofs.Common.{◌≡◌, ◌≢◌, ℕ, [], inl, inr, refl, sym, subst}
use Rattle.object_values.specs.declared.views.View.{View}
use Rattle.odin_outside.specs.Disk.{Telling}
use Rattle.meaning_graph.specs.Graphs.{Text, Graph}
use Rattle.odin_store.specs.OnDisk.{IsSame}
use Rattle.odin_store.specs.Going.{ChangesFollow}
use Rattle.kept_derive.specs.declared.fault.KeptFault.TheVariants as stop
use Rattle.kept_derive.specs.Runs.{At}
use Rattle.kept_derive.specs.StopLaws.{KeepsResults, StopsInResults}
use Rattle.kept_derive.proofs.Lemmas.{stops_keep, disk_stops}
use Rattle.odin_engine.specs.declared.fault.AskFault.{AskFault}
use Rattle.odin_engine.specs.declared.fault.AskFault.TheVariants as fault
use Rattle.odin_engine.specs.Asking.{IsAnswered, IsAskFault}

module _ {D : Type 0} (told : D → Telling) (g : Graph) (limit : ℕ) (text : Text) (old new : At D) where
  nothing_kept : ChangesFollow told → new ≡ old → KeepsResults told old new
  nothing_kept follow same =
      let here : IsSame old.store old.store old.disk old.disk = record { disk_is = refl; store_is = record { journal = refl; tables = refl; sources = refl; graph = refl; epoch = refl }; nodes = refl } in
      subst (KeepsResults told old) (sym same) (record { given = []; noted = []; goes = follow.none old.store old.store old.disk old.disk here; epoch = refl })

  pub answers_keep : (view : View) → IsAnswered told g limit text old new view → KeepsResults told old new
  answers_keep view answered = record { given = answered.has.given; noted = answered.has.noted; goes = answered.has.goes; epoch = answered.has.epoch }

  pub faults_keep : ChangesFollow told → (given : AskFault) → given ≢ fault.Disk → IsAskFault told g limit text old new given → KeepsResults told old new
  faults_keep follow (fault.Expression place) apart so = nothing_kept follow so.1
  faults_keep follow (fault.UnknownType name) apart so = nothing_kept follow so.1
  faults_keep follow (fault.UnknownParam name) apart so = nothing_kept follow so.1
  faults_keep follow (fault.Path step) apart so = nothing_kept follow so.1
  faults_keep follow (fault.Circular chain) apart so = record { given = so.has.given; noted = so.has.noted; goes = so.has.goes; epoch = so.has.epoch }
  faults_keep follow (fault.Deep chain) apart so = record { given = so.has.given; noted = so.has.noted; goes = so.has.goes; epoch = so.has.epoch }
  faults_keep follow fault.Spawn apart so = stops_keep told g so.node limit old new follow stop.Spawn (λ e. cc) so.stopped
  faults_keep follow fault.Disk apart so = absurd (apart refl)
  faults_keep follow (fault.Full end count) apart so = stops_keep told g so.node limit old new follow (stop.Full end count) (λ e. cc) so.stopped
  faults_keep follow fault.Memory apart (inl same) = nothing_kept follow same
  faults_keep follow fault.Memory apart (inr so) = stops_keep told g so.node limit old new follow stop.Memory (λ e. cc) so.stopped

  pub disk_stops_ask : IsAskFault told g limit text old new fault.Disk → StopsInResults told old new
  disk_stops_ask so = disk_stops told g so.node limit old new so.stopped
