use Rattle.std.proofs.Common.{◌≡◌, take, map}
use Rattle.serde_json.specs.View.{view}
use Rattle.build_view.specs.Traces.{event_of}
use Rattle.build_view.proofs.traces.events_of.Given as goal

abbrev pub invariant-loop-run : goal.invariant-loop-run
invariant-loop-run l = map view l.events.items ≡ map event_of (take l.run-index l.runs)
