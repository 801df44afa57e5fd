use Rattle.std.proofs.Common.{rules, ◌≡◌, ◌∙◌, ◌++◌, ◌∷◌, [], None, string_bytes, map, ap}
use Rattle.std.specs.Process.{child_status}
use Rattle.object_values.specs.declared.jobs.Job.{Job}
use Rattle.odin_real.specs.Logs.{fault_event, log_with}
use Rattle.odin_real.specs.Seen.{seen_of}
use Rattle.odin_real.proofs.FaultLemmas.{on_failed, start_failed, one_more_seen}
use Rattle.odin_real.proofs.tools.ChildToolsSpawner.start.Goals as goal

pub returns-in_default-clause-fails : goal.returns-in_default-clause-fails
returns-in_default-clause-fails g c = record {
  wanted = λ is. search rules;
  failed = λ can.
      let runs = c.least_free.ensures.none (search rules) can.room.0 can.room.1 in
      absurd (can.room.2 (search rules));
}

pub returns-in-Ok-clause-started : goal.returns-in-Ok-clause-started
returns-in-Ok-clause-started g c = record {
  path = string_bytes c.in-Ok.field-0.folder;
  status = child_status c.in-Ok.field-0.child;
  launched = search rules;
  runs = one_more_seen seen_of c.args.self.now.started.items c.begin.new.self.started.items c.add.new.self.started.items _ (search rules) c.add.ensures.tools
      ∙ ap (λ (job : Job). map seen_of c.args.self.now.started.items ++ (record { running = record { slot = c.in-Some.slot; job = job }; folder = string_bytes c.in-Ok.field-0.folder; status = child_status c.in-Ok.field-0.child }) ∷ []) (search rules);
}

pub returns-clause-fails : goal.returns-clause-fails
returns-clause-fails g c = record {
  wanted = search rules;
  failed = λ can.
      let happened : g.S.System.log c.begin.new.self.system ≡ log_with (g.S.System.log c.args.self.now.system) fault_event = search (rules, on_failed c.begin.result (search rules) (c.begin.ensures.fails.failed can.fits)) in
      start_failed _ c.refuse-in-Err-Failed.ensures.result (search rules);
}
