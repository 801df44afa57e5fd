use Rattle.kept_tables.specs.Live.{live_in}
use Rattle.kept_tables.proofs.LiveLemmas.{all_live}
use Rattle.kept_tables.proofs.kept.Kept.live_batches.Goals as goal

pub returns-clause-live : goal.returns-clause-live
returns-clause-live c =
    all_live (live_in c.args.graph.now c.args.sources.now.texts c.args.self.now) c.in_ok-live.live c.add_sources.new.self c.add_calls.new.live c.add_records.new.live
    c.in_ok-live.ensures.added c.in_ok-live.ensures.batches c.in_ok-add_sources.ensures c.in_ok-add_calls.ensures c.in_ok-notes.ensures.added
