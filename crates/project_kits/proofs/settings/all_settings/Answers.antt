use Rattle.toml.specs.View.{table_view}
use Rattle.project_kits.proofs.ReadLemmas.{settings_read}
use Rattle.project_kits.proofs.settings.all_settings.Goals as goal

pub loop-kit-preserved : goal.loop-kit-preserved
loop-kit-preserved c =
    settings_read c.args.kits.now c.loop-kit.kit-index _ (table_view c.args.keys.now) c.loop-kit.read c.in_ok-read.read _ c.loop-kit-test.true
    c.in_ok-read.ensures c.loop-kit.invariant
