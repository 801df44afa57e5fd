use Rattle.std.proofs.Common.{◌≡◌, Option, ap, map, sym, subst, ◌∙◌, codes, Ok}
use Rattle.std.proofs.lemmas.Result.{err_from_is_err_and}
use Rattle.toml.specs.Data.{Data, get_member}
use Rattle.toml.specs.View.{table_view}
use Rattle.toml.proofs.Views.{table_get}
use Rattle.project_file.specs.Refusals.{Refuses}
use Rattle.project_file.proofs.Lemmas.{bound, refused_first, refused_then}
use Rattle.project_kits.specs.Settings.{all_settings}
use Rattle.project_kits.specs.Units.{all_units}
use Rattle.project_kits.specs.Wanted.{own_graph, own_sources, own_targets}
use Rattle.project_kits.proofs.reading.read_wanted.Goals as goal

pub returns-in_err-graph : goal.returns-in_err-graph
returns-in_err-graph c =
    let keys = table_view c.args.keys.now in
    let found = table_get c.get.result (codes "graph") c.args.keys.now.entries c.get.ensures.value in
    let p = err_from_is_err_and c.from_residual.result c.from_residual.ensures.1 in
    let why = subst (λ (f : Option Data). Refuses (own_graph f) c.in_err-graph.field-0.0) found c.in_err-graph.ensures in
    rw (p.1, p.2) (refused_first (own_graph (get_member (codes "graph") keys)) _ c.in_err-graph.field-0.0 why)

pub returns-in_err-sources : goal.returns-in_err-sources
returns-in_err-sources c =
    let keys = table_view c.args.keys.now in
    let there = table_get c.get.result (codes "graph") c.args.keys.now.entries c.get.ensures.value in
    let found = table_get c.get-2.result (codes "sources") c.args.keys.now.entries c.get-2.ensures.value in
    let p = err_from_is_err_and c.from_residual-in_err-sources.result c.from_residual-in_err-sources.ensures.1 in
    let first : own_graph (get_member (codes "graph") keys) ≡ Ok c.in_ok-graph.graph = ap own_graph (sym there) ∙ c.in_ok-graph.ensures in
    let why = subst (λ (f : Option Data). Refuses (own_sources f) c.in_err-sources.field-0.0) found c.in_err-sources.ensures in
    rw (p.1, p.2)
    (refused_then (own_graph (get_member (codes "graph") keys)) c.in_ok-graph.graph _ c.in_err-sources.field-0.0 first
    (refused_first (own_sources (get_member (codes "sources") keys)) _ c.in_err-sources.field-0.0 why))

pub returns-in_err-targets : goal.returns-in_err-targets
returns-in_err-targets c =
    let keys = table_view c.args.keys.now in
    let there = table_get c.get.result (codes "graph") c.args.keys.now.entries c.get.ensures.value in
    let listed = table_get c.get-2.result (codes "sources") c.args.keys.now.entries c.get-2.ensures.value in
    let found = table_get c.get-3.result (codes "target") c.args.keys.now.entries c.get-3.ensures.value in
    let p = err_from_is_err_and c.from_residual-in_err-targets.result c.from_residual-in_err-targets.ensures.1 in
    let first : own_graph (get_member (codes "graph") keys) ≡ Ok c.in_ok-graph.graph = ap own_graph (sym there) ∙ c.in_ok-graph.ensures in
    let second : own_sources (get_member (codes "sources") keys) ≡ Ok c.in_ok-sources.sources = ap own_sources (sym listed) ∙ c.in_ok-sources.ensures in
    let why = subst (λ (f : Option Data). Refuses (own_targets f) c.in_err-targets.field-0.0) found c.in_err-targets.ensures in
    rw (p.1, p.2)
    (refused_then (own_graph (get_member (codes "graph") keys)) c.in_ok-graph.graph _ c.in_err-targets.field-0.0 first
    (refused_then (own_sources (get_member (codes "sources") keys)) c.in_ok-sources.sources _ c.in_err-targets.field-0.0 second
    (refused_first (own_targets (get_member (codes "target") keys)) _ c.in_err-targets.field-0.0 why)))

pub returns-in_err-units : goal.returns-in_err-units
returns-in_err-units c =
    let keys = table_view c.args.keys.now in
    let kits = map (λ kit. kit.now) c.args.kits.now in
    let there = table_get c.get.result (codes "graph") c.args.keys.now.entries c.get.ensures.value in
    let listed = table_get c.get-2.result (codes "sources") c.args.keys.now.entries c.get-2.ensures.value in
    let found = table_get c.get-3.result (codes "target") c.args.keys.now.entries c.get-3.ensures.value in
    let p = err_from_is_err_and c.from_residual-in_err-units.result c.from_residual-in_err-units.ensures.1 in
    let first : own_graph (get_member (codes "graph") keys) ≡ Ok c.in_ok-graph.graph = ap own_graph (sym there) ∙ c.in_ok-graph.ensures in
    let second : own_sources (get_member (codes "sources") keys) ≡ Ok c.in_ok-sources.sources = ap own_sources (sym listed) ∙ c.in_ok-sources.ensures in
    let third : own_targets (get_member (codes "target") keys) ≡ Ok c.in_ok-targets.targets = ap own_targets (sym found) ∙ c.in_ok-targets.ensures in
    rw (p.1, p.2)
    (refused_then (own_graph (get_member (codes "graph") keys)) c.in_ok-graph.graph _ c.in_err-units.field-0.0 first
    (refused_then (own_sources (get_member (codes "sources") keys)) c.in_ok-sources.sources _ c.in_err-units.field-0.0 second
    (refused_then (own_targets (get_member (codes "target") keys)) c.in_ok-targets.targets _ c.in_err-units.field-0.0 third
    (refused_first (all_units kits keys) _ c.in_err-units.field-0.0 c.in_err-units.ensures))))

pub returns-in_err-settings : goal.returns-in_err-settings
returns-in_err-settings c =
    let keys = table_view c.args.keys.now in
    let kits = map (λ kit. kit.now) c.args.kits.now in
    let there = table_get c.get.result (codes "graph") c.args.keys.now.entries c.get.ensures.value in
    let listed = table_get c.get-2.result (codes "sources") c.args.keys.now.entries c.get-2.ensures.value in
    let found = table_get c.get-3.result (codes "target") c.args.keys.now.entries c.get-3.ensures.value in
    let p = err_from_is_err_and c.from_residual-in_err-settings.result c.from_residual-in_err-settings.ensures.1 in
    let first : own_graph (get_member (codes "graph") keys) ≡ Ok c.in_ok-graph.graph = ap own_graph (sym there) ∙ c.in_ok-graph.ensures in
    let second : own_sources (get_member (codes "sources") keys) ≡ Ok c.in_ok-sources.sources = ap own_sources (sym listed) ∙ c.in_ok-sources.ensures in
    let third : own_targets (get_member (codes "target") keys) ≡ Ok c.in_ok-targets.targets = ap own_targets (sym found) ∙ c.in_ok-targets.ensures in
    rw (p.1, p.2)
    (refused_then (own_graph (get_member (codes "graph") keys)) c.in_ok-graph.graph _ c.in_err-settings.field-0.0 first
    (refused_then (own_sources (get_member (codes "sources") keys)) c.in_ok-sources.sources _ c.in_err-settings.field-0.0 second
    (refused_then (own_targets (get_member (codes "target") keys)) c.in_ok-targets.targets _ c.in_err-settings.field-0.0 third
    (refused_then (all_units kits keys) c.in_ok-units.units _ c.in_err-settings.field-0.0 c.in_ok-units.ensures
    (refused_first (all_settings kits keys) _ c.in_err-settings.field-0.0 c.in_err-settings.ensures)))))

pub returns : goal.returns
returns c =
    let keys = table_view c.args.keys.now in
    let kits = map (λ kit. kit.now) c.args.kits.now in
    let there = table_get c.get.result (codes "graph") c.args.keys.now.entries c.get.ensures.value in
    let listed = table_get c.get-2.result (codes "sources") c.args.keys.now.entries c.get-2.ensures.value in
    let found = table_get c.get-3.result (codes "target") c.args.keys.now.entries c.get-3.ensures.value in
    let first : own_graph (get_member (codes "graph") keys) ≡ Ok c.in_ok-graph.graph = ap own_graph (sym there) ∙ c.in_ok-graph.ensures in
    let second : own_sources (get_member (codes "sources") keys) ≡ Ok c.in_ok-sources.sources = ap own_sources (sym listed) ∙ c.in_ok-sources.ensures in
    let third : own_targets (get_member (codes "target") keys) ≡ Ok c.in_ok-targets.targets = ap own_targets (sym found) ∙ c.in_ok-targets.ensures in
    bound (own_graph (get_member (codes "graph") keys)) c.in_ok-graph.graph _ first
    ∙ bound (own_sources (get_member (codes "sources") keys)) c.in_ok-sources.sources _ second
    ∙ bound (own_targets (get_member (codes "target") keys)) c.in_ok-targets.targets _ third
    ∙ bound (all_units kits keys) c.in_ok-units.units _ c.in_ok-units.ensures
    ∙ bound (all_settings kits keys) c.in_ok-settings.settings _ c.in_ok-settings.ensures
