use Rattle.std.proofs.Common.{◌≡◌, Option, ap, sym, subst, ◌∙◌, codes, Ok}
use Rattle.std.proofs.lemmas.Result.{err_from_is_err_and}
use Rattle.toml.specs.Data.{Data, get_member}
use Rattle.toml.specs.View.{table_view}
use Rattle.toml.proofs.Views.{table_get}
use Rattle.project_file.specs.Projects.{graph_of, sources_of, targets_of}
use Rattle.project_file.specs.Refusals.{Refuses}
use Rattle.project_file.proofs.ReadLemmas.{bound, refused_first, refused_then}
use Rattle.project_file.proofs.document.project_with.Goals as goal

pub returns-in_err-graph : goal.returns-in_err-graph
returns-in_err-graph c =
    let keys = table_view c.args.keys.now in
    let found = table_get c.get.result (codes "graph") c.args.keys.now.entries c.get.ensures.value in
    let p = err_from_is_err_and c.from_residual.result c.from_residual.ensures.1 in
    let why = subst (λ (f : Option Data). Refuses (graph_of f) c.in_err-graph.field-0.0) found c.in_err-graph.ensures in
    rw (p.1, p.2) (refused_first (graph_of (get_member (codes "graph") keys)) _ c.in_err-graph.field-0.0 why)

pub returns-in_err-sources : goal.returns-in_err-sources
returns-in_err-sources c =
    let keys = table_view c.args.keys.now in
    let there = table_get c.get.result (codes "graph") c.args.keys.now.entries c.get.ensures.value in
    let found = table_get c.get-2.result (codes "sources") c.args.keys.now.entries c.get-2.ensures.value in
    let p = err_from_is_err_and c.from_residual-in_err-sources.result c.from_residual-in_err-sources.ensures.1 in
    let first : graph_of (get_member (codes "graph") keys) ≡ Ok c.in_ok-graph.graph = ap graph_of (sym there) ∙ c.in_ok-graph.ensures in
    let why = subst (λ (f : Option Data). Refuses (sources_of f) c.in_err-sources.field-0.0) found c.in_err-sources.ensures in
    rw (p.1, p.2)
    (refused_then (graph_of (get_member (codes "graph") keys)) c.in_ok-graph.graph _ c.in_err-sources.field-0.0 first
    (refused_first (sources_of (get_member (codes "sources") keys)) _ c.in_err-sources.field-0.0 why))

pub returns-in_err-targets : goal.returns-in_err-targets
returns-in_err-targets c =
    let keys = table_view c.args.keys.now in
    let there = table_get c.get.result (codes "graph") c.args.keys.now.entries c.get.ensures.value in
    let listed = table_get c.get-2.result (codes "sources") c.args.keys.now.entries c.get-2.ensures.value in
    let found = table_get c.get-3.result (codes "target") c.args.keys.now.entries c.get-3.ensures.value in
    let p = err_from_is_err_and c.from_residual-in_err-targets.result c.from_residual-in_err-targets.ensures.1 in
    let first : graph_of (get_member (codes "graph") keys) ≡ Ok c.in_ok-graph.graph = ap graph_of (sym there) ∙ c.in_ok-graph.ensures in
    let second : sources_of (get_member (codes "sources") keys) ≡ Ok c.in_ok-sources.sources = ap sources_of (sym listed) ∙ c.in_ok-sources.ensures in
    let why = subst (λ (f : Option Data). Refuses (targets_of f) c.in_err-targets.field-0.0) found c.in_err-targets.ensures in
    rw (p.1, p.2)
    (refused_then (graph_of (get_member (codes "graph") keys)) c.in_ok-graph.graph _ c.in_err-targets.field-0.0 first
    (refused_then (sources_of (get_member (codes "sources") keys)) c.in_ok-sources.sources _ c.in_err-targets.field-0.0 second
    (refused_first (targets_of (get_member (codes "target") keys)) _ c.in_err-targets.field-0.0 why)))

pub returns : goal.returns
returns c =
    let keys = table_view c.args.keys.now in
    let there = table_get c.get.result (codes "graph") c.args.keys.now.entries c.get.ensures.value in
    let listed = table_get c.get-2.result (codes "sources") c.args.keys.now.entries c.get-2.ensures.value in
    let found = table_get c.get-3.result (codes "target") c.args.keys.now.entries c.get-3.ensures.value in
    let first : graph_of (get_member (codes "graph") keys) ≡ Ok c.in_ok-graph.graph = ap graph_of (sym there) ∙ c.in_ok-graph.ensures in
    let second : sources_of (get_member (codes "sources") keys) ≡ Ok c.in_ok-sources.sources = ap sources_of (sym listed) ∙ c.in_ok-sources.ensures in
    let third : targets_of (get_member (codes "target") keys) ≡ Ok c.in_ok-targets.targets = ap targets_of (sym found) ∙ c.in_ok-targets.ensures in
    bound (graph_of (get_member (codes "graph") keys)) c.in_ok-graph.graph _ first
    ∙ bound (sources_of (get_member (codes "sources") keys)) c.in_ok-sources.sources _ second
    ∙ bound (targets_of (get_member (codes "target") keys)) c.in_ok-targets.targets _ third
