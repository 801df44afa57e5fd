use Rattle.std.proofs.Common.{◌≡◌, ℕ, List, ap, map, subst, ◌∙◌}
use Rattle.std.specs.List.{flat_map}
use Rattle.meaning_texts.specs.Lines.{with_lf}
use Rattle.build_files.specs.Paths.{tidied}
use Rattle.project_folder.specs.Listing.{IsSourceList}
use Rattle.project_kits.proofs.lists.list_file.Goals as goal

pub returns-clause-ok : goal.returns-clause-ok
returns-clause-ok c =
    let fitting : c.as_slice-2.result.now ≡ map tidied c.args.units.now.patterns = c.as_slice-2.ensures ∙ c.in_ok-patterns.ensures ∙ ap (map tidied) c.as_slice.ensures in
    record {
      names = c.in_ok-names.names.items;
      listed = subst (λ (p : List (List ℕ)). IsSourceList p c.args.outputs.now c.args.found.now c.in_ok-names.names.items) fitting c.in_ok-names.ensures.ok;
      name = c.in_ok-name.ensures;
      body = c.in_ok-body.ensures ∙ ap (flat_map with_lf) c.as_slice-3.ensures.value;
    }
