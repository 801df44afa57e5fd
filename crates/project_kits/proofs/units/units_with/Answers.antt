use Rattle.std.proofs.Common.{◌≡◌, ℕ, List, Option, ap, sym, subst, ◌∙◌, codes, Ok}
use Rattle.std.proofs.lemmas.Result.{err_from_is_err_and}
use Rattle.toml.specs.Data.{Data, get_member}
use Rattle.toml.specs.View.{table_view}
use Rattle.toml.proofs.Views.{table_get}
use Rattle.project_file.specs.Projects.{Reading}
use Rattle.project_file.specs.Refusals.{Refuses}
use Rattle.project_file.proofs.Lemmas.{bound, refused_first, refused_then}
use Rattle.project_kits.specs.declared.wanted.Units.{Units}
use Rattle.project_kits.specs.Units.{patterns_of, file_of, units}
use Rattle.project_kits.proofs.units.units_with.Goals as goal

pub returns-in_err-patterns : goal.returns-in_err-patterns
returns-in_err-patterns c =
    let word = c.args.word.now in
    let name = c.args.name.now in
    let keys = table_view c.args.keys.now in
    let found = table_get c.get.result (codes "units") c.args.keys.now.entries c.get.ensures.value in
    let p = err_from_is_err_and c.from_residual.result c.from_residual.ensures.1 in
    let why = subst (λ (f : Option Data). Refuses (patterns_of word name f) c.in_err-patterns.field-0.0) found c.in_err-patterns.ensures in
    rw (p.1, p.2) (refused_first (patterns_of word name (get_member (codes "units") keys)) _ c.in_err-patterns.field-0.0 why)

pub returns-in_err-file : goal.returns-in_err-file
returns-in_err-file c =
    let word = c.args.word.now in
    let name = c.args.name.now in
    let keys = table_view c.args.keys.now in
    let fitting = table_get c.get.result (codes "units") c.args.keys.now.entries c.get.ensures.value in
    let found = table_get c.get-2.result (codes "file") c.args.keys.now.entries c.get-2.ensures.value in
    let p = err_from_is_err_and c.from_residual-in_err-file.result c.from_residual-in_err-file.ensures.1 in
    let first : patterns_of word name (get_member (codes "units") keys) ≡ Ok c.in_ok-patterns.patterns = ap (patterns_of word name) (sym fitting) ∙ c.in_ok-patterns.ensures in
    let why = subst (λ (f : Option Data). Refuses (file_of word name f) c.in_err-file.field-0.0) found c.in_err-file.ensures in
    rw (p.1, p.2)
    (refused_then (patterns_of word name (get_member (codes "units") keys)) c.in_ok-patterns.patterns _ c.in_err-file.field-0.0 first
    (refused_first (file_of word name (get_member (codes "file") keys)) _ c.in_err-file.field-0.0 why))

pub returns : goal.returns
returns c =
    let word = c.args.word.now in
    let name = c.args.name.now in
    let keys = table_view c.args.keys.now in
    let fitting = table_get c.get.result (codes "units") c.args.keys.now.entries c.get.ensures.value in
    let found = table_get c.get-2.result (codes "file") c.args.keys.now.entries c.get-2.ensures.value in
    let first : patterns_of word name (get_member (codes "units") keys) ≡ Ok c.in_ok-patterns.patterns = ap (patterns_of word name) (sym fitting) ∙ c.in_ok-patterns.ensures in
    let second : file_of word name (get_member (codes "file") keys) ≡ Ok c.in_ok-file.file = ap (file_of word name) (sym found) ∙ c.in_ok-file.ensures in
    bound (patterns_of word name (get_member (codes "units") keys)) c.in_ok-patterns.patterns _ first
    ∙ bound (file_of word name (get_member (codes "file") keys)) c.in_ok-file.file _ second
    ∙ ap (λ (w : List ℕ). let made : Reading Units = Ok (units w name c.in_ok-patterns.patterns c.in_ok-file.file) in made) (sym c.in_ok-word.ensures)
    ∙ ap (λ (n : List ℕ). let made : Reading Units = Ok (units c.in_ok-word.word n c.in_ok-patterns.patterns c.in_ok-file.file) in made) (sym c.in_ok-name.ensures)
