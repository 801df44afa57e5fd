use Rattle.std.proofs.Common.{◌≡◌, ℕ, List, Option, ap, sym, subst, ◌∙◌, codes, Ok}
use Rattle.std.proofs.lemmas.Result.{err_from_is_err_and}
use Rattle.toml.specs.Data.{Data, get_member}
use Rattle.toml.specs.View.{table_view}
use Rattle.toml.proofs.Views.{table_get}
use Rattle.project_file.specs.declared.project.Target.{Target}
use Rattle.project_file.specs.Projects.{Reading, ask_of, file_of, target}
use Rattle.project_file.specs.Refusals.{Refuses}
use Rattle.project_file.proofs.ReadLemmas.{bound, refused_first, refused_then}
use Rattle.project_file.proofs.targets.target_with.Goals as goal

pub returns-in_err-ask : goal.returns-in_err-ask
returns-in_err-ask c =
    let name = c.args.name.now in
    let keys = table_view c.args.keys.now in
    let found = table_get c.get.result (codes "ask") c.args.keys.now.entries c.get.ensures.value in
    let p = err_from_is_err_and c.from_residual.result c.from_residual.ensures.1 in
    let why = subst (λ (f : Option Data). Refuses (ask_of name f) c.in_err-ask.field-0.0) found c.in_err-ask.ensures in
    rw (p.1, p.2) (refused_first (ask_of name (get_member (codes "ask") keys)) _ c.in_err-ask.field-0.0 why)

pub returns-in_err-file : goal.returns-in_err-file
returns-in_err-file c =
    let name = c.args.name.now in
    let keys = table_view c.args.keys.now in
    let asked = table_get c.get.result (codes "ask") c.args.keys.now.entries c.get.ensures.value in
    let found = table_get c.get-2.result (codes "file") c.args.keys.now.entries c.get-2.ensures.value in
    let p = err_from_is_err_and c.from_residual-in_err-file.result c.from_residual-in_err-file.ensures.1 in
    let first : ask_of name (get_member (codes "ask") keys) ≡ Ok c.in_ok-ask.ask = ap (ask_of name) (sym asked) ∙ c.in_ok-ask.ensures in
    let why = subst (λ (f : Option Data). Refuses (file_of name f) c.in_err-file.field-0.0) found c.in_err-file.ensures in
    rw (p.1, p.2)
    (refused_then (ask_of name (get_member (codes "ask") keys)) c.in_ok-ask.ask _ c.in_err-file.field-0.0 first
    (refused_first (file_of name (get_member (codes "file") keys)) _ c.in_err-file.field-0.0 why))

pub returns : goal.returns
returns c =
    let name = c.args.name.now in
    let keys = table_view c.args.keys.now in
    let asked = table_get c.get.result (codes "ask") c.args.keys.now.entries c.get.ensures.value in
    let found = table_get c.get-2.result (codes "file") c.args.keys.now.entries c.get-2.ensures.value in
    let first : ask_of name (get_member (codes "ask") keys) ≡ Ok c.in_ok-ask.ask = ap (ask_of name) (sym asked) ∙ c.in_ok-ask.ensures in
    let second : file_of name (get_member (codes "file") keys) ≡ Ok c.in_ok-file.file = ap (file_of name) (sym found) ∙ c.in_ok-file.ensures in
    bound (ask_of name (get_member (codes "ask") keys)) c.in_ok-ask.ask _ first
    ∙ bound (file_of name (get_member (codes "file") keys)) c.in_ok-file.file _ second
    ∙ ap (λ (n : List ℕ). let made : Reading Target = Ok (target n c.in_ok-ask.ask c.in_ok-file.file) in made) (sym c.in_ok-name.ensures)
