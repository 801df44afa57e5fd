use Rattle.std.proofs.Common.{◌≡◌, ◌<◌, ◌≤◌, true, false, Some, None, take, length, ap, sym, ◌∙◌, nat_eq, map, arith}
use Rattle.std.proofs.lemmas.List.{at_drop_all}
use Rattle.std.specs.Option.{option_map}
use Rattle.std.specs.Ordering.{nat_cmp}
use Rattle.std.specs.Cmp.Lexicographic.{slice_cmp, pointwise, nat_list_cmp_total}
use Rattle.std.specs.FinMap.{get, find, get-from_entries}
use Rattle.odin_outside.specs.Files.{given_file_limit}
use Rattle.odin_fakes.specs.Entry.{entry_of}
use Rattle.odin_fakes.specs.Trees.{FileTree}
use Rattle.odin_fakes.proofs.Scan.{found, passed, cut_body}
use Rattle.odin_fakes.proofs.tree.MemTree.find.Goals as goal

pub loop-file-init : goal.loop-file-init
loop-file-init c =
    ap (λ (tree : FileTree). get tree.files c.args.name.now) (sym c.self.view_is)
    ∙ get-from_entries nat_list_cmp_total _ _
    ∙ ap (λ files. find (slice_cmp nat_cmp) c.args.name.now (map entry_of files)) (sym c.as_slice-file-items.ensures)

pub loop-file-preserved : goal.loop-file-preserved
loop-file-preserved c =
    let inside : c.loop-file.file-index < length c.as_slice-file-items.result.now = omega arith in
    let test : pointwise nat_eq c.file-item.result.name c.args.name.now ≡ false = ap (λ name. pointwise nat_eq name c.args.name.now) (sym c.as_slice.ensures) ∙ sym c.eq.ensures ∙ c.if-eq.false in
    c.loop-file.invariant ∙ passed _ _ _ _ inside c.file-item.is test

pub returns-then-eq : goal.returns-then-eq
returns-then-eq c =
    let inside : c.loop-file.file-index < length c.as_slice-file-items.result.now = omega arith in
    let test : pointwise nat_eq c.file-item.result.name c.args.name.now ≡ true = ap (λ name. pointwise nat_eq name c.args.name.now) (sym c.as_slice.ensures) ∙ sym c.eq.ensures ∙ c.if-eq.true in
    let body : get c.args.self.now.files c.args.name.now ≡ Some c.file-item.result.body = c.loop-file.invariant ∙ found _ _ _ _ inside c.file-item.is test in
    let given : c.in_ok-given.given ≡ take given_file_limit c.file-item.result.body = cut_body _ c.as_slice-body.result.now _ c.min.result c.in_ok-given.ensures c.min.ensures c.as_slice-body.ensures in
    ap Some given ∙ sym (ap (option_map (λ file. take given_file_limit file)) body)

pub returns : goal.returns
returns c =
    let past : length c.as_slice-file-items.result.now ≤ c.loop-file.file-index = omega arith in
    let absent : get c.args.self.now.files c.args.name.now ≡ None = c.loop-file.invariant ∙ at_drop_all (λ rest. find (slice_cmp nat_cmp) c.args.name.now (map entry_of rest)) _ _ past in
    sym (ap (option_map (λ file. take given_file_limit file)) absent)
