use Rattle.std.proofs.Common.{◌≡◌, ◌+◌, List, [], ◌∷◌, Option, ◌++◌, take, ap, refl, sym, subst, ◌∙◌, rules}
use Rattle.std.proofs.lemmas.List.{take_more}
use Rattle.odin_outside.specs.Files.{Files}
use Rattle.object_values.specs.Texts.{Text}
use Rattle.fresh_build.specs.declared.fault.ListFault.TheVariants as fault
use Rattle.fresh_build.specs.Listed.{AreFiles, IsFileFault, IsFileText, IsListFault}
use Rattle.fresh_build.proofs.ListLemmas.{handed, is_there, list_fault, listed_again, listed_more, more_fit, none_fit, none_listed}
use Rattle.fresh_build.proofs.listed.read_listed.Goals as goal
use Rattle.fresh_build.proofs.listed.read_listed.Goals.{then-is_none+in_ok-text+in_ok-add_source, else-is_none}

pub names-init : goal.names-init
names-init g c = record { files = refl; are = none_listed _ [] _ refl c.new-sources.ensures; fit = none_fit _ c.new-sources.ensures; counted = refl }

pub returns-in_err-text-clause-err : goal.returns-in_err-text-clause-err
returns-in_err-text-clause-err g c =
    let files = g.T.Tree.files c.args.tree.now in
    let name = c.name-item.result in
    let e = c.in_err-text.field-0.0 in
    let why = subst (λ (f : Option Files). IsFileFault f name e) c.names.invariant.files c.in_err-text.ensures.err in
    handed (IsListFault files c.args.names.now) c.from_residual.result e c.from_residual.ensures.1
    (list_fault files c.args.names.now c.names.name-index name c.names.sources.texts e c.names-test.true c.name-item.is c.names.invariant.are why)

pub returns-in_err-add_source-clause-err : goal.returns-in_err-add_source-clause-err
returns-in_err-add_source-clause-err g c =
    let files = g.T.Tree.files c.args.tree.now in
    handed (IsListFault files c.args.names.now) c.from_residual-in_err-add_source.result fault.Memory c.from_residual-in_err-add_source.ensures.1
    (list_fault files c.args.names.now c.names.name-index c.name-item.result c.names.sources.texts fault.Memory c.names-test.true c.name-item.is c.names.invariant.are tt)

pub names-preserved : goal.names-preserved
names-preserved g c =
    let files = g.T.Tree.files c.args.tree.now in
    let names = c.args.names.now in
    let name = c.name-item.result in
    let texts = c.names.sources.texts in
    let step : take (c.names.name-index + 1) names ≡ take c.names.name-index names ++ name ∷ [] =
    take_more names c.names.name-index name c.names-test.true ∙ ap (λ (n : Text). take c.names.name-index names ++ n ∷ []) (sym c.name-item.is) in
    elim c.if-is_none.branch [
      | then-is_none+in_ok-text+in_ok-add_source w ↦
          let is = subst (λ (f : Option Files). IsFileText f name w.in_ok-text.text) c.names.invariant.files w.in_ok-text.ensures.ok in
          rw (w.tree-is, w.sources-is) (record {
            files = w.in_ok-text.ensures.kept ∙ c.names.invariant.files;
            are = subst (λ (l : List Text). AreFiles files l w.add_source.new.sources.texts) (sym step)
                (listed_more files (take c.names.name-index names) texts w.add_source.new.sources.texts name w.in_ok-text.text c.names.invariant.are is w.in_ok-add_source.ensures);
            fit = more_fit texts w.add_source.new.sources.texts name w.in_ok-text.text c.names.invariant.fit c.as_slice.ensures.named is.short w.in_ok-add_source.ensures;
            counted = w.in_ok-text.ensures.cause.ok ∙ c.names.invariant.counted;
          })
      | else-is_none w ↦
          rw (w.tree-is, w.sources-is) (record {
            files = c.names.invariant.files;
            are = subst (λ (l : List Text). AreFiles files l texts) (sym step)
                (listed_again files (take c.names.name-index names) texts name c.names.invariant.are
                (is_there _ c.get.result texts name c.as_slice.result.now c.get.ensures c.as_slice.ensures.bytes (search rules)));
            fit = c.names.invariant.fit;
            counted = c.names.invariant.counted;
          })
    ]
