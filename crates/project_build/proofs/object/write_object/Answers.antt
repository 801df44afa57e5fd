use Rattle.std.proofs.Common.{◌≡◌, ◌∙◌, List, ℕ, [], ◌∷◌, Option, refl, sym, subst}
use Rattle.odin_outside.specs.Files.{Files}
use Rattle.build_files.specs.Files.{files_of}
use Rattle.build_files.specs.declared.files.Files.{Files as Object}
use Rattle.build_files.specs.declared.files.Files.TheVariants as object
use Rattle.project_build.specs.Writes.{HasWritten, MayHaveWritten, HaveWritten, HasWrittenSome, none_written, writes_of, writes_of_files}
use Rattle.project_build.proofs.WriteLemmas.{after_err, more_at_err, more_at_ok, wrote_none, wrote_one, wrote_some}
use Rattle.project_build.proofs.object.write_object.Goals as goal

-- the writes of an object that is these files
by_files : (file : List ℕ) (one other : Object) (old new : Option Files) → one ≡ other → HaveWritten old (writes_of_files file one) new
    → HaveWritten old (writes_of_files file other) new
by_files file one other old new same written = subst (λ (o : Object). HaveWritten old (writes_of_files file o) new) same written

some_by_files : (file : List ℕ) (one other : Object) (old new : Option Files) → one ≡ other → HasWrittenSome (writes_of_files file one) old new
    → HasWrittenSome (writes_of_files file other) old new
some_by_files file one other old new same written = subst (λ (o : Object). HasWrittenSome (writes_of_files file o) old new) same written

pub returns-in_err-files-clause-err : goal.returns-in_err-files-clause-err
returns-in_err-files-clause-err g c = after_err _ c.from_residual.result (wrote_none _ _)

pub returns-in-Nothing-clause-ok : goal.returns-in-Nothing-clause-ok
returns-in-Nothing-clause-ok g c =
    let files = g.O.Outputs.files c.args.outputs.now in
    by_files c.args.file.now object.Nothing (files_of c.args.body.now) files files (sym c.in-Nothing.is ∙ c.in_ok-files.ensures.files) none_written

pub returns-in-File-clause-ok : goal.returns-in-File-clause-ok
returns-in-File-clause-ok g c =
    let file = c.args.file.now in
    let text = c.in-File.text in
    let old = g.O.Outputs.files c.args.outputs.now in
    let new = g.O.Outputs.files c.write.new.self in
    let same : object.File text ≡ files_of c.args.body.now = sym c.in-File.is ∙ c.in_ok-files.ensures.files in
    more_at_ok (HasWritten file c.as_slice.result.now old new) (HaveWritten old (writes_of file c.args.body.now) new) c.write.result
    (λ one. by_files file (object.File text) (files_of c.args.body.now) old new same
    (wrote_one file text old new (subst (λ (t : List ℕ). HasWritten file t old new) c.as_slice.ensures one))) c.write.ensures.ok

pub returns-in-File-clause-err : goal.returns-in-File-clause-err
returns-in-File-clause-err g c =
    let file = c.args.file.now in
    let text = c.in-File.text in
    let old = g.O.Outputs.files c.args.outputs.now in
    let new = g.O.Outputs.files c.write.new.self in
    let same : object.File text ≡ files_of c.args.body.now = sym c.in-File.is ∙ c.in_ok-files.ensures.files in
    more_at_err (MayHaveWritten file c.as_slice.result.now old new) (HasWrittenSome (writes_of file c.args.body.now) old new) c.write.result
    (λ may. some_by_files file (object.File text) (files_of c.args.body.now) old new same
    (wrote_some ((file, text) ∷ []) [] [] file text old old new refl none_written (subst (λ (t : List ℕ). MayHaveWritten file t old new) c.as_slice.ensures may)))
    c.write.ensures.err
