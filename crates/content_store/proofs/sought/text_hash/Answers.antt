use Rattle.std.proofs.Common.{◌≡◌, ◌∙◌, List, ℕ, ap}
use Rattle.std.specs.Hash.FoldHasher as folding
use Rattle.content_store.specs.BodyMarks.{hash_of}
use Rattle.content_store.proofs.sought.text_hash.Goals as goal

written_from : {S : Type 0} (write : S → List ℕ → S) (initial start end : S) (body : List ℕ) → start ≡ initial → end ≡ write start body → end ≡ write initial body
written_from write initial start end body begins ends = ends ∙ ap (λ s. write s body) begins

pub returns : goal.returns
unfolding hash_of
returns c = c.finish.ensures ∙ ap folding.finish (written_from folding.write folding.initial c.default-hasher.result c.write.new.self c.args.body.now c.default-hasher.ensures c.write.ensures)
