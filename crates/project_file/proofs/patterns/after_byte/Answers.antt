use Rattle.std.proofs.Common.{◌==◌, inl, inr, ℕ}
use Rattle.project_file.proofs.RowLemmas.{ended}
use Rattle.project_file.proofs.patterns.after_byte.Goals as goal

pub returns : goal.returns
returns c =
    elim c.in-None.ensures.steps [
      | inl none ↦ ended (λ (b : ℕ). b == c.args.byte) _ _ _ _ (inl none.1.0) c.loop-other.invariant
      | inr none ↦ ended (λ (b : ℕ). b == c.args.byte) _ _ _ _ (inr none.1.0) c.loop-other.invariant
    ]
