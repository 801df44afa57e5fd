use Rattle.std.proofs.Common.{◌≡◌, ◌∙◌, ◌-◌, List, ℕ, ap, drop, length, take}
use Rattle.std.specs.Hash.{le_bytes}
use Rattle.std.specs.Hash.FoldHasher as folding
use Rattle.std.proofs.lemmas.List.{take_min, take_rest}
use Rattle.content_store.specs.BodyMarks.{hash_of_ends}
use Rattle.content_store.proofs.sought.ends_hash.Goals as goal

next : {S : Type 0} (write : S → List ℕ → S) (start expected end : S) (bytes same : List ℕ) → end ≡ write start bytes → start ≡ expected → bytes ≡ same → end ≡ write expected same
next write start expected end bytes same is begins alike = is ∙ ap (λ s. write s bytes) begins ∙ ap (write expected) alike

pub returns : goal.returns
unfolding hash_of_ends
returns c =
    let body = c.args.body.now in
    let counted : c.write_u64.new.self ≡ folding.write folding.initial (le_bytes 8 (length body)) = c.write_u64.ensures ∙ ap (λ s. folding.write s (le_bytes 8 (length body))) c.default-hasher.ensures in
    let front = next folding.write c.write_u64.new.self (folding.write folding.initial (le_bytes 8 (length body))) c.write.new.self (take c.min.result body) (take 64 body) c.write.ensures counted (ap (λ n. take n body) c.min.ensures ∙ take_min 64 body) in
    let rest = ap (λ n. take (length body - n) (drop n body)) c.saturating_sub.ensures ∙ take_rest body (length body - 64) in
    let back = next folding.write c.write.new.self (folding.write (folding.write folding.initial (le_bytes 8 (length body))) (take 64 body)) c.write-2.new.self (take (length body - c.saturating_sub.result) (drop c.saturating_sub.result body)) (drop (length body - 64) body) c.write-2.ensures front rest in
    c.finish.ensures ∙ ap folding.finish back
