use Rattle.std.proofs.Common.{rules, ◌≡◌, ◌∙◌, ap₂, sym, refl, Bool, true, false, if◌then◌else◌, nat_eq, min, subst, length, take, IfSome, Option, Some, None, ℕ, List, [], ◌++◌}
use Rattle.std.proofs.lemmas.List.{take_min}
use Rattle.std.specs.Io.Take.{take_remaining}
use Rattle.std.specs.declared.io.traits.Take.{Take}
use Rattle.std.specs.Option.{option_map}
use Rattle.odin_outside.specs.Files.{given_file_limit}
use Rattle.odin_real.specs.Opens.{most_read}
use Rattle.odin_real.proofs.read.read_front.Goals as goal

-- so many bytes are the front, where the size is that of what is left
front_most : (left : List ℕ) (size : ℕ) → size ≡ length left → take (most_read size) left ≡ take given_file_limit left
front_most left size long = by_told (nat_eq size 0)
  where
    by_told : (none : Bool) → take (if none then given_file_limit else min given_file_limit size) left ≡ take given_file_limit left
    by_told true = refl
    by_told false = subst (λ s. take (min given_file_limit s) left ≡ take given_file_limit left) (sym long) (take_min given_file_limit left)

by_known : (known : Option (List ℕ)) (size limit : ℕ) (before after front : List ℕ) → limit ≡ most_read size → before ≡ [] → front ≡ after → IfSome (option_map (take limit) known) (λ xs. after ≡ before ++ xs) → IfSome known (λ left. size ≡ length left → front ≡ take given_file_limit left)
by_known None size limit before after front at empty same read = tt
by_known (Some left) size limit before after front at empty same read = λ long. same ∙ read ∙ ap₂ (λ xs n. xs ++ take n left) empty at ∙ front_most left size long

-- what was read by a limit is the front of what the reader had left
front_is : {R : Type 0} (remaining : R → Option (List ℕ)) (limited : Take R) (reader : R) (size : ℕ) (before after front : List ℕ) → limited.limit ≡ most_read size → limited.inner ≡ reader → before ≡ [] → front ≡ after → IfSome (take_remaining remaining limited) (λ xs. after ≡ before ++ xs) → IfSome (remaining reader) (λ left. size ≡ length left → front ≡ take given_file_limit left)
front_is remaining limited reader size before after front at is empty same read =
    subst (λ r. IfSome (remaining r) (λ left. size ≡ length left → front ≡ take given_file_limit left)) is (by_known (remaining limited.inner) size limited.limit before after front at empty same read)

pub returns-in-Ok : goal.returns-in-Ok
returns-in-Ok g c = front_is g.R.Read.remaining c.take.result c.args.reader c.args.size _ c.read_to_end.new.buf.items c.from_vec.result (search rules) c.take.ensures.inner (search rules) c.from_vec.ensures c.in-Ok.ensures.bytes
