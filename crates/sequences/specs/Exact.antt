-- That a test of options answers whether two are equal, where one of their values does.
use Rattle.std.specs.Prelude.{◌≡◌, Bool, Option, Some, None}
use Rattle.std.specs.Bool.{Decides}
use Rattle.std.specs.Option.{option_eq}
use Rattle.std.proofs.Common.{rules}

pub option_exact : {A : Type 0} {E : A → A → Bool} → ((x y : A) → Decides (E x y) (x ≡ y)) → (a b : Option A) → Decides (option_eq E a b) (a ≡ b)
option_exact e None None = search rules
option_exact e None (Some y) = search rules
option_exact e (Some x) None = search rules
option_exact e (Some x) (Some y) = search (rules, e x y)
