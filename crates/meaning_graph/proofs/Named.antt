-- The test on two names is reachability by supertypes.
use Rattle.std.proofs.Common.{◌≡◌, ℕ, true, false, Option, Some, None, refl}
use Rattle.std.proofs.lemmas.Bool.{both_ways}
use Rattle.meaning_graph.specs.Graphs.{Text, Graph, type_named}
use Rattle.meaning_graph.specs.Types.{is_a}
use Rattle.meaning_graph.proofs.Types.{is_a_so, so_is_a}
use Rattle.meaning_graph.specs.Checks.{both_known, is_a_named, IsANamed}

named_from : (g : Graph) (a b : Text) (o p : Option ℕ) → type_named g a ≡ o → type_named g b ≡ p → both_known (is_a g) o p ≡ true → IsANamed g a b
named_from g a b None p e f h = absurd (both_ways false refl h)
named_from g a b (Some x) None e f h = absurd (both_ways false refl h)
named_from g a b (Some x) (Some y) e f h = record { lower = x; upper = y; lower_is = e; upper_is = f; reached = is_a_so g x y h }

pub named_so : (g : Graph) (a b : Text) → is_a_named g a b ≡ true → IsANamed g a b
named_so g a b h = named_from g a b (type_named g a) (type_named g b) refl refl h

pub so_named : (g : Graph) (a b : Text) → IsANamed g a b → is_a_named g a b ≡ true
so_named g a b n = rw (n.lower_is, n.upper_is) (so_is_a g n.lower n.upper n.reached)
