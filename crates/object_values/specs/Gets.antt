-- What a map by names gives after a put and after a remove.
use Rattle.std.specs.Prelude.{◌≡◌, ◌≢◌, true, false, cond, Some, None}
use Rattle.std.proofs.Common.{refl, ap, ◌∙◌}
use Rattle.std.specs.Ordering.{nat_cmp, eq_by_cmp, is_eq}
use Rattle.std.specs.declared.cmp.Ordering.{Ordering}
use Rattle.std.specs.declared.cmp.Ordering.TheVariants.{Less, Equal, Greater}
use Rattle.std.specs.Cmp.Lexicographic.{slice_cmp, nat_list_cmp_total}
use Rattle.std.proofs.lemmas.Cmp.{tied_itself}
use Rattle.std.specs.FinMap as map
use Rattle.object_values.specs.Texts.{Text, Texts}

abbrev by_bytes : Text → Text → Ordering
by_bytes = slice_cmp nat_cmp

-- two names that differ don't tie
apart_by : (asked name : Text) (order : Ordering) → by_bytes asked name ≡ order → asked ≢ name → is_eq order ≡ false
apart_by asked name Less is differ = refl
apart_by asked name Equal is differ = absurd (differ (map.slice_cmp-IsAntisymmetric map.nat_cmp-IsAntisymmetric asked name is))
apart_by asked name Greater is differ = refl

apart : (asked name : Text) → asked ≢ name → eq_by_cmp by_bytes asked name ≡ false
apart asked name differ = apart_by asked name (by_bytes asked name) refl differ

tied : (name : Text) → eq_by_cmp by_bytes name name ≡ true
tied name = ap is_eq (tied_itself nat_list_cmp_total name)

pub put_here : (m : Texts) (name text : Text) → map.get (map.insert m name text) name ≡ Some text
put_here m name text = map.get-insert nat_list_cmp_total m name text name ∙ ap (λ b. cond b (Some text) (map.get m name)) (tied name)

pub put_other : (m : Texts) (name text asked : Text) → asked ≢ name → map.get (map.insert m name text) asked ≡ map.get m asked
put_other m name text asked differ = map.get-insert nat_list_cmp_total m name text asked ∙ ap (λ b. cond b (Some text) (map.get m asked)) (apart asked name differ)

pub remove_here : (m : Texts) (name : Text) → map.get (map.remove m name) name ≡ None
remove_here m name = map.get-remove nat_list_cmp_total m name name ∙ ap (λ b. cond b None (map.get m name)) (tied name)

pub remove_other : (m : Texts) (name asked : Text) → asked ≢ name → map.get (map.remove m name) asked ≡ map.get m asked
remove_other m name asked differ = map.get-remove nat_list_cmp_total m name asked ∙ ap (λ b. cond b None (map.get m asked)) (apart asked name differ)
