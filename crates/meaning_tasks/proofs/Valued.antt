-- Lists that are there where a node has a value.
use Rattle.std.proofs.Common.{◌≡◌, true, List, [], sym, ap, ◌∙◌, subst, refl}
use Rattle.std.specs.Prelude.{Option, Some, None, option_map, is_some}
use Rattle.object_values.specs.declared.nodes.Node.{Node}
use Rattle.object_values.specs.declared.views.Value.{Value}
use Rattle.meaning_texts.specs.Lists.{IsIn}
use Rattle.meaning_tasks.specs.Needs.{Results, Known, values_of, Grows, has_value, where_valued}

abbrev pub IsValued : Option (Option Value) → Type 0
IsValued o = has_value o ≡ true

pub in_where : {A : Type 0} (o : Option (Option Value)) (x : A) (xs : List A) → IsValued o → IsIn x xs → IsIn x (where_valued o xs)
in_where None x xs v h = cc
in_where (Some None) x xs v h = cc
in_where (Some (Some w)) x xs v h = h

pub from_where : {A : Type 0} (o : Option (Option Value)) (x : A) (xs : List A) → IsIn x (where_valued o xs) → IsValued o × IsIn x xs
from_where None x xs h = absurd h
from_where (Some None) x xs h = absurd h
from_where (Some (Some w)) x xs h = (refl, h)

pub where_same : {A : Type 0} (o p : Option (Option Value)) (xs ys : List A) → o ≡ p → (IsValued o → xs ≡ ys) → where_valued o xs ≡ where_valued p ys
where_same o p xs ys e f = there o f ∙ ap (λ q. where_valued q ys) e
  where
    there : (o : Option (Option Value)) → (IsValued o → xs ≡ ys) → where_valued o xs ≡ where_valued o ys
    there None f = refl
    there (Some None) f = refl
    there (Some (Some w)) f = f refl

-- ---- growing

-- what is known stays so
pub stays : {A : Type 0} (known other : Node → Option A) → Grows known other → (n : Node) → is_some (known n) ≡ true → known n ≡ other n
stays known other g n h = (elim (known n) as (λ o. known n ≡ o → is_some o ≡ true → known n ≡ other n) [ None ↦ λ e k. cc | Some o ↦ λ e k. e ∙ sym (g n o e) ]) refl h

pub valued_is_some : (o : Option (Option Value)) → IsValued o → is_some o ≡ true
valued_is_some None h = cc
valued_is_some (Some v) h = refl

pub valued_stays : (known other : Known) → Grows known other → (n : Node) → IsValued (known n) → IsValued (other n)
valued_stays known other g n h = subst IsValued (stays known other g n (valued_is_some (known n) h)) h

pub where_grows : {A : Type 0} (known other : Known) → Grows known other → (n : Node) (x : A) (xs ys : List A) → (IsIn x xs → IsIn x ys) → IsIn x (where_valued (known n) xs) → IsIn x (where_valued (other n) ys)
where_grows known other g n x xs ys f h = let r = from_where (known n) x xs h in in_where (other n) x ys (valued_stays known other g n r.0) (f r.1)

-- what depends on one node grows with it, where a missing result gives nothing
pub part_grows : {A : Type 0} (known other : Known) → Grows known other → (f : Option (Option Value) → List A) → f None ≡ [] → (n : Node) (x : A) → IsIn x (f (known n)) → IsIn x (f (other n))
part_grows known other g f none n x h = (elim (known n) as (λ o. known n ≡ o → IsIn x (f o) → IsIn x (f (other n))) [
  | None ↦ λ e k. absurd (subst (λ l. IsIn x l) none k)
  | Some o ↦ λ e k. subst (λ z. IsIn x (f z)) (sym (g n o e)) k
]) refl h

-- the values of more results
pub values_grow : (seen more : Results) → Grows seen more → Grows (values_of seen) (values_of more)
values_grow seen more g n v h = (elim (seen n) as (λ o. seen n ≡ o → option_map (λ v. v.value) o ≡ Some v → values_of more n ≡ Some v) [
  | None ↦ λ e k. cc
  | Some w ↦ λ e k. ap (λ o. option_map (λ v. v.value) o) (g n w e) ∙ k
]) refl h
