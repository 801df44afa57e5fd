-- How often is looked where the root's record is checked.
use Rattle.std.proofs.Common.{◌≡◌, ℕ, ◌+◌, ◌≤◌, List, [], ◌∷◌, length, inl, inr, sym, ◌∙◌, subst, refl, arith}
use Rattle.object_values.specs.declared.nodes.Node.{Node}
use Rattle.meaning_texts.specs.Lists.{IsIn}
use Rattle.meaning_graph.specs.Graphs.{Graph}
use Rattle.meaning_derive.specs.Derive.{Sources, Outcomes}
use Rattle.meaning_derive.specs.Chains.{AreDifferent}
use Rattle.meaning_true.specs.Knowing.{KeptRecords, IsChecked, Knows, MayLook, the_root, a_need, TakesOutcome, LooksAreCounted}

-- different nodes that are all one are one at most
all_one : (root : Node) (nodes : List Node) → AreDifferent nodes → ((n : Node) → IsIn n nodes → n ≡ root) → length nodes ≤ 1
all_one root [] different same = omega arith
all_one root (n ∷ []) different same = omega arith
all_one root (n ∷ m ∷ nodes) different same = absurd (different.0 (inl (same n (inl refl) ∙ sym (same m (inr (inl refl))))))

none_there : (nodes : List Node) → ((n : Node) → IsIn n nodes → ⊥) → length nodes ≡ 0
none_there [] none = refl
none_there (n ∷ nodes) none = absurd (none n (inl refl))

one_there : (n : Node) (nodes : List Node) → IsIn n nodes → 1 ≤ length nodes
one_there n [] i = absurd i
one_there n (m ∷ nodes) i = omega arith

module _ (g : Graph) (s : Sources) (outcomes : Outcomes) (records : KeptRecords) (root : Node) (checked : IsChecked records root) where
  only_root : (n : Node) → MayLook g s outcomes records root n → n ≡ root
  only_root n the_root = refl
  only_root m (a_need n x may unchecked need) = absurd (unchecked (subst (IsChecked records) (sym (only_root n may)) checked))

  no_outcome : Knows g s outcomes records → TakesOutcome g s outcomes records root → ⊥
  no_outcome knows takes =
      let h = knows.holds root checked.kept checked.is checked.checked in
      takes.anew checked.kept checked.is (record { needs = h.needs; seen = h.seen })

pub root_is_one : (g : Graph) (s : Sources) (outcomes : Outcomes) (records : KeptRecords) (root : Node) → Knows g s outcomes records → (root.steps ≡ [] → ⊥)
    → IsChecked records root → (first last : ℕ) → LooksAreCounted g s outcomes records root first last → last ≡ first + 1
root_is_one g s outcomes records root knows stepped checked first last counted =
    let same : (n : Node) → IsIn n counted.looked → n ≡ root = λ n i. only_root g s outcomes records root checked n (counted.may n i) in
    let few : length counted.looked ≤ 1 = all_one root counted.looked counted.different same in
    let some : 1 ≤ length counted.looked = one_there root counted.looked (counted.all root the_root stepped) in
    let none : length counted.taken ≡ 0 = none_there counted.taken (λ n i.
    let t = counted.among n i in
    no_outcome g s outcomes records root checked knows (subst (TakesOutcome g s outcomes records) (same n t.0) t.1)) in
    omega (arith, few, some, none, counted.least, counted.most)
