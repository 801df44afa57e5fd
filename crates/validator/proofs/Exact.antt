-- That a check tells just where deps and needs agree.
use Rattle.std.proofs.Common.{◌≡◌, ◌≢◌, ℕ, suc, Bool, true, false, cond, ◌&&◌, List, [], ◌∷◌, sym, ap, ◌∙◌, subst, refl}
use Rattle.std.specs.Prelude.{Option, Some, None, option_map}
use Rattle.std.proofs.lemmas.Bool.Decides.{Decides-eqb}
use Rattle.object_values.specs.contracts.nodes.NodePartialEq.TheImpl.{ghosts as node_eq}
use Rattle.object_values.specs.Exact.{node_exact}
use Rattle.object_values.specs.declared.records.Seen.{Seen}
use Rattle.object_values.specs.declared.records.Seen.TheVariants.{Nothing, Kept, New}
use Rattle.object_values.specs.declared.records.Dep.{Dep}
use Rattle.object_values.specs.declared.records.NodeRecord.{NodeRecord}
use Rattle.object_values.specs.declared.records.Renewed.{Renewed}
use Rattle.validator.specs.declared.verdict.Now.{Now}
use Rattle.validator.specs.declared.verdict.Verdict.TheVariants.{Current, Stale}
use Rattle.validator.specs.Verdicts.{same_seen, is_same, difference, verdict_by}
use Rattle.validator.specs.Laws.{SeesSame, AreSame, FirstDiffers, VerdictIsExact}

-- ---- one place

seen_same : (then now : Seen) → same_seen then now ≡ true → (now ≡ then) × (now ≢ New)
seen_same Nothing Nothing e = (refl, λ k. cc)
seen_same Nothing (Kept b) e = let no : ⊥ = cc in absurd no
seen_same Nothing New e = let no : ⊥ = cc in absurd no
seen_same (Kept a) Nothing e = let no : ⊥ = cc in absurd no
seen_same (Kept a) (Kept b) e = (ap Kept (sym ((Decides-eqb a b).0 e)), λ k. cc)
seen_same (Kept a) New e = let no : ⊥ = cc in absurd no
seen_same New now e = let no : ⊥ = cc in absurd no

seen_is : (seen : Seen) → seen ≢ New → same_seen seen seen ≡ true
seen_is Nothing known = refl
seen_is (Kept a) known = (Decides-eqb a a).1 refl
seen_is New known = absurd (known refl)

both : (a b : Bool) → (a && b) ≡ true → (a ≡ true) × (b ≡ true)
both true b e = (refl, e)
both false b e = let no : ⊥ = cc in absurd no

one_sees : (d : Dep) (n : Now) → is_same d n ≡ true → SeesSame d n
one_sees d n e =
    let parts = both (node_eq.eq d.node n.node.now) (same_seen d.seen n.seen) e in
    let seen = seen_same d.seen n.seen parts.1 in
    record { node = sym ((node_exact d.node n.node.now).0 parts.0); seen = seen.0; known = seen.1 }

one_is : (d : Dep) (n : Now) → SeesSame d n → is_same d n ≡ true
one_is d n same =
    let node : node_eq.eq d.node n.node.now ≡ true = (node_exact d.node n.node.now).1 (sym same.node) in
    let seen : same_seen d.seen n.seen ≡ true = ap (λ s. same_seen s n.seen) (sym same.seen) ∙ seen_is n.seen same.known in
    ap (λ b. b && same_seen d.seen n.seen) node ∙ seen

-- ---- all of them

none_differs : (deps : List Dep) (now : List Now) → difference deps now ≡ None → AreSame deps now
none_differs [] [] e = tt
none_differs [] (n ∷ now) e = let no : ⊥ = cc in absurd no
none_differs (d ∷ deps) [] e = let no : ⊥ = cc in absurd no
none_differs (d ∷ deps) (n ∷ now) e = by_test (is_same d n) refl e (λ k. none_differs deps now k)
  where
    none_on : (o : Option ℕ) → option_map suc o ≡ None → o ≡ None
    none_on None k = refl
    none_on (Some m) k = let no : ⊥ = cc in absurd no

    by_test : (b : Bool) → is_same d n ≡ b → cond b (option_map suc (difference deps now)) (Some 0) ≡ None → (difference deps now ≡ None → AreSame deps now) → SeesSame d n × AreSame deps now
    by_test true t k below = (one_sees d n t, below (none_on (difference deps now) k))
    by_test false t k below = let no : ⊥ = cc in absurd no

same_none : (deps : List Dep) (now : List Now) → AreSame deps now → difference deps now ≡ None
same_none [] [] same = refl
same_none [] (n ∷ now) same = absurd same
same_none (d ∷ deps) [] same = absurd same
same_none (d ∷ deps) (n ∷ now) same =
    ap (λ b. cond b (option_map suc (difference deps now)) (Some 0)) (one_is d n same.0) ∙ ap (option_map suc) (same_none deps now same.1)

first_differs : (deps : List Dep) (now : List Now) (place : ℕ) → difference deps now ≡ Some place → FirstDiffers deps now place
first_differs [] [] place e = let no : ⊥ = cc in absurd no
first_differs [] (n ∷ now) place e = subst (FirstDiffers [] (n ∷ now)) (let k : 0 ≡ place = cc in k) (record { before = tt; here = λ same. same })
first_differs (d ∷ deps) [] place e = subst (FirstDiffers (d ∷ deps) []) (let k : 0 ≡ place = cc in k) (record { before = tt; here = λ same. same })
first_differs (d ∷ deps) (n ∷ now) place e = by_test (is_same d n) refl e (λ m k. first_differs deps now m k)
  where
    later : (o : Option ℕ) → option_map suc o ≡ Some place → (m : ℕ) × (o ≡ Some m) × (suc m ≡ place)
    later None k = let no : ⊥ = cc in absurd no
    later (Some m) k = (m, refl, cc)

    by_test : (b : Bool) → is_same d n ≡ b → cond b (option_map suc (difference deps now)) (Some 0) ≡ Some place
        → ((m : ℕ) → difference deps now ≡ Some m → FirstDiffers deps now m) → FirstDiffers (d ∷ deps) (n ∷ now) place
    by_test true t k below =
        let l = later (difference deps now) k in
        let rest = below l.0 l.1 in
        subst (FirstDiffers (d ∷ deps) (n ∷ now)) l.2 (record { before = (one_sees d n t, rest.before); here = λ same. rest.here same.1 })
    by_test false t k below =
        subst (FirstDiffers (d ∷ deps) (n ∷ now)) (let z : 0 ≡ place = cc in z)
        (record { before = tt; here = λ same. let no : false ≡ true = sym t ∙ one_is d n same.0 in cc })

-- ---- the verdict

pub verdict_exact : (kept : NodeRecord) (now : List Now) → VerdictIsExact kept now
verdict_exact kept now = record {
  current = λ renewed e. none_differs kept.deps now (is_current (difference kept.deps now) renewed e);
  holds = λ same. ap (verdict_by kept now) (same_none kept.deps now same);
  stale = λ place e. first_differs kept.deps now place (is_stale (difference kept.deps now) place e);
}
  where
    is_current : (o : Option ℕ) (renewed : Renewed) → verdict_by kept now o ≡ Current renewed → o ≡ None
    is_current None renewed e = refl
    is_current (Some place) renewed e = let no : ⊥ = cc in absurd no

    is_stale : (o : Option ℕ) (place : ℕ) → verdict_by kept now o ≡ Stale place → o ≡ Some place
    is_stale None place e = let no : ⊥ = cc in absurd no
    is_stale (Some other) place e = cc
