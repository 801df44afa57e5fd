-- The deps of a record, seen again: whether each is as it was, what they add, and how high they are.
use Rattle.std.proofs.Common.{◌≡◌, ◌≢◌, ℕ, suc, ◌+◌, ◌≤◌, ◌<◌, ◌⊎◌, cond, max, List, [], ◌∷◌, ◌++◌, inl, inr, sym, ap, ◌∙◌, subst, refl, arith, map, filter, length, get_or, take, All}
use Rattle.std.proofs.lemmas.List.{take_more}
use Rattle.std.specs.Prelude.{Some, None, option_map, nat_eq}
use Rattle.object_values.specs.declared.messages.Status.{Status}
use Rattle.object_values.specs.declared.facts.FactDep.{FactDep}
use Rattle.object_values.specs.declared.records.Dep.{Dep}
use Rattle.object_values.specs.declared.records.Role.{Role}
use Rattle.object_values.specs.declared.records.Role.TheVariants.{Needed, Reached}
use Rattle.object_values.specs.declared.records.Seen.{Seen}
use Rattle.object_values.specs.declared.records.Seen.TheVariants.{Nothing, Kept, New}
use Rattle.meaning_texts.specs.Limits.{height_limit}
use Rattle.meaning_texts.specs.Lists.{IsIn}
use Rattle.meaning_texts.proofs.Lemmas.{all_in, in_map}
use Rattle.meaning_tasks.specs.Values.{worst}
use Rattle.meaning_tasks.specs.Needs.{is_counted, nodes_of}
use Rattle.meaning_tasks.specs.Settle.{status_in, messages_in, worst_of, messages_of}
use Rattle.meaning_true.specs.Facts.{role_of, needs_in, counted_in}
use Rattle.meaning_true.specs.Numbered.{Contents, dep_by}
use Rattle.validator.specs.declared.verdict.Now.{Now}
use Rattle.validator.specs.Verdicts.{counts, adding, worst_with, messages_added, highest, first_at}
use Rattle.validator.specs.Laws.{AreSame}
use Rattle.derive_walk.specs.declared.done.Done.{Done}
use Rattle.derive_walk.specs.SeenNow.{IsNow, AreNow}
use Rattle.derive_walk.specs.Tables.{Entries, done_in, results_of, heights_of, height_or_zero, is_height, place_of}
use Rattle.derive_walk.specs.Trials.{IsNamedSeen, AreSeenAt, Lacks, Differs, AreLow, top_of_deps}
use Rattle.derive_walk.proofs.Tables.{height_if_done}

-- ---- statuses

worst_swaps : (a b c : Status) → worst a (worst b c) ≡ worst b (worst a c)
worst_swaps a b c = grind arith

-- the last status may be taken in first
worst_first : (s own : Status) (now : List Now) → worst_with (worst s own) now ≡ worst s (worst_with own now)
worst_first s own [] = refl
worst_first s own (n ∷ now) = ap (λ z. worst_with z now) (worst_swaps n.status s own) ∙ worst_first s (worst n.status own) now

-- ---- one of the deps

pub named_at : (contents : Contents) (deps : List Dep) → All (λ (d : Dep). IsNamedSeen contents d.seen) deps → (i : ℕ) (d : Dep) → i < length deps → d ≡ get_or deps i d
    → IsNamedSeen contents d.seen
named_at contents deps named i d below is = subst (λ (x : Dep). IsNamedSeen contents x.seen) (sym is) (named i d below)

module _ (contents : Contents) (done : Entries) where
  -- ---- one more

  now_push : (deps : List Dep) (now : List Now) (d : Dep) (n : Now) → AreNow contents done deps now → IsNow contents done d n → AreNow contents done (deps ++ d ∷ []) (now ++ n ∷ [])
  now_push [] [] d n are is = (is, tt)
  now_push [] (m ∷ now) d n are is = absurd are
  now_push (e ∷ deps) [] d n are is = absurd are
  now_push (e ∷ deps) (m ∷ now) d n are is = (are.0, now_push deps now d n are.1 is)

  pub now_more : (deps : List Dep) (i : ℕ) (d : Dep) → i < length deps → d ≡ get_or deps i d → (now : List Now) (n : Now)
      → AreNow contents done (take i deps) now → IsNow contents done d n → (items : List Now) → items ≡ now ++ n ∷ [] → AreNow contents done (take (i + 1) deps) items
  now_more deps i d below is now n are one items e =
      let more : take (i + 1) deps ≡ take i deps ++ d ∷ [] = take_more deps i d below ∙ ap (λ x. take i deps ++ x ∷ []) (sym is) in
      subst (AreNow contents done (take (i + 1) deps)) (sym e) (subst (λ l. AreNow contents done l (now ++ n ∷ [])) (sym more) (now_push (take i deps) now d n are one))

  -- one that has no result
  pub lacks_one : (deps : List Dep) (i : ℕ) (d : Dep) → i < length deps → d ≡ get_or deps i d → done_in done d.node ≡ None → Lacks done (map (dep_by contents) deps)
  lacks_one deps i d below is none = record {
    dep = dep_by contents d;
    one = in_map (dep_by contents) d deps (subst (λ x. IsIn x deps) (sym is) (all_in (λ x. IsIn x deps) deps (λ x j. j) i d below));
    none = none;
  }

  -- ---- each as it was

  -- they agree with the deps, or one has another value
  pub same_or_differs : (deps : List Dep) (now : List Now) → ((d : Dep) → IsIn d deps → IsNamedSeen contents d.seen) → AreNow contents done deps now
      → AreSame deps now ⊎ Differs done (map (dep_by contents) deps)
  same_or_differs [] [] named are = inl tt
  same_or_differs [] (n ∷ now) named are = absurd are
  same_or_differs (d ∷ deps) [] named are = absurd are
  same_or_differs (d ∷ deps) (n ∷ now) named are = elim are.0.seen [
    | inl same ↦ elim (same_or_differs deps now (λ e i. named e (inr i)) are.1) [
      | inl rest ↦ inl (record { node = are.0.node; seen = same.0; known = λ new. named_is_known d.seen (named d (inl refl)) (sym same.0 ∙ new) }, rest)
      | inr r ↦ inr (record { dep = r.dep; one = inr r.one; entry = r.entry; is = r.is; other = r.other })
    ]
    | inr other ↦ inr (record { dep = dep_by contents d; one = inl refl; entry = are.0.entry; is = are.0.is; other = other.1 })
  ]
    where
      named_is_known : (seen : Seen) → IsNamedSeen contents seen → seen ≢ New
      named_is_known Nothing h = λ e. cc
      named_is_known (Kept number) h = λ e. cc
      named_is_known New h = absurd h

  -- where they agree each has the value that was seen
  pub same_is_seen : (deps : List Dep) (now : List Now) → AreNow contents done deps now → AreSame deps now → AreSeenAt done (map (dep_by contents) deps)
  same_is_seen [] [] are same f i = absurd i
  same_is_seen [] (n ∷ now) are same f i = absurd are
  same_is_seen (d ∷ deps) [] are same f i = absurd are
  same_is_seen (d ∷ deps) (n ∷ now) are same f (inr j) = same_is_seen deps now are.1 same.1 f j
  same_is_seen (d ∷ deps) (n ∷ now) are same f (inl e) = elim are.0.seen [
    | inl again ↦ record {
      entry = are.0.entry;
      is = ap (λ (x : FactDep). done_in done x.node) e ∙ are.0.is;
      value = again.1 ∙ ap (λ (x : FactDep). x.value) (sym e);
    }
    | inr other ↦ absurd (other.0 same.0.seen)
  ]

  -- ---- what they add

  result_of : (d : Dep) (n : Now) (is : IsNow contents done d n) → results_of done d.node ≡ Some is.entry.view
  result_of d n is = ap (option_map (λ (x : Done). x.view)) is.is

  pub worst_now : (own : Status) (deps : List Dep) (now : List Now) → AreNow contents done deps now
      → worst_with own (adding deps now) ≡ worst_of (results_of done) own (counted_in (map (dep_by contents) deps))
  worst_now own [] [] are = refl
  worst_now own [] (n ∷ now) are = absurd are
  worst_now own (d ∷ deps) [] are = absurd are
  worst_now own (d ∷ deps) (n ∷ now) are = by_role d.role (worst_now own deps now are.1)
    where
      by_role : (r : Role) → worst_with own (adding deps now) ≡ worst_of (results_of done) own (counted_in (map (dep_by contents) deps))
          → worst_with own (cond (counts r n.seen) (n ∷ adding deps now) (adding deps now))
          ≡ worst_of (results_of done) own (nodes_of (cond (is_counted (role_of r)) (record { node = d.node; role = role_of r } ∷ filter (λ need. is_counted need.role) (needs_in (map (dep_by contents) deps))) (filter (λ need. is_counted need.role) (needs_in (map (dep_by contents) deps)))))
      by_role Reached below = below
      by_role Needed below =
          let s : n.status ≡ status_in (results_of done d.node) = are.0.status ∙ ap status_in (sym (result_of d n are.0)) in
          worst_first n.status own (adding deps now) ∙ (λ i. worst (s i) (below i))

  pub messages_now : (deps : List Dep) (now : List Now) → AreNow contents done deps now
      → messages_added (adding deps now) ≡ messages_of (results_of done) (counted_in (map (dep_by contents) deps))
  messages_now [] [] are = refl
  messages_now [] (n ∷ now) are = absurd are
  messages_now (d ∷ deps) [] are = absurd are
  messages_now (d ∷ deps) (n ∷ now) are = by_role d.role (messages_now deps now are.1)
    where
      by_role : (r : Role) → messages_added (adding deps now) ≡ messages_of (results_of done) (counted_in (map (dep_by contents) deps))
          → messages_added (cond (counts r n.seen) (n ∷ adding deps now) (adding deps now))
          ≡ messages_of (results_of done) (nodes_of (cond (is_counted (role_of r)) (record { node = d.node; role = role_of r } ∷ filter (λ need. is_counted need.role) (needs_in (map (dep_by contents) deps))) (filter (λ need. is_counted need.role) (needs_in (map (dep_by contents) deps)))))
      by_role Reached below = below
      by_role Needed below =
          let m : n.messages.now ≡ messages_in (results_of done d.node) = are.0.messages ∙ ap messages_in (sym (result_of d n are.0)) in
          λ i. m i ++ below i

  -- ---- how high they are

  pub highest_now : (deps : List Dep) (now : List Now) → AreNow contents done deps now → highest now ≡ top_of_deps done (map (dep_by contents) deps)
  highest_now [] [] are = refl
  highest_now [] (n ∷ now) are = absurd are
  highest_now (d ∷ deps) [] are = absurd are
  highest_now (d ∷ deps) (n ∷ now) are =
      let h : n.height ≡ height_or_zero (heights_of done [] d.node) = are.0.height ∙ ap height_or_zero (sym (height_if_done done [] d.node are.0.entry are.0.is)) in
      let below = highest_now deps now are.1 in
      λ i. max (h i) (below i)

  -- and which is the first at a height
  pub first_now : (h : ℕ) (deps : List Dep) (now : List Now) → AreNow contents done deps now
      → first_at h now ≡ place_of (heights_of done []) h (map (λ (d : FactDep). d.node) (map (dep_by contents) deps))
  first_now h [] [] are = refl
  first_now h [] (n ∷ now) are = absurd are
  first_now h (d ∷ deps) [] are = absurd are
  first_now h (d ∷ deps) (n ∷ now) are =
      let at : is_height h (heights_of done [] d.node) ≡ nat_eq n.height h =
      ap (is_height h) (height_if_done done [] d.node are.0.entry are.0.is) ∙ ap (λ k. nat_eq k h) (sym are.0.height) in
      let below = first_now h deps now are.1 in
      λ i. cond (sym at i) (Some 0) (option_map suc (below i))

  low_one : AreLow done → (deps : List Dep) (now : List Now) → AreNow contents done deps now → (n : Now) → IsIn n now → n.height ≤ height_limit
  low_one low [] [] are n i = absurd i
  low_one low [] (m ∷ now) are n i = absurd are
  low_one low (d ∷ deps) [] are n i = absurd are
  low_one low (d ∷ deps) (m ∷ now) are n (inl e) =
      let h : n.height ≡ are.0.entry.height = ap (λ (x : Now). x.height) e ∙ are.0.height in
      subst (λ k. k ≤ height_limit) (sym h) (low d.node are.0.entry are.0.is)
  low_one low (d ∷ deps) (m ∷ now) are n (inr j) = low_one low deps now are.1 n j

  pub low_now : AreLow done → (deps : List Dep) (now : List Now) → AreNow contents done deps now → All (λ (n : Now). n.height ≤ height_limit) now
  low_now low deps now are = all_in (λ (n : Now). n.height ≤ height_limit) now (low_one low deps now are)
