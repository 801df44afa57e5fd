-- The way down by falling heights.
use Rattle.std.proofs.Common.{◌≡◌, ℕ, suc, ◌+◌, ◌≤◌, ◌<◌, ◌-◌, List, [], ◌∷◌, ◌++◌, ◌⊎◌, inl, inr, sym, ap, ◌∙◌, subst, refl, length, slice_get, arith, is_some, length-append}
use Rattle.std.specs.Prelude.{Option, Some, IsSome}
use Rattle.object_values.specs.declared.nodes.Node.{Node}
use Rattle.meaning_texts.specs.Limits.{height_limit}
use Rattle.meaning_texts.specs.Lists.{IsIn}
use Rattle.meaning_texts.proofs.Lemmas.{same_some, value_of_some}
use Rattle.meaning_tasks.specs.Nodes.{Fits}
use Rattle.meaning_tasks.specs.Needs.{Needs}
use Rattle.meaning_tasks.proofs.Lemmas.{one_list_of_needs}
use Rattle.meaning_derive.specs.Chains.{Chain, AreDifferent, IsDeep}
use Rattle.meaning_derive.proofs.Lemmas.{chain_on}
use Rattle.meaning_true.specs.Knowing.{IsChecked}
use Rattle.derive_walk.specs.CheckedRecords.{tight_node}
use Rattle.derive_walk.specs.DerivedHeights.{heights_or}
use Rattle.derive_walk.specs.Tables.{done_in, results_of, of_height}
use Rattle.derive_walk.specs.declared.walk.Walk.{Walk}
use Rattle.derive_walk.specs.Worlds.{World, IsWorld, seen_in, IsNeedIn}
use Rattle.derive_walk.specs.Founds.{AllFit}
use Rattle.derive_walk.specs.States.{heights_in, IsFormedIn, HoldsIn}
use Rattle.derive_walk.specs.Paths.{IsLed, IsTall, IsNextByRecord, IsNextByNeeds, IsNextDown, IsOpenDown, LeadsDown}
use Rattle.derive_walk.proofs.FormedLemmas.{need_is_fit}
use Rattle.derive_walk.proofs.HeightLemmas.{of_height_is, has_height}
use Rattle.derive_walk.proofs.SourceSettles.{source_needs_none}
use Rattle.derive_walk.proofs.NeedLemmas.{is_need, from_need}
use Rattle.derive_walk.proofs.CheckedLemmas.{IsToldNeed, tight_fits, told_need, checked_has, checked_high, source_height}
use Rattle.derive_walk.proofs.ChainHeights.{last_along}
use Rattle.derive_walk.proofs.FallLemmas.{in_listed, need_fits, listed_here, in_tables, derived_at, most_high, falls, tight}
use Rattle.derive_walk.proofs.Tables.{in_push, different_push, at_end, height_if_done, done_or_waiting}

-- ---- the last of a list

pub last_of_push : (front : List Node) (n : Node) → slice_get (front ++ n ∷ []) (length (front ++ n ∷ []) - 1) ≡ Some n
last_of_push [] n = refl
last_of_push (f ∷ []) n = refl
last_of_push (f ∷ g ∷ front) n =
    let fewer : length ((f ∷ g ∷ front) ++ n ∷ []) - 1 ≡ suc (length ((g ∷ front) ++ n ∷ []) - 1) = omega arith in
    ap (slice_get ((f ∷ g ∷ front) ++ n ∷ [])) fewer ∙ last_of_push (g ∷ front) n

pub last_node : (chain front : List Node) (l m : Node) → chain ≡ front ++ l ∷ [] → Some m ≡ slice_get chain (length chain - 1) → m ≡ l
last_node chain front l m is got = same_some (got ∙ ap (λ c. slice_get c (length c - 1)) is ∙ last_of_push front l)

-- ---- nodes that fit

pub path_fits : (w : World) (walk : Walk) → IsTall w walk → (chain : List Node) → chain ≡ walk.path → AllFit w.graph chain
path_fits w walk t chain same = λ n i. t.is.path.fit n (subst (λ l. IsIn n l) same i)

got_last : (chain : List Node) (n : Node) → Some n ≡ slice_get chain (length chain - 1) → IsIn n chain
got_last [] n got = cc
got_last (m ∷ []) n got = inl (same_some got)
got_last (m ∷ k ∷ chain) n got =
    let fewer : length (m ∷ k ∷ chain) - 1 ≡ suc (length (k ∷ chain) - 1) = omega arith in
    inr (got_last (k ∷ chain) n (got ∙ ap (slice_get (m ∷ k ∷ chain)) fewer))

module _ (w : World) (is : IsWorld w) (walk : Walk) (formed : IsFormedIn w walk) (chain : List Node) (fit : AllFit w.graph chain) (n : Node)
    (got : Some n ≡ slice_get chain (length chain - 1)) where
  pub last_fits : Fits w.graph n
  last_fits = fit n (got_last chain n got)

  next_fits : (h : ℕ) (next : Option Node) → IsNextDown w walk n h next → (m : Node) → next ≡ Some m → Fits w.graph m
  next_fits h next (inl told) m found = tight_fits w is n told.checked m (sym told.is ∙ found)
  next_fits h next (inr of) m found =
      need_is_fit w walk formed is n m last_fits (record { needs = of.needs; listed = of.listed; one = (of_height_is (heights_in walk) h of.needs m (sym of.is ∙ found)).0 })

  -- with the next one
  pub longer_fits : (h : ℕ) (next : Option Node) → IsNextDown w walk n h next → (m : Node) → next ≡ Some m → (more : List Node) → more ≡ chain ++ m ∷ [] → AllFit w.graph more
  longer_fits h next down m found more same k i =
      elim (in_push k m chain (subst (λ l. IsIn k l) same i)) [
        | inl j ↦ fit k j
        | inr e ↦ subst (λ z. Fits w.graph z) (sym e) (next_fits h next down m found)
      ]

-- ---- the start

module _ (w : World) (walk : Walk) (t : IsTall w walk) (led : IsLed w walk) where
  holds : HoldsIn w walk
  holds = led.holds

  last_need : IsNeedIn w t.last t.need
  last_need = is_need w walk holds t.last t.needs t.visited t.need t.one

  -- the last node of the path has no height: it would be above the limit
  last_unseen : (j : ℕ) → heights_or w walk t.last ≡ Some j → ⊥
  last_unseen j e =
      let f = falls w walk holds t.last t.need j e last_need in
      let same : height_limit ≡ f.0 = same_some (sym (in_tables w walk holds t.need height_limit t.tall) ∙ f.1) in
      let high = most_high w walk holds t.last j e in
      omega (arith, f.2, same, high)

  -- so no node of the path has one
  path_unseen : (n : Node) (k : ℕ) → IsIn n walk.path → heights_or w walk n ≡ Some k → ⊥
  path_unseen n k i e =
      let j = last_along w walk holds walk.root t.last t.is.front (subst (λ l. Chain w.graph (seen_in w) walk.root l) t.is.is led.leads) n k
      (subst (λ l. IsIn n l) t.is.is i) e in
      last_unseen j.0 j.1

  -- the path leads down from where a need is as high as the limit
  pub start_down : (chain : List Node) → chain ≡ walk.path → LeadsDown w walk chain height_limit
  start_down chain same =
      let last = t.is in
      record {
        holds = holds;
        front = last.front;
        last = t.last;
        is = same ∙ last.is;
        fits = last.path.fit t.last (subst (λ l. IsIn t.last l) (sym last.is) (at_end t.last last.front));
        leads = subst (λ l. Chain w.graph (seen_in w) walk.root l) (sym same) led.leads;
        different = subst (λ l. AreDifferent l) (sym same) last.path.different;
        above = λ n k i e. absurd (path_unseen n k (subst (λ l. IsIn n l) same i) e);
        just = λ k e. absurd (last_unseen k e);
        told = inr (inr (λ m need. t.visited.each m (from_need w walk holds t.last t.needs t.visited m need)));
        next = inr (t.need, last_need, in_tables w walk holds t.need height_limit t.tall);
      }

-- ---- one step

module _ (w : World) (is : IsWorld w) (walk : Walk) (chain : List Node) (h : ℕ) (down : LeadsDown w walk chain h) (low : 0 < h) where
  still : HoldsIn w walk
  still = down.holds

  -- with a need of the last one that is of the height
  with_need : (m : Node) → IsNeedIn w down.last m → heights_or w walk m ≡ Some h → ((h - 1 ≡ 0) ⊎ IsOpenDown w walk m) → (more : List Node) → more ≡ chain ++ m ∷ []
      → LeadsDown w walk more (h - 1)
  with_need m need at told more same = record {
    holds = still;
    front = chain;
    last = m;
    is = same;
    fits = need_fits w is down.last m down.fits need;
    leads = subst (λ l. Chain w.graph (seen_in w) walk.root l) (ap (λ l. l ++ m ∷ []) (sym down.is) ∙ sym same) (chain_on w.graph (seen_in w) down.front walk.root down.last m (subst (λ l. Chain w.graph (seen_in w) walk.root l) down.is down.leads) need);
    different = subst (λ l. AreDifferent l) (sym same) (different_push chain m down.different (λ i. let z : h < h = down.above m h i at in absurd (omega (arith, z))));
    above = λ n k i e. elim (in_push n m chain (subst (λ l. IsIn n l) same i)) [
      | inl j ↦ (let z : h < k = down.above n k j e in omega (arith, z))
      | inr q ↦ (let z : h ≡ k = same_some (sym at ∙ ap (heights_or w walk) (sym q) ∙ e) in omega (arith, z, low))
    ];
    just = λ k e. let z : h ≡ k = same_some (sym at ∙ e) in omega (arith, z, low);
    told = told;
    next = elim (tight w walk still m h at) [
      | inl z ↦ inl (omega (arith, z))
      | inr b ↦ (let next : b.below + 1 ≡ h = b.next in
          let same_height : b.below ≡ h - 1 = omega (arith, next) in
          inr (b.need, b.one, b.is ∙ ap (λ k. Some k) same_height))
    ];
  }

  need_of_height : (m : Node) × IsNeedIn w down.last m × (heights_or w walk m ≡ Some h)
  need_of_height = elim down.next [ inl z ↦ absurd (omega (arith, z, low)) | inr m ↦ m ]

  -- ---- by the record of the last one, which is checked

  module _ (next : Option Node) (by : IsNextByRecord w down.last next) where
    told : IsToldNeed w down.last (tight_node by.checked.kept) h
    told =
        let at = derived_at w walk still down.last by.checked.kept.height (checked_has w still.knows down.last by.checked) (checked_high w still.knows down.last by.checked) in
        told_need w still.knows down.last by.checked h low (down.just by.checked.kept.height at)

    told_high : h ≤ height_limit
    told_high = most_high w walk still need_of_height.0 h need_of_height.2

    told_on : ((h - 1 ≡ 0) ⊎ IsOpenDown w walk told.node)
    told_on = elim told.on [
      | inl source ↦ (let one : h ≡ 1 = source_height w told.node h source told.has in inl (omega (arith, one)))
      | inr checked ↦ inr (inl checked)
    ]

    told_lower : (m : Node) → next ≡ Some m → (more : List Node) → more ≡ chain ++ m ∷ [] → LeadsDown w walk more (h - 1)
    told_lower m found more same =
        let one : told.node ≡ m = same_some (sym told.is ∙ sym by.is ∙ found) in
        with_need told.node told.need (derived_at w walk still told.node h told.has told_high) told_on more (same ∙ ap (λ z. chain ++ z ∷ []) (sym one))

  -- ---- by what it needs

  module _ (next : Option Node) (by : IsNextByNeeds w walk down.last h next) where
    -- a source has no need, and what isn't checked was visited whole
    never : (m : Node) → IsNeedIn w down.last m → IsChecked w.records down.last → ⊥
    never m need checked = elim by.unchecked [ inl source ↦ source_needs_none w down.last (seen_in w) m source need | inr unchecked ↦ unchecked checked ]

    each_visited : (m : Node) → IsNeedIn w down.last m → IsSome (heights_in walk m)
    each_visited m need = elim down.told [
      | inl z ↦ absurd (omega (arith, z, low))
      | inr on ↦ elim on [ inl checked ↦ absurd (never m need checked) | inr each ↦ each m need ]
    ]

    full : Needs w.graph down.last (seen_in w) by.needs
    full =
        let need = need_of_height.1 in
        let here : Needs w.graph down.last (results_of walk.done) need.needs = listed_here w walk still down.last need.needs need.listed (λ m i. each_visited m (record { needs = need.needs; listed = need.listed; one = i })) in
        subst (λ l. Needs w.graph down.last (seen_in w) l) (one_list_of_needs w.graph down.last (results_of walk.done) need.needs by.needs here by.listed) need.listed

    -- there is a need of the height
    need_there : (m : Node) × (of_height (heights_in walk) h by.needs ≡ Some m)
    need_there =
        let m = need_of_height in
        let k = value_of_some (heights_in walk m.0) (each_visited m.0 m.1) in
        let same : k.0 ≡ h = same_some (sym (in_tables w walk still m.0 k.0 k.1) ∙ m.2) in
        has_height (heights_in walk) h by.needs m.0 (in_listed w.graph down.last m.0 (seen_in w) by.needs full m.1) (k.1 ∙ ap Some same)

    need_on : (m : Node) → heights_in walk m ≡ Some h → IsOpenDown w walk m
    need_on m at = elim (done_or_waiting walk.done walk.waiting m h at) [
      | inl d ↦ elim (still.done.needs m d.0 d.1) [
        | inl checked ↦ inl checked
        | inr each ↦ inr (λ x other. let e = value_of_some (done_in walk.done x) (each x other) in ap is_some (height_if_done walk.done walk.waiting x e.0 e.1))
      ]
      | inr q ↦ inr (λ x other. ap is_some ((still.waiting m h q.1).lower x other).is)
    ]

    need_lower : (m : Node) → next ≡ Some m → (more : List Node) → more ≡ chain ++ m ∷ [] → LeadsDown w walk more (h - 1)
    need_lower m found more same =
        let one = of_height_is (heights_in walk) h by.needs m (sym by.is ∙ found) in
        with_need m (record { needs = by.needs; listed = full; one = one.0 }) (in_tables w walk still m h one.1) (inr (need_on m one.1)) more same

  -- ---- by either

  pub next_there : (next : Option Node) → IsNextDown w walk down.last h next → (m : Node) × (next ≡ Some m)
  next_there next (inl by) = let t = told next by in (t.node, by.is ∙ t.is)
  next_there next (inr by) = let t = need_there next by in (t.0, by.is ∙ t.1)

  pub one_lower : (next : Option Node) → IsNextDown w walk down.last h next → (m : Node) → next ≡ Some m → (more : List Node) → more ≡ chain ++ m ∷ []
      → LeadsDown w walk more (h - 1)
  one_lower next (inl by) = told_lower next by
  one_lower next (inr by) = need_lower next by

-- the path has a node, and no more than the limit
pub some_path : (w : World) (walk : Walk) → IsTall w walk → 0 < length walk.path
some_path w walk t = let e = ap length t.is.is in omega (arith, e, length-append t.is.front (t.last ∷ []))

pub few_on_path : (w : World) (walk : Walk) → IsTall w walk → length walk.path ≤ height_limit
few_on_path w walk t = t.is.path.few

-- the chain is deep once it has one node more than the limit
pub deep_chain : (w : World) (walk : Walk) (chain : List Node) (h : ℕ) → LeadsDown w walk chain h → length chain ≡ height_limit + 1 → IsDeep w.graph (seen_in w) walk.root chain
deep_chain w walk chain h down long = record { leads = down.leads; long = long; different = down.different }
