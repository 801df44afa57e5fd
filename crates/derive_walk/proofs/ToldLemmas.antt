-- What is told of nodes, with one node more, and as more outcomes come.
use Rattle.std.proofs.Common.{◌≡◌, List, [], ◌∷◌, ◌++◌, ◌⊎◌, inl, inr, sym, ap, ◌∙◌, subst, refl}
use Rattle.std.specs.Prelude.{◌≢◌, Some, None, map}
use Rattle.object_values.specs.declared.nodes.Node.{Node}
use Rattle.object_values.specs.declared.facts.Fresh.{Fresh}
use Rattle.object_values.specs.declared.facts.RenewedNode.{RenewedNode}
use Rattle.meaning_texts.specs.Lists.{IsIn}
use Rattle.meaning_texts.proofs.Lemmas.{some_is_none, in_left}
use Rattle.meaning_derive.specs.Chains.{AreDifferent}
use Rattle.meaning_true.specs.Knowing.{KeptRecord, IsChecked, IsPresent, TellsTight}
use Rattle.derive_walk.specs.declared.done.Done.{Done}
use Rattle.derive_walk.specs.Tables.{Entries, done_in}
use Rattle.derive_walk.specs.Told.{IsFreshIn, IsRenewedIn, fresh_nodes, renewed_nodes, AreTold, noted_record, renewed_record, IsPresentIn, AreToldRightly}
use Rattle.derive_walk.specs.Worlds.{World}
use Rattle.derive_walk.proofs.Tables.{push_keeps, push_new, push_from, different_push}

-- ---- lists with one more

module _ {A B : Type 0} where
  map_push : (f : A → B) (xs : List A) (x : A) → map f (xs ++ x ∷ []) ≡ map f xs ++ f x ∷ []
  map_push f [] x = refl
  map_push f (y ∷ xs) x = ap (λ l. f y ∷ l) (map_push f xs x)

  in_map : (f : A → B) (xs : List A) (x : A) → IsIn x xs → IsIn (f x) (map f xs)
  in_map f [] x i = absurd i
  in_map f (y ∷ xs) x (inl e) = inl (ap f e)
  in_map f (y ∷ xs) x (inr i) = inr (in_map f xs x i)

  of_map : (f : A → B) (xs : List A) (b : B) → IsIn b (map f xs) → (x : A) × IsIn x xs × (b ≡ f x)
  of_map f [] b i = absurd i
  of_map f (y ∷ xs) b (inl e) = (y, inl refl, e)
  of_map f (y ∷ xs) b (inr i) = let r = of_map f xs b i in (r.0, inr r.1, r.2)

module _ {A : Type 0} where
  in_pushed : (x y : A) (xs : List A) → IsIn x (xs ++ y ∷ []) → IsIn x xs ⊎ (x ≡ y)
  in_pushed x y [] (inl e) = inr e
  in_pushed x y [] (inr i) = absurd i
  in_pushed x y (z ∷ xs) (inl e) = inl (inl e)
  in_pushed x y (z ∷ xs) (inr i) = elim (in_pushed x y xs i) [ inl j ↦ inl (inr j) | inr e ↦ inr e ]

  last_pushed : (y : A) (xs : List A) → IsIn y (xs ++ y ∷ [])
  last_pushed y [] = inl refl
  last_pushed y (z ∷ xs) = inr (last_pushed y xs)

-- ---- one node more

module _ (w : World) (done : Entries) (fresh : List Fresh) (renewed : List RenewedNode) (told : AreTold w done fresh renewed) (n : Node) (none : done_in done n ≡ None)
    (d : Done) where
  abbrev more : Entries
  more = done ++ (n, d) ∷ []

  not_fresh : IsIn n (fresh_nodes fresh) → ⊥
  not_fresh i =
      let f = of_map (λ (f : Fresh). f.fact.node) fresh n i in
      let so = told.noted f.0 f.1 in
      some_is_none (done_in done n) so.entry (subst (λ z. done_in done z ≡ Some so.entry) (sym f.2) so.is) none

  not_renewed : IsIn n (renewed_nodes renewed) → ⊥
  not_renewed i =
      let r = of_map (λ (r : RenewedNode). r.node) renewed n i in
      let so = told.kept r.0 r.1 in
      some_is_none (done_in done n) so.entry (subst (λ z. done_in done z ≡ Some so.entry) (sym r.2) so.is) none

  fresh_on : (f : Fresh) → IsIn f fresh → IsFreshIn w more f
  fresh_on f i = let so = told.noted f i in record {
    truth = so.truth;
    fits = so.fits;
    notable = so.notable;
    entry = so.entry;
    is = push_keeps done n d f.fact.node so.entry so.is;
    value = so.value;
    comes = so.comes;
  }

  renewed_on : (r : RenewedNode) → IsIn r renewed → IsRenewedIn w more r
  renewed_on r i = let so = told.kept r i in record {
    stepped = so.stepped;
    kept = so.kept;
    has = so.has;
    entry = so.entry;
    is = push_keeps done n d r.node so.entry so.is;
    value = so.value;
    comes = so.comes;
  }

  -- a source
  pub told_source : n.steps ≡ [] → AreTold w more fresh renewed
  told_source source = record {
    noted = fresh_on;
    kept = renewed_on;
    once = told.once;
    kept_once = told.kept_once;
    apart = told.apart;
    all = λ m x e stepped. elim (push_from done n d m x e) [
      | inl q ↦ told.all m x q stepped
      | inr q ↦ absurd (stepped (ap (λ (z : Node). z.steps) q.0 ∙ source))
    ];
  }

  -- a node whose record is checked
  pub told_checked : IsChecked w.records n → AreTold w more fresh renewed
  told_checked checked = record {
    noted = fresh_on;
    kept = renewed_on;
    once = told.once;
    kept_once = told.kept_once;
    apart = told.apart;
    all = λ m x e stepped. elim (push_from done n d m x e) [
      | inl q ↦ told.all m x q stepped
      | inr q ↦ inl (subst (IsChecked w.records) (sym q.0) checked)
    ];
  }

  -- a node that was settled
  pub told_settled : (f : Fresh) → f.fact.node ≡ n → IsFreshIn w more f → AreTold w more (fresh ++ f ∷ []) renewed
  told_settled f same so =
      let nodes : fresh_nodes (fresh ++ f ∷ []) ≡ fresh_nodes fresh ++ n ∷ [] = map_push (λ (f : Fresh). f.fact.node) fresh f ∙ ap (λ z. fresh_nodes fresh ++ z ∷ []) same in
      record {
        noted = λ g i. elim (in_pushed g f fresh i) [
          | inl j ↦ fresh_on g j
          | inr e ↦ subst (IsFreshIn w more) (sym e) so
        ];
        kept = renewed_on;
        once = subst AreDifferent (sym nodes) (different_push (fresh_nodes fresh) n told.once not_fresh);
        kept_once = told.kept_once;
        apart = λ m i j. elim (in_pushed m n (fresh_nodes fresh) (subst (IsIn m) nodes i)) [
          | inl k ↦ told.apart m k j
          | inr e ↦ not_renewed (subst (λ z. IsIn z (renewed_nodes renewed)) e j)
        ];
        all = λ m x e stepped. elim (push_from done n d m x e) [
          | inl q ↦ elim (told.all m x q stepped) [
            | inl checked ↦ inl checked
            | inr there ↦ inr (elim there [
              | inl i ↦ inl (subst (IsIn m) (sym nodes) (in_left m (fresh_nodes fresh) (n ∷ []) i))
              | inr i ↦ inr i
            ])
          ]
          | inr q ↦ inr (inl (subst (IsIn m) (sym nodes) (subst (λ z. IsIn z (fresh_nodes fresh ++ n ∷ [])) (sym q.0) (last_pushed n (fresh_nodes fresh)))))
        ];
      }

  -- a node whose record is current
  pub told_renewed : (r : RenewedNode) → r.node ≡ n → IsRenewedIn w more r → AreTold w more fresh (renewed ++ r ∷ [])
  told_renewed r same so =
      let nodes : renewed_nodes (renewed ++ r ∷ []) ≡ renewed_nodes renewed ++ n ∷ [] = map_push (λ (r : RenewedNode). r.node) renewed r ∙ ap (λ z. renewed_nodes renewed ++ z ∷ []) same in
      record {
        noted = fresh_on;
        kept = λ g i. elim (in_pushed g r renewed i) [
          | inl j ↦ renewed_on g j
          | inr e ↦ subst (IsRenewedIn w more) (sym e) so
        ];
        once = told.once;
        kept_once = subst AreDifferent (sym nodes) (different_push (renewed_nodes renewed) n told.kept_once not_renewed);
        apart = λ m i j. elim (in_pushed m n (renewed_nodes renewed) (subst (IsIn m) nodes j)) [
          | inl k ↦ told.apart m i k
          | inr e ↦ not_fresh (subst (λ z. IsIn z (fresh_nodes fresh)) e i)
        ];
        all = λ m x e stepped. elim (push_from done n d m x e) [
          | inl q ↦ elim (told.all m x q stepped) [
            | inl checked ↦ inl checked
            | inr there ↦ inr (elim there [
              | inl i ↦ inl i
              | inr i ↦ inr (subst (IsIn m) (sym nodes) (in_left m (renewed_nodes renewed) (n ∷ []) i))
            ])
          ]
          | inr q ↦ inr (inr (subst (IsIn m) (sym nodes) (subst (λ z. IsIn z (renewed_nodes renewed ++ n ∷ [])) (sym q.0) (last_pushed n (renewed_nodes renewed)))))
        ];
      }

  -- it has its result
  pub entry_there : done_in more n ≡ Some d
  entry_there = push_new done n d none

-- ---- what is right of it

module _ (w : World) (fresh : List Fresh) (renewed : List RenewedNode) (right : AreToldRightly w fresh renewed) where
  pub rightly_settled : (f : Fresh) → IsPresent w.graph w.sources w.outcomes f.fact → ((k : KeptRecord) → w.records f.fact.node ≡ Some k → ¬ IsPresentIn w k)
      → TellsTight w.graph w.sources w.outcomes (noted_record f) → AreToldRightly w (fresh ++ f ∷ []) renewed
  rightly_settled f present anew tells = record {
    present = λ g i. elim (in_pushed g f fresh i) [
      | inl j ↦ right.present g j
      | inr e ↦ subst (λ (z : Fresh). IsPresent w.graph w.sources w.outcomes z.fact) (sym e) present
    ];
    anew = λ g i. elim (in_pushed g f fresh i) [
      | inl j ↦ right.anew g j
      | inr e ↦ subst (λ (z : Fresh). (k : KeptRecord) → w.records z.fact.node ≡ Some k → ¬ IsPresentIn w k) (sym e) anew
    ];
    tight = λ g i. elim (in_pushed g f fresh i) [
      | inl j ↦ right.tight g j
      | inr e ↦ subst (λ (z : Fresh). TellsTight w.graph w.sources w.outcomes (noted_record z)) (sym e) tells
    ];
    current = right.current;
    renewed_tight = right.renewed_tight;
  }

  pub rightly_renewed : (r : RenewedNode) → ((k : KeptRecord) → w.records r.node ≡ Some k → IsPresentIn w k)
      → ((k : KeptRecord) → w.records r.node ≡ Some k → TellsTight w.graph w.sources w.outcomes (renewed_record r.present k))
      → AreToldRightly w fresh (renewed ++ r ∷ [])
  rightly_renewed r current tells = record {
    present = right.present;
    anew = right.anew;
    tight = right.tight;
    current = λ g i. elim (in_pushed g r renewed i) [
      | inl j ↦ right.current g j
      | inr e ↦ subst (λ (z : RenewedNode). (k : KeptRecord) → w.records z.node ≡ Some k → IsPresentIn w k) (sym e) current
    ];
    renewed_tight = λ g i. elim (in_pushed g r renewed i) [
      | inl j ↦ right.renewed_tight g j
      | inr e ↦ subst
          (λ (z : RenewedNode). (k : KeptRecord) → w.records z.node ≡ Some k → TellsTight w.graph w.sources w.outcomes (renewed_record z.present k))
          (sym e) tells
    ];
  }
