-- Nodes that were looked at, with one more, or with one more result.
use Rattle.std.proofs.Common.{◌≡◌, ℕ, [], ◌∷◌, ◌++◌, inl, inr, sym, ap, ◌∙◌, subst, refl, is_some}
use Rattle.std.specs.Prelude.{◌≢◌, Option, Some, None, IfSome, IsSome, option_map}
use Rattle.object_values.specs.declared.nodes.Node.{Node}
use Rattle.object_values.specs.declared.records.NodeRecord.{NodeRecord}
use Rattle.meaning_texts.specs.Lists.{IsIn}
use Rattle.meaning_texts.proofs.Lemmas.{same_some, value_of_some}
use Rattle.meaning_derive.specs.Chains.{AreDifferent}
use Rattle.meaning_true.specs.Knowing.{MayLook}
use Rattle.meaning_true.specs.Numbered.{kept_by}
use Rattle.derive_walk.specs.declared.done.Done.{Done}
use Rattle.derive_walk.specs.declared.walk.Walk.{Walk}
use Rattle.derive_walk.specs.Keeping.{Keeping, IsLookedUp, places_in, records_in}
use Rattle.derive_walk.specs.Looked.{AreLookups, MayBeLooked}
use Rattle.derive_walk.specs.Places.{Lookups, at_place, looked_nodes, place_in}
use Rattle.derive_walk.specs.States.{IsFormedIn, HoldsIn, OnlyLooks}
use Rattle.derive_walk.specs.Tables.{Entries, done_in}
use Rattle.derive_walk.specs.Trials.{IsNamed}
use Rattle.derive_walk.specs.Worlds.{World}
use Rattle.derive_walk.proofs.Tables.{push_keeps, push_from, push_new, nodes_push, not_among, different_push, in_push, still_there}

module _ (w : World) (done : Entries) (looked : Lookups) (are : AreLookups w done looked) (n : Node) where
  -- one more that was looked at
  pub lookups_push : (place : Option ℕ) → place_in looked n ≡ None → n.steps ≢ [] → at_place w.places place ≡ w.records n
      → AreLookups w done (looked ++ (n, place) ∷ [])
  lookups_push place none stepped is = record {
    different = subst AreDifferent (sym (nodes_push looked n place)) (different_push (looked_nodes looked) n are.different (not_among looked n none));
    stepped = λ m i. elim (in_push m n (looked_nodes looked) (subst (λ l. IsIn m l) (nodes_push looked n place) i)) [
      | inl j ↦ are.stepped m j
      | inr e ↦ subst (λ (z : Node). z.steps ≢ []) (sym e) stepped
    ];
    places = λ m p e. elim (push_from looked n place m p e) [
      | inl q ↦ are.places m p q
      | inr q ↦ subst (λ z. at_place w.places p ≡ w.records z) (sym q.0) (subst (λ z. at_place w.places z ≡ w.records n) q.1 is)
    ];
    done = λ m there some. still_there looked n place m (are.done m there some);
  }

  -- one more that has a result
  pub lookups_done : (d : Done) → (n.steps ≢ [] → IsSome (place_in looked n)) → AreLookups w (done ++ (n, d) ∷ []) looked
  lookups_done d there = record {
    different = are.different;
    stepped = are.stepped;
    places = are.places;
    done = λ m has some. let x = value_of_some (done_in (done ++ (n, d) ∷ []) m) has in elim (push_from done n d m x.0 x.1) [
      | inl q ↦ are.done m (ap is_some q) some
      | inr q ↦ subst (λ (z : Node). z.steps ≢ [] → IsSome (place_in looked z)) (sym q.0) there some
    ];
  }

-- ---- the look at a node

pub same_looks : (walk : Walk) → OnlyLooks walk walk
same_looks walk = record { looked = walk.looked; is = refl; stays = λ m place e. e }

module _ (w : World) (walk : Walk) (n : Node) (none : place_in walk.looked n ≡ None) (place : Option ℕ) (looked : Lookups)
    (is : looked ≡ walk.looked ++ (n, place) ∷ []) where
  pub looks_more : OnlyLooks walk (record walk { looked = looked })
  looks_more = record {
    looked = looked;
    is = refl;
    stays = λ m p e. subst (λ l. place_in l m ≡ Some p) (sym is) (push_keeps walk.looked n place m p e);
  }

  pub look_there : IsSome (place_in looked n)
  look_there = ap is_some (subst (λ l. place_in l n ≡ Some place) (sym is) (push_new walk.looked n place none))

  pub look_formed : IsFormedIn w walk → n.steps ≢ [] → at_place w.places place ≡ w.records n → IsFormedIn w (record walk { looked = looked })
  look_formed formed stepped at = record {
    root = formed.root;
    done = formed.done;
    told = formed.told;
    looked = subst (λ l. AreLookups w walk.done l) (sym is) (lookups_push w walk.done walk.looked formed.looked n place none stepped at);
    waiting = formed.waiting;
    wanted = formed.wanted;
  }

  may_more : MayLook w.graph w.sources w.outcomes w.records walk.root n → MayBeLooked w walk.root walk.looked → MayBeLooked w walk.root looked
  may_more may all m i =
      elim (in_push m n (looked_nodes walk.looked) (subst (λ l. IsIn m l) (nodes_push walk.looked n place) (subst (λ l. IsIn m (looked_nodes l)) is i))) [
        | inl j ↦ all m j
        | inr e ↦ subst (λ z. MayLook w.graph w.sources w.outcomes w.records walk.root z) (sym e) may
      ]

  pub look_holds : MayLook w.graph w.sources w.outcomes w.records walk.root n → HoldsIn w walk → HoldsIn w (record walk { looked = looked })
  look_holds may holds = record {
    knows = holds.knows;
    done = holds.done;
    met = holds.met;
    rightly = holds.rightly;
    may = may_more may holds.may;
    waiting = holds.waiting;
    one = holds.one;
    only = holds.only;
    once = holds.once;
  }

-- ---- what stands at its place

pub named_one : {A B : Type 0} (r : Option A) (f : A → B) (P : B → Type 0) → IfSome r (λ x. P (f x)) → (y : B) → option_map f r ≡ Some y → P y
named_one None f P named y e = cc
named_one (Some x) f P named y e = subst P (same_some e) named

module _ (k : Keeping) where
  -- a place of the records as they are kept is one of what they say
  pub place_says : (n : Node) (place : Option ℕ) → at_place k.placed place ≡ k.records n → at_place (places_in k) place ≡ records_in k n
  place_says n None at = ap (option_map (kept_by k.contents k.epoch)) at
  place_says n (Some p) at = ap (option_map (kept_by k.contents k.epoch)) at

  pub no_place : (n : Node) (place : Option ℕ) → at_place (places_in k) place ≡ records_in k n → place ≡ None → IsLookedUp k n None
  no_place n place at none = inr (sym at ∙ ap (at_place (places_in k)) none)

  pub at_one : (n : Node) (place : Option ℕ) (p : ℕ) → at_place (places_in k) place ≡ records_in k n → place ≡ Some p → (r : Option NodeRecord) → r ≡ k.placed p
      → ((x : NodeRecord) → r ≡ Some x → IsNamed k.contents x) → IsLookedUp k n r
  at_one n place p at is None found named =
      inr (sym at ∙ ap (at_place (places_in k)) is ∙ ap (option_map (kept_by k.contents k.epoch)) (sym found))
  at_one n place p at is (Some x) found named = record {
    is = sym at ∙ ap (at_place (places_in k)) is ∙ ap (option_map (kept_by k.contents k.epoch)) (sym found);
    named = named x refl;
  }
