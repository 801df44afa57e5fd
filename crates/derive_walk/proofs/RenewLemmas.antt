-- A node that gets its result by its record.
use Rattle.std.proofs.Common.{◌≡◌, [], ◌∷◌, ◌++◌, ◌⊎◌, false, true≢false, inl, inr, sym, ap, ◌∙◌, subst, refl}
use Rattle.std.specs.Prelude.{◌≢◌, Option, Some, None}
use Rattle.object_values.specs.declared.nodes.Node.{Node}
use Rattle.object_values.specs.declared.views.View.{View}
use Rattle.meaning_texts.proofs.Lemmas.{same_some, some_is_none}
use Rattle.meaning_true.specs.Knowing.{KeptRecord, TellsTight}
use Rattle.derive_walk.specs.declared.done.Done.{Done}
use Rattle.derive_walk.specs.declared.trial.Current.{Current}
use Rattle.derive_walk.specs.declared.walk.Walk.{Walk}
use Rattle.derive_walk.specs.CheckedRecords.{HasChecked}
use Rattle.derive_walk.specs.Tables.{Entries}
use Rattle.derive_walk.specs.Told.{IsRenewedIn, renewed_record, IsPresentIn, TakesRenewed}
use Rattle.derive_walk.specs.Trials.{IsTried, renewed_by}
use Rattle.derive_walk.specs.Paths.{HasCurrent, IsAnew, IsLast, IsLed}
use Rattle.derive_walk.specs.States.{IsFormedIn, HoldsIn}
use Rattle.derive_walk.specs.Worlds.{World, IsWorld}
use Rattle.derive_walk.proofs.Added.{holds_with_done}
use Rattle.derive_walk.proofs.FormedLemmas.{formed_with_done}
use Rattle.derive_walk.proofs.CheckedLemmas.{checked_is, checked_is_formed, checked_is_done}
use Rattle.derive_walk.proofs.ClosingLemmas.{last_is_new, met_here}
use Rattle.derive_walk.proofs.CurrentLemmas.{current_is_done, current_needs, current_is_present, current_is_formed}
use Rattle.derive_walk.proofs.Tables.{push_new, not_done}
use Rattle.derive_walk.proofs.TellingLemmas.{current_tells}
use Rattle.derive_walk.proofs.ToldLemmas.{told_checked, told_renewed, rightly_renewed}

-- the trial of a node's record
pub tried_in : (w : World) (walk : Walk) (n : Node) → n.steps ≢ [] → (k : KeptRecord) → w.records n ≡ Some k → (tried : Option Current) (current : Current)
    → tried ≡ Some current → IsTried walk.done k.fact tried → HasCurrent w walk n current
tried_in w walk n stepped k is tried current same so = record { stepped = stepped; kept = k; is = is; holds = subst (IsTried walk.done k.fact) same so }

-- without a record, or with one that is neither checked nor current
pub none_anew : (w : World) (walk : Walk) (n : Node) → (n.steps ≡ []) ⊎ (w.records n ≡ None) → IsAnew w walk n
none_anew w walk n (inl source) = inl source
none_anew w walk n (inr none) = inr (λ checked. some_is_none (w.records n) checked.kept checked.is none, λ k e. some_is_none (w.records n) k e none)

pub stale_anew : (w : World) (walk : Walk) (n : Node) (k : KeptRecord) → w.records n ≡ Some k → k.checked ≡ false → IsTried walk.done k.fact None → IsAnew w walk n
stale_anew w walk n k is unchecked tried = inr (
  λ c. true≢false (sym c.checked ∙ ap (λ (z : KeptRecord). z.checked) (same_some (sym c.is ∙ is)) ∙ unchecked),
  λ x e. subst (λ (z : KeptRecord). IsTried walk.done z.fact None) (same_some (sym is ∙ e)) tried,
)

-- ---- as its record stands

module _ (w : World) (walk : Walk) (n : Node) (last : IsLast w walk n) (d : Done) (checked : HasChecked w n d) (done : Entries) (same : done ≡ walk.done ++ (n, d) ∷ []) where
  pub checked_formed : IsWorld w → IsFormedIn w (record walk { done = done })
  checked_formed is =
      let none = not_done walk.done walk.waiting n (last_is_new w walk n last) in
      formed_with_done w walk last.formed n (last_is_new w walk n last) d (checked_is_formed w n d checked is) walk.fresh walk.renewed
      (told_checked w walk.done walk.fresh walk.renewed last.formed.told n none d (checked_is w n d checked)) last.looked (record walk { done = done })
      (ap (λ z. record walk { done = z }) same)

  pub checked_holds : IsLed w walk → HoldsIn w (record walk { done = done })
  checked_holds led =
      holds_with_done w walk led.holds n (last_is_new w walk n last) d (checked_is_done w n d checked led.holds.knows) (inl (checked_is w n d checked))
      (met_here w walk n last led) walk.fresh walk.renewed led.holds.rightly (record walk { done = done }) (ap (λ z. record walk { done = z }) same)

-- ---- as its record was tried

module _ (w : World) (walk : Walk) (n : Node) (last : IsLast w walk n) (c : Current) (current : HasCurrent w walk n c) (next : Walk)
    (takes : TakesRenewed walk next n c.done (renewed_by n c)) where
  -- its record came to its result
  renewed_in : IsRenewedIn w (walk.done ++ (n, c.done) ∷ []) (renewed_by n c)
  renewed_in = record {
    stepped = current.stepped;
    kept = current.kept;
    has = current.is;
    entry = c.done;
    is = push_new walk.done n c.done (not_done walk.done walk.waiting n (last_is_new w walk n last));
    value = sym (ap (λ (v : View). v.value) current.holds.view);
    comes = record { status = refl; messages = refl; height = refl };
  }

  pub renewed_formed : IsWorld w → IsFormedIn w next
  renewed_formed is =
      let none = not_done walk.done walk.waiting n (last_is_new w walk n last) in
      formed_with_done w walk last.formed n (last_is_new w walk n last) c.done (current_is_formed w is n current.kept current.is walk.done c current.holds)
      walk.fresh (walk.renewed ++ renewed_by n c ∷ [])
      (told_renewed w walk.done walk.fresh walk.renewed last.formed.told n none c.done (renewed_by n c) refl renewed_in) last.looked next takes.is

  pub renewed_holds : IsLed w walk → HoldsIn w next
  renewed_holds led =
      let present : (k : KeptRecord) → w.records n ≡ Some k → IsPresentIn w k = λ k e.
      subst (IsPresentIn w) (same_some (sym current.is ∙ e)) (current_is_present w walk led.holds n current.kept current.is c current.holds) in
      let tells : (k : KeptRecord) → w.records n ≡ Some k → TellsTight w.graph w.sources w.outcomes (renewed_record (renewed_by n c).present k) = λ k e.
      subst (λ z. TellsTight w.graph w.sources w.outcomes (renewed_record (renewed_by n c).present z)) (same_some (sym current.is ∙ e))
      (current_tells w walk.done led.holds.done n current.kept c current.holds) in
      holds_with_done w walk led.holds n (last_is_new w walk n last) c.done (current_is_done w walk led.holds n current.kept current.is c current.holds)
      (inr (current_needs w walk led.holds n current.kept current.is c current.holds)) (met_here w walk n last led)
      walk.fresh (walk.renewed ++ renewed_by n c ∷ [])
      (rightly_renewed w walk.fresh walk.renewed led.holds.rightly (renewed_by n c) present tells) next takes.is
