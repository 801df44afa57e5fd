-- The places of the texts among the contents that a batch adds, with one content more.
use Rattle.std.proofs.Common.{◌≡◌, ◌∷◌, ◌++◌, ℕ, Bool, true, false, cond, List, [], length, sym, ◌∙◌, subst, refl, true≢false}
use Rattle.std.specs.Prelude.{Option, Some, None, All, nat_eq, slice_get}
use Rattle.std.proofs.lemmas.Bool.Decides.{Decides-eqb}
use Rattle.std.proofs.lemmas.Option.{none-some, same_Some}
use Rattle.std.proofs.lemmas.List.Elements.{All-push}
use Rattle.object_values.specs.declared.views.Value.{Value}
use Rattle.kept_contents.specs.Places.{ArePlaced, IsApart}
use Rattle.kept_contents.specs.declared.shared.Shared.{Shared}
use Rattle.kept_contents.specs.declared.shared.Content.{Content}
use Rattle.kept_contents.specs.declared.shared.Content.TheVariants.{Text, Other}
use Rattle.kept_contents.proofs.Items.{kept, last_item}

module _ (added : List Content) (s : Shared) (before after : ℕ → Option ℕ) (is : (id : ℕ) → after id ≡ cond (nat_eq s.id id) (Some (length added)) (before id)) where
  pub placed_more : ArePlaced added before → ArePlaced (added ++ Text s ∷ []) after
  placed_more placed = record {
    right = λ id place at. there id place (nat_eq s.id id) refl (sym (is id) ∙ at);
    whole = λ id free. apart id (nat_eq s.id id) refl (sym (is id) ∙ free);
  }
    where
      there : (id place : ℕ) (t : Bool) → nat_eq s.id id ≡ t → cond t (Some (length added)) (before id) ≡ Some place → (x : Shared) × (slice_get (added ++ Text s ∷ []) place ≡ Some (Text x)) × (x.id ≡ id)
      there id place true same at = (s, subst (λ n. slice_get (added ++ Text s ∷ []) n ≡ Some (Text s)) (same_Some (length added) place at) (last_item added (Text s)), (Decides-eqb s.id id).0 same)
      there id place false other at = let old = placed.right id place at in (old.0, kept added (Text s ∷ []) (Text old.0) place old.1, old.2)

      apart : (id : ℕ) (t : Bool) → nat_eq s.id id ≡ t → cond t (Some (length added)) (before id) ≡ None → All (IsApart id) (added ++ Text s ∷ [])
      apart id true same free = absurd (none-some (length added) (sym free))
      apart id false other free = All-push (IsApart id) added (Text s) (placed.whole id free) (λ same. true≢false (sym ((Decides-eqb s.id id).1 same) ∙ other))

-- a list or a compound
pub placed_still : (added : List Content) (value : Value) (places : ℕ → Option ℕ) → ArePlaced added places → ArePlaced (added ++ Other value ∷ []) places
placed_still added value places placed = record {
  right = λ id place at. let old = placed.right id place at in (old.0, kept added (Other value ∷ []) (Text old.0) place old.1, old.2);
  whole = λ id free. All-push (IsApart id) added (Other value) (placed.whole id free) tt;
}
