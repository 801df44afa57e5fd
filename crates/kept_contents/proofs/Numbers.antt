-- Which content a text leads to.
use Rattle.std.proofs.Common.{◌≡◌, ◌<◌, ℕ, zero, suc, true, false, cond, List, [], ◌∷◌, ◌++◌, inl, inr, get_or, length, replicate, length-append, ap, sym, ◌∙◌, subst, refl, arith}
use Rattle.std.proofs.Math.ListN.{set, length-set}
use Rattle.std.specs.Prelude.{Option, Some, None, is_some, slice_get, IfSome, IfNone}
use Rattle.std.proofs.lemmas.Bool.{cases_eq}
use Rattle.std.proofs.lemmas.List.{length-replicate}
use Rattle.std.proofs.lemmas.Option.{none-some, same_Some, slice_get-get_or}
use Rattle.object_values.specs.declared.views.Value.{Value}
use Rattle.object_values.specs.declared.views.Value.TheVariants.{Simple}
use Rattle.content_store.specs.Bodies.{Bodies, place_of_body, with_body}
use Rattle.content_store.proofs.Lemmas.{place_stands, place_kept}
use Rattle.meaning_records.specs.Tables.{IsText, IsNoText}
use Rattle.meaning_records.specs.Numbers.{number_of}
use Rattle.meaning_records.proofs.Lemmas.{leads_back, nowhere_none, number_stays, number_behind}
use Rattle.kept_contents.specs.Stocks.{IsNumbered, IsOther}
use Rattle.kept_contents.proofs.Items.{kept, last_or_before, set_there, set_elsewhere, has_place}

pub same_text : (a b : List ℕ) → Simple a ≡ Simple b → a ≡ b
same_text a b e = cc

-- one number in memory is of one text
pub one_of : (texts : Bodies) (a b : List ℕ) (id : ℕ) → place_of_body a texts ≡ Some id → place_of_body b texts ≡ Some id → a ≡ b
one_of texts a b id p q = same_Some a b (sym (place_stands a texts id p) ∙ place_stands b texts id q)

-- the number of the next content
pub next_number : (contents : List Value) (text : List ℕ) (number : ℕ) → IsNoText contents text → IsText (contents ++ Simple text ∷ []) number text → number ≡ length contents
next_number contents text number none is = elim (last_or_before contents (Simple text) (Simple text) number is) [ inl before ↦ absurd (none number before) | inr last ↦ last.0 ]

pub numbered_none : IsNumbered [] [] []
numbered_none = record {
  long = refl;
  right = λ id number h. absurd (none-some (Some number) h);
  whole = λ number text h. absurd (none-some (Simple text) h);
}

no_number : (n id number : ℕ) → slice_get (replicate {A = Option ℕ} n None) id ≡ Some (Some number) → ⊥
no_number zero id number h = none-some (Some number) h
no_number (suc n) zero number h = none-some number (same_Some None (Some number) h)
no_number (suc n) (suc id) number h = no_number n id number h

-- texts that are held, of which none is a content
pub numbered_cleared : (texts : Bodies) (numbers : List (Option ℕ)) → length numbers ≡ length texts → IsNumbered [] texts (replicate (length numbers) None)
numbered_cleared texts numbers long = record {
  long = length-replicate (length numbers) None ∙ long;
  right = λ id number h. absurd (no_number (length numbers) id number h);
  whole = λ number text h. absurd (none-some (Simple text) h);
}

module _ (contents : List Value) (texts : Bodies) (numbers : List (Option ℕ)) (index : IsNumbered contents texts numbers) where
  -- what is found of a text
  leads_number : (text : List ℕ) (id number : ℕ) → place_of_body text texts ≡ Some id → slice_get numbers id ≡ Some (Some number) → number_of (Simple text) contents ≡ Some number
  leads_number text id number at h = let r = index.right id number h in subst (λ (t : List ℕ). number_of (Simple t) contents ≡ Some number) (one_of texts r.0 text id r.1 at) r.2

  pub leads : (text : List ℕ) (id number : ℕ) → place_of_body text texts ≡ Some id → slice_get numbers id ≡ Some (Some number) → IsText contents number text
  leads text id number at h = leads_back (Simple text) contents number (leads_number text id number at h)

  pub leads_nowhere : (text : List ℕ) (id : ℕ) → place_of_body text texts ≡ Some id → slice_get numbers id ≡ Some None → IsNoText contents text
  leads_nowhere text id at h number is =
      let w = index.whole number text is in
      let same : id ≡ w.0 = same_Some id w.0 (sym at ∙ w.2) in
      none-some w.1 (same_Some None (Some w.1) (sym h ∙ ap (slice_get numbers) same ∙ w.3))

  -- what is found of a text that is held
  pub led : (text : List ℕ) (id : ℕ) (found : Option ℕ) → place_of_body text texts ≡ Some id → slice_get numbers id ≡ Some found → IfSome found (λ n. IsText contents n text) × IfNone found (IsNoText contents text)
  led text id (Some n) at h = (leads text id n at h, tt)
  led text id None at h = (tt, leads_nowhere text id at h)

  -- the number of a text that is held
  pub number_found : (text : List ℕ) (id : ℕ) (found : Option ℕ) → place_of_body text texts ≡ Some id → slice_get numbers id ≡ Some found → found ≡ number_of (Simple text) contents
  number_found text id (Some n) at h = sym (leads_number text id n at h)
  number_found text id None at h = sym (nowhere_none (Simple text) contents (leads_nowhere text id at h))

  pub not_held : (text : List ℕ) → place_of_body text texts ≡ None → IsNoText contents text
  not_held text none number is = let w = index.whole number text is in none-some w.0 (sym none ∙ w.2)

  pub number_missed : (text : List ℕ) → place_of_body text texts ≡ None → number_of (Simple text) contents ≡ None
  number_missed text none = nowhere_none (Simple text) contents (not_held text none)

  pub id_within : (text : List ℕ) (id : ℕ) → place_of_body text texts ≡ Some id → id < length numbers
  id_within text id at = subst (λ n. id < n) (sym index.long) (has_place texts text id (place_stands text texts id at))

  -- a text that is held from now on
  held_more : (text : List ℕ) → IsNumbered contents (texts ++ text ∷ []) (numbers ++ None ∷ [])
  held_more text = record {
    long = omega (arith, length-append texts (text ∷ []), length-append numbers (None ∷ []), index.long);
    right = λ id number h. elim (last_or_before numbers None (Some number) id h) [
      | inl before ↦ let r = index.right id number before in (r.0, place_kept r.0 texts (text ∷ []) id r.1, r.2)
      | inr last ↦ absurd (none-some number (sym last.1))
    ];
    whole = λ number t is. let w = index.whole number t is in (w.0, w.1, place_kept t texts (text ∷ []) w.0 w.2, kept numbers (None ∷ []) (Some w.1) w.0 w.3);
  }

  pub held_new : (text : List ℕ) → length numbers < length (with_body text texts) → IsNumbered contents (with_body text texts) (numbers ++ None ∷ [])
  held_new text longer = (elim (is_some (place_of_body text texts)) as (λ t. length numbers < length (cond t texts (texts ++ text ∷ [])) → IsNumbered contents (cond t texts (texts ++ text ∷ [])) (numbers ++ None ∷ [])) [
    | true ↦ λ h. absurd (omega (arith, h, index.long))
    | false ↦ λ h. held_more text
  ]) longer

  pub held_known : (text : List ℕ) → (length numbers < length (with_body text texts) → ⊥) → IsNumbered contents (with_body text texts) numbers
  held_known text no_longer = (elim (is_some (place_of_body text texts)) as (λ t. (length numbers < length (cond t texts (texts ++ text ∷ [])) → ⊥) → IsNumbered contents (cond t texts (texts ++ text ∷ [])) numbers) [
    | true ↦ λ h. index
    | false ↦ λ h. absurd (h (omega (arith, length-append texts (text ∷ []), index.long)))
  ]) no_longer

  -- a text that is the next content
  pushed_known : (text : List ℕ) (id n : ℕ) → place_of_body text texts ≡ Some id → slice_get numbers id ≡ Some (Some n) → IsNumbered (contents ++ Simple text ∷ []) texts numbers
  pushed_known text id n at known = record {
    long = index.long;
    right = λ other number h. let r = index.right other number h in (r.0, r.1, number_stays (Simple r.0) contents (Simple text ∷ []) number r.2);
    whole = λ number t is. elim (last_or_before contents (Simple text) (Simple t) number is) [
      | inl before ↦ index.whole number t before
      | inr last ↦ (id, n, ap (λ b. place_of_body b texts) (same_text t text last.1) ∙ at, known)
    ];
  }

  pushed_fresh : (text : List ℕ) (id : ℕ) → place_of_body text texts ≡ Some id → slice_get numbers id ≡ Some None → IsNumbered (contents ++ Simple text ∷ []) texts (set numbers id (Some (length contents)))
  pushed_fresh text id at fresh = record {
    long = omega (arith, length-set {A = Option ℕ} numbers id (Some (length contents)), index.long);
    right = λ other number h. elim (cases_eq id other) [
      | inl same ↦
          let is : length contents ≡ number = same_Some _ _ (same_Some _ _ (sym (set_there numbers id (Some (length contents)) (id_within text id at)) ∙ ap (slice_get (set numbers id (Some (length contents)))) same ∙ h)) in
          let none = nowhere_none (Simple text) contents (leads_nowhere text id at fresh) in
          (text, at ∙ ap Some same, number_behind (Simple text) contents none ∙ ap Some is)
      | inr apart ↦
          let r = index.right other number (sym (set_elsewhere numbers id other (Some (length contents)) apart) ∙ h) in
          (r.0, r.1, number_stays (Simple r.0) contents (Simple text ∷ []) number r.2)
    ];
    whole = λ number t is. elim (last_or_before contents (Simple text) (Simple t) number is) [
      | inl before ↦ let w = index.whole number t before in elim (cases_eq id w.0) [
        | inl same ↦ (id, length contents, w.2 ∙ ap Some (sym same), set_there numbers id (Some (length contents)) (id_within text id at))
        | inr apart ↦ (w.0, w.1, w.2, set_elsewhere numbers id w.0 (Some (length contents)) apart ∙ w.3)
      ]
      | inr last ↦ (id, length contents, ap (λ b. place_of_body b texts) (same_text t text last.1) ∙ at, set_there numbers id (Some (length contents)) (id_within text id at))
    ];
  }

  pub pushed : (text : List ℕ) (id : ℕ) (next : List (Option ℕ)) → place_of_body text texts ≡ Some id → ((n : ℕ) → slice_get numbers id ≡ Some (Some n) → next ≡ numbers) → (slice_get numbers id ≡ Some None → next ≡ set numbers id (Some (length contents))) → IsNumbered (contents ++ Simple text ∷ []) texts next
  pushed text id next at known fresh = by_entry (get_or numbers id None) (slice_get-get_or numbers id None (id_within text id at))
    where
      by_entry : (found : Option ℕ) → slice_get numbers id ≡ Some found → IsNumbered (contents ++ Simple text ∷ []) texts next
      by_entry (Some n) h = subst (IsNumbered (contents ++ Simple text ∷ []) texts) (sym (known n h)) (pushed_known text id n at h)
      by_entry None h = subst (IsNumbered (contents ++ Simple text ∷ []) texts) (sym (fresh h)) (pushed_fresh text id at h)

  -- a content that is no text
  pub pushed_other : (value : Value) → IsOther value → IsNumbered (contents ++ value ∷ []) texts numbers
  pushed_other value other = record {
    long = index.long;
    right = λ id number h. let r = index.right id number h in (r.0, r.1, number_stays (Simple r.0) contents (value ∷ []) number r.2);
    whole = λ number t is. elim (last_or_before contents value (Simple t) number is) [
      | inl before ↦ index.whole number t before
      | inr last ↦ absurd (subst IsOther (sym last.1) other)
    ];
  }
