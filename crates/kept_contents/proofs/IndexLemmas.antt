-- What is found of lists and compounds by their digests, and contents with one more.
use Rattle.std.proofs.Common.{◌≡◌, ◌≢◌, ℕ, Bool, true, false, cond, List, [], ◌∷◌, ◌++◌, inl, inr, length, append-nil, ap, sym, ◌∙◌, subst, refl, true≢false, arith}
use Rattle.std.specs.Prelude.{◌↔◌, IsTrue, OnErr, Result, Ok, Err, Option, Some, None, is_some, All, Contains, IfSome, IfNone, nat_eq, slice_get}
use Rattle.std.specs.Hash.{HashWrites}
use Rattle.std.specs.List.{flat_map, fold}
use Rattle.std.proofs.lemmas.Grind.{flat_map-append}
use Rattle.std.proofs.lemmas.List.Sums.{fold-append}
use Rattle.std.proofs.lemmas.Option.{none-some, same_Some}
use Rattle.std.specs.Cmp.Lexicographic.{pointwise, bytes_decides}
use Rattle.std.proofs.lemmas.List.Elements.{All-contains, All-push, All-weaker, Contains-append_left, Contains-push}
use Rattle.object_values.specs.declared.views.Value.{Value}
use Rattle.object_values.specs.declared.views.Value.TheVariants.{Simple}
use Rattle.meaning_records.specs.Numbers.{number_of}
use Rattle.object_values.specs.contracts.views.ValuePartialEq.TheImpl.{ghosts as value_eq}
use Rattle.meaning_records.proofs.Lemmas.{leads_back, number_before, number_behind, number_stays, value_exact}
use Rattle.kept_contents.specs.declared.shared.Shared.{Shared}
use Rattle.kept_contents.specs.declared.shared.Content.{Content}
use Rattle.kept_contents.specs.declared.shared.Content.TheVariants.{Text, Other}
use Rattle.kept_contents.specs.Index.{IsIndexOf, IsNumber, digest_of}
use Rattle.kept_contents.specs.Stocks.{IsOther, value_of, values_of_contents}
use Rattle.kept_contents.proofs.Items.{mapped}
use Rattle.kept_contents.proofs.Contents.{unmapped}

pub on_err : {T E P : Type 0} (r : Result T E) → P → OnErr r P
on_err (Ok x) p = tt
on_err (Err e) p = p

pub none_there : (o : Option ℕ) → is_some o ≡ false → o ≡ None
none_there None e = refl
none_there (Some i) e = absurd (true≢false e)

pub some_there : (o : Option ℕ) → is_some o ≡ true → (i : ℕ) × (o ≡ Some i)
some_there None e = absurd (true≢false (sym e))
some_there (Some i) e = (i, refl)

-- the number of what stands there is its own
pub number_there : (contents : List Value) (number : ℕ) (value : Value) → IsNumber contents number → slice_get contents number ≡ Some value → number_of value contents ≡ Some number
number_there contents number value is at = subst (λ (v : Value). number_of v contents ≡ Some number) (same_Some is.0 value (sym (leads_back is.0 contents number is.1) ∙ at)) is.1

grown : (contents : List Value) (c : Value) (number : ℕ) → IsNumber contents number → IsNumber (contents ++ c ∷ []) number
grown contents c number is = (is.0, number_stays is.0 contents (c ∷ []) number is.1)

pub empty_index : (first : List ℕ → Option ℕ) → ((key : List ℕ) → first key ≡ None) → IsIndexOf [] first []
empty_index first nowhere = record {
  found = λ value number other at. absurd (none-some number at);
  first_right = λ key number h. absurd (none-some number (sym (nowhere key) ∙ h));
  clashing_right = λ k d h. absurd (omega (arith, h));
}

-- the same by another table
pub index_alike : (contents : List Value) (first next : List ℕ → Option ℕ) (clashing later : List ℕ) → ((key : List ℕ) → next key ≡ first key) → later ≡ clashing → IsIndexOf contents first clashing → IsIndexOf contents next later
index_alike contents first next clashing later same still is =
    let alike : next ≡ first = λ i key. same key i in
    subst (λ (l : List ℕ). IsIndexOf contents next l) (sym still) (subst (λ (f : List ℕ → Option ℕ). IsIndexOf contents f clashing) (sym alike) is)

-- whether what stands at a number is the value
module _ (items : List Content) (number : ℕ) (value : Value) (other : IsOther value) (is : IsNumber (values_of_contents items) number) where
  abbrev Answers : Bool → Type 0
  Answers b = IsTrue b ↔ (number_of value (values_of_contents items) ≡ Some number)

  pub other_there : (v : Value) (b : Bool) → slice_get items number ≡ Some (Other v) → b ≡ value_eq.eq v value → Answers b
  other_there v b at test =
      let here : slice_get (values_of_contents items) number ≡ Some v = mapped value_of items (Other v) number at in (
        λ yes. number_there (values_of_contents items) number value is (here ∙ ap Some ((value_exact v value).0 (sym test ∙ yes))),
        λ n. test ∙ (value_exact v value).1 (same_Some v value (sym here ∙ leads_back value (values_of_contents items) number n)),
      )

  pub text_there : (s : Shared) → slice_get items number ≡ Some (Text s) → Answers false
  text_there s at = (
    λ no. absurd (true≢false (sym no)),
    λ n. absurd (subst IsOther (same_Some value (Simple s.text) (sym (leads_back value (values_of_contents items) number n) ∙ mapped value_of items (Text s) number at)) other),
  )

  pub none_stands : slice_get items number ≡ None → Answers false
  none_stands at = (
    λ no. absurd (true≢false (sym no)),
    λ n. absurd (none-some value (sym (unmapped value_of items number at) ∙ leads_back value (values_of_contents items) number n)),
  )

module _ (contents : List Value) (first : List ℕ → Option ℕ) (clashing : List ℕ) (is : IsIndexOf contents first clashing) where
  -- a text more
  pub index_stays : (c : Value) → (IsOther c → (n : ℕ) × (number_of c contents ≡ Some n)) → IsIndexOf (contents ++ c ∷ []) first clashing
  index_stays c known = record {
    found = λ value number other at. elim (number_before contents c value number at) [
      | inl before ↦ is.found value number other before
      | inr last ↦ let k = known (subst IsOther last.1 other) in absurd (none-some k.0 (sym last.0 ∙ ap (λ (v : Value). number_of v contents) last.1 ∙ k.1))
    ];
    first_right = λ key number h. grown contents c number (is.first_right key number h);
    clashing_right = All-weaker (IsNumber contents) (IsNumber (contents ++ c ∷ [])) (grown contents c) clashing is.clashing_right;
  }

  module _ (value : Value) (other : IsOther value) where
    -- a value whose digest leads nowhere
    pub no_hash : first (digest_of value) ≡ None → number_of value contents ≡ None
    no_hash none = (elim (number_of value contents) as (λ o. number_of value contents ≡ o → number_of value contents ≡ None) [
      | None ↦ λ e. e
      | Some n ↦ λ e. let f = is.found value n other e in absurd (none-some f.0 (sym none ∙ f.1))
    ]) refl

    -- what is found from the number that its digest leads to
    pub answered : (k : ℕ) → first (digest_of value) ≡ Some k → (r : Option ℕ) → IfSome r (λ n. number_of value contents ≡ Some n) → IfNone r (number_of value contents ≢ Some k) → IfNone r (All (λ n. number_of value contents ≢ Some n) clashing) → r ≡ number_of value contents
    answered k at (Some n) here not_first not_others = sym here
    answered k at None here not_first not_others = (elim (number_of value contents) as (λ o. number_of value contents ≡ o → None ≡ number_of value contents) [
      | None ↦ λ e. sym e
      | Some n ↦ λ e. let f = is.found value n other e in elim f.2 [
        | inl same ↦ absurd (not_first (e ∙ ap Some (same ∙ same_Some f.0 k (sym f.1 ∙ at))))
        | inr clash ↦ absurd (All-contains (λ m. number_of value contents ≢ Some m) clashing n not_others clash e)
      ]
    ]) refl

    module _ (fresh : number_of value contents ≡ None) where
      -- the value is the first of its digest
      pub more_first : (next : List ℕ → Option ℕ) → first (digest_of value) ≡ None → ((key : List ℕ) → next key ≡ cond (pointwise nat_eq (digest_of value) key) (Some (length contents)) (first key)) → IsIndexOf (contents ++ value ∷ []) next clashing
      more_first next free led = record {
        found = λ v n o at. elim (number_before contents value v n at) [
          | inl before ↦ let f = is.found v n o before in (
            f.0,
            led (digest_of v) ∙ elsewhere (digest_of v) f.0 (pointwise nat_eq (digest_of value) (digest_of v)) refl f.1,
            elim f.2 [
              | inl e ↦ inl e
              | inr c ↦ inr c
            ],
          )
          | inr last ↦ (length contents, ap (λ (x : Value). next (digest_of x)) last.1 ∙ led (digest_of value) ∙ ap (λ t. cond t (Some (length contents)) (first (digest_of value))) ((bytes_decides (digest_of value) (digest_of value)).1 refl), inl last.2)
        ];
        first_right = λ key n e. right key n (pointwise nat_eq (digest_of value) key) (sym (led key) ∙ e);
        clashing_right = All-weaker (IsNumber contents) (IsNumber (contents ++ value ∷ [])) (grown contents value) clashing is.clashing_right;
      }
        where
          elsewhere : (key : List ℕ) (n : ℕ) (t : Bool) → pointwise nat_eq (digest_of value) key ≡ t → first key ≡ Some n → cond t (Some (length contents)) (first key) ≡ Some n
          elsewhere key n true same e = absurd (none-some n (sym free ∙ ap first ((bytes_decides (digest_of value) key).0 same) ∙ e))
          elsewhere key n false apart e = e

          right : (key : List ℕ) (n : ℕ) (t : Bool) → cond t (Some (length contents)) (first key) ≡ Some n → IsNumber (contents ++ value ∷ []) n
          right key n true e = (value, number_behind value contents fresh ∙ e)
          right key n false e = grown contents value n (is.first_right key n e)

      -- its digest has one before
      pub more_clashing : (k : ℕ) × (first (digest_of value) ≡ Some k) → IsIndexOf (contents ++ value ∷ []) first (clashing ++ length contents ∷ [])
      more_clashing taken = record {
        found = λ v n o at. elim (number_before contents value v n at) [
          | inl before ↦ let f = is.found v n o before in (
            f.0,
            f.1,
            elim f.2 [
              | inl e ↦ inl e
              | inr c ↦ inr (Contains-append_left clashing (length contents ∷ []) n c)
            ],
          )
          | inr last ↦ (taken.0, ap (λ (x : Value). first (digest_of x)) last.1 ∙ taken.1, inr (subst (Contains (clashing ++ length contents ∷ [])) (sym last.2) (Contains-push clashing (length contents))))
        ];
        first_right = λ key n e. grown contents value n (is.first_right key n e);
        clashing_right = All-push (IsNumber (contents ++ value ∷ [])) clashing (length contents) (All-weaker (IsNumber contents) (IsNumber (contents ++ value ∷ [])) (grown contents value) clashing is.clashing_right) (value, number_behind value contents fresh);
      }

-- a value that isn't there, by its digest and its number: after others of its digest, and as the first
module _ (first : List ℕ → Option ℕ) (clashing : List ℕ) (digest : List ℕ) (number : ℕ) where
  pub put_clashing : (later : List ℕ) → later ≡ clashing ++ number ∷ [] → is_some (first digest) ≡ true → (contents : List Value) (value : Value) → IsIndexOf contents first clashing → IsOther value → number_of value contents ≡ None
      → digest ≡ digest_of value → number ≡ length contents → IsIndexOf (contents ++ value ∷ []) first later
  put_clashing later grown taken contents value is other fresh its at =
      subst (λ (l : List ℕ). IsIndexOf (contents ++ value ∷ []) first l) (sym (grown ∙ ap (λ (n : ℕ). clashing ++ n ∷ []) at))
      (more_clashing contents first clashing is value other fresh (some_there (first (digest_of value)) (subst (λ (d : List ℕ). is_some (first d) ≡ true) its taken)))

  pub put_first : (next : List ℕ → Option ℕ) → ((key : List ℕ) → next key ≡ cond (pointwise nat_eq digest key) (Some number) (first key)) → is_some (first digest) ≡ false → (contents : List Value) (value : Value) → IsIndexOf contents first clashing
      → IsOther value → number_of value contents ≡ None → digest ≡ digest_of value → number ≡ length contents → IsIndexOf (contents ++ value ∷ []) next clashing
  put_first next led free contents value is other fresh its at =
      more_first contents first clashing is value other fresh next (none_there (first (digest_of value)) (subst (λ (d : List ℕ). is_some (first d) ≡ false) its free))
      (λ key. led key ∙ (λ i. cond (pointwise nat_eq (its i) key) (Some (at i)) (first key)))

-- what a hasher was fed from its beginning
pub fed_from : {S : Type 0} (write : S → List ℕ → S) (initial start end : S) (fed : HashWrites) → start ≡ initial → end ≡ fold write start fed → end ≡ fold write initial fed
fed_from write initial start end fed begins ends = ends ∙ ap (λ s. fold write s fed) begins

pub fed_more : {S A : Type 0} (write : S → List ℕ → S) (initial start end : S) (fed : A → HashWrites) (xs next : List A) (x : A) → start ≡ fold write initial (flat_map fed xs) → end ≡ fold write start (fed x) → next ≡ xs ++ x ∷ [] → end ≡ fold write initial (flat_map fed next)
fed_more write initial start end fed xs next x begins ends more =
    ends
    ∙ ap (λ s. fold write s (fed x)) begins
    ∙ sym (fold-append write initial (flat_map fed xs) (fed x))
    ∙ ap (fold write initial) (ap (λ l. flat_map fed xs ++ l) (sym (append-nil (fed x))) ∙ sym (flat_map-append fed xs (x ∷ [])) ∙ ap (flat_map fed) (sym more))
