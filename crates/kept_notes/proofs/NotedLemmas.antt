-- Records that may be noted, while contents come after the others and what nodes come to at present is renewed.
use Rattle.std.proofs.Common.{◌≡◌, ◌≤◌, ◌<◌, ◌∙◌, ℕ, zero, suc, List, [], ◌∷◌, ◌++◌, inl, inr, length, map, ap, sym, subst, refl, true≢false, arith}
use Rattle.std.specs.Prelude.{◌↔◌, IsNone, Option, Some, None, slice_get}
use Rattle.std.specs.List.{All, flat_map}
use Rattle.std.proofs.lemmas.List.Elements.{All-cons, All-head, All-nil, All-tail, All-weaker}
use Rattle.std.proofs.lemmas.List.{length-append}
use Rattle.std.proofs.lemmas.Option.{none-some, same_Some}
use Rattle.object_values.specs.declared.messages.Status.TheVariants.{Abort}
use Rattle.object_values.specs.declared.facts.FactDep.{FactDep}
use Rattle.object_values.specs.declared.records.NodeRecord.{NodeRecord}
use Rattle.object_values.specs.declared.records.Renewed.{Renewed}
use Rattle.object_values.specs.declared.records.Seen.{Seen}
use Rattle.object_values.specs.declared.records.Seen.TheVariants.{Nothing, Kept, New}
use Rattle.object_values.specs.declared.items.StoredRecord.{StoredRecord}
use Rattle.object_values.specs.declared.views.Value.{Value}
use Rattle.meaning_texts.specs.Limits.{height_limit}
use Rattle.meaning_texts.specs.Lists.{IsIn}
use Rattle.meaning_texts.proofs.Lemmas.{all_in, from_flat, from_map, in_either}
use Rattle.meaning_records.specs.Batches.{IsNotable, fact_values, value_list}
use Rattle.meaning_records.specs.Laws.{ReachedStandLast}
use Rattle.meaning_records.specs.Tables.{IsShort, IsValueOf}
use Rattle.kept_records.specs.Records.{renewed}
use Rattle.meaning_true.specs.Numbered.{value_at, value_seen}
use Rattle.kept_notes.specs.Facts.{IsNotedIn, IsNumberIn, IsRecordIn, contents_by, dep_of, fact_of, fresh_of}
use Rattle.kept_notes.specs.Loaded.{MayBeLoaded, loaded_record}
use Rattle.kept_notes.proofs.FactLemmas.{fact_stays, record_later}
use Rattle.kept_notes.proofs.LoadedLemmas.{loadable_says, loadable_within}

-- ---- contents more

module _ (contents more : List Value) where
  fresh_stays : (r : NodeRecord) → IsRecordIn (length contents) r → fresh_of (contents ++ more) r ≡ fresh_of contents r
  fresh_stays r within = let fact = fact_stays contents more r within in λ i. record { fact = fact i; present = r.present }

  pub all_fresh_stay : (records : List NodeRecord) → All (IsRecordIn (length contents)) records → map (fresh_of (contents ++ more)) records ≡ map (fresh_of contents) records
  all_fresh_stay [] within = refl
  all_fresh_stay (r ∷ records) within =
      let here = fresh_stays r (All-head (IsRecordIn (length contents)) r records within) in
      let rest = all_fresh_stay records (All-tail (IsRecordIn (length contents)) r records within) in
      λ i. here i ∷ rest i

  longer : length contents ≤ length (contents ++ more)
  longer = let long = length-append contents more in omega (arith, long)

  pub within_stays : (records : List NodeRecord) → All (IsRecordIn (length contents)) records → All (IsRecordIn (length (contents ++ more))) records
  within_stays records within = All-weaker (IsRecordIn (length contents)) (IsRecordIn (length (contents ++ more))) (record_later (length contents) (length (contents ++ more)) longer) records within

  noted_stays : (r : NodeRecord) → IsNotedIn contents r → IsNotedIn (contents ++ more) r
  noted_stays r is = record {
    named = record_later (length contents) (length (contents ++ more)) longer r is.named;
    may = subst IsNotable (sym (fresh_stays r is.named)) is.may;
  }

  pub all_noted_stay : (records : List NodeRecord) → All (IsNotedIn contents) records → All (IsNotedIn (contents ++ more)) records
  all_noted_stay records noted = All-weaker (IsNotedIn contents) (IsNotedIn (contents ++ more)) noted_stays records noted

pub all_named : (contents : List Value) (records : List NodeRecord) → All (IsNotedIn contents) records → All (IsRecordIn (length contents)) records
all_named contents records noted = All-weaker (IsNotedIn contents) (IsRecordIn (length contents)) (λ r is. is.named) records noted

pub all_notable : (contents : List Value) (records : List NodeRecord) → All (IsNotedIn contents) records → All IsNotable (map (fresh_of contents) records)
all_notable contents [] noted = All-nil IsNotable
all_notable contents (r ∷ records) noted =
    All-cons IsNotable (fresh_of contents r) (map (fresh_of contents) records) (All-head (IsNotedIn contents) r records noted).may
    (all_notable contents records (All-tail (IsNotedIn contents) r records noted))

pub all_noted : (contents : List Value) (records : List NodeRecord) → All (IsRecordIn (length contents)) records → All IsNotable (map (fresh_of contents) records)
    → All (IsNotedIn contents) records
all_noted contents [] within may = All-nil (IsNotedIn contents)
all_noted contents (r ∷ records) within may =
    All-cons (IsNotedIn contents) r records
    (record { named = All-head (IsRecordIn (length contents)) r records within; may = All-head IsNotable (fresh_of contents r) (map (fresh_of contents) records) may })
    (all_noted contents records (All-tail (IsRecordIn (length contents)) r records within) (All-tail IsNotable (fresh_of contents r) (map (fresh_of contents) records) may))

-- ---- values that are contents are short

module _ (contents : List Value) (short : All IsShort contents) where
  got_short : (xs : List Value) → All IsShort xs → (n : ℕ) (v : Value) → slice_get xs n ≡ Some v → IsShort v
  got_short [] all n v at = absurd (none-some v at)
  got_short (x ∷ xs) all zero v at = subst IsShort (same_Some x v at) (All-head IsShort x xs all)
  got_short (x ∷ xs) all (suc n) v at = got_short xs (All-tail IsShort x xs all) n v at

  one_short : (v : Value) (o : Option Value) → ((w : Value) → o ≡ Some w → IsShort w) → IsIn v (value_list o) → IsShort v
  one_short v None all i = absurd i
  one_short v (Some w) all (inl same) = subst IsShort (sym same) (all w refl)
  one_short v (Some w) all (inr none) = absurd none

  number_short : (number : Option ℕ) (w : Value) → value_at (contents_by contents) number ≡ Some w → IsShort w
  number_short None w at = absurd (none-some w at)
  number_short (Some n) w at = got_short contents short n w at

  seen_short : (seen : Seen) (w : Value) → value_seen (contents_by contents) seen ≡ Some w → IsShort w
  seen_short Nothing w at = absurd (none-some w at)
  seen_short (Kept n) w at = got_short contents short n w at
  seen_short New w at = absurd (none-some w at)

  fact_short : (r : NodeRecord) → All IsShort (fact_values (fact_of contents r))
  fact_short r = all_in IsShort (fact_values (fact_of contents r)) (λ v i. elim (in_either v (value_list (value_at (contents_by contents) r.value)) (flat_map (λ (d : FactDep). value_list d.value) (map (dep_of contents) r.deps)) i) [
    | inl own ↦ one_short v (value_at (contents_by contents) r.value) (number_short r.value) own
    | inr of_deps ↦
        let f = from_flat (λ (d : FactDep). value_list d.value) v (map (dep_of contents) r.deps) of_deps in
        let m = from_map (dep_of contents) f.0 r.deps f.1 in
        one_short v f.0.value (λ w at. seen_short m.0.seen w (sym (ap (λ (d : FactDep). d.value) m.2) ∙ at)) f.2
  ])

  no_value : (number : Option ℕ) (value : Option Value) → IsValueOf contents number value → (IsNone value → IsNone number) × (IsNone number → IsNone value)
  no_value None value is = (λ none. refl, λ none. subst IsNone (sym is) refl)
  no_value (Some n) None is = absurd is
  no_value (Some n) (Some v) is = (λ none. none, λ none. none)

  -- a record that a file has
  pub loaded_noted : ReachedStandLast → (stored : StoredRecord) → MayBeLoaded contents stored → IsNotedIn contents (loaded_record stored)
  loaded_noted law stored may =
      let says = loadable_says contents stored may in
      let none = no_value stored.value (value_at (contents_by contents) stored.value) says.says.value in
      record {
        named = loadable_within contents stored may;
        may = record {
          short = fact_short (loaded_record stored);
          last = law.last contents stored (fact_of contents (loaded_record stored)) says.says;
          least = says.least;
          most = says.most;
          valued = (λ n. says.valued.0 (none.0 n), λ e. none.1 (says.valued.1 e));
        };
      }

get_there : (contents : List Value) (n : ℕ) → n < length contents → (v : Value) × (slice_get contents n ≡ Some v)
get_there [] n within = absurd (omega (arith, within))
get_there (c ∷ contents) zero within = (c, refl)
get_there (c ∷ contents) (suc n) within = get_there contents n (omega (arith, within))

is_valued : (contents : List Value) (number : Option ℕ) → IsNumberIn (length contents) number → (IsNone (value_at (contents_by contents) number) → IsNone number) × (IsNone number → IsNone (value_at (contents_by contents) number))
is_valued contents None within = (λ none. none, λ none. none)
is_valued contents (Some n) within =
    let there = get_there contents n within in
    (λ none. subst IsNone there.1 none, λ none. absurd (true≢false none))

-- what a node comes to at present is renewed
pub renewed_noted : (contents : List Value) (present : Renewed) (epoch : ℕ) (r : NodeRecord) → 1 ≤ present.height → present.height ≤ height_limit
    → (IsNone r.value ↔ (present.status ≡ Abort)) → IsNotedIn contents r → IsNotedIn contents (renewed present epoch r)
renewed_noted contents present epoch r least most valued is =
    let none = is_valued contents r.value is.named.value in
    record {
      named = record { deps = is.named.deps; value = is.named.value };
      may = record {
        short = is.may.short;
        last = is.may.last;
        least = least;
        most = most;
        valued = (λ n. valued.0 (none.0 n), λ e. none.1 (valued.1 e));
      };
    }
