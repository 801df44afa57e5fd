-- Kept calls by their keys: what is found of a key, and a call more.
use Rattle.std.proofs.Common.{◌≡◌, ◌⊎◌, ℕ, zero, suc, Bool, true, false, cond, List, [], ◌∷◌, ◌++◌, inl, inr, length, ap, sym, ◌∙◌, subst, refl, true≢false, arith}
use Rattle.std.specs.Prelude.{◌↔◌, IsTrue, Option, Some, None, All, option_map, slice_get}
use Rattle.std.specs.Map.{lookup}
use Rattle.std.proofs.lemmas.List.Elements.{All-head, All-tail}
use Rattle.std.proofs.lemmas.Option.{none-some, same_Some}
use Rattle.content_store.specs.Bodies.{Bodies}
use Rattle.content_store.specs.Marks.{Finds, IsIndex, KeepsNumbers}
use Rattle.content_store.specs.declared.marks.Marks.{Marks}
use Rattle.content_store.proofs.Lemmas.{index_more}
use Rattle.kept_contents.specs.declared.keys.CallKey.{CallKey}
use Rattle.kept_contents.specs.contracts.keys.CallKeyPartialEq.TheImpl.{ghosts as key_eq}
use Rattle.kept_contents.specs.Keys.{key_exact, marks_of}
use Rattle.kept_tables.specs.declared.call_table.Entry.{Entry}
use Rattle.kept_tables.specs.Calls.{key_at}

abbrev pub Entries : Type 0
Entries = List (CallKey × Entry)

-- ---- keys by their places

-- the entry of a key
pub entry_of : (entries : Entries) (i : ℕ) (key : CallKey) → key_at entries i ≡ Some key → (e : CallKey × Entry) × (slice_get entries i ≡ Some e) × (e.0 ≡ key)
entry_of entries i key at = by (slice_get entries i) refl at
  where
    by : (o : Option (CallKey × Entry)) → slice_get entries i ≡ o → option_map (λ (e : CallKey × Entry). e.0) o ≡ Some key → (e : CallKey × Entry) × (slice_get entries i ≡ Some e) × (e.0 ≡ key)
    by None here is = absurd (none-some key is)
    by (Some e) here is = (e, here, same_Some e.0 key is)

pub all_at : (P : CallKey × Entry → Type 0) (entries : Entries) (i : ℕ) (e : CallKey × Entry) → All P entries → slice_get entries i ≡ Some e → P e
all_at P [] i e all at = absurd (none-some e at)
all_at P (x ∷ entries) zero e all at = subst P (same_Some x e at) (All-head P x entries all)
all_at P (x ∷ entries) (suc i) e all at = all_at P entries i e (All-tail P x entries all) at

-- ---- what is found of a key

abbrev pub EachOnce : Entries → Type 0
EachOnce entries = (i j : ℕ) (key : CallKey) → key_at entries i ≡ Some key → key_at entries j ≡ Some key → i ≡ j

pub once_after : (x : CallKey × Entry) (entries : Entries) → EachOnce (x ∷ entries) → EachOnce entries
once_after x entries once i j key at_i at_j = let same : suc i ≡ suc j = once (suc i) (suc j) key at_i at_j in omega (arith, same)

pub found_at : (entries : Entries) (i : ℕ) (key : CallKey) (e : CallKey × Entry) → EachOnce entries → slice_get entries i ≡ Some e → e.0 ≡ key → lookup (key_eq.eq key) entries ≡ Some e.1
found_at [] i key e once at is = absurd (none-some e at)
found_at (x ∷ entries) zero key e once at is =
    let here : x ≡ e = same_Some x e at in
    let test : key_eq.eq key x.0 ≡ true = (key_exact key x.0).1 (sym (ap (λ (y : CallKey × Entry). y.0) here ∙ is)) in
    ap (λ b. cond b (Some x.1) (lookup (key_eq.eq key) entries)) test ∙ ap (λ (y : CallKey × Entry). Some y.1) here
found_at (x ∷ entries) (suc i) key e once at is = by (key_eq.eq key x.0) refl (found_at entries i key e (once_after x entries once) at is)
  where
    by : (b : Bool) → key_eq.eq key x.0 ≡ b → lookup (key_eq.eq key) entries ≡ Some e.1 → cond b (Some x.1) (lookup (key_eq.eq key) entries) ≡ Some e.1
    by true same further = let zero_is : zero ≡ suc i = once zero (suc i) key (ap Some (sym ((key_exact key x.0).0 same))) (ap (option_map (λ (y : CallKey × Entry). y.0)) at ∙ ap Some is) in absurd (omega (arith, zero_is))
    by false apart further = further

pub nowhere_found : (entries : Entries) (key : CallKey) → ((i : ℕ) → ¬ (key_at entries i ≡ Some key)) → lookup (key_eq.eq key) entries ≡ None
nowhere_found [] key nowhere = refl
nowhere_found (x ∷ entries) key nowhere = by (key_eq.eq key x.0) refl (nowhere_found entries key (λ i at. nowhere (suc i) at))
  where
    by : (b : Bool) → key_eq.eq key x.0 ≡ b → lookup (key_eq.eq key) entries ≡ None → cond b (Some x.1) (lookup (key_eq.eq key) entries) ≡ None
    by true same further = absurd (nowhere zero (ap Some (sym ((key_exact key x.0).0 same))))
    by false apart further = further

pub found_nowhere : (entries : Entries) (key : CallKey) → lookup (key_eq.eq key) entries ≡ None → (i : ℕ) → ¬ (key_at entries i ≡ Some key)
found_nowhere [] key none i at = none-some key at
found_nowhere (x ∷ entries) key none i at = by (key_eq.eq key x.0) refl none (λ further j there. found_nowhere entries key further j there) i at
  where
    by : (b : Bool) → key_eq.eq key x.0 ≡ b → cond b (Some x.1) (lookup (key_eq.eq key) entries) ≡ None → (lookup (key_eq.eq key) entries ≡ None → (j : ℕ) → ¬ (key_at entries j ≡ Some key)) → (i : ℕ) → key_at (x ∷ entries) i ≡ Some key → ⊥
    by true same none further i at = none-some x.1 (sym none)
    by false apart none further zero at = true≢false (sym ((key_exact key x.0).1 (sym (same_Some x.0 key at))) ∙ apart)
    by false apart none further (suc i) at = further none i at

-- ---- a call more

last_or_before : (entries : Entries) (key : CallKey) (entry : Entry) (i : ℕ) (k : CallKey) → key_at (entries ++ (key, entry) ∷ []) i ≡ Some k → (key_at entries i ≡ Some k) ⊎ ((i ≡ length entries) × (k ≡ key))
last_or_before [] key entry zero k at = inr (refl, sym (same_Some key k at))
last_or_before [] key entry (suc i) k at = absurd (none-some k at)
last_or_before (x ∷ entries) key entry zero k at = inl at
last_or_before (x ∷ entries) key entry (suc i) k at = elim (last_or_before entries key entry i k at) [ inl before ↦ inl before | inr last ↦ inr (ap suc last.0, last.1) ]

pub key_more : (texts : Bodies) (entries : Entries) (before after : Marks) (key : CallKey) (entry : Entry) → IsIndex (key_at entries) (marks_of texts) before → KeepsNumbers before after → lookup (key_eq.eq key) entries ≡ None → Finds after (marks_of texts key) (length entries) → IsIndex (key_at (entries ++ (key, entry) ∷ [])) (marks_of texts) after
key_more texts entries before after key entry index kept fresh there = index_more (key_at entries) (marks_of texts) before after index kept (key_at (entries ++ (key, entry) ∷ [])) key (length entries) (last_or_before entries key entry) (found_nowhere entries key fresh) there

pub no_calls : (texts : Bodies) (table : Marks) → IsIndex (key_at []) (marks_of texts) table
no_calls texts table = record {
  once = λ i j key at_i at_j. absurd (none-some key at_i);
  found = λ i key at. absurd (none-some key at);
}

pub key_there : (entries : Entries) (i : ℕ) (e : CallKey × Entry) → slice_get entries i ≡ Some e → key_at entries i ≡ Some e.0
key_there entries i e at = ap (option_map (λ (y : CallKey × Entry). y.0)) at

-- whether the key at a place is this one
pub is_key : (entries : Entries) (i : ℕ) (e : CallKey × Entry) (key : CallKey) (b : Bool) → slice_get entries i ≡ Some e → b ≡ key_eq.eq key e.0 → IsTrue b ↔ (key_at entries i ≡ Some key)
is_key entries i e key b at test = (
  λ yes. key_there entries i e at ∙ ap Some (sym ((key_exact key e.0).0 (sym test ∙ yes))),
  λ is. test ∙ (key_exact key e.0).1 (sym (same_Some e.0 key (sym (key_there entries i e at) ∙ is))),
)

pub no_key : (entries : Entries) (i : ℕ) (key : CallKey) → slice_get entries i ≡ None → IsTrue false ↔ (key_at entries i ≡ Some key)
no_key entries i key at = (
  λ no. absurd (true≢false (sym no)),
  λ is. absurd (none-some key (sym (ap (option_map (λ (y : CallKey × Entry). y.0)) at) ∙ is)),
)
