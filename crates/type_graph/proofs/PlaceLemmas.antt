-- What a map by names gives, and the place of the first item that passes a test.
use Rattle.std.proofs.Common.{◌≡◌, ℕ, suc, ◌+◌, Bool, true, false, List, [], ◌∷◌, ◌++◌, refl, sym, true≢false, ap, ◌∙◌, length, arith, cond, map, position}
use Rattle.std.specs.Prelude.{Some, None, bytes_eq, is_some, option_map, Vec, nat_lt, not}
use Rattle.std.specs.List.{prefix_len}
use Rattle.std.specs.Map.{lookup}
use Rattle.indexmap.specs.IndexMap.{insert_entry}
use Rattle.meaning_graph.specs.Graphs.{Text}
use Rattle.type_graph.specs.Places.{Places, place_of, with_place}

-- the entries of a map, as names with places
abbrev pub seen : {Z : Type 0} → Vec ℕ Z × ℕ → Text × ℕ
seen e = (e.0.items, e.1)

-- a look-up among the entries is one among the names
pub lookup_seen : {Z : Type 0} (entries : List (Vec ℕ Z × ℕ)) (name : Text) → lookup (λ key. bytes_eq name key.items) entries ≡ place_of (map seen entries) name
lookup_seen [] name = refl
lookup_seen (e ∷ es) name = ap (cond (bytes_eq name e.0.items) (Some e.1)) (lookup_seen es name)

-- a name that is there already adds nothing
pub kept_place : (pairs : Places) (name : Text) (place : ℕ) → is_some (place_of pairs name) ≡ true → pairs ≡ with_place pairs name place
kept_place pairs name place h = sym (ap (λ b. cond b pairs (pairs ++ (name, place) ∷ [])) h)

-- a new one goes last
pub new_place : (pairs : Places) (name : Text) (place : ℕ) → is_some (place_of pairs name) ≡ false → pairs ++ (name, place) ∷ [] ≡ with_place pairs name place
new_place pairs name place h = sym (ap (λ b. cond b pairs (pairs ++ (name, place) ∷ [])) h)

-- keys are compared by their bytes
abbrev same_bytes : {Z : Type 0} → Vec ℕ Z → Vec ℕ Z → Bool
same_bytes a b = bytes_eq a.items b.items

-- a key that has no place is inserted after the others
insert_seen : {Z : Type 0} (entries : List (Vec ℕ Z × ℕ)) (key : Vec ℕ Z) (place : ℕ) → is_some (place_of (map seen entries) key.items) ≡ false
    → map seen (insert_entry same_bytes entries key place) ≡ map seen entries ++ (key.items, place) ∷ []
insert_seen [] key place h = refl
insert_seen (e ∷ es) key place h = (elim (bytes_eq key.items e.0.items) as (λ b. is_some (cond b (Some e.1) (place_of (map seen es) key.items)) ≡ false
    → map seen (cond b ((e.0, place) ∷ es) (e ∷ insert_entry same_bytes es key place)) ≡ seen e ∷ (map seen es ++ (key.items, place) ∷ [])) [
      | true ↦ λ k. absurd (true≢false k)
      | false ↦ λ k. ap (λ l. seen e ∷ l) (insert_seen es key place k)
    ]) h

pub added_place : {Z : Type 0} (entries : List (Vec ℕ Z × ℕ)) (key : Vec ℕ Z) (pairs : Places) (name : Text) (place : ℕ) → key.items ≡ name → map seen entries ≡ pairs → is_some (place_of pairs name) ≡ false
    → map seen (insert_entry same_bytes entries key place) ≡ with_place pairs name place
added_place entries key pairs name place k v h =
    let absent : is_some (place_of (map seen entries) key.items) ≡ false = ap is_some (ap (λ l. place_of l key.items) v ∙ ap (place_of pairs) k) ∙ h in
    insert_seen entries key place absent ∙ ap (λ l. l ++ (key.items, place) ∷ []) v ∙ ap (λ t. pairs ++ (t, place) ∷ []) k ∙ new_place pairs name place h

-- the first item that passes, by the first one
suc_less : (m n : ℕ) → nat_lt (1 + m) (1 + n) ≡ nat_lt m n
suc_less m n = grind arith

moved_on : (m n : ℕ) → cond (nat_lt (1 + m) (1 + n)) (Some (1 + m)) None ≡ option_map suc (cond (nat_lt m n) (Some m) None)
moved_on m n = grind arith

position_step : (n len : ℕ) (b : Bool) → cond (nat_lt (cond (not b) (1 + n) 0) (suc len)) (Some (cond (not b) (1 + n) 0)) None ≡ cond b (Some 0) (option_map suc (cond (nat_lt n len) (Some n) None))
position_step n len true = grind arith
position_step n len false = grind arith

pub position-cons : {A : Type 0} (p : A → Bool) (x : A) (xs : List A) → position p (x ∷ xs) ≡ cond (p x) (Some 0) (option_map suc (position p xs))
position-cons p x xs = position_step (prefix_len (λ y. not (p y)) xs) (length xs) (p x)
