-- What is read so far, and what is left to read.
use Rattle.std.proofs.Common.{◌≡◌, ℕ, Bool, false, List, [], ◌∷◌, ◌++◌, Ok, Err, refl, subst, ap, sym, ◌∙◌, append_assoc, drop, length, get_or, ◌+◌, ◌<◌}
use Rattle.std.proofs.Common.{map, Bor, String, Global, string_bytes}
use Rattle.std.specs.Prelude.{⊤, ◌||◌}
use Rattle.std.specs.List.{list_any}
use Rattle.toml.specs.Data.{Data, Members, member, get_member}
use Rattle.toml.specs.View.{view, members_view}
use Rattle.toml.specs.declared.value.Value.{Value}
use Rattle.toml.proofs.Views.{Entry}
use Rattle.project_file.specs.declared.project.Refused.{Refused}
use Rattle.project_file.specs.declared.project.Refused.TheVariants as refused
use Rattle.project_file.specs.Projects.{Reading, ◌>>=◌, with_first, each_member}
use Rattle.project_file.specs.Refusals.{Refuses}
use Rattle.std.proofs.lemmas.List.{at_drop_more}
use Rattle.object_values.specs.declared.jobs.FileBody.{FileBody}
use Rattle.project_kits.specs.Entries.{prefixed}
use Rattle.project_kits.specs.Settings.{all_settings, settings_of}
use Rattle.project_kits.specs.Units.{is_taken, all_units, units_at}
use Rattle.project_kits.specs.declared.wanted.Units.{Units}

pub any_read : (test : List ℕ → Bool) (names : List (Bor (List ℕ))) → list_any test (map (λ name. name.now) names) ≡ list_any (λ name. test name.now) names
any_read test [] = refl
any_read test (name ∷ names) = ap (λ (b : Bool). test name.now || b) (any_read test names)

one_more : {A : Type 0} (done : List A) (x : A) (rest : Reading (List A)) → prefixed (done ++ x ∷ []) rest ≡ prefixed done (with_first x rest)
one_more done x (Ok xs) = ap Ok (append_assoc done (x ∷ []) xs)
one_more done x (Err p) = refl

goes_on : {A : Type 0} (done : List A) (x : A) (one : Reading A) (rest whole : Reading (List A)) → one ≡ Ok x
    → prefixed done (one >>= λ y. with_first y rest) ≡ whole → prefixed (done ++ x ∷ []) rest ≡ whole
goes_on {A = A} done x one rest whole is before =
    one_more done x rest ∙ sym (ap (λ (r : Reading A). prefixed done (r >>= λ y. with_first y rest)) is) ∙ before

-- one more member is read
pub one_read : {A : Type 0} (read : List ℕ → Data → Reading A) (done : List A) (x : A) (entries rest : List Entry) (k : String Global) (v : Value) (text : List ℕ) (whole : Reading (List A))
    → entries ≡ (k, v) ∷ rest → text ≡ string_bytes k → read text (view v) ≡ Ok x
    → prefixed done (each_member read (members_view entries)) ≡ whole → prefixed (done ++ x ∷ []) (each_member read (members_view rest)) ≡ whole
one_read read done x entries rest k v text whole cut is one before =
    goes_on done x (read (string_bytes k) (view v)) (each_member read (members_view rest)) whole (ap (λ (t : List ℕ). read t (view v)) (sym is) ∙ one)
    (ap (λ (l : List Entry). prefixed done (each_member read (members_view l))) (sym cut) ∙ before)

abbrev IsRefused : {A : Type 0} → Reading A → Type 0
IsRefused (Ok x) = ⊥
IsRefused (Err p) = ⊤

abbrev IsRead : {A : Type 0} → Reading A → Type 0
IsRead (Ok x) = ⊤
IsRead (Err p) = ⊥

-- some more are read, after those that were
pub some_read : {A : Type 0} (done new : List A) (one rest : Reading (List A)) → prefixed done one ≡ Ok new
    → prefixed new rest ≡ prefixed done (one >>= λ found. prefixed found rest)
some_read {A = A} done new (Ok xs) (Ok ys) is =
    sym (ap (λ (r : Reading (List A)). r >>= λ l. prefixed l (Ok ys)) is) ∙ ap Ok (append_assoc done xs ys)
some_read {A = A} done new (Ok xs) (Err p) is = refl
some_read done new (Err q) rest is = absurd (subst IsRefused is tt)

pub some_fail : {A : Type 0} (done : List A) (one rest : Reading (List A)) (e : Refused) → Refuses (prefixed done one) e
    → Refuses (prefixed done (one >>= λ found. prefixed found rest)) e
some_fail done one rest refused.Memory why = tt
some_fail done (Ok xs) rest (refused.Problem p) why = absurd (subst IsRead why tt)
some_fail done (Err q) rest (refused.Problem p) why = why

-- ---- units

not_taken : (kits : List (List ℕ)) (k : String Global) (d : Data) (rest : Members) → is_taken kits (string_bytes k) ≡ false
    → all_units kits (member (string_bytes k) d rest) ≡ (units_at (string_bytes k) d >>= λ found. prefixed found (all_units kits rest))
not_taken kits k d rest is = rw is refl

-- the units of one more key
pub units_read : (kits : List (List ℕ)) (done new : List Units) (entries rest : List Entry) (k : String Global) (v : Value) (text word : List ℕ) (taken : Bool) (whole : Reading (List Units))
    → entries ≡ (k, v) ∷ rest → text ≡ string_bytes k → word ≡ string_bytes k → taken ≡ is_taken kits word → taken ≡ false → prefixed done (units_at text (view v)) ≡ Ok new
    → prefixed done (all_units kits (members_view entries)) ≡ whole → prefixed new (all_units kits (members_view rest)) ≡ whole
units_read kits done new entries rest k v text word taken whole cut is named says so one before =
    some_read done new (units_at (string_bytes k) (view v)) (all_units kits (members_view rest)) (ap (λ (t : List ℕ). prefixed done (units_at t (view v))) (sym is) ∙ one)
    ∙ ap (prefixed done) (sym (not_taken kits k (view v) (members_view rest) (ap (is_taken kits) (sym named) ∙ sym says ∙ so)))
    ∙ ap (λ (l : List Entry). prefixed done (all_units kits (members_view l))) (sym cut)
    ∙ before

-- ---- settings

-- the settings of one more kit
pub settings_read : (kits : List (Bor (List ℕ))) (i : ℕ) (d : Bor (List ℕ)) (keys : Members) (done new : List FileBody) (whole : Reading (List FileBody)) → i < length kits
    → prefixed done (settings_of (get_or kits i d).now (get_member (get_or kits i d).now keys)) ≡ Ok new
    → prefixed done (all_settings (map (λ kit. kit.now) (drop i kits)) keys) ≡ whole → prefixed new (all_settings (map (λ kit. kit.now) (drop (i + 1) kits)) keys) ≡ whole
settings_read kits i d keys done new whole inside one before =
    some_read done new (settings_of (get_or kits i d).now (get_member (get_or kits i d).now keys)) (all_settings (map (λ kit. kit.now) (drop (i + 1) kits)) keys) one
    ∙ sym (at_drop_more (λ rest. prefixed done (all_settings (map (λ kit. kit.now) rest) keys)) kits i d inside)
    ∙ before
