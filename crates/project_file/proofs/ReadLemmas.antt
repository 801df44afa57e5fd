-- What is read so far, and what is left to read.
use Rattle.std.proofs.Common.{◌≡◌, ℕ, Bool, true, false, List, [], ◌∷◌, ◌++◌, Option, Some, None, Ok, Err, refl, ap, sym, ◌∙◌, append_assoc, append-nil}
use Rattle.std.proofs.Common.{map, Bor, String, Global, string_bytes}
use Rattle.std.specs.Prelude.{◌||◌, bytes_eq}
use Rattle.std.specs.List.{list_any}
use Rattle.toml.specs.Data.{Data, Members, member}
use Rattle.toml.specs.View.{view, members_view}
use Rattle.toml.specs.declared.value.Value.{Value}
use Rattle.toml.proofs.Views.{Entry}
use Rattle.project_file.specs.declared.project.Problem.{Problem}
use Rattle.project_file.specs.Projects.{Reading, ◌>>=◌, with_first, each_member, other_key, target_of, count_of}
use Rattle.project_file.specs.declared.project.Refused.{Refused}
use Rattle.project_file.specs.declared.project.Refused.TheVariants as refused
use Rattle.project_file.specs.Refusals.{Refuses}
use Rattle.std.proofs.Common.{suc, length}
use Rattle.project_file.specs.declared.project.Target.{Target}

-- with these in front
abbrev pub with_texts : List (List ℕ) → Option (List (List ℕ)) → Option (List (List ℕ))
with_texts done None = None
with_texts done (Some texts) = Some (done ++ texts)

abbrev pub prefixed : {A : Type 0} → List A → Reading (List A) → Reading (List A)
prefixed done (Ok xs) = Ok (done ++ xs)
prefixed done (Err p) = Err p

one_more : {A : Type 0} (done : List A) (x : A) (rest : Reading (List A)) → prefixed (done ++ x ∷ []) rest ≡ prefixed done (with_first x rest)
one_more done x (Ok xs) = ap Ok (append_assoc done (x ∷ []) xs)
one_more done x (Err p) = refl

-- one more is read, or has a problem
pub goes_on : {A : Type 0} (done : List A) (x : A) (one : Reading A) (rest whole : Reading (List A)) → one ≡ Ok x
    → prefixed done (one >>= λ y. with_first y rest) ≡ whole → prefixed (done ++ x ∷ []) rest ≡ whole
goes_on {A = A} done x one rest whole is before =
    one_more done x rest ∙ sym (ap (λ (r : Reading A). prefixed done (r >>= λ y. with_first y rest)) is) ∙ before

pub fails : {A : Type 0} (done : List A) (p : Problem) (one : Reading A) (rest whole : Reading (List A)) → one ≡ Err p
    → prefixed done (one >>= λ y. with_first y rest) ≡ whole → whole ≡ Err p
fails {A = A} done p one rest whole is before = sym before ∙ ap (λ (r : Reading A). prefixed done (r >>= λ y. with_first y rest)) is

pub all_read : {A : Type 0} (done : List A) (whole : Reading (List A)) → prefixed done (Ok []) ≡ whole → whole ≡ Ok done
all_read done whole is = sym is ∙ ap Ok (append-nil done)

-- ---- keys

any_read : (test : List ℕ → Bool) (names : List (Bor (List ℕ))) → list_any test (map (λ name. name.now) names) ≡ list_any (λ name. test name.now) names
any_read test [] = refl
any_read test (name ∷ names) = ap (λ (b : Bool). test name.now || b) (any_read test names)

known_by : (names : List (Bor (List ℕ))) (text : List ℕ) (k : String Global) (known answer : Bool) → text ≡ string_bytes k
    → known ≡ list_any (λ name. bytes_eq name.now text) names → known ≡ answer
    → list_any (λ name. bytes_eq name (string_bytes k)) (map (λ name. name.now) names) ≡ answer
known_by names text k known answer is says so =
    any_read (λ name. bytes_eq name (string_bytes k)) names ∙ ap (λ (t : List ℕ). list_any (λ name. bytes_eq name.now t) names) (sym is) ∙ sym says ∙ so

first_key : (known : List (List ℕ)) (k : String Global) (v : Data) (rest : Members) → list_any (λ name. bytes_eq name (string_bytes k)) known ≡ false
    → other_key known (member (string_bytes k) v rest) ≡ Some (string_bytes k)
first_key known k v rest is = rw is refl

next_key : (known : List (List ℕ)) (k : String Global) (v : Data) (rest : Members) → list_any (λ name. bytes_eq name (string_bytes k)) known ≡ true
    → other_key known (member (string_bytes k) v rest) ≡ other_key known rest
next_key known k v rest is = rw is refl

pub other_found : (names : List (Bor (List ℕ))) (entries rest : List Entry) (k : String Global) (v : Value) (text found : List ℕ) (whole : Option (List ℕ)) (known : Bool) → entries ≡ (k, v) ∷ rest
    → text ≡ string_bytes k → known ≡ list_any (λ name. bytes_eq name.now text) names → known ≡ false → found ≡ string_bytes k
    → other_key (map (λ name. name.now) names) (members_view entries) ≡ whole → Some found ≡ whole
other_found names entries rest k v text found whole known cut is says so told before =
    ap Some told
    ∙ sym (first_key (map (λ name. name.now) names) k (view v) (members_view rest) (known_by names text k known false is says so))
    ∙ ap (λ (l : List Entry). other_key (map (λ name. name.now) names) (members_view l)) (sym cut)
    ∙ before

pub other_on : (names : List (Bor (List ℕ))) (entries rest : List Entry) (k : String Global) (v : Value) (text : List ℕ) (whole : Option (List ℕ)) (known : Bool) → entries ≡ (k, v) ∷ rest
    → text ≡ string_bytes k → known ≡ list_any (λ name. bytes_eq name.now text) names → known ≡ true
    → other_key (map (λ name. name.now) names) (members_view entries) ≡ whole → other_key (map (λ name. name.now) names) (members_view rest) ≡ whole
other_on names entries rest k v text whole known cut is says so before =
    sym (next_key (map (λ name. name.now) names) k (view v) (members_view rest) (known_by names text k known true is says so))
    ∙ ap (λ (l : List Entry). other_key (map (λ name. name.now) names) (members_view l)) (sym cut)
    ∙ before

-- ---- targets

abbrev left : List Entry → Reading (List Target)
left entries = each_member target_of (members_view entries)

pub target_read : (done : List Target) (x : Target) (entries rest : List Entry) (k : String Global) (v : Value) (text : List ℕ) (whole : Reading (List Target)) → entries ≡ (k, v) ∷ rest → text ≡ string_bytes k
    → target_of text (view v) ≡ Ok x → prefixed done (left entries) ≡ whole → prefixed (done ++ x ∷ []) (left rest) ≡ whole
target_read done x entries rest k v text whole cut is one before =
    goes_on done x (target_of (string_bytes k) (view v)) (left rest) whole (ap (λ (t : List ℕ). target_of t (view v)) (sym is) ∙ one)
    (ap (λ (l : List Entry). prefixed done (left l)) (sym cut) ∙ before)

pub target_fails : (done : List Target) (p : Problem) (entries rest : List Entry) (k : String Global) (v : Value) (text : List ℕ) (whole : Reading (List Target)) → entries ≡ (k, v) ∷ rest → text ≡ string_bytes k
    → target_of text (view v) ≡ Err p → prefixed done (left entries) ≡ whole → whole ≡ Err p
target_fails done p entries rest k v text whole cut is one before =
    fails done p (target_of (string_bytes k) (view v)) (left rest) whole (ap (λ (t : List ℕ). target_of t (view v)) (sym is) ∙ one)
    (ap (λ (l : List Entry). prefixed done (left l)) (sym cut) ∙ before)

-- ---- one after another

pub bound : {A B : Type 0} (a : Reading A) (x : A) (more : A → Reading B) → a ≡ Ok x → (a >>= more) ≡ more x
bound {A = A} a x more is = ap (λ (r : Reading A). r >>= more) is

pub refused_first : {A B : Type 0} (a : Reading A) (more : A → Reading B) (e : Refused) → Refuses a e → Refuses (a >>= more) e
refused_first a more refused.Memory why = tt
refused_first {A = A} a more (refused.Problem p) why = ap (λ (r : Reading A). r >>= more) why

pub refused_then : {A B : Type 0} (a : Reading A) (x : A) (more : A → Reading B) (e : Refused) → a ≡ Ok x → Refuses (more x) e → Refuses (a >>= more) e
refused_then a x more refused.Memory is why = tt
refused_then a x more (refused.Problem p) is why = bound a x more is ∙ why

pub count_members : (entries : List Entry) → count_of (members_view entries) ≡ length entries
count_members [] = refl
count_members (e ∷ entries) = ap suc (count_members entries)
