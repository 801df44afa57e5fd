-- Whether a list begins with a thing of a form, decided for each way to make forms. A list may have numbers here that are no bytes: four such numbers
-- spell no number of a form.
use Rattle.std.proofs.Common.{◌≡◌, ◌⊎◌, ℕ, zero, suc, ◌<◌, ◌≤◌, ◌^◌, Bool, true, false, List, [], ◌∷◌, ◌++◌, length, take, drop, flat_map, Some, None, All, inl, inr, refl, sym, ap, subst, ◌∙◌, arith, length-append, append_assoc, take-append-drop}
use Rattle.std.specs.Int.{w32, from_be_bytes}
use Rattle.std.specs.Bool.{Decides}
use Rattle.std.specs.Cmp.Lexicographic.{bytes_decides}
use Rattle.std.specs.Prelude.{bytes_eq}
use Rattle.std.proofs.Math.Seq.{take-append_seam}
use Rattle.std.proofs.lemmas.Bool.{cases_lt}
use Rattle.std.proofs.lemmas.List.{length-take-le}
use Rattle.std.proofs.lemmas.List.Elements.{All-nil, All-cons, All-head, All-tail}
use Rattle.std.proofs.lemmas.Nat.{from_be_bytes-to_be_bytes_4}
use Rattle.odin_bytes.specs.Fields.{u32_field}
use Rattle.meaning_records.specs.Forms.{Form, IsOfOneThing, bytes, number, both, by_parts, list_of, option_of}
use Rattle.meaning_records.specs.FormLemmas.{one_number}

-- ---- decisions

pub decided : {P : Type 0} (test : Bool) → Decides test P → Dec P
decided true decides = yes (decides.0 refl)
decided false decides = no (λ p. let none : ◌≡◌ {A = Bool} false true = decides.1 p in let n : ⊥ = cc in n)

pub both_decided : {P Q : Type 0} → Dec P → Dec Q → Dec (P × Q)
both_decided (yes p) (yes q) = yes (p, q)
both_decided (yes p) (no none) = no (λ h. none h.1)
both_decided (no none) _ = no (λ h. none h.0)

pub less_decided : (m n : ℕ) → Dec (m < n)
less_decided m n = elim (cases_lt m n) [ inl less ↦ yes less | inr not_less ↦ no (λ less. omega (arith, less, not_less)) ]

-- ---- lists that begin with a thing of a form

pub record Begins {T : Type 0} (form : Form T) (list : List ℕ) : Type 0 where
  pub thing : T
  pub rest : List ℕ
  pub fits : form.fits thing
  pub is : list ≡ form.spell thing ++ rest

abbrev pub IsDecided : {T : Type 0} → Form T → Type 0
IsDecided form = (list : List ℕ) → Dec (Begins form list)

-- ---- numbers and bytes

number_by : (list : List ℕ) → Dec ((from_be_bytes w32 (take 4 list) < 2 ^ 32) × (take 4 list ≡ u32_field (from_be_bytes w32 (take 4 list)))) → Dec (Begins number list)
number_by list (yes h) = yes (record { thing = from_be_bytes w32 (take 4 list); rest = drop 4 list; fits = h.0; is = sym (take-append-drop 4 list) ∙ ap (λ l. l ++ drop 4 list) h.1 })
number_by list (no none) = no (λ b.
    let front : take 4 list ≡ u32_field b.thing = ap (take 4) b.is ∙ take-append_seam (u32_field b.thing) b.rest in
    let told : from_be_bytes w32 (take 4 list) ≡ b.thing = ap (from_be_bytes w32) front ∙ from_be_bytes-to_be_bytes_4 b.thing b.fits in
    none (subst (λ n. n < 2 ^ 32) (sym told) b.fits, front ∙ ap u32_field (sym told)))

pub number_decided : IsDecided number
number_decided list =
    let told : ℕ = from_be_bytes w32 (take 4 list) in
    number_by list (both_decided (less_decided told (2 ^ 32)) (decided (bytes_eq (take 4 list) (u32_field told)) (bytes_decides (take 4 list) (u32_field told))))

bytes_by : (list : List ℕ) → Dec (Begins number list) → Dec (Begins bytes list)
bytes_by list (no none) = no (λ b. none (record { thing = length b.thing; rest = b.thing ++ b.rest; fits = b.fits; is = b.is ∙ append_assoc (u32_field (length b.thing)) b.thing b.rest }))
bytes_by list (yes size) = within (cases_lt (length size.rest) size.thing)
  where
    within : (length size.rest < size.thing) ⊎ (size.thing ≤ length size.rest) → Dec (Begins bytes list)
    within (inl short) = no (λ b.
        let told = one_number size.thing (length b.thing) size.rest (b.thing ++ b.rest) size.fits b.fits (sym size.is ∙ b.is ∙ append_assoc (u32_field (length b.thing)) b.thing b.rest) in
        let long : length size.rest ≡ length (b.thing ++ b.rest) = ap length told.1 in
        omega (arith, short, told.0, long, length-append b.thing b.rest))
    within (inr enough) =
        let long : length (take size.thing size.rest) ≡ size.thing = length-take-le size.thing size.rest enough in
        yes (record {
          thing = take size.thing size.rest;
          rest = drop size.thing size.rest;
          fits = subst (λ n. n < 2 ^ 32) (sym long) size.fits;
          is = size.is ∙ ap (λ l. u32_field size.thing ++ l) (sym (take-append-drop size.thing size.rest)) ∙ ap (λ n. u32_field n ++ (take size.thing size.rest ++ drop size.thing size.rest)) (sym long) ∙ sym (append_assoc (u32_field (length (take size.thing size.rest))) (take size.thing size.rest) (drop size.thing size.rest));
        })

pub bytes_decided : IsDecided bytes
bytes_decided list = bytes_by list (number_decided list)

-- ---- forms made of others

second_by : {A B : Type 0} (first : Form A) (second : Form B) → IsOfOneThing first → (list : List ℕ) → (front : Begins first list) → Dec (Begins second front.rest) → Dec (Begins (both first second) list)
second_by first second one list front (yes back) = yes (record {
  thing = (front.thing, back.thing);
  rest = back.rest;
  fits = (front.fits, back.fits);
  is = front.is ∙ ap (λ l. first.spell front.thing ++ l) back.is ∙ sym (append_assoc (first.spell front.thing) (second.spell back.thing) back.rest);
})
second_by first second one list front (no none) = no (λ b.
    let same = one front.thing b.thing.0 front.rest (second.spell b.thing.1 ++ b.rest) front.fits b.fits.0 (sym front.is ∙ b.is ∙ append_assoc (first.spell b.thing.0) (second.spell b.thing.1) b.rest) in
    none (record { thing = b.thing.1; rest = b.rest; fits = b.fits.1; is = same.1 }))

first_by : {A B : Type 0} (first : Form A) (second : Form B) → IsOfOneThing first → IsDecided second → (list : List ℕ) → Dec (Begins first list) → Dec (Begins (both first second) list)
first_by first second one decide list (no none) = no (λ b. none (record { thing = b.thing.0; rest = second.spell b.thing.1 ++ b.rest; fits = b.fits.0; is = b.is ∙ append_assoc (first.spell b.thing.0) (second.spell b.thing.1) b.rest }))
first_by first second one decide list (yes front) = second_by first second one list front (decide front.rest)

pub both_forms_decided : {A B : Type 0} (first : Form A) (second : Form B) → IsOfOneThing first → IsDecided first → IsDecided second → IsDecided (both first second)
both_forms_decided first second one decide_first decide_second list = first_by first second one decide_second list (decide_first list)

-- where parts make a thing
pub parts_decided : {T P : Type 0} (parts : T → P) (form : Form P) (join : P → T) → ((p : P) → parts (join p) ≡ p) → IsDecided form → IsDecided (by_parts parts form)
parts_decided {T} {P} parts form join back decide list = by (decide list)
  where
    by : Dec (Begins form list) → Dec (Begins (by_parts parts form) list)
    by (yes b) = yes (record {
      thing = join b.thing;
      rest = b.rest;
      fits = subst form.fits (sym (back b.thing)) b.fits;
      is = b.is ∙ ap (λ (p : P). form.spell p ++ b.rest) (sym (back b.thing));
    })
    by (no none) = no (λ b. none (record { thing = parts b.thing; rest = b.rest; fits = b.fits; is = b.is }))

-- ---- lists

-- so many members at the front
record Members {T : Type 0} (form : Form T) (count : ℕ) (list : List ℕ) : Type 0 where
  members : List T
  rest : List ℕ
  long : length members ≡ count
  fit : All form.fits members
  is : list ≡ flat_map form.spell members ++ rest

more_members : {T : Type 0} (form : Form T) → IsOfOneThing form → (count : ℕ) (list : List ℕ) → (front : Begins form list) → Dec (Members form count front.rest) → Dec (Members form (suc count) list)
more_members form one count list front (yes others) = yes (record {
  members = front.thing ∷ others.members;
  rest = others.rest;
  long = ap suc others.long;
  fit = All-cons form.fits front.thing others.members front.fits others.fit;
  is = front.is ∙ ap (λ l. form.spell front.thing ++ l) others.is ∙ sym (append_assoc (form.spell front.thing) (flat_map form.spell others.members) others.rest);
})
more_members {T} form one count list front (no none) = no (λ b. by b.members b.rest b.long b.fit b.is)
  where
    by : (members : List T) (rest : List ℕ) → length members ≡ suc count → All form.fits members → list ≡ flat_map form.spell members ++ rest → ⊥
    by [] rest long fit is = omega (arith, long)
    by (x ∷ members) rest long fit is =
        let same = one front.thing x front.rest (flat_map form.spell members ++ rest) front.fits (All-head form.fits x members fit) (sym front.is ∙ is ∙ append_assoc (form.spell x) (flat_map form.spell members) rest) in
        none (record { members = members; rest = rest; long = omega (arith, long); fit = All-tail form.fits x members fit; is = same.1 })

no_member : {T : Type 0} (form : Form T) (count : ℕ) (list : List ℕ) → ¬ Begins form list → ¬ Members form (suc count) list
no_member {T} form count list none b = by b.members b.rest b.long b.fit b.is
  where
    by : (members : List T) (rest : List ℕ) → length members ≡ suc count → All form.fits members → list ≡ flat_map form.spell members ++ rest → ⊥
    by [] rest long fit is = omega (arith, long)
    by (x ∷ members) rest long fit is =
        none (record { thing = x; rest = flat_map form.spell members ++ rest; fits = All-head form.fits x members fit; is = is ∙ append_assoc (form.spell x) (flat_map form.spell members) rest })

members_decided : {T : Type 0} (form : Form T) → IsOfOneThing form → IsDecided form → (count : ℕ) (list : List ℕ) → Dec (Members form count list)
members_decided form one decide zero list = yes (record { members = []; rest = list; long = refl; fit = All-nil form.fits; is = refl })
members_decided form one decide (suc count) list = elim (decide list) [
  | yes front ↦ more_members form one count list front (members_decided form one decide count front.rest)
  | no none ↦ no (no_member form count list none)
]

members_by : {T : Type 0} (form : Form T) (list : List ℕ) → (count : Begins number list) → Dec (Members form count.thing count.rest) → Dec (Begins (list_of form) list)
members_by form list count (yes m) = yes (record {
  thing = m.members;
  rest = m.rest;
  fits = (subst (λ n. n < 2 ^ 32) (sym m.long) count.fits, m.fit);
  is = count.is ∙ ap (λ l. u32_field count.thing ++ l) m.is ∙ ap (λ n. u32_field n ++ (flat_map form.spell m.members ++ m.rest)) (sym m.long) ∙ sym (append_assoc (u32_field (length m.members)) (flat_map form.spell m.members) m.rest);
})
members_by form list count (no none) = no (λ b.
    let told = one_number count.thing (length b.thing) count.rest (flat_map form.spell b.thing ++ b.rest) count.fits b.fits.0 (sym count.is ∙ b.is ∙ append_assoc (u32_field (length b.thing)) (flat_map form.spell b.thing) b.rest) in
    none (record { members = b.thing; rest = b.rest; long = sym told.0; fit = b.fits.1; is = told.1 }))

list_by : {T : Type 0} (form : Form T) → IsOfOneThing form → IsDecided form → (list : List ℕ) → Dec (Begins number list) → Dec (Begins (list_of form) list)
list_by form one decide list (yes count) = members_by form list count (members_decided form one decide count.thing count.rest)
list_by form one decide list (no none) = no (λ b. none (record { thing = length b.thing; rest = flat_map form.spell b.thing ++ b.rest; fits = b.fits.0; is = b.is ∙ append_assoc (u32_field (length b.thing)) (flat_map form.spell b.thing) b.rest }))

pub list_decided : {T : Type 0} (form : Form T) → IsOfOneThing form → IsDecided form → IsDecided (list_of form)
list_decided form one decide list = list_by form one decide list (number_decided list)

-- ---- bytes that tell what follows

-- no spelling begins with this number, or there is none
abbrev pub BeginsWithNone : {T : Type 0} → Form T → List ℕ → Type 0
BeginsWithNone {T} form list = (thing : T) (rest : List ℕ) → form.fits thing → list ≡ form.spell thing ++ rest → ⊥

pub begins_not : {T : Type 0} (form : Form T) (list : List ℕ) → BeginsWithNone form list → Dec (Begins form list)
begins_not form list none = no (λ b. none b.thing b.rest b.fits b.is)

-- a number that tells that a thing of another form follows, as the one that is made of it
pub tagged : {T A : Type 0} (form : Form T) (inner : Form A) (make : A → T) (tag : ℕ) (list : List ℕ)
    → ((a : A) → form.spell (make a) ≡ tag ∷ inner.spell a) → ((a : A) → inner.fits a → form.fits (make a)) → (¬ Begins inner list → BeginsWithNone form (tag ∷ list))
    → Dec (Begins inner list) → Dec (Begins form (tag ∷ list))
tagged form inner make tag list spelled fitting none (yes b) = yes (record {
  thing = make b.thing;
  rest = b.rest;
  fits = fitting b.thing b.fits;
  is = ap (λ l. tag ∷ l) b.is ∙ ap (λ l. l ++ b.rest) (sym (spelled b.thing));
})
tagged form inner make tag list spelled fitting none (no not_inner) = begins_not form (tag ∷ list) (none not_inner)

no_option : {T : Type 0} (form : Form T) (list : List ℕ) → ¬ Begins form list → BeginsWithNone (option_of form) (1 ∷ list)
no_option form list none None rest fits is = let n : ⊥ = cc in n
no_option form list none (Some x) rest fits is = none (record { thing = x; rest = rest; fits = fits; is = cc })

pub other_option : {T : Type 0} (form : Form T) (n : ℕ) (list : List ℕ) → BeginsWithNone (option_of form) (suc (suc n) ∷ list)
other_option form n list None rest fits is = let n : ⊥ = cc in n
other_option form n list (Some x) rest fits is = let n : ⊥ = cc in n

empty_option : {T : Type 0} (form : Form T) → BeginsWithNone (option_of form) []
empty_option form None rest fits is = let n : ⊥ = cc in n
empty_option form (Some x) rest fits is = let n : ⊥ = cc in n

pub option_decided : {T : Type 0} (form : Form T) → IsDecided form → IsDecided (option_of form)
option_decided form decide [] = begins_not (option_of form) [] (empty_option form)
option_decided form decide (zero ∷ list) = yes (record { thing = None; rest = list; fits = tt; is = refl })
option_decided {T} form decide (suc zero ∷ list) = tagged (option_of form) form (λ (x : T). Some x) 1 list (λ a. refl) (λ a fits. fits) (no_option form list) (decide list)
option_decided form decide (suc (suc n) ∷ list) = begins_not (option_of form) (suc (suc n) ∷ list) (other_option form n list)
