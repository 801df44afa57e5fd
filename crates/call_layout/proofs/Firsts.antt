-- The first part of a label, and folders of labels.
use Rattle.std.proofs.Common.{◌≡◌, ℕ, zero, suc, ◌+◌, ◌<◌, Bool, true, false, List, [], ◌∷◌, ◌++◌, length, take, get_or, Result, Ok, Err, IfErr, OnOk, is_err, ◌≤◌, refl, sym, ap, ◌∙◌, subst, arith, append-nil, append_assoc}
use Rattle.std.specs.List.{All}
use Rattle.std.proofs.lemmas.List.Elements.{All-nil, All-cons, All-head, All-tail}
use Rattle.std.specs.Prelude.{is_some, ◌==◌, ◌&&◌}
use Rattle.std.proofs.lemmas.Bool.{and_from, and_parts, eqb-true}
use Rattle.std.proofs.lemmas.List.Folds.{list_any_at}
use Rattle.std.proofs.lemmas.Slice.Eq.{bytes_eq-Decides}
use Rattle.call_layout.specs.declared.told.PartTold.{PartTold}
use Rattle.call_layout.specs.declared.layout.LayoutFault.{LayoutFault}
use Rattle.call_layout.specs.declared.layout.LayoutFault.TheVariants.{Leads, NoText, Taken, Under, Memory}
use Rattle.call_layout.specs.Layout.{stands_at, has_label, first_number, placed_of, placed_from, IsFolderOf, has_folder_at, IsUnderNone, IsCauseAt, IsFaultOf}

-- ---- there is a first one where a part has the label

pub first_is_had : (label : List ℕ) (k : ℕ) (parts : List PartTold) → is_some (first_number label k parts) ≡ has_label parts label
first_is_had label k [] = refl
first_is_had label k (part ∷ rest) = by (stands_at label part) refl (first_is_had label (k + 1) rest)
  where
    by : (b : Bool) → stands_at label part ≡ b → is_some (first_number label (k + 1) rest) ≡ has_label rest label → is_some (first_number label k (part ∷ rest)) ≡ has_label (part ∷ rest) label
    by true is later = rw is refl
    by false is later = rw is later

-- ---- folders of a label

pub at_slash : (label : List ℕ) (at : ℕ) → at < length label → get_or label at 0 ≡ 47 → IsFolderOf (take at label) label
at_slash [] at lt is = absurd (omega arith)
at_slash (b ∷ rest) zero lt is = (rest, ap (λ x. x ∷ rest) is)
at_slash (b ∷ rest) (suc at) lt is = let r = at_slash rest at (omega arith) is in (r.0, ap (λ l. b ∷ l) r.1)

index_there : (folder rest : List ℕ) → get_or (folder ++ 47 ∷ rest) (length folder) 0 ≡ 47
index_there [] rest = refl
index_there (b ∷ folder) rest = index_there folder rest

take_there : (folder rest : List ℕ) → take (length folder) (folder ++ 47 ∷ rest) ≡ folder
take_there [] rest = refl
take_there (b ∷ folder) rest = ap (λ l. b ∷ l) (take_there folder rest)

long_there : (folder rest : List ℕ) → length folder < length (folder ++ 47 ∷ rest)
long_there [] rest = omega arith
long_there (b ∷ folder) rest = let shorter = long_there folder rest in omega (arith, shorter)

pub slash_at : (parts : List PartTold) (label : List ℕ) (at : ℕ) → has_folder_at parts label at ≡ true → get_or label at 0 ≡ 47
slash_at parts label at says = eqb-true (get_or label at 0) 47 (and_parts (get_or label at 0 == 47) (has_label parts (take at label)) says).0

pub label_at : (parts : List PartTold) (label : List ℕ) (at : ℕ) → has_folder_at parts label at ≡ true → has_label parts (take at label) ≡ true
label_at parts label at says = (and_parts (get_or label at 0 == 47) (has_label parts (take at label)) says).1

none_at : (parts : List PartTold) (folder rest : List ℕ) → has_folder_at parts (folder ++ 47 ∷ rest) (length folder) ≡ false → has_label parts folder ≡ false
none_at parts folder rest none =
    subst (λ f. has_label parts f ≡ false) (take_there folder rest)
    (subst (λ b. (b == 47 && has_label parts (take (length folder) (folder ++ 47 ∷ rest))) ≡ false) (index_there folder rest) none)

pub under_none : (parts : List PartTold) (label : List ℕ) → ((k : ℕ) → k < length label → has_folder_at parts label k ≡ false) → IsUnderNone parts label
under_none parts label none folder under =
    none_at parts folder under.0 (subst (λ l. has_folder_at parts l (length folder) ≡ false) under.1
    (none (length folder) (subst (λ l. length folder < length l) (sym under.1) (long_there folder under.0))))

-- ---- the fault of a part is one of the parts

pub is_had : (parts : List PartTold) (i : ℕ) (part : PartTold) → i < length parts → part ≡ get_or parts i part → part.is_there ≡ true → has_label parts part.label ≡ true
is_had parts i part lt is there =
    list_any_at (stands_at part.label) parts i part lt
    (subst (λ p. stands_at part.label p ≡ true) is (and_from _ _ there ((bytes_eq-Decides part.label part.label).1 refl)))

pub fault_at : (outs : List (List ℕ)) (parts : List PartTold) (i : ℕ) (part : PartTold) (fault : LayoutFault) → i < length parts → part ≡ get_or parts i part → part.is_there ≡ true
    → IsCauseAt outs parts part.label fault → IsFaultOf outs parts fault
fault_at outs parts i part (Leads told) lt is there cause = (part.label, (is_had parts i part lt is there, cause))
fault_at outs parts i part (NoText told) lt is there cause = (part.label, (is_had parts i part lt is there, cause))
fault_at outs parts i part (Taken told) lt is there cause = (part.label, (is_had parts i part lt is there, cause))
fault_at outs parts i part (Under folder told) lt is there cause = (part.label, (is_had parts i part lt is there, cause))
fault_at outs parts i part Memory lt is there cause = tt

pub fault_in : {T : Type 0} (outs : List (List ℕ)) (parts : List PartTold) (i : ℕ) (part : PartTold) (checked : Result T LayoutFault) → i < length parts → part ≡ get_or parts i part
    → IfErr checked (λ _. part.is_there ≡ true) → IfErr checked (IsCauseAt outs parts part.label) → IfErr checked (IsFaultOf outs parts)
fault_in outs parts i part (Ok done) lt is there cause = tt
fault_in outs parts i part (Err fault) lt is there cause = fault_at outs parts i part fault lt is there cause

pub done_of : {T : Type 0} (checked : Result T LayoutFault) (P : Type 0) → is_err checked ≡ false → OnOk checked P → P
done_of (Ok done) P fine h = h
done_of (Err fault) P fine h = let clash : ⊥ = cc in absurd clash

pub all_of_them : {X : Type 0} (P : X → Type 0) (xs : List X) (i : ℕ) → length xs ≤ i → All P (take i xs) → All P xs
all_of_them P [] i at are = All-nil P
all_of_them P (x ∷ xs) zero at are = absurd (omega arith)
all_of_them P (x ∷ xs) (suc i) at are = All-cons P x xs (All-head P x (take i xs) are) (all_of_them P xs i (omega arith) (All-tail P x (take i xs) are))

-- ---- one part more

placed_more : (all : List PartTold) (n : ℕ) (parts : List PartTold) (i : ℕ) (part : PartTold) → i < length parts → part ≡ get_or parts i part
    → placed_from all n (take (i + 1) parts) ≡ placed_from all n (take i parts) ++ placed_of all (n + i) part
placed_more all n [] i part lt is = absurd (omega arith)
placed_more all n (first ∷ parts) zero part lt is = let same : n ≡ n + 0 = omega arith in rw is (append-nil (placed_of all n first) ∙ ap (λ k. placed_of all k first) same)
placed_more all n (first ∷ parts) (suc i) part lt is =
    let further : suc i + 1 ≡ suc (i + 1) = omega arith in
    let number : (n + 1) + i ≡ n + suc i = omega arith in
    rw further (ap (λ rest. placed_of all n first ++ rest) (placed_more all (n + 1) parts i part (omega arith) is ∙ ap (λ k. placed_from all (n + 1) (take i parts) ++ placed_of all k part) number)
    ∙ sym (append_assoc (placed_of all n first) (placed_from all (n + 1) (take i parts)) (placed_of all (n + suc i) part)))

pub placed_next : (all parts : List PartTold) (i : ℕ) (part : PartTold) → i < length parts → part ≡ get_or parts i part
    → placed_from all 1 (take i parts) ++ placed_of all (i + 1) part ≡ placed_from all 1 (take (i + 1) parts)
placed_next all parts i part lt is =
    let number : 1 + i ≡ i + 1 = omega arith in
    sym (placed_more all 1 parts i part lt is ∙ ap (λ k. placed_from all 1 (take i parts) ++ placed_of all k part) number)
