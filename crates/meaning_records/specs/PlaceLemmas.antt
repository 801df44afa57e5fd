-- Where things of a form stand, for those who read them one after another: a thing that is made of others stands where these follow each other,
-- and nowhere where one of them is missing.
use Rattle.std.proofs.Common.{◌≡◌, ◌≢◌, ℕ, ◌+◌, ◌-◌, ◌<◌, ◌≤◌, ◌^◌, List, [], ◌∷◌, ◌++◌, length, take, drop, flat_map, Some, None, All, slice_index, slice_range, sym, ap, subst, ◌∙◌, arith, length-append, append-nil}
use Rattle.std.proofs.Math.Seq.{take-append_seam, drop-append_seam}
use Rattle.std.proofs.lemmas.List.{drop_more}
use Rattle.std.proofs.lemmas.List.Concat.{flat_map-append}
use Rattle.std.proofs.lemmas.List.Elements.{All-nil, All-push, All-head, All-tail}
use Rattle.odin_bytes.specs.Fields.{u32_field, IsFieldAt, HasNoBytesAt}
use Rattle.odin_bytes.specs.FieldLemmas.{length-slice_range, slice_range-split, field_front}
use Rattle.meaning_records.specs.Forms.{Form, ParsesAt, StandsNowhere, IsOfOneThing, bytes, number, both, by_parts, list_of, option_of}
use Rattle.meaning_records.specs.FormLemmas.{one_number}

-- ---- fields

-- a field ends after its length
pub field_end : (from : List ℕ) (at end : ℕ) (field : List ℕ) → IsFieldAt from at end field → end ≡ at + length field
field_end from at end field there = omega (arith, there.in_range, sym (length-slice_range from at end there.in_range.1) ∙ ap length there.bytes)

-- a field after another
pub field_join : (from : List ℕ) (at middle end : ℕ) (a b : List ℕ) → IsFieldAt from at middle a → IsFieldAt from middle end b → IsFieldAt from at end (a ++ b)
field_join from at middle end a b first second = record {
  in_range = (omega (arith, first.in_range, second.in_range), second.in_range.1);
  bytes = slice_range-split from at middle end first.in_range.0 second.in_range.0 ∙ ap (λ l. l ++ slice_range from middle end) first.bytes ∙ ap (λ l. a ++ l) second.bytes;
}

-- where one field ends and the other starts
pub record FieldsAt (from : List ℕ) (at middle end : ℕ) (a b : List ℕ) : Type 0 where
  pub first : IsFieldAt from at middle a
  pub second : IsFieldAt from middle end b

pub field_split : (from : List ℕ) (at end : ℕ) (a b : List ℕ) → IsFieldAt from at end (a ++ b) → FieldsAt from at (at + length a) end a b
field_split from at end a b there =
    let whole : end ≡ at + length (a ++ b) = field_end from at end (a ++ b) there in
    let middle : ℕ = at + length a in
    let order : (at ≤ middle) × (middle ≤ end) × (middle ≤ length from) = omega (arith, whole, length-append a b, there.in_range) in
    let parts : slice_range from at middle ++ slice_range from middle end ≡ a ++ b = sym (slice_range-split from at middle end order.0 order.1) ∙ there.bytes in
    let size : length (slice_range from at middle) ≡ length a = length-slice_range from at middle order.2 ∙ omega arith in
    record {
      first = record { in_range = (order.0, order.2); bytes = sym (take-append_seam (slice_range from at middle) (slice_range from middle end)) ∙ ap (λ n. take n (slice_range from at middle ++ slice_range from middle end)) size ∙ ap (take (length a)) parts ∙ take-append_seam a b };
      second = record { in_range = (order.1, there.in_range.1); bytes = sym (drop-append_seam (slice_range from at middle) (slice_range from middle end)) ∙ ap (λ n. drop n (slice_range from at middle ++ slice_range from middle end)) size ∙ ap (drop (length a)) parts ∙ drop-append_seam a b };
    }

-- ---- bytes that tell what follows

-- a byte, and a field after it
pub record TagAt (from : List ℕ) (at end tag : ℕ) (field : List ℕ) : Type 0 where
  pub within : at < length from
  pub byte : slice_index from at ≡ tag
  pub rest : IsFieldAt from (at + 1) end field

-- the byte of a place
byte_at : (from : List ℕ) (at : ℕ) → at < length from → slice_range from at (at + 1) ≡ slice_index from at ∷ []
byte_at from at within =
    let one : at + 1 - at ≡ 1 = omega arith in
    ap (λ n. take n (drop at from)) one ∙ ap (take 1) (drop_more from at 0 within)

pub tag_stands : (from : List ℕ) (at end tag : ℕ) (field : List ℕ) → TagAt from at end tag field → IsFieldAt from at end (tag ∷ field)
tag_stands from at end tag field there =
    let first : IsFieldAt from at (at + 1) (tag ∷ []) = record { in_range = (omega arith, omega (arith, there.within)); bytes = byte_at from at there.within ∙ ap (λ b. b ∷ []) there.byte } in
    field_join from at (at + 1) end (tag ∷ []) field first there.rest

pub tag_there : (from : List ℕ) (at end tag : ℕ) (field : List ℕ) → IsFieldAt from at end (tag ∷ field) → TagAt from at end tag field
tag_there from at end tag field there =
    let parts : FieldsAt from at (at + 1) end (tag ∷ []) field = field_split from at end (tag ∷ []) field there in
    let within : at < length from = omega (arith, parts.first.in_range) in
    let same : ◌≡◌ {A = List ℕ} (slice_index from at ∷ []) (tag ∷ []) = sym (byte_at from at within) ∙ parts.first.bytes in
    record { within = within; byte = cc; rest = parts.second }

-- ---- things

-- at a place stands one thing at most
pub one_stands : {T : Type 0} (form : Form T) → IsOfOneThing form → (from : List ℕ) (at end last : ℕ) (a b : T) → ParsesAt form from at end a → ParsesAt form from at last b → (a ≡ b) × (end ≡ last)
one_stands form one from at end last a b first second =
    let fronts = sym (field_front from at end (form.spell a) first.field) ∙ field_front from at last (form.spell b) second.field in
    let same : a ≡ b = (one a b _ _ first.fits second.fits fronts).0 in
    (same, field_end from at end (form.spell a) first.field ∙ ap (λ x. at + length (form.spell x)) same ∙ sym (field_end from at last (form.spell b) second.field))

-- ---- one thing after another

pub both_stand : {A B : Type 0} (first : Form A) (second : Form B) (from : List ℕ) (at middle end : ℕ) (a : A) (b : B)
    → ParsesAt first from at middle a → ParsesAt second from middle end b → ParsesAt (both first second) from at end (a, b)
both_stand first second from at middle end a b there behind =
    record { fits = (there.fits, behind.fits); field = field_join from at middle end (first.spell a) (second.spell b) there.field behind.field }

-- the two things that stand there, and the place between them
pub record BothAt {A B : Type 0} (first : Form A) (second : Form B) (from : List ℕ) (at middle end : ℕ) (a : A) (b : B) : Type 0 where
  pub front : ParsesAt first from at middle a
  pub back : ParsesAt second from middle end b

pub both_there : {A B : Type 0} (first : Form A) (second : Form B) (from : List ℕ) (at end : ℕ) (p : A × B) → ParsesAt (both first second) from at end p
    → BothAt first second from at (at + length (first.spell p.0)) end p.0 p.1
both_there first second from at end p there =
    let fields = field_split from at end (first.spell p.0) (second.spell p.1) there.field in
    record { front = record { fits = there.fits.0; field = fields.first }; back = record { fits = there.fits.1; field = fields.second } }

pub first_nowhere : {A B : Type 0} (first : Form A) (second : Form B) (from : List ℕ) (at : ℕ) → StandsNowhere first from at → StandsNowhere (both first second) from at
first_nowhere first second from at none p end there = none p.0 (at + length (first.spell p.0)) (both_there first second from at end p there).front

pub second_nowhere : {A B : Type 0} (first : Form A) (second : Form B) → IsOfOneThing first → (from : List ℕ) (at middle : ℕ) (a : A)
    → ParsesAt first from at middle a → StandsNowhere second from middle → StandsNowhere (both first second) from at
second_nowhere first second one from at middle a front none p end there =
    let parts = both_there first second from at end p there in
    let same = one_stands first one from at (at + length (first.spell p.0)) middle p.0 a parts.front front in
    none p.1 end (subst (λ place. ParsesAt second from place end p.1) same.1 parts.back)

-- ---- a thing by its parts

pub by_parts_stands : {T P : Type 0} (parts : T → P) (form : Form P) (from : List ℕ) (at end : ℕ) (x : T) → ParsesAt form from at end (parts x) → ParsesAt (by_parts parts form) from at end x
by_parts_stands parts form from at end x there = record { fits = there.fits; field = there.field }

pub by_parts_nowhere : {T P : Type 0} (parts : T → P) (form : Form P) (from : List ℕ) (at : ℕ) → StandsNowhere form from at → StandsNowhere (by_parts parts form) from at
by_parts_nowhere parts form from at none x end there = none (parts x) end (record { fits = there.fits; field = there.field })

-- ---- lists

-- these members follow each other up to an end
pub record FollowAt {T : Type 0} (form : Form T) (from : List ℕ) (at end : ℕ) (members : List T) : Type 0 where
  pub fit : All form.fits members
  pub field : IsFieldAt from at end (flat_map form.spell members)

pub none_follow : {T : Type 0} (form : Form T) (from : List ℕ) (at : ℕ) → at ≤ length from → FollowAt form from at at []
none_follow form from at within =
    let none : at - at ≡ 0 = omega arith in
    record { fit = All-nil form.fits; field = record { in_range = (omega arith, within); bytes = ap (λ n. take n (drop at from)) none } }

pub one_more_follows : {T : Type 0} (form : Form T) (from : List ℕ) (at middle end : ℕ) (members : List T) (x : T)
    → FollowAt form from at middle members → ParsesAt form from middle end x → FollowAt form from at end (members ++ x ∷ [])
one_more_follows form from at middle end members x before there = record {
  fit = All-push form.fits members x before.fit there.fits;
  field = subst (IsFieldAt from at end) (sym (flat_map-append form.spell members (x ∷ []) ∙ ap (λ l. flat_map form.spell members ++ l) (append-nil (form.spell x))))
      (field_join from at middle end (flat_map form.spell members) (form.spell x) before.field there.field);
}

-- as many as the count says
pub list_stands : {T : Type 0} (form : Form T) (from : List ℕ) (at start end count : ℕ) (members : List T)
    → ParsesAt number from at start count → FollowAt form from start end members → length members ≡ count → ParsesAt (list_of form) from at end members
list_stands form from at start end count members counted follow long = record {
  fits = (subst (λ n. n < 2 ^ 32) (sym long) counted.fits, follow.fit);
  field = field_join from at start end (u32_field (length members)) (flat_map form.spell members) (subst (λ n. IsFieldAt from at start (u32_field n)) (sym long) counted.field) follow.field;
}

-- the count and the members of a list that stands there
list_there : {T : Type 0} (form : Form T) (from : List ℕ) (at end : ℕ) (members : List T) → ParsesAt (list_of form) from at end members
    → ParsesAt number from at (at + 4) (length members) × FollowAt form from (at + 4) end members
list_there form from at end members there =
    let fields : FieldsAt from at (at + 4) end (u32_field (length members)) (flat_map form.spell members) = field_split from at end (u32_field (length members)) (flat_map form.spell members) there.field in
    (record { fits = there.fits.0; field = fields.first }, record { fit = there.fits.1; field = fields.second })

pub count_nowhere : {T : Type 0} (form : Form T) (from : List ℕ) (at : ℕ) → StandsNowhere number from at → StandsNowhere (list_of form) from at
count_nowhere form from at none members end there = none (length members) (at + 4) (list_there form from at end members there).0

-- the first of the members that follow each other, and the others
pub record FirstAt {T : Type 0} (form : Form T) (from : List ℕ) (at middle end : ℕ) (x : T) (members : List T) : Type 0 where
  pub first : ParsesAt form from at middle x
  pub others : FollowAt form from middle end members

first_there : {T : Type 0} (form : Form T) (from : List ℕ) (at end : ℕ) (x : T) (members : List T) → FollowAt form from at end (x ∷ members)
    → FirstAt form from at (at + length (form.spell x)) end x members
first_there form from at end x members there =
    let fields = field_split from at end (form.spell x) (flat_map form.spell members) there.field in
    record {
      first = record { fits = All-head form.fits x members there.fit; field = fields.first };
      others = record { fit = All-tail form.fits x members there.fit; field = fields.second };
    }

-- no more members follow each other than up to a place where none stands
none_behind : {T : Type 0} (form : Form T) → IsOfOneThing form → (from : List ℕ) (at middle end : ℕ) (xs ys : List T)
    → FollowAt form from at middle xs → FollowAt form from at end ys → length xs < length ys → StandsNowhere form from middle → ⊥
none_behind form one from at middle end xs [] before there fewer none = omega (arith, fewer)
none_behind form one from at middle end [] (y ∷ ys) before there fewer none =
    let here : middle ≡ at + 0 = field_end from at middle [] before.field in
    let same : at ≡ middle = omega arith in
    let first = (first_there form from at end y ys there).first in
    none y (at + length (form.spell y)) (subst (λ place. ParsesAt form from place (at + length (form.spell y)) y) same first)
none_behind form one from at middle end (x ∷ xs) (y ∷ ys) before there fewer none =
    let front = first_there form from at middle x xs before in
    let also = first_there form from at end y ys there in
    let same = one_stands form one from at (at + length (form.spell x)) (at + length (form.spell y)) x y front.first also.first in
    none_behind form one from (at + length (form.spell y)) middle end xs ys (subst (λ place. FollowAt form from place middle xs) same.1 front.others) also.others (omega arith) none

-- a member is missing
pub member_nowhere : {T : Type 0} (form : Form T) → IsOfOneThing form → (from : List ℕ) (at start middle count : ℕ) (members : List T)
    → ParsesAt number from at start count → FollowAt form from start middle members → length members < count → StandsNowhere form from middle
    → StandsNowhere (list_of form) from at
member_nowhere form one from at start middle count members counted follow fewer none other end there =
    let parts = list_there form from at end other there in
    let same : (count ≡ length other) × (start ≡ at + 4) = one_stands number one_number from at start (at + 4) count (length other) counted parts.0 in
    none_behind form one from (at + 4) middle end members other (subst (λ place. FollowAt form from place middle members) same.1 follow) parts.1 (omega (arith, same.0)) none

-- ---- options

pub none_stands : {T : Type 0} (form : Form T) (from : List ℕ) (at : ℕ) → at < length from → slice_index from at ≡ 0 → ParsesAt (option_of form) from at (at + 1) None
none_stands form from at within zero_first =
    let nothing : IsFieldAt from (at + 1) (at + 1) [] = (none_follow form from (at + 1) (omega arith)).field in
    record { fits = tt; field = tag_stands from at (at + 1) 0 [] (record { within = within; byte = zero_first; rest = nothing }) }

pub some_stands : {T : Type 0} (form : Form T) (from : List ℕ) (at end : ℕ) (x : T) → at < length from → slice_index from at ≡ 1 → ParsesAt form from (at + 1) end x
    → ParsesAt (option_of form) from at end (Some x)
some_stands form from at end x within one_first there =
    record { fits = there.fits; field = tag_stands from at end 1 (form.spell x) (record { within = within; byte = one_first; rest = there.field }) }

-- no byte is there, or none that is named
pub no_option_byte : {T : Type 0} (form : Form T) (from : List ℕ) (at : ℕ) → (at < length from → (slice_index from at ≢ 0) × (slice_index from at ≢ 1)) → StandsNowhere (option_of form) from at
no_option_byte form from at other None end there = let tag = tag_there from at end 0 [] there.field in (other tag.within).0 tag.byte
no_option_byte form from at other (Some x) end there = let tag = tag_there from at end 1 (form.spell x) there.field in (other tag.within).1 tag.byte

pub some_nowhere : {T : Type 0} (form : Form T) (from : List ℕ) (at : ℕ) → slice_index from at ≡ 1 → StandsNowhere form from (at + 1) → StandsNowhere (option_of form) from at
some_nowhere form from at one_first none None end there = let tag = tag_there from at end 0 [] there.field in let no : ◌≡◌ {A = ℕ} 1 0 = sym one_first ∙ tag.byte in absurd (omega (arith, no))
some_nowhere form from at one_first none (Some x) end there = let tag = tag_there from at end 1 (form.spell x) there.field in none x end (record { fits = there.fits; field = tag.rest })

-- ---- bytes

pub bytes_nowhere : (from : List ℕ) (at : ℕ) → HasNoBytesAt from at → StandsNowhere bytes from at
bytes_nowhere from at none body end there = none body end there.fits there.field
