-- What is told of a call is read back from its file.
use Rattle.std.proofs.Common.{◌≡◌, ◌≢◌, ℕ, zero, suc, ◌+◌, ◌/◌, ◌%◌, ◌<◌, true, false, not, List, [], ◌∷◌, ◌++◌, length, map, Option, Some, None, is_some, option_map, refl, sym, ap, ◌∙◌, append-nil, append_assoc, length-append, arith, inl, inr}
use Rattle.std.specs.Prelude.{nat_eq, codes, decimal, if◌then◌else◌}
use Rattle.std.specs.Fmt.{digits, digits_onto, digit_glyph}
use Rattle.std.specs.List.{list_all, All, flat_map}
use Rattle.std.specs.Option.{option_and_then}
use Rattle.std.proofs.lemmas.Bool.{cases_Bool, and_from, lt-ltb, le-leb}
use Rattle.std.proofs.lemmas.List.Elements.{All-head, All-tail, All-nil, All-cons, All-append, All-map, All-weaker}
use Rattle.std.proofs.lemmas.List.Sums.{list_all-from_AllPass}
use Rattle.std.proofs.lemmas.Slice.Eq.{bytes_eq-Decides}
use Rattle.object_values.specs.declared.nodes.ParamValue.{ParamValue}
use Rattle.object_values.specs.declared.calls.CallPart.{CallPart}
use Rattle.object_values.specs.declared.calls.Call.{Call}
use Rattle.meaning_texts.specs.Classes.{is_digit, is_key_byte, is_name_byte, is_value_byte, IsId}
use Rattle.meaning_texts.specs.Expressions.{IsParamOfClass}
use Rattle.meaning_texts.specs.Lists.{HasNo}
use Rattle.meaning_texts.specs.Lines.{HasNoLf, cut_lines, with_lf}
use Rattle.meaning_texts.proofs.Lemmas.{HasNo-append, HasNo-pass, cut_full}
use Rattle.meaning_calls.specs.Jobs.{IsLabel, IsPartOfClass, IsWellFormed, tool_line, param_line, part_line, part_lines, part_file, body_name, out_file, out_line, call_text}
use Rattle.call_layout.specs.declared.told.CallTold.{CallTold}
use Rattle.call_layout.specs.Told.{part_told, call_told, after_front, cut_word, part_of, read_part, with_part, with_out, put_line, put_lines, then_lines, read_cut, nothing_told, read_headed, read_call}
use Rattle.call_layout.proofs.WordCuts.{cut_there}

-- ---- bytes that words don't have

-- the bytes of a text that is spelled out
spelled_lacks : (c : ℕ) (text : List ℕ) → list_all (λ b. not (nat_eq b c)) text ≡ true → nat_eq c c ≡ true → HasNo c text
spelled_lacks c text says same = HasNo-pass (λ b. not (nat_eq b c)) c (ap not same) text says

id_lacks : (c : ℕ) → is_key_byte c ≡ false → (id : List ℕ) → IsId id → HasNo c id
id_lacks c none id i = HasNo-pass is_key_byte c none id (list_all-from_AllPass is_key_byte id i.key.each)

glyph_is_digit : (d : ℕ) → d < 10 → is_digit (digit_glyph false d) ≡ true
glyph_is_digit d low = rw (lt-ltb d 10 low) (and_from _ _ (le-leb 48 (48 + d) (omega arith)) (le-leb (48 + d) 57 (omega arith)))

onto_digits : (k n : ℕ) (acc : List ℕ) → list_all is_digit acc ≡ true → list_all is_digit (digits_onto k 10 false n acc) ≡ true
onto_digits zero n acc e = e
onto_digits (suc k) n acc e =
    let g : is_digit (digit_glyph false (n % 10)) ≡ true = glyph_is_digit (n % 10) (omega arith) in
    let more : list_all is_digit (digit_glyph false (n % 10) ∷ acc) ≡ true = and_from _ _ g e in
    elim (cases_Bool (nat_eq (n / 10) 0)) [
      | inl t ↦ rw t more
      | inr t ↦ rw t (onto_digits k (n / 10) (digit_glyph false (n % 10) ∷ acc) more)
    ]

pub decimal_digits : (n : ℕ) → list_all is_digit (decimal n) ≡ true
unfolding digits
decimal_digits n = onto_digits 64 n [] refl

pub decimal_lacks : (c : ℕ) → is_digit c ≡ false → (n : ℕ) → HasNo c (decimal n)
decimal_lacks c none n = HasNo-pass is_digit c none (decimal n) (decimal_digits n)

file_lacks : (c : ℕ) → 45 ≢ c → 105 ≢ c → is_digit c ≡ false → (number : ℕ) (body : Option (List ℕ)) → HasNo c (part_file number body)
file_lacks c dash i none number None = (dash, tt)
file_lacks c dash i none number (Some body) = (i, decimal_lacks c none number)

label_lacks : (label : List ℕ) → IsLabel label → HasNo 10 label
label_lacks [] is = tt
label_lacks (b ∷ rest) is = ((All-head (λ b. (b ≢ 32) × (b ≢ 10)) b rest is).1, label_lacks rest (All-tail (λ b. (b ≢ 32) × (b ≢ 10)) b rest is))

-- ---- no line has an LF

space : ◌≢◌ {A = ℕ} 32 10
space = λ e. cc

tool_lacks : (call : Call) → IsWellFormed call → HasNoLf (tool_line call)
tool_lacks call well =
    HasNo-append 10 (codes "tool ") (call.tool ++ 32 ∷ call.version) (spelled_lacks 10 (codes "tool ") refl refl)
    (HasNo-append 10 call.tool (32 ∷ call.version) (id_lacks 10 refl call.tool well.tool)
    (space, HasNo-pass is_name_byte 10 refl call.version (list_all-from_AllPass is_name_byte call.version well.version.each)))

param_lacks : (p : ParamValue) → IsParamOfClass p → HasNoLf (param_line p)
param_lacks p is =
    HasNo-append 10 (codes "param ") (p.param ++ 32 ∷ p.value) (spelled_lacks 10 (codes "param ") refl refl)
    (HasNo-append 10 p.param (32 ∷ p.value) (id_lacks 10 refl p.param is.name)
    (space, HasNo-pass is_value_byte 10 refl p.value (list_all-from_AllPass is_value_byte p.value is.value)))

part_lacks : (number : ℕ) (part : CallPart) → IsPartOfClass part → HasNoLf (part_line number part)
part_lacks number part is =
    HasNo-append 10 (codes "part ") (decimal part.slot ++ 32 ∷ (part_file number part.body ++ 32 ∷ part.label)) (spelled_lacks 10 (codes "part ") refl refl)
    (HasNo-append 10 (decimal part.slot) (32 ∷ (part_file number part.body ++ 32 ∷ part.label)) (decimal_lacks 10 refl part.slot)
    (space, HasNo-append 10 (part_file number part.body) (32 ∷ part.label) (file_lacks 10 (λ e. cc) (λ e. cc) refl number part.body) (space, label_lacks part.label is.label)))

out_lacks : (name : List ℕ) → IsId name → HasNoLf (out_line name)
out_lacks name is = HasNo-append 10 (codes "out out.") name (spelled_lacks 10 (codes "out out.") refl refl) (id_lacks 10 refl name is)

params_lack : (ps : List ParamValue) → All IsParamOfClass ps → All HasNoLf (map param_line ps)
params_lack ps are = All-map HasNoLf param_line ps (All-weaker IsParamOfClass (λ p. HasNoLf (param_line p)) param_lacks ps are)

parts_lack : (number : ℕ) (ps : List CallPart) → All IsPartOfClass ps → All HasNoLf (part_lines number ps)
parts_lack number [] are = All-nil HasNoLf
parts_lack number (p ∷ ps) are =
    All-cons HasNoLf (part_line number p) (part_lines (number + 1) ps) (part_lacks number p (All-head IsPartOfClass p ps are)) (parts_lack (number + 1) ps (All-tail IsPartOfClass p ps are))

outs_lack : (outs : List (List ℕ)) → All IsId outs → All HasNoLf (map out_line outs)
outs_lack outs are = All-map HasNoLf out_line outs (All-weaker IsId (λ x. HasNoLf (out_line x)) out_lacks outs are)

-- the lines after the first one
abbrev later_lines : Call → List (List ℕ)
later_lines call = tool_line call ∷ (map param_line call.params ++ (part_lines 1 call.parts ++ map out_line call.outs))

later_lack : (call : Call) → IsWellFormed call → All HasNoLf (later_lines call)
later_lack call well =
    All-cons HasNoLf (tool_line call) (map param_line call.params ++ (part_lines 1 call.parts ++ map out_line call.outs)) (tool_lacks call well)
    (All-append HasNoLf (map param_line call.params) (part_lines 1 call.parts ++ map out_line call.outs) (params_lack call.params well.params)
    (All-append HasNoLf (part_lines 1 call.parts) (map out_line call.outs) (parts_lack 1 call.parts well.parts) (outs_lack call.outs well.outs)))

-- ---- what the lines tell

param_tells : (p : ParamValue) (told : CallTold) → put_line (param_line p) told ≡ Some told
param_tells p told = refl

params_tell : (ps : List ParamValue) (more : List (List ℕ)) (told : CallTold) → put_lines (map param_line ps ++ more) told ≡ put_lines more told
params_tell [] more told = refl
params_tell (p ∷ ps) more told = ap (then_lines (put_lines (map param_line ps ++ more))) (param_tells p told) ∙ params_tell ps more told

by_file : (number : ℕ) (body : Option (List ℕ)) (label : List ℕ) → part_of number (part_file number body, label) ≡ Some (record { is_there = is_some body; label = label })
by_file number None label = refl
by_file number (Some body) label =
    ap (λ says. option_map (λ there. record { is_there = there; label = label }) (if says then Some true else None)) ((bytes_eq-Decides (body_name number) (body_name number)).1 refl)

part_reads : (number : ℕ) (part : CallPart) → read_part number (decimal part.slot ++ 32 ∷ (part_file number part.body ++ 32 ∷ part.label)) ≡ Some (part_told part)
part_reads number part =
    ap (option_and_then (λ slot. option_and_then (part_of number) (cut_word slot.1))) (cut_there (decimal part.slot) (part_file number part.body ++ 32 ∷ part.label) (decimal_lacks 32 refl part.slot))
    ∙ ap (option_and_then (part_of number)) (cut_there (part_file number part.body) part.label (file_lacks 32 (λ e. cc) (λ e. cc) refl number part.body))
    ∙ by_file number part.body part.label

part_tells : (number : ℕ) (part : CallPart) (told : CallTold) → number ≡ length told.parts + 1 → put_line (part_line number part) told ≡ Some (with_part told (part_told part))
part_tells number part told at =
    ap (λ k. option_map (with_part told) (read_part k (decimal part.slot ++ 32 ∷ (part_file number part.body ++ 32 ∷ part.label)))) (sym at)
    ∙ ap (option_map (with_part told)) (part_reads number part)

parts_tell : (number : ℕ) (ps : List CallPart) (more : List (List ℕ)) (told : CallTold) → number ≡ length told.parts + 1
    → put_lines (part_lines number ps ++ more) told ≡ put_lines more (record { parts = told.parts ++ map part_told ps; outs = told.outs })
parts_tell number [] more told at = ap (λ l. put_lines more (record { parts = l; outs = told.outs })) (sym (append-nil told.parts))
parts_tell number (p ∷ ps) more told at =
    let long = length-append told.parts (part_told p ∷ []) in
    ap (then_lines (put_lines (part_lines (number + 1) ps ++ more))) (part_tells number p told at)
    ∙ parts_tell (number + 1) ps more (with_part told (part_told p)) (omega (arith, long))
    ∙ ap (λ l. put_lines more (record { parts = l; outs = told.outs })) (append_assoc told.parts (part_told p ∷ []) (map part_told ps))

out_tells : (name : List ℕ) (told : CallTold) → put_line (out_line name) told ≡ Some (with_out told (out_file name))
out_tells name told = refl

outs_tell : (outs : List (List ℕ)) (told : CallTold) → put_lines (map out_line outs) told ≡ Some (record { parts = told.parts; outs = told.outs ++ map out_file outs })
outs_tell [] told = ap (λ l. Some (record { parts = told.parts; outs = l })) (sym (append-nil told.outs))
outs_tell (x ∷ xs) told =
    ap (then_lines (put_lines (map out_line xs))) (out_tells x told) ∙ outs_tell xs (with_out told (out_file x))
    ∙ ap (λ l. Some (record { parts = told.parts; outs = l })) (append_assoc told.outs (out_file x ∷ []) (map out_file xs))

lines_tell : (call : Call) → put_lines (later_lines call) nothing_told ≡ Some (call_told call)
lines_tell call =
    params_tell call.params (part_lines 1 call.parts ++ map out_line call.outs) nothing_told
    ∙ parts_tell 1 call.parts (map out_line call.outs) nothing_told refl
    ∙ outs_tell call.outs (record { parts = map part_told call.parts; outs = [] })

-- ---- the text

headed : (text : List ℕ) → after_front (codes "odin 1\n") (with_lf (codes "odin 1") ++ text) ≡ Some text
headed text = refl

later_text : Call → List ℕ
later_text call = flat_map with_lf (later_lines call)

cut_later : (call : Call) → IsWellFormed call → cut_lines (later_text call) ≡ record { full = later_lines call; last = [] }
unfolding later_text
cut_later call well = ap cut_lines (sym (append-nil (flat_map with_lf (later_lines call)))) ∙ cut_full (later_lines call) [] (later_lack call well) tt

pub read_back : (call : Call) → IsWellFormed call → read_call (call_text call) ≡ Some (call_told call)
unfolding later_text
read_back call well = ap read_headed (headed (later_text call)) ∙ ap (read_cut nothing_told) (cut_later call well) ∙ lines_tell call
