-- Two well formed calls with one job are one call.
use Rattle.std.proofs.Common.{◌≡◌, ◌≢◌, ℕ, ◌+◌, Bool, true, false, not, List, [], ◌∷◌, ◌++◌, map, refl, sym, ap, ◌∙◌, append-nil}
use Rattle.std.specs.Prelude.{nat_eq, codes, get_or, decimal}
use Rattle.std.specs.List.{list_all, All}
use Rattle.std.proofs.lemmas.Bool.{and_from, ne_eqb, not_from_false}
use Rattle.std.proofs.lemmas.List.Elements.{All-head, All-tail, All-nil, All-cons, All-append, All-map, All-weaker}
use Rattle.std.proofs.lemmas.List.Folds.{list_all-append}
use Rattle.std.proofs.lemmas.List.Sums.{list_all-from_AllPass}
use Rattle.object_values.specs.declared.nodes.ParamValue.{ParamValue}
use Rattle.object_values.specs.declared.calls.CallPart.{CallPart}
use Rattle.object_values.specs.declared.calls.Call.{Call}
use Rattle.object_values.specs.declared.jobs.Job.{Job}
use Rattle.meaning_texts.specs.Classes.{is_name_byte, is_value_byte, IsId}
use Rattle.meaning_texts.specs.Expressions.{IsParamOfClass}
use Rattle.meaning_texts.specs.Lines.{HasNoLf, LineCut, cut_lines}
use Rattle.meaning_texts.proofs.Lemmas.{cut_full}
use Rattle.meaning_calls.specs.Jobs.{IsLabel, IsPartOfClass, IsWellFormed, tool_line, param_line, part_line, part_lines, part_file, out_line, call_lines, call_text, body_files, job_of}
use Rattle.meaning_calls.proofs.Lines.{lacks, word_lacks, id_lacks, decimal_lacks, no_lf_from, SameParts, cut_at, SameLists, cut_kind}
use Rattle.meaning_calls.proofs.Parts.{one_params, one_outs, one_parts, file_lacks, first_body}

-- ---- no line has an LF

lacks_append : (c : ℕ) (xs ys : List ℕ) → lacks c xs ≡ true → lacks c ys ≡ true → lacks c (xs ++ ys) ≡ true
lacks_append c xs ys a b = rw (list_all-append (λ b. not (nat_eq b c)) xs ys) (and_from _ _ a b)

label_lacks : (label : List ℕ) → IsLabel label → lacks 10 label ≡ true
label_lacks [] l = refl
label_lacks (b ∷ rest) l =
    let h = All-head (λ b. (b ≢ 32) × (b ≢ 10)) b rest l in
    and_from _ _ (not_from_false (nat_eq b 10) (ne_eqb b 10 h.1)) (label_lacks rest (All-tail (λ b. (b ≢ 32) × (b ≢ 10)) b rest l))

tool_lacks : (call : Call) → IsWellFormed call → lacks 10 (tool_line call) ≡ true
tool_lacks call w = lacks_append 10 call.tool (32 ∷ call.version) (id_lacks 10 refl call.tool w.tool) (word_lacks is_name_byte 10 refl call.version (list_all-from_AllPass is_name_byte call.version w.version.each))

param_lacks : (p : ParamValue) → IsParamOfClass p → lacks 10 (param_line p) ≡ true
param_lacks p c = lacks_append 10 p.param (32 ∷ p.value) (id_lacks 10 refl p.param c.name) (word_lacks is_value_byte 10 refl p.value (list_all-from_AllPass is_value_byte p.value c.value))

part_lacks : (number : ℕ) (part : CallPart) → IsPartOfClass part → lacks 10 (part_line number part) ≡ true
part_lacks number part c = lacks_append 10 (decimal part.slot) (32 ∷ (part_file number part.body ++ 32 ∷ part.label)) (decimal_lacks 10 refl part.slot)
    (lacks_append 10 (part_file number part.body) (32 ∷ part.label) (file_lacks 10 number part.body refl refl refl) (label_lacks part.label c.label))

params_no_lf : (ps : List ParamValue) → All IsParamOfClass ps → All HasNoLf (map param_line ps)
params_no_lf ps c = All-map HasNoLf param_line ps (All-weaker IsParamOfClass (λ p. HasNoLf (param_line p)) (λ p k. no_lf_from (param_line p) (param_lacks p k)) ps c)

parts_no_lf : (number : ℕ) (ps : List CallPart) → All IsPartOfClass ps → All HasNoLf (part_lines number ps)
parts_no_lf number [] c = All-nil HasNoLf
parts_no_lf number (p ∷ ps) c = All-cons HasNoLf (part_line number p) (part_lines (number + 1) ps) (no_lf_from (part_line number p) (part_lacks number p (All-head IsPartOfClass p ps c))) (parts_no_lf (number + 1) ps (All-tail IsPartOfClass p ps c))

outs_no_lf : (outs : List (List ℕ)) → All IsId outs → All HasNoLf (map out_line outs)
outs_no_lf outs c = All-map HasNoLf out_line outs (All-weaker IsId (λ x. HasNoLf (out_line x)) (λ x k. no_lf_from (out_line x) (id_lacks 10 refl x k)) outs c)

abbrev behind_tool : Call → List (List ℕ)
behind_tool call = map param_line call.params ++ (part_lines 1 call.parts ++ map out_line call.outs)

lines_no_lf : (call : Call) → IsWellFormed call → All HasNoLf (call_lines call)
lines_no_lf call w = All-cons HasNoLf (codes "odin 1") (tool_line call ∷ behind_tool call) (no_lf_from (codes "odin 1") refl) (All-cons HasNoLf (tool_line call) (behind_tool call) (no_lf_from (tool_line call) (tool_lacks call w))
    (All-append HasNoLf (map param_line call.params) (part_lines 1 call.parts ++ map out_line call.outs) (params_no_lf call.params w.params) (All-append HasNoLf (part_lines 1 call.parts) (map out_line call.outs) (parts_no_lf 1 call.parts w.parts) (outs_no_lf call.outs w.outs))))

-- the text tells the lines
lines_told : (a b : Call) → IsWellFormed a → IsWellFormed b → call_text a ≡ call_text b → call_lines a ≡ call_lines b
lines_told a b v w e =
    let whole : (c : Call) → IsWellFormed c → cut_lines (call_text c) ≡ record { full = call_lines c; last = [] } = λ c u. ap cut_lines (sym (append-nil (call_text c))) ∙ cut_full (call_lines c) [] (lines_no_lf c u) tt in
    let x = whole a v in
    let y = whole b w in
    let z : ◌≡◌ {A = LineCut} (record { full = call_lines a; last = [] }) (record { full = call_lines b; last = [] }) = sym x ∙ ap cut_lines e ∙ y in
    ap (λ (c : LineCut). c.full) z

-- ---- the kinds of lines

-- the fourth byte is `a` in a line of a parameter, and `t` in one of a part
abbrev fourth_is : ℕ → List ℕ → Bool
fourth_is c line = nat_eq (get_or line 3 0) c

all_params : (ps : List ParamValue) → list_all (fourth_is 97) (map param_line ps) ≡ true
all_params [] = refl
all_params (p ∷ ps) = all_params ps

all_parts : (number : ℕ) (ps : List CallPart) → list_all (fourth_is 116) (part_lines number ps) ≡ true
all_parts number [] = refl
all_parts number (p ∷ ps) = all_parts (number + 1) ps

parts_no_params : (number : ℕ) (ps : List CallPart) → list_all (λ l. not (fourth_is 97 l)) (part_lines number ps) ≡ true
parts_no_params number [] = refl
parts_no_params number (p ∷ ps) = parts_no_params (number + 1) ps

outs_no : (c : ℕ) → nat_eq 32 c ≡ false → (outs : List (List ℕ)) → list_all (λ l. not (fourth_is c l)) (map out_line outs) ≡ true
outs_no c other [] = refl
outs_no c other (x ∷ outs) = rw other (outs_no c other outs)

behind_no_params : (call : Call) → list_all (λ l. not (fourth_is 97 l)) (part_lines 1 call.parts ++ map out_line call.outs) ≡ true
behind_no_params call = rw (list_all-append (λ l. not (fourth_is 97 l)) (part_lines 1 call.parts) (map out_line call.outs)) (and_from _ _ (parts_no_params 1 call.parts) (outs_no 97 refl call.outs))

-- ---- the call

same_call : (a b : Call) → a.tool ≡ b.tool → a.version ≡ b.version → a.words ≡ b.words → a.params ≡ b.params → a.parts ≡ b.parts → a.outs ≡ b.outs → a ≡ b
same_call a b t v w p q o = let e : ◌≡◌ {A = Call} (record { tool = a.tool; version = a.version; words = a.words; params = a.params; parts = a.parts; outs = a.outs }) (record { tool = b.tool; version = b.version; words = b.words; params = b.params; parts = b.parts; outs = b.outs }) = cc in e

pub one_job_one_call : (a b : Call) → IsWellFormed a → IsWellFormed b → job_of a ≡ job_of b → a ≡ b
unfolding job_of
one_job_one_call a b v w e =
    let words : a.words ≡ b.words = ap (λ (j : Job). j.words) e in
    let files = ap (λ (j : Job). j.files) e in
    let text : call_text a ≡ call_text b = ap first_body files in
    let bodies : body_files 1 a.parts ≡ body_files 1 b.parts = cc in
    let lines : call_lines a ≡ call_lines b = lines_told a b v w text in
    let tool : tool_line a ≡ tool_line b = cc in
    let rest : map param_line a.params ++ (part_lines 1 a.parts ++ map out_line a.outs) ≡ map param_line b.params ++ (part_lines 1 b.parts ++ map out_line b.outs) = cc in
    let named : a.tool ++ 32 ∷ a.version ≡ b.tool ++ 32 ∷ b.version = cc in
    let t : SameParts a.tool b.tool a.version b.version = cut_at 32 a.tool b.tool a.version b.version (id_lacks 32 refl a.tool v.tool) (id_lacks 32 refl b.tool w.tool) named in
    let p : SameLists (map param_line a.params) (map param_line b.params) (part_lines 1 a.parts ++ map out_line a.outs) (part_lines 1 b.parts ++ map out_line b.outs)
    = cut_kind (fourth_is 97) (map param_line a.params) (map param_line b.params) (part_lines 1 a.parts ++ map out_line a.outs) (part_lines 1 b.parts ++ map out_line b.outs) (all_params a.params) (all_params b.params) (behind_no_params a) (behind_no_params b) rest in
    let q : SameLists (part_lines 1 a.parts) (part_lines 1 b.parts) (map out_line a.outs) (map out_line b.outs)
    = cut_kind (fourth_is 116) (part_lines 1 a.parts) (part_lines 1 b.parts) (map out_line a.outs) (map out_line b.outs) (all_parts 1 a.parts) (all_parts 1 b.parts) (outs_no 116 refl a.outs) (outs_no 116 refl b.outs) p.behind in
    same_call a b t.before t.behind words (one_params a.params b.params v.params w.params p.before) (one_parts 1 a.parts b.parts v.parts w.parts q.before bodies) (one_outs a.outs b.outs q.behind)
