-- The lines of parameters, parts and outputs tell what they are lines of.
use Rattle.std.proofs.Common.{◌≡◌, ℕ, ◌+◌, ◌<◌, ◌^◌, true, false, List, [], ◌∷◌, ◌++◌, map, Option, Some, None, refl, sym, ap, ap₂, arith}
use Rattle.std.specs.Prelude.{nat_eq, decimal}
use Rattle.std.specs.List.{All}
use Rattle.std.proofs.lemmas.Fmt.{decimal_injective}
use Rattle.std.proofs.lemmas.List.Elements.{All-head, All-tail}
use Rattle.object_values.specs.declared.nodes.ParamValue.{ParamValue}
use Rattle.object_values.specs.declared.calls.CallPart.{CallPart}
use Rattle.object_values.specs.declared.jobs.FileBody.{FileBody}
use Rattle.meaning_texts.specs.Classes.{is_digit}
use Rattle.meaning_texts.specs.Expressions.{IsParamOfClass}
use Rattle.meaning_calls.specs.Jobs.{IsPartOfClass, param_line, part_line, part_lines, part_file, body_name, out_line, put_file, body_files}
use Rattle.meaning_calls.proofs.Lines.{lacks, id_lacks, decimal_lacks, SameParts, cut_at}

-- ---- parameters

same_param : (p q : ParamValue) → p.param ≡ q.param → p.value ≡ q.value → p ≡ q
same_param p q n v = let e : ◌≡◌ {A = ParamValue} (record { param = p.param; value = p.value }) (record { param = q.param; value = q.value }) = cc in e

one_param : (p q : ParamValue) → IsParamOfClass p → IsParamOfClass q → param_line p ≡ param_line q → p ≡ q
one_param p q a b e =
    let rest : p.param ++ 32 ∷ p.value ≡ q.param ++ 32 ∷ q.value = cc in
    let r : SameParts p.param q.param p.value q.value = cut_at 32 p.param q.param p.value q.value (id_lacks 32 refl p.param a.name) (id_lacks 32 refl q.param b.name) rest in
    same_param p q r.before r.behind

pub one_params : (ps qs : List ParamValue) → All IsParamOfClass ps → All IsParamOfClass qs → map param_line ps ≡ map param_line qs → ps ≡ qs
one_params [] [] a b e = refl
one_params [] (q ∷ qs) a b e = let n : ⊥ = cc in absurd n
one_params (p ∷ ps) [] a b e = let n : ⊥ = cc in absurd n
one_params (p ∷ ps) (q ∷ qs) a b e =
    let first : param_line p ≡ param_line q = cc in
    let rest : map param_line ps ≡ map param_line qs = cc in
    ap₂ (λ (x : ParamValue) xs. x ∷ xs) (one_param p q (All-head IsParamOfClass p ps a) (All-head IsParamOfClass q qs b) first) (one_params ps qs (All-tail IsParamOfClass p ps a) (All-tail IsParamOfClass q qs b) rest)

-- ---- outputs

one_out : (a b : List ℕ) → out_line a ≡ out_line b → a ≡ b
one_out a b e = cc

pub one_outs : (xs ys : List (List ℕ)) → map out_line xs ≡ map out_line ys → xs ≡ ys
one_outs [] [] e = refl
one_outs [] (y ∷ ys) e = let n : ⊥ = cc in absurd n
one_outs (x ∷ xs) [] e = let n : ⊥ = cc in absurd n
one_outs (x ∷ xs) (y ∷ ys) e =
    let first : out_line x ≡ out_line y = cc in
    let rest : map out_line xs ≡ map out_line ys = cc in
    ap₂ (λ (t : List ℕ) ts. t ∷ ts) (one_out x y first) (one_outs xs ys rest)

-- ---- parts

pub file_lacks : (c number : ℕ) (body : Option (List ℕ)) → nat_eq 45 c ≡ false → nat_eq 105 c ≡ false → is_digit c ≡ false → lacks c (part_file number body) ≡ true
file_lacks c number None a b d = rw a refl
file_lacks c number (Some body) a b d = rw b (decimal_lacks c d number)

-- the body of the first file
abbrev pub first_body : List FileBody → List ℕ
first_body [] = []
first_body (file ∷ rest) = file.body

file_apart : (text : List ℕ) → ◌≡◌ {A = List ℕ} (45 ∷ []) (105 ∷ text) → ⊥
file_apart text e = cc

same_bodies : (name a b : List ℕ) (rest others : List FileBody) → ◌≡◌ {A = List FileBody} (record { name = name; body = a } ∷ rest) (record { name = name; body = b } ∷ others) → (Some a ≡ Some b) × (rest ≡ others)
same_bodies name a b rest others e = (ap (λ (x : List ℕ). Some x) (ap first_body e), cc)

-- a part is there, or it isn't
same_file_kind : (number : ℕ) (a b : Option (List ℕ)) → part_file number a ≡ part_file number b → (rest others : List FileBody) → put_file number a rest ≡ put_file number b others → (a ≡ b) × (rest ≡ others)
same_file_kind number None None e rest others f = (refl, f)
same_file_kind number None (Some b) e rest others f = absurd (file_apart (decimal number) e)
same_file_kind number (Some a) None e rest others f = absurd (file_apart (decimal number) (sym e))
same_file_kind number (Some a) (Some b) e rest others f = same_bodies (body_name number) a b rest others f

same_part : (p q : CallPart) → p.slot ≡ q.slot → p.label ≡ q.label → p.body ≡ q.body → p ≡ q
same_part p q s l b = let e : ◌≡◌ {A = CallPart} (record { slot = p.slot; label = p.label; body = p.body }) (record { slot = q.slot; label = q.label; body = q.body }) = cc in e

pub record SamePart (number : ℕ) (p q : CallPart) : Type 0 where
  pub slot : p.slot ≡ q.slot
  pub file : part_file number p.body ≡ part_file number q.body
  pub label : p.label ≡ q.label

part_told : (number : ℕ) (p q : CallPart) → IsPartOfClass p → IsPartOfClass q → part_line number p ≡ part_line number q → SamePart number p q
part_told number p q a b e =
    let rest : decimal p.slot ++ 32 ∷ (part_file number p.body ++ 32 ∷ p.label) ≡ decimal q.slot ++ 32 ∷ (part_file number q.body ++ 32 ∷ q.label) = cc in
    let r : SameParts (decimal p.slot) (decimal q.slot) (part_file number p.body ++ 32 ∷ p.label) (part_file number q.body ++ 32 ∷ q.label)
    = cut_at 32 (decimal p.slot) (decimal q.slot) (part_file number p.body ++ 32 ∷ p.label) (part_file number q.body ++ 32 ∷ q.label) (decimal_lacks 32 refl p.slot) (decimal_lacks 32 refl q.slot) rest in
    let s : SameParts (part_file number p.body) (part_file number q.body) p.label q.label
    = cut_at 32 (part_file number p.body) (part_file number q.body) p.label q.label (file_lacks 32 number p.body refl refl refl) (file_lacks 32 number q.body refl refl refl) r.behind in
    let x : p.slot < 2 ^ 32 = a.slot in
    let y : q.slot < 2 ^ 32 = b.slot in
    record { slot = decimal_injective p.slot q.slot (omega arith) (omega arith) r.before; file = s.before; label = s.behind }

pub one_parts : (number : ℕ) (ps qs : List CallPart) → All IsPartOfClass ps → All IsPartOfClass qs → part_lines number ps ≡ part_lines number qs → body_files number ps ≡ body_files number qs → ps ≡ qs
one_parts number [] [] a b e f = refl
one_parts number [] (q ∷ qs) a b e f = let n : ⊥ = cc in absurd n
one_parts number (p ∷ ps) [] a b e f = let n : ⊥ = cc in absurd n
one_parts number (p ∷ ps) (q ∷ qs) a b e f =
    let first : part_line number p ≡ part_line number q = cc in
    let rest : part_lines (number + 1) ps ≡ part_lines (number + 1) qs = cc in
    let s : SamePart number p q = part_told number p q (All-head IsPartOfClass p ps a) (All-head IsPartOfClass q qs b) first in
    let k = same_file_kind number p.body q.body s.file (body_files (number + 1) ps) (body_files (number + 1) qs) f in
    ap₂ (λ (x : CallPart) xs. x ∷ xs) (same_part p q s.slot s.label k.0) (one_parts (number + 1) ps qs (All-tail IsPartOfClass p ps a) (All-tail IsPartOfClass q qs b) rest k.1)
