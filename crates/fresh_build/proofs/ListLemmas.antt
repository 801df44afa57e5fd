-- What is read of listed files, one name after another.
use Rattle.std.proofs.Common.{◌≡◌, ◌<◌, ◌≤◌, ℕ, suc, min, false, is_none, List, [], ◌∷◌, ◌++◌, take, drop, length, get_or, Option, Some, None, IsSome, Result, Ok, Err, IfErr, IsErrAnd, refl, sym, ap, subst, ◌∙◌, inl, inr, arith}
use Rattle.std.specs.Option.{option_map}
use Rattle.std.specs.Cmp.Lexicographic.{slice_cmp}
use Rattle.std.specs.Ordering.{nat_cmp}
use Rattle.std.specs.FinMap as map
use Rattle.std.specs.FinMap.{get, insert}
use Rattle.std.proofs.Math.Seq.{drop-cons}
use Rattle.std.proofs.lemmas.List.{length-take, take_all, take-append-drop}
use Rattle.object_values.specs.Texts.{Text, Texts, no_texts}
use Rattle.object_values.specs.Gets.{put_here, put_other}
use Rattle.odin_outside.specs.Files.{Files, IsGiven}
use Rattle.meaning_texts.specs.Classes.{IsName}
use Rattle.meaning_texts.specs.Limits.{body_limit}
use Rattle.meaning_texts.specs.Lists.{IsIn}
use Rattle.meaning_texts.proofs.Lemmas.{in_left, in_right, in_either}
use Rattle.meaning_derive.specs.Given.{AreSources}
use Rattle.fresh_build.specs.declared.fault.ListFault.{ListFault}
use Rattle.fresh_build.specs.declared.fault.ListFault.TheVariants as fault
use Rattle.fresh_build.specs.Listed.{IsFileText, IsFileFault, IsGivenText, IsGivenFault, HasFile, AreFiles, IsListFault}
use Rattle.fresh_build.proofs.MapLemmas.{either_name}

same_text : (x y : Text) → Some x ≡ Some y → x ≡ y
same_text x y e = cc

none_some : {A : Type 0} (o : Option A) → o ≡ None → IsSome o → ⊥
none_some o none some = cc

-- a name to which a text was found
pub is_there : {A : Type 0} (f : A → Text) (o : Option A) (texts : Texts) (name asked : Text) → option_map f o ≡ get texts asked → asked ≡ name
    → is_none o ≡ false → IsSome (get texts name)
is_there f None texts name asked found is some = cc
is_there f (Some x) texts name asked found is some = subst (λ (t : Option Text). IsSome t) (found ∙ ap (get texts) is) refl

-- ---- one file

-- some first bytes of a file, no more than so many, are the file where they are fewer
whole_of : (limit : ℕ) (file : Option Text) (text : Text) → option_map (λ body. take limit body) file ≡ Some text → length text < limit → file ≡ Some text
whole_of limit None text is short = cc
whole_of limit (Some body) text is short =
    let cut : take limit body ≡ text = same_text _ _ is in
    let size : min limit (length body) ≡ length text = sym (length-take limit body) ∙ ap length cut in
    let all : length body ≤ limit = omega arith in
    ap Some (sym (take_all limit body all) ∙ cut)

none_of : (limit : ℕ) (file : Option Text) → option_map (λ body. take limit body) file ≡ None → file ≡ None
none_of limit None is = refl
none_of limit (Some body) is = cc

-- and the file is no shorter than they are
long_of : (limit least : ℕ) (file : Option Text) (text : Text) → option_map (λ body. take limit body) file ≡ Some text → least < length text
    → (body : Text) × (file ≡ Some body) × (least < length body)
long_of limit least None text is long = cc
long_of limit least (Some body) text is long =
    let cut : take limit body ≡ text = same_text _ _ is in
    let size : min limit (length body) ≡ length text = sym (length-take limit body) ∙ ap length cut in
    (body, refl, omega arith)

pub given_text : (files : Option Files) (name text : Text) (file : Option Text) → IsGiven files name file → IsGivenText file text → IsFileText files name text
given_text None name text file given is = record { file = tt; short = is.short }
given_text (Some files) name text file given is =
    record { file = whole_of 16777217 (get files name) text (sym given ∙ is.is) (let short = is.short in omega arith); short = is.short }

pub given_fault : (files : Option Files) (name : Text) (file : Option Text) (given : ListFault) → IsGiven files name file
    → IsGivenFault name file given → IsFileFault files name given
given_fault None name file (fault.Missing missing) gives is = (is.0, tt)
given_fault (Some files) name file (fault.Missing missing) gives is = (is.0, none_of 16777217 (get files name) (sym gives ∙ is.1))
given_fault None name file (fault.TooLong long) gives is = (is.0, tt)
given_fault (Some files) name file (fault.TooLong long) gives is = (
  is.0,
  long_of 16777217 body_limit (get files name) is.1.text (sym gives ∙ is.1.is) is.1.long,
)
given_fault files name file fault.Tree gives is = absurd is
given_fault files name file fault.Memory gives is = tt

-- ---- listed files

pub none_listed : (files : Option Files) (names : List Text) (texts : Texts) → names ≡ [] → texts ≡ no_texts → AreFiles files names texts
none_listed files names texts none empty = record {
  listed = λ name i. absurd (subst (λ (l : List Text). IsIn name l) none i);
  only = λ name some. absurd (none_some (get texts name) (ap (λ (m : Texts). get m name) empty ∙ map.get-empty (slice_cmp nat_cmp) name) some);
}

-- a name that is there stands once more
pub listed_again : (files : Option Files) (names : List Text) (texts : Texts) (name : Text) → AreFiles files names texts → IsSome (get texts name)
    → AreFiles files (names ++ name ∷ []) texts
listed_again files names texts name are some = record {
  listed = λ other i. elim (in_either other names (name ∷ []) i) [
    | inl j ↦ are.listed other j
    | inr (inl same) ↦ are.listed other (are.only other (subst (λ (n : Text). IsSome (get texts n)) (sym same) some))
    | inr (inr none) ↦ absurd none
  ];
  only = λ other there. in_left other names (name ∷ []) (are.only other there);
}

-- one more file
pub listed_more : (files : Option Files) (names : List Text) (texts next : Texts) (name text : Text) → AreFiles files names texts
    → IsFileText files name text → next ≡ insert texts name text
    → AreFiles files (names ++ name ∷ []) next
listed_more files names texts next name text are is put = record {
  listed = λ other i. elim (either_name other name) [
    | inl same ↦ subst (λ (n : Text). HasFile files next n) (sym same) (record {
      text = text;
      has = ap (λ (m : Texts). get m name) put ∙ put_here texts name text;
      is = is;
    })
    | inr differ ↦ elim (in_either other names (name ∷ []) i) [
      | inl j ↦ let had = are.listed other j in record {
        text = had.text;
        has = ap (λ (m : Texts). get m other) put ∙ put_other texts name text other differ ∙ had.has;
        is = had.is;
      }
      | inr (inl same) ↦ absurd (differ same)
      | inr (inr none) ↦ absurd none
    ]
  ];
  only = λ other there. elim (either_name other name) [
    | inl same ↦ in_right other names (name ∷ []) (inl same)
    | inr differ ↦ in_left other names (name ∷ []) (are.only other (subst (λ (o : Option Text). IsSome o) (ap (λ (m : Texts). get m other) put
        ∙ put_other texts name text other differ) there))
  ];
}

-- ---- sources

pub none_fit : (texts : Texts) → texts ≡ no_texts → AreSources texts
none_fit texts empty = λ name text is. let none : get texts name ≡ None = ap (λ (m : Texts). get m name) empty ∙ map.get-empty (slice_cmp nat_cmp) name in cc

pub more_fit : (texts next : Texts) (name text : Text) → AreSources texts → IsName name → length text ≤ body_limit → next ≡ insert texts name text
    → AreSources next
more_fit texts next name text fit named short put = λ other given is. elim (either_name other name) [
  | inl same ↦
      let text_is : text ≡ given = same_text _ _ (sym (put_here texts name text) ∙ ap (λ (m : Texts). get m name) (sym put) ∙ ap (get next) (sym same) ∙ is) in
      record { named = subst IsName (sym same) named; short = subst (λ (t : Text). length t ≤ body_limit) text_is short }
  | inr differ ↦ fit other given (sym (put_other texts name text other differ) ∙ ap (λ (m : Texts). get m other) (sym put) ∙ is)
]

-- ---- faults

pub list_fault : (files : Option Files) (names : List Text) (place : ℕ) (name : Text) (texts : Texts) (given : ListFault) → place < length names
    → name ≡ get_or names place name
    → AreFiles files (take place names) texts → IsFileFault files name given → IsListFault files names given
list_fault files names place name texts given within at are why = record {
  before = take place names;
  name = name;
  rest = drop (suc place) names;
  whole = sym (take-append-drop place names) ∙ ap (λ (l : List Text). take place names ++ l) (drop-cons names place name within
      ∙ ap (λ (n : Text). n ∷ drop (suc place) names) (sym at));
  fine = λ other i. let had = are.listed other i in (had.text, had.is);
  why = why;
}

-- a fault that is handed on
pub handed : {T : Type 0} (P : ListFault → Type 0) (r : Result T ListFault) (e : ListFault) → IsErrAnd r (λ given. given ≡ e) → P e → IfErr r P
handed P (Ok x) e never there = tt
handed P (Err given) e is there = subst P (sym is) there
