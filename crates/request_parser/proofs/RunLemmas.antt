-- Runs of a class, and the words that they are.
use Rattle.std.proofs.Common.{◌≡◌, ◌↔◌, IsTrue, ℕ, zero, suc, ◌<◌, ◌≤◌, Bool, true, false, not, List, [], ◌∷◌, ◌++◌, length, take, drop, get_or, position, Option, Some, None, refl, sym, ap, subst, ◌∙◌, inl, inr, arith, append-nil, take-append-drop}
use Rattle.std.specs.Prelude.{nat_lt}
use Rattle.std.specs.List.{list_all, position_or_len}
use Rattle.std.proofs.lemmas.Bool.{cases_Bool, cases_lt, both_ways, and_parts, and_from, ltb-false, not-false}
use Rattle.std.proofs.lemmas.List.Sums.{list_all-from_AllPass, AllPass-from_list_all, fails_before_first}
use Rattle.meaning_texts.specs.Classes.{is_name_byte, is_key_byte, begins_with_letter}
use Rattle.meaning_texts.specs.Limits.{word_limit}
use Rattle.request_parser.specs.declared.bytes.Wanted.{Wanted}
use Rattle.request_parser.specs.declared.bytes.Wanted.TheVariants as wanted
use Rattle.request_parser.specs.Runs.{has, word_class_of, begins, IsWantedWord, next, IsPast, TakesRun, TakesWord, HaltsInWord}

-- ---- where a run ends

pub record RunEnd (test : ℕ → Bool) (text : List ℕ) (end : ℕ) : Type 0 where
  pub each : list_all test (take end text) ≡ true
  pub past : IsPast test (drop end text)

pub run_end : (test : ℕ → Bool) (text : List ℕ) (end : ℕ) → end ≤ length text → ((k : ℕ) → k < end → test (get_or text k 0) ≡ true) → (end < length text → test (get_or text end 0) ≡ false) → RunEnd test text end
run_end test [] zero le before at = record { each = refl; past = tt }
run_end test [] (suc end) le before at = absurd (omega arith)
run_end test (b ∷ text) zero le before at = record { each = refl; past = at (omega arith) }
run_end test (b ∷ text) (suc end) le before at =
    let w : RunEnd test text end = run_end test text end (omega arith) (λ k lt. before (suc k) (omega arith)) (λ lt. at (omega arith)) in
    record { each = and_from (test b) (list_all test (take end text)) (before 0 (omega arith)) w.each; past = w.past }

-- where none is found that fails, all pass
pub none_fails : (test : ℕ → Bool) (text : List ℕ) → position (λ b. not (test b)) text ≡ None → (k : ℕ) → k < length text → test (get_or text k 0) ≡ true
none_fails test text none k lt = elim (cases_Bool (nat_lt (position_or_len (λ b. not (test b)) text) (length text))) [
  | inl e ↦ let f = rw e at none in let n : ⊥ = cc in absurd n
  | inr e ↦
      let past : length text ≤ position_or_len (λ b. not (test b)) text = ltb-false _ _ e in
      not-false (test (get_or text k 0)) (fails_before_first (λ b. not (test b)) text k 0 (omega arith))
]

-- ---- what comes next

pub past_alike : (test : ℕ → Bool) (a b : List ℕ) → next a ≡ next b → IsPast test b → IsPast test a
past_alike test [] b e p = tt
past_alike test (x ∷ a) [] e p = let n : ⊥ = cc in absurd n
past_alike test (x ∷ a) (y ∷ b) e p = let same : x ≡ y = cc in rw same p

-- after the same bytes comes the same
pub next_behind : (done a b : List ℕ) → next a ≡ next b → next (done ++ a) ≡ next (done ++ b)
next_behind [] a b e = e
next_behind (x ∷ done) a b e = refl

-- ---- runs are one

pub record SameRun (a b x y : List ℕ) : Type 0 where
  pub run : a ≡ b
  pub rest : x ≡ y

heads : (b c : ℕ) (x y : List ℕ) → b ∷ x ≡ c ∷ y → b ≡ c
heads b c x y e = cc

tails : (b c : ℕ) (x y : List ℕ) → b ∷ x ≡ c ∷ y → x ≡ y
tails b c x y e = cc

pub same_run : (test : ℕ → Bool) (a b x y : List ℕ) → list_all test a ≡ true → list_all test b ≡ true → IsPast test x → IsPast test y → a ++ x ≡ b ++ y → SameRun a b x y
same_run test [] [] x y p q f g e = record { run = refl; rest = e }
same_run test [] (c ∷ b) x y p q f g e =
    let h = and_parts (test c) (list_all test b) q in
    let n : IsPast test (c ∷ (b ++ y)) = subst (IsPast test) e f in
    absurd (both_ways (test c) n h.0)
same_run test (c ∷ a) [] x y p q f g e =
    let h = and_parts (test c) (list_all test a) p in
    let n : IsPast test (c ∷ (a ++ x)) = subst (IsPast test) (sym e) g in
    absurd (both_ways (test c) n h.0)
same_run test (c ∷ a) (d ∷ b) x y p q f g e =
    let h = and_parts (test c) (list_all test a) p in
    let k = and_parts (test d) (list_all test b) q in
    let same : c ≡ d = heads c d (a ++ x) (b ++ y) e in
    let s : SameRun a b x y = same_run test a b x y h.1 k.1 f g (tails c d (a ++ x) (b ++ y) e) in
    record { run = ap (λ t. c ∷ t) s.run ∙ ap (λ n. n ∷ b) same; rest = s.rest }

-- a run goes on where a byte of it comes next
run_longer : (test : ℕ → Bool) (done behind word rest : List ℕ) → list_all test done ≡ true → (IsPast test behind → ⊥) → IsPast test rest → done ++ behind ≡ word ++ rest → length done < length word
run_longer test [] behind [] rest p more g e = absurd (more (subst (IsPast test) (sym e) g))
run_longer test [] behind (c ∷ word) rest p more g e = omega arith
run_longer test (d ∷ done) behind [] rest p more g e =
    let h = and_parts (test d) (list_all test done) p in
    let n : IsPast test (d ∷ (done ++ behind)) = subst (IsPast test) (sym e) g in
    absurd (both_ways (test d) n h.0)
run_longer test (d ∷ done) behind (c ∷ word) rest p more g e =
    let h = and_parts (test d) (list_all test done) p in
    let l : length done < length word = run_longer test done behind word rest h.1 more g (tails d c (done ++ behind) (word ++ rest) e) in
    omega arith

-- ---- words

-- what a word of a class is
pub record IsWordLike (w : Wanted) (word : List ℕ) : Type 0 where
  pub begins : begins w word ≡ true
  pub short : length word ≤ word_limit
  pub each : list_all (has (word_class_of w)) word ≡ true

begins_not_empty : (w : Wanted) → begins w [] ≡ false
begins_not_empty wanted.Name = refl
begins_not_empty wanted.Id = refl
begins_not_empty wanted.Key = refl

some_byte : (w : Wanted) (word : List ℕ) → begins w word ≡ true → 0 < length word
some_byte w [] e = absurd (both_ways (begins w []) (begins_not_empty w) e)
some_byte w (b ∷ word) e = omega arith

pub word_from : (w : Wanted) (word : List ℕ) → IsWordLike w word → IsWantedWord w word
word_from wanted.Name word l = record { some = some_byte wanted.Name word l.begins; short = l.short; each = AllPass-from_list_all is_name_byte word l.each }
word_from wanted.Id word l = record { key = record { some = some_byte wanted.Id word l.begins; short = l.short; each = AllPass-from_list_all is_key_byte word l.each }; letter = letters word l.begins }
  where
    letters : (word : List ℕ) → begins wanted.Id word ≡ true → begins_with_letter word ≡ true
    letters [] e = e
    letters (b ∷ word) e = e
word_from wanted.Key word l = record { some = some_byte wanted.Key word l.begins; short = l.short; each = AllPass-from_list_all is_key_byte word l.each }

pub word_parts : (w : Wanted) (word : List ℕ) → IsWantedWord w word → IsWordLike w word
word_parts wanted.Name [] i = let s : 0 < length {A = ℕ} [] = i.some in absurd (omega arith)
word_parts wanted.Name (b ∷ word) i = record { begins = refl; short = i.short; each = list_all-from_AllPass is_name_byte (b ∷ word) i.each }
word_parts wanted.Id [] i = let s : 0 < length {A = ℕ} [] = i.key.some in absurd (omega arith)
word_parts wanted.Id (b ∷ word) i = record { begins = i.letter; short = i.key.short; each = list_all-from_AllPass is_key_byte (b ∷ word) i.key.each }
word_parts wanted.Key [] i = let s : 0 < length {A = ℕ} [] = i.some in absurd (omega arith)
word_parts wanted.Key (b ∷ word) i = record { begins = refl; short = i.short; each = list_all-from_AllPass is_key_byte (b ∷ word) i.each }

-- ---- the word that comes next

begins_alike : (w : Wanted) (b : ℕ) (x y : List ℕ) → begins w (b ∷ x) ≡ begins w (b ∷ y)
begins_alike wanted.Name b x y = refl
begins_alike wanted.Id b x y = refl
begins_alike wanted.Key b x y = refl

one_letter : (w : Wanted) → IsWantedWord w (97 ∷ [])
one_letter wanted.Name = word_from wanted.Name (97 ∷ []) (record { begins = refl; short = omega arith; each = refl })
one_letter wanted.Id = word_from wanted.Id (97 ∷ []) (record { begins = refl; short = omega arith; each = refl })
one_letter wanted.Key = word_from wanted.Key (97 ∷ []) (record { begins = refl; short = omega arith; each = refl })

-- the first byte of a word isn't that of a run that begins none
none_begins : (w : Wanted) (run rest behind word more : List ℕ) → IsPast (has (word_class_of w)) rest → begins w run ≡ false → IsWordLike w word → next behind ≡ next (run ++ rest) → behind ≡ word ++ more → ⊥
none_begins w run rest behind [] more past none l n e = both_ways (begins w []) (begins_not_empty w) l.begins
none_begins w [] [] behind (c ∷ word) more past none l n e = let f : ◌≡◌ {A = Option ℕ} (Some c) None = ap next (sym e) ∙ n in cc
none_begins w [] (d ∷ rest) behind (c ∷ word) more past none l n e =
    let f : ◌≡◌ {A = Option ℕ} (Some c) (Some d) = ap next (sym e) ∙ n in
    let same : c ≡ d = cc in
    let h = and_parts (has (word_class_of w) c) (list_all (has (word_class_of w)) word) l.each in
    both_ways (has (word_class_of w) c) (rw same past) h.0
none_begins w (d ∷ run) rest behind (c ∷ word) more past none l n e =
    let f : ◌≡◌ {A = Option ℕ} (Some c) (Some d) = ap next (sym e) ∙ n in
    let same : c ≡ d = cc in
    let t : begins w (d ∷ run) ≡ true = subst (λ b. begins w (b ∷ run) ≡ true) same (begins_alike w c run word ∙ l.begins) in
    both_ways (begins w (d ∷ run)) none t

pub no_word : (w : Wanted) (run text rest : List ℕ) → TakesRun (has (word_class_of w)) run text rest → begins w run ≡ false → HaltsInWord w text text
no_word w run text rest t none = record {
  done = [];
  more = 97 ∷ [];
  is = refl;
  goes = one_letter w;
  stops = λ behind word more n e i p. none_begins w run rest behind word more t.past none (word_parts w word i) (n ∙ ap next t.is) e;
}

pub a_word : (w : Wanted) (run text rest : List ℕ) → TakesRun (has (word_class_of w)) run text rest → begins w run ≡ true → length run ≤ word_limit → TakesWord w run text rest
a_word w run text rest t b short = record { is = t.is; of = word_from w run (record { begins = b; short = short; each = t.each }); past = t.past }

-- ---- a word that is too long

pub not_short : (short : Bool) (run : List ℕ) → IsTrue short ↔ (length run ≤ word_limit) → short ≡ false → word_limit < length run
not_short short run is none = elim (cases_lt word_limit (length run)) [
  | inl l ↦ l
  | inr l ↦ absurd (both_ways short none (is.1 l))
]

all_front : (test : ℕ → Bool) (run rest : List ℕ) (n : ℕ) → list_all test run ≡ true → n ≤ length run → list_all test (take n (run ++ rest)) ≡ true
all_front test run rest zero e le = refl
all_front test [] rest (suc n) e le = absurd (omega arith)
all_front test (b ∷ run) rest (suc n) e le = let h = and_parts (test b) (list_all test run) e in and_from (test b) _ h.0 (all_front test run rest n h.1 (omega arith))

still_there : (test : ℕ → Bool) (run rest : List ℕ) (n : ℕ) → list_all test run ≡ true → n < length run → IsPast test (drop n (run ++ rest)) → ⊥
still_there test [] rest n e lt p = omega arith
still_there test (b ∷ run) rest zero e lt p = let h = and_parts (test b) (list_all test run) e in both_ways (test b) p h.0
still_there test (b ∷ run) rest (suc n) e lt p = let h = and_parts (test b) (list_all test run) e in still_there test run rest n h.1 (omega arith) p

begins_front : (w : Wanted) (run rest : List ℕ) (n : ℕ) → begins w run ≡ true → begins w (take (suc n) (run ++ rest)) ≡ true
begins_front w [] rest n e = absurd (both_ways (begins w []) (begins_not_empty w) e)
begins_front w (b ∷ run) rest n e = begins_alike w b (take n (run ++ rest)) run ∙ e

length_front : (n : ℕ) (xs : List ℕ) → n ≤ length xs → length (take n xs) ≡ n
length_front zero xs le = refl
length_front (suc n) [] le = absurd (omega arith)
length_front (suc n) (x ∷ xs) le = let l : length (take n xs) ≡ n = length_front n xs (omega arith) in omega arith

longer : (run rest : List ℕ) → length run ≤ length (run ++ rest)
longer [] rest = omega arith
longer (b ∷ run) rest = let l : length run ≤ length (run ++ rest) = longer run rest in omega arith

long_word : (w : Wanted) (run rest : List ℕ) → list_all (has (word_class_of w)) run ≡ true → begins w run ≡ true → word_limit < length run → HaltsInWord w (run ++ rest) (drop word_limit (run ++ rest))
long_word w run rest each b long =
    let all : list_all (has (word_class_of w)) (take word_limit (run ++ rest)) ≡ true = all_front (has (word_class_of w)) run rest word_limit each (omega arith) in
    let le : length run ≤ length (run ++ rest) = longer run rest in
    let l : length (take word_limit (run ++ rest)) ≡ word_limit = length_front word_limit (run ++ rest) (omega arith) in
    let b2 : begins w (take word_limit (run ++ rest)) ≡ true = begins_front w run rest 254 b in
    let word : IsWantedWord w (take word_limit (run ++ rest)) = word_from w (take word_limit (run ++ rest)) (record { begins = b2; short = omega arith; each = all }) in
    record {
      done = take word_limit (run ++ rest);
      more = [];
      is = sym (take-append-drop word_limit (run ++ rest));
      goes = rw (append-nil (take word_limit (run ++ rest))) word;
      stops = λ behind other more n e i p.
          let like : IsWordLike w other = word_parts w other i in
          let short : length other ≤ word_limit = like.short in
          let more_there : IsPast (has (word_class_of w)) behind → ⊥ = λ q. still_there (has (word_class_of w)) run rest word_limit each (omega arith) (past_alike (has (word_class_of w)) (drop word_limit (run ++ rest)) behind (sym n) q) in
          let less : length (take word_limit (run ++ rest)) < length other = run_longer (has (word_class_of w)) (take word_limit (run ++ rest)) behind other more all more_there p e in
          omega arith;
    }

pub too_long : (w : Wanted) (run text rest : List ℕ) → TakesRun (has (word_class_of w)) run text rest → begins w run ≡ true → word_limit < length run → HaltsInWord w text (drop word_limit text)
too_long w run text rest t b long = rw t.is (long_word w run rest t.each b long)
