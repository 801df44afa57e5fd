-- Rows of bits, word by word.
use Rattle.std.proofs.Common.{◌≡◌, ℕ, suc, ◌+◌, ◌*◌, ◌/◌, ◌%◌, ◌^◌, ◌<◌, ◌≤◌, List, [], ◌∷◌, ◌++◌, ◌⊎◌, inl, inr, refl, sym, ap, ◌∙◌, subst, length, arith, set, get_or, length-set, w64}
use Rattle.std.specs.Prelude.{bit_or, max}
use Rattle.std.specs.Int.{bit_at}
use Rattle.std.proofs.Math.Nat.{mul-le-mul_right, suc-mul}
use Rattle.std.proofs.lemmas.Bool.{cases_lt, cases_eq}
use Rattle.std.proofs.lemmas.List.{get_or-set_same, get_or-set_other}
use Rattle.std.proofs.lemmas.Nat.Bits.{bit_at_or, bit_at-zero, bit_at_set_same, bit_at_set_other}
use Rattle.meaning_texts.specs.Lists.{IsIn}
use Rattle.meaning_texts.proofs.Lemmas.{in_either}
use Rattle.type_graph.specs.Rows.{bit, Has, AreFor, IsOwn, RowsAreApart, Ored, RowsAreLed, RowsGrow, HasAbove, Passes, PassesBelow}
use Rattle.type_graph.specs.Walks.{Leads, here, over, AreAllBelow}
use Rattle.type_graph.proofs.WalkLemmas.{in_one}

-- ---- places of words

pub row_below : (a c width : ℕ) → a < c → a * width + width ≤ c * width
row_below a c width h =
    let e : suc a ≤ c = omega (arith, h) in
    omega (arith, mul-le-mul_right {m = suc a} {n = c} width e, suc-mul a width)

-- a word of a row lies within that of all rows
pub word_within : (count width a k : ℕ) → a < count → k < width → a * width + k < count * width
word_within count width a k h l = omega (arith, row_below a count width h, l)

pub same_row : (a c width i j : ℕ) → i < width → j < width → a * width + i ≡ c * width + j → a ≡ c
same_row a c width i j h k e = elim (cases_lt a c) [
  | inl l ↦ absurd (omega (arith, row_below a c width l, h, k, e))
  | inr m ↦ elim (cases_lt c a) [ inl l ↦ absurd (omega (arith, row_below c a width l, h, k, e)) | inr n ↦ omega (arith, m, n) ]
]

pub rows_apart : (a c width : ℕ) → RowsAreApart width (a * width) (c * width)
rows_apart a c width = elim (cases_lt a c) [
  | inl l ↦ inr (inl (row_below a c width l))
  | inr m ↦ elim (cases_lt c a) [ inl l ↦ inr (inr (row_below c a width l)) | inr n ↦ let e : a ≡ c = omega (arith, m, n) in inl (ap (λ r. r * width) e) ]
]

pub row_within : (count width a : ℕ) (words : List ℕ) → AreFor count width words → a < count → a * width + width ≤ length words
row_within count width a words fits h = omega (arith, fits.sized, row_below a count width h)

pub fits_on : (count width : ℕ) (old new : List ℕ) → AreFor count width old → length new ≡ length old → AreFor count width new
fits_on count width old new fits e = record { sized = e ∙ fits.sized; wide = fits.wide }

-- ---- a row is or-ed into another one

pub none_ored : (into from : ℕ) (words : List ℕ) → Ored 0 into from words words
none_ored into from words = record { sized = refl; ored = λ k h. absurd (omega (arith, h)); before = λ p h. refl; after = λ p h. refl }

below_or_at : (a n : ℕ) → a < n + 1 → (a < n) ⊎ (a ≡ n)
below_or_at a n h = elim (cases_lt a n) [ inl l ↦ inl l | inr m ↦ inr (omega (arith, h, m)) ]

module _ (width into from k : ℕ) (old words new : List ℕ) (so_far : Ored k into from old words) (apart : RowsAreApart width into from) (below : k < width)
    (long : length new ≡ length words)
    (here : get_or new (into + k) 0 ≡ bit_or (get_or words (into + k) 0) (get_or words (from + k) 0))
    (other : (p : ℕ) → (p ≡ into + k → ⊥) → get_or new p 0 ≡ get_or words p 0) where
  from_old : get_or words (from + k) 0 ≡ get_or old (from + k) 0
  from_old = elim apart [
    | inl e ↦ so_far.after (from + k) (omega (arith, e))
    | inr r ↦ elim r [ inl l ↦ so_far.after (from + k) (omega (arith, l)) | inr l ↦ so_far.before (from + k) (omega (arith, l, below)) ]
  ]

  at_last : get_or new (into + k) 0 ≡ bit_or (get_or old (into + k) 0) (get_or old (from + k) 0)
  at_last = here ∙ ap (λ x. bit_or x (get_or words (from + k) 0)) (so_far.after (into + k) (omega arith)) ∙ ap (bit_or (get_or old (into + k) 0)) from_old

  pub ored_more : Ored (k + 1) into from old new
  ored_more = record {
    sized = long ∙ so_far.sized;
    ored = λ j h. elim (below_or_at j k h) [
      | inl l ↦ other (into + j) (λ e. omega (arith, e, l)) ∙ so_far.ored j l
      | inr e ↦ subst (λ i. get_or new (into + i) 0 ≡ bit_or (get_or old (into + i) 0) (get_or old (from + i) 0)) (sym e) at_last
    ];
    before = λ p h. other p (λ e. omega (arith, e, h)) ∙ so_far.before p h;
    after = λ p h. other p (λ e. omega (arith, e, h)) ∙ so_far.after p (omega (arith, h));
  }

-- a word that is written, and one that stays
pub ored_new : (width into from k : ℕ) (old words : List ℕ) → Ored k into from old words → RowsAreApart width into from → k < width → into + width ≤ length old
    → Ored (k + 1) into from old (set words (into + k) (bit_or (get_or words (into + k) 0) (get_or words (from + k) 0)))
ored_new width into from k old words so_far apart below within =
    let word : ℕ = bit_or (get_or words (into + k) 0) (get_or words (from + k) 0) in
    ored_more width into from k old words (set words (into + k) word) so_far apart below (length-set words (into + k) word)
    (get_or-set_same words (into + k) word 0 (omega (arith, so_far.sized, below, within))) (λ p d. get_or-set_other words (into + k) p word 0 d)

pub ored_old : (width into from k : ℕ) (old words : List ℕ) → Ored k into from old words → RowsAreApart width into from → k < width
    → bit_or (get_or words (into + k) 0) (get_or words (from + k) 0) ≡ get_or words (into + k) 0 → Ored (k + 1) into from old words
ored_old width into from k old words so_far apart below e = ored_more width into from k old words words so_far apart below refl (sym e) (λ p d. refl)

-- ---- what the rows have then

same_or_other : (a b : ℕ) → (a ≡ b) ⊎ (a ≡ b → ⊥)
same_or_other a b = elim (cases_lt a b) [
  | inl l ↦ inr (λ e. omega (arith, e, l))
  | inr m ↦ elim (cases_lt b a) [ inl l ↦ inr (λ e. omega (arith, e, l)) | inr n ↦ inl (omega (arith, m, n)) ]
]

pub stays : (supers : List (List ℕ)) (width : ℕ) (words : List ℕ) → RowsGrow supers width words words
stays supers width words = record { sized = refl; kept = λ a b h k x. x; led = λ l. l }

pub grows_on : (supers : List (List ℕ)) (width : ℕ) (old words new : List ℕ) → RowsGrow supers width old words → RowsGrow supers width words new → RowsGrow supers width old new
grows_on supers width old words new f s = record { sized = s.sized ∙ f.sized; kept = λ a b h k x. s.kept a b h k (f.kept a b h k x); led = λ l. s.led (f.led l) }

module _ (count width : ℕ) (old new : List ℕ) (fits : AreFor count width old) (a s : ℕ) (o : Ored width (a * width) (s * width) old new) where
  pub at_row : (b : ℕ) → b < count → bit width new a b ≡ max (bit width old a b) (bit width old s b)
  at_row b h = ap (λ x. bit_at x (b % 64)) (o.ored (b / 64) (omega (arith, fits.wide, h))) ∙ bit_at_or (get_or old (a * width + b / 64) 0) (get_or old (s * width + b / 64) 0) (b % 64)

  pub elsewhere : (c b : ℕ) → b < count → (c ≡ a → ⊥) → bit width new c b ≡ bit width old c b
  elsewhere c b h d =
      let k : b / 64 < width = omega (arith, fits.wide, h) in
      ap (λ x. bit_at x (b % 64)) (elim (cases_lt c a) [
        | inl l ↦ o.before (c * width + b / 64) (omega (arith, row_below c a width l, k))
        | inr m ↦ elim (cases_lt a c) [ inl l ↦ o.after (c * width + b / 64) (omega (arith, row_below a c width l)) | inr n ↦ absurd (d (omega (arith, m, n))) ]
      ])

  pub adds : (b : ℕ) → b < count → Has width old s b → Has width new a b
  adds b h x = omega (arith, at_row b h, x)

  pub keeps : (c b : ℕ) → b < count → Has width old c b → Has width new c b
  keeps c b h x = elim (same_or_other c a) [
    | inl e ↦ let y = subst (λ n. Has width old n b) e x in subst (λ n. Has width new n b) (sym e) (omega (arith, at_row b h, y))
    | inr d ↦ elsewhere c b h d ∙ x
  ]

module _ (supers : List (List ℕ)) (width : ℕ) (old new : List ℕ) (fits : AreFor (length supers) width old) (a s : ℕ) (lower : a < length supers) (upper : s < length supers)
    (leads : IsIn s (get_or supers a [])) (o : Ored width (a * width) (s * width) old new) where
  leads_there : RowsAreLed supers width old → (b : ℕ) → b < length supers → Has width new a b → Leads supers a b
  leads_there led b h x = elim (cases_eq (bit width old a b) 1) [
    | inl e ↦ led a b lower h e
    | inr d ↦ over a s b leads (led s b upper h (omega (arith, at_row (length supers) width old new fits a s o b h, x, d)))
  ]

  pub row_grows : RowsGrow supers width old new
  row_grows = record {
    sized = o.sized;
    kept = λ c b h k x. keeps (length supers) width old new fits a s o c b k x;
    led = λ led c b h k x. elim (same_or_other c a) [
      | inl e ↦ subst (λ n. Leads supers n b) (sym e) (leads_there led b k (subst (λ n. Has width new n b) e x))
      | inr d ↦ led c b h k (sym (elsewhere (length supers) width old new fits a s o c b k d) ∙ x)
    ];
  }

-- ---- the rows at first

-- Each type up to a number has itself alone, and the later ones nothing.
pub record AreOwnTo (count width number : ℕ) (words : List ℕ) : Type 0 where
  pub fits : AreFor count width words
  pub itself : (a : ℕ) → a < number → Has width words a a
  pub only : (a b : ℕ) → a < count → b < count → Has width words a b → a ≡ b

pub none_own : (count width : ℕ) (words : List ℕ) → AreFor count width words → ((p : ℕ) → get_or words p 0 ≡ 0) → AreOwnTo count width 0 words
none_own count width words fits none = record {
  fits = fits;
  itself = λ a h. absurd (omega (arith, h));
  only = λ a b h k x. absurd (let z : bit width words a b ≡ 0 = ap (λ w. bit_at w (b % 64)) (none (a * width + b / 64)) ∙ bit_at-zero (b % 64) in omega (arith, x, z));
}

module _ (count width n : ℕ) (words : List ℕ) (so_far : AreOwnTo count width n words) (below : n < count) where
  abbrev place : ℕ
  place = n * width + n / 64

  abbrev word : ℕ
  word = bit_or (get_or words place 0) (1 * 2 ^ (n % 64) % 2 ^ 64)

  abbrev new : List ℕ
  new = set words place word

  at_place : get_or new place 0 ≡ word
  at_place = get_or-set_same words place word 0 (omega (arith, so_far.fits.sized, word_within count width n (n / 64) below (omega (arith, so_far.fits.wide, below))))

  itself_now : Has width new n n
  itself_now = ap (λ x. bit_at x (n % 64)) at_place ∙ bit_at_set_same w64 (get_or words place 0) (n % 64) (omega arith)

  other_row : (a b : ℕ) → b < count → (a ≡ n → ⊥) → bit width new a b ≡ bit width words a b
  other_row a b k d = ap (λ x. bit_at x (b % 64)) (get_or-set_other words place (a * width + b / 64) word 0 (λ e. d (same_row a n width (b / 64) (n / 64) (omega (arith, so_far.fits.wide, k)) (omega (arith, so_far.fits.wide, below)) e)))

  -- another bit of the same row
  other_bit : (b : ℕ) → b < count → (b ≡ n → ⊥) → bit width new n b ≡ bit width words n b
  other_bit b k d = elim (same_or_other (n * width + b / 64) place) [
    | inl e ↦
        ap (λ p. bit_at (get_or new p 0) (b % 64)) e ∙ ap (λ x. bit_at x (b % 64)) at_place ∙ bit_at_set_other w64 (get_or words place 0) (n % 64) (omega arith) (b % 64) (λ f. d (omega (arith, e, f)))
        ∙ ap (λ p. bit_at (get_or words p 0) (b % 64)) (sym e)
    | inr f ↦ ap (λ x. bit_at x (b % 64)) (get_or-set_other words place (n * width + b / 64) word 0 f)
  ]

  pub one_own : AreOwnTo count width (n + 1) (set words (n * width + n / 64) (bit_or (get_or words (n * width + n / 64) 0) (1 * 2 ^ (n % 64) % 2 ^ 64)))
  one_own = record {
    fits = fits_on count width words new so_far.fits (length-set words place word);
    itself = λ a h. elim (same_or_other a n) [
      | inl e ↦ subst (λ m. Has width new m m) (sym e) itself_now
      | inr d ↦ let l : a < n = omega (arith, h, d) in other_row a a (omega (arith, l, below)) d ∙ so_far.itself a l
    ];
    only = λ a b h k x. elim (same_or_other a n) [
      | inl e ↦ elim (same_or_other b n) [
        | inl f ↦ e ∙ sym f
        | inr d ↦ so_far.only a b h k (subst (λ m. Has width words m b) (sym e) (sym (other_bit b k d) ∙ subst (λ m. Has width new m b) e x))
      ]
      | inr d ↦ so_far.only a b h k (sym (other_row a b k d) ∙ x)
    ];
  }

pub all_own : (count width number : ℕ) (words : List ℕ) → AreOwnTo count width number words → number ≡ count → IsOwn count width words
all_own count width number words own e = record { fits = own.fits; itself = λ a h. own.itself a (omega (arith, h, e)); only = own.only }

-- ---- the rows of a type's supertypes

-- the row of a type has what those of these types had
abbrev pub HasThese : List (List ℕ) → ℕ → ℕ → List ℕ → List ℕ → List ℕ → Type 0
HasThese supers width a these old new = (s b : ℕ) → IsIn s these → b < length supers → Has width old s b → Has width new a b

module _ (supers : List (List ℕ)) (width a : ℕ) (these : List ℕ) (s : ℕ) (old words new : List ℕ) (within : AreAllBelow supers) (lower : a < length supers) (leads : IsIn s (get_or supers a [])) (fits : AreFor (length supers) width old)
    (so_far : RowsGrow supers width old words) (has : HasThese supers width a these old words) (o : Ored width (a * width) (s * width) words new) where
  upper : s < length supers
  upper = within a s leads

  fits_now : AreFor (length supers) width words
  fits_now = fits_on (length supers) width old words fits so_far.sized

  pub one_grows : RowsGrow supers width old new
  one_grows = grows_on supers width old words new so_far (row_grows supers width words new fits_now a s lower upper leads o)

  pub one_more_has : HasThese supers width a (these ++ s ∷ []) old new
  one_more_has t b i h x = elim (in_either t these (s ∷ []) i) [
    | inl j ↦ keeps (length supers) width words new fits_now a s o a b h (has t b j h x)
    | inr j ↦ adds (length supers) width words new fits_now a s o b h (subst (λ n. Has width words n b) (in_one t s j) (so_far.kept t b (subst (λ n. n < length supers) (sym (in_one t s j)) upper) h x))
  ]

module _ (supers : List (List ℕ)) (width : ℕ) (old words new : List ℕ) (so_far : RowsGrow supers width old words) (grows : RowsGrow supers width words new) where
  -- what a row has it keeps
  pub above_kept : (a : ℕ) → a < length supers → HasAbove supers width a old words → HasAbove supers width a old new
  above_kept a h has s b i k x = grows.kept a b h k (has s b i k x)

  -- one row more
  pub above_more : (n : ℕ) → n < length supers → AreAllBelow supers → ((a : ℕ) → a < n → HasAbove supers width a old words) → HasAbove supers width n words new → (a : ℕ) → a < n + 1 → HasAbove supers width a old new
  above_more n below within has adds a h = elim (below_or_at a n h) [
    | inl l ↦ above_kept a (omega (arith, l, below)) (has a l)
    | inr e ↦ λ s b i k x.
        let j = subst (λ m. IsIn s (get_or supers m [])) e i in
        subst (λ m. Has width new m b) (sym e) (adds s b j k (so_far.kept s b (within n s j) k x))
  ]

-- ---- the rows of types that have a type

pub none_pass : (count width t : ℕ) (words : List ℕ) → Passes count width t 0 words words
none_pass count width t words = record { sized = refl; kept = λ a b h k x. x; only = λ a b h k x. inl x; added = λ a b h. absurd (omega (arith, h)) }

module _ (count width t n : ℕ) (old words : List ℕ) (fits : AreFor count width old) (within : t < count) (below : n < count) (so_far : Passes count width t n old words) where
  fits_here : AreFor count width words
  fits_here = fits_on count width old words fits so_far.sized

  row_old : (b : ℕ) → b < count → Has width words t b → Has width old t b
  row_old b k x = elim (so_far.only t b within k x) [ inl y ↦ y | inr y ↦ y.1 ]

  has_old : Has width words n t → Has width old n t
  has_old x = elim (so_far.only n t below within x) [ inl y ↦ y | inr y ↦ y.0 ]

  -- a row that has the type, and one that has it not
  module _ (new : List ℕ) (has : Has width words n t) (o : Ored width (n * width) (t * width) words new) where
    new_only : (b : ℕ) → b < count → Has width new n b → Has width old n b ⊎ (Has width old n t × Has width old t b)
    new_only b k x = elim (cases_eq (bit width words n b) 1) [
      | inl e ↦ so_far.only n b below k e
      | inr d ↦ inr (has_old has, row_old b k (omega (arith, at_row count width words new fits_here n t o b k, x, d)))
    ]

    pub pass_new : Passes count width t (n + 1) old new
    pass_new = record {
      sized = o.sized ∙ so_far.sized;
      kept = λ a b h k x. keeps count width words new fits_here n t o a b k (so_far.kept a b h k x);
      only = λ a b h k x. elim (same_or_other a n) [
        | inl e ↦ subst (λ m. Has width old m b ⊎ (Has width old m t × Has width old t b)) (sym e) (new_only b k (subst (λ m. Has width new m b) e x))
        | inr d ↦ so_far.only a b h k (sym (elsewhere count width words new fits_here n t o a b k d) ∙ x)
      ];
      added = λ a b h k x y. elim (below_or_at a n h) [
        | inl l ↦ keeps count width words new fits_here n t o a b k (so_far.added a b l k x y)
        | inr e ↦ subst (λ m. Has width new m b) (sym e) (adds count width words new fits_here n t o b k (so_far.kept t b within k y))
      ];
    }

  pub pass_old : (Has width words n t → ⊥) → Passes count width t (n + 1) old words
  pass_old lacks = record {
    sized = so_far.sized;
    kept = so_far.kept;
    only = so_far.only;
    added = λ a b h k x y. elim (below_or_at a n h) [
      | inl l ↦ so_far.added a b l k x y
      | inr e ↦ absurd (lacks (so_far.kept n t below within (subst (λ m. Has width old m t) e x)))
    ];
  }

pub leads_both : (supers : List (List ℕ)) (a b c : ℕ) → Leads supers a b → Leads supers b c → Leads supers a c
leads_both supers a b c (here d) r = r
leads_both supers a b c (over d e f i l) r = over d e c i (leads_both supers e f c l r)

module _ (supers : List (List ℕ)) (width t : ℕ) (old words new : List ℕ) (within : t < length supers) (so_far : RowsGrow supers width old words)
    (passes : PassesBelow t (length supers) width words) (p : Passes (length supers) width t (length supers) words new) where
  pub through_grows : RowsGrow supers width old new
  through_grows = grows_on supers width old words new so_far (record {
    sized = p.sized;
    kept = p.kept;
    led = λ led a b h k x. elim (p.only a b h k x) [ inl y ↦ led a b h k y | inr y ↦ leads_both supers a t b (led a t h within y.0) (led t b within k y.1) ];
  })

  old_at : (a b : ℕ) → a < length supers → b < length supers → Has width new a b → (a ≡ t) ⊎ (b ≡ t) → Has width words a b
  old_at a b h k x e = elim (p.only a b h k x) [
    | inl y ↦ y
    | inr y ↦ elim e [ inl f ↦ subst (λ m. Has width words m b) (sym f) y.1 | inr f ↦ subst (Has width words a) (sym f) y.0 ]
  ]

  pub through_more : PassesBelow (t + 1) (length supers) width new
  through_more a c b h i k x y = elim (below_or_at c t h) [
    | inr e ↦ p.added a b i k (subst (Has width words a) e (old_at a c i (omega (arith, e, within)) x (inr e))) (subst (λ m. Has width words m b) e (old_at c b (omega (arith, e, within)) k y (inl e)))
    | inl l ↦
        let m : c < length supers = omega (arith, l, within) in
        elim (p.only a c i m x) [
          | inl q ↦ elim (p.only c b m k y) [ inl r ↦ p.kept a b i k (passes a c b l i k q r) | inr r ↦ p.added a b i k (passes a c t l i within q r.0) r.1 ]
          | inr q ↦ elim (p.only c b m k y) [ inl r ↦ p.added a b i k q.0 (passes t c b l within k q.1 r) | inr r ↦ p.added a b i k q.0 r.1 ]
        ]
  ]
