-- One token of a text, and readings put together.
use Rattle.std.proofs.Common.{◌≡◌, ℕ, ◌<◌, ◌≤◌, true, false, List, [], ◌∷◌, ◌++◌, length, Option, Some, None, refl, sym, ap, ◌∙◌, subst, arith}
use Rattle.meaning_graph.specs.Tokens.{Token, BeginsWith, Tokens, no_more, one, is_past_gap}
use Rattle.meaning_graph.specs.Lexing.{past_gap, Taken, taken, token_at}
use Rattle.meaning_graph.specs.Going.{Class, accepts}
use Rattle.meaning_graph.proofs.Lemmas.{begins_told, begins_from, gap_read, tokens_append, past_is_past, gap_shorter, begins_shorter}
use Rattle.dg_reader.specs.declared.cursor.Wanted.{Wanted}
use Rattle.dg_reader.specs.Walks.{TakesToken, IsNotAt, HasNone, class_of, token_of, Finds}

-- ---- the computed token

same_taken : (t u : Token) (left other : List ℕ) → ◌≡◌ {A = Option Taken} (Some (taken t left)) (Some (taken u other)) → t ≡ u
same_taken t u left other e = let f : taken t left ≡ taken u other = cc in ap (λ (k : Taken). k.token) f

pub takes_from : (text behind : List ℕ) (t u : Token) → token_at text ≡ Some (taken t behind) → t ≡ u → TakesToken text u (past_gap false behind)
takes_from text behind t u e same = record { left = behind; begins = subst (λ x. BeginsWith text x behind) same (begins_from text (taken t behind) e); is = refl }

pub not_at_none : (text : List ℕ) (t : Token) → token_at text ≡ None → IsNotAt t text
not_at_none text t e = λ left b. let k = begins_told text t left b in let n : ⊥ = cc in n

pub not_at_other : (text behind : List ℕ) (t u : Token) → token_at text ≡ Some (taken u behind) → (u ≡ t → ⊥) → IsNotAt t text
not_at_other text behind t u e other = λ left b. other (same_taken u t behind left (sym e ∙ begins_told text t left b))

pub has_none_at : (text : List ℕ) (class : Class) → token_at text ≡ None → HasNone class text
has_none_at text class e = λ t left b. absurd (not_at_none text t e left b)

pub has_none_other : (text behind : List ℕ) (class : Class) (u : Token) → token_at text ≡ Some (taken u behind) → accepts class u ≡ false → HasNone class text
has_none_other text behind class u e none = λ t left b. subst (λ x. accepts class x ≡ false) (same_taken u t behind left (sym e ∙ begins_told text t left b)) none

-- ---- readings

-- a token, and then these
pub takes_cons : (text : List ℕ) (t : Token) (mid : List ℕ) (ts : List Token) (rest : List ℕ) → TakesToken text t mid → Tokens mid ts rest → Tokens text (t ∷ ts) rest
takes_cons text t mid ts rest k d = one text t k.left ts rest k.begins (gap_read false k.left ts rest (subst (λ x. Tokens x ts rest) k.is d))

pub takes_one : (text : List ℕ) (t : Token) (rest : List ℕ) → TakesToken text t rest → Tokens text (t ∷ []) rest
takes_one text t rest k = takes_cons text t rest [] rest k (no_more rest)

-- these, and then a token
pub tokens_snoc : (text : List ℕ) (ts : List Token) (mid : List ℕ) (t : Token) (rest : List ℕ) → Tokens text ts mid → TakesToken mid t rest → Tokens text (ts ++ t ∷ []) rest
tokens_snoc text ts mid t rest d k = tokens_append text ts mid (t ∷ []) rest d (takes_one mid t rest k)

-- ---- gaps and lengths

pub takes_past : (text : List ℕ) (t : Token) (rest : List ℕ) → TakesToken text t rest → is_past_gap rest ≡ true
takes_past text t rest k = subst (λ x. is_past_gap x ≡ true) (sym k.is) (past_is_past false k.left)

pub takes_shorter : (text : List ℕ) (t : Token) (rest : List ℕ) → TakesToken text t rest → length rest < length text
takes_shorter text t rest k =
    let a : length k.left < length text = begins_shorter text t k.left k.begins in
    let b : length (past_gap false k.left) ≤ length k.left = gap_shorter false k.left in
    let c = ap length k.is in
    omega arith

-- ---- tokens that are wanted

pub found_from : (wanted : Wanted) (bytes text behind : List ℕ) (t : Token) → token_at text ≡ Some (taken t behind) → t ≡ token_of wanted bytes → accepts (class_of wanted) t ≡ true → Finds wanted bytes text (past_gap false behind)
found_from wanted bytes text behind t e same a = record { accepted = subst (λ x. accepts (class_of wanted) x ≡ true) same a; taken = takes_from text behind t (token_of wanted bytes) e same }
