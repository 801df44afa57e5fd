-- The canonical spelling of a list is a text of it.
use Rattle.std.proofs.Common.{◌≡◌, ℕ, Bool, true, false, ◌||◌, ◌&&◌, ◌≤◌, List, [], ◌∷◌, ◌++◌, Option, Some, None, refl, sym, ap, ◌∙◌, subst, inl, inr, append_assoc, arith}
use Rattle.std.specs.Prelude.{codes, ⊤, IfSome, nat_eq, nat_le}
use Rattle.std.specs.List.{flat_map, All}
use Rattle.std.proofs.lemmas.Bool.{or_cases, or_left, or_right, and_from, and_parts, not_from_false, ne_eqb, eqb-true, le-leb, leb-true}
use Rattle.std.proofs.lemmas.List.Elements.{All-head, All-tail, All-weaker}
use Rattle.object_values.specs.declared.graph.PartDecl.{PartDecl}
use Rattle.object_values.specs.declared.graph.Kind.{Kind}
use Rattle.object_values.specs.declared.graph.Kind.TheVariants.{Simple, List as ListOf, Compound}
use Rattle.object_values.specs.declared.graph.Extra.{Extra}
use Rattle.object_values.specs.declared.graph.Extra.TheVariants.{Also, With}
use Rattle.object_values.specs.declared.graph.ToolDecl.{ToolDecl}
use Rattle.object_values.specs.declared.graph.Make.{Make}
use Rattle.object_values.specs.declared.graph.Make.TheVariants.{Tool, Read, Each, Pack}
use Rattle.object_values.specs.declared.graph.MakerDecl.{MakerDecl}
use Rattle.object_values.specs.declared.graph.Decl.{Decl}
use Rattle.object_values.specs.declared.graph.Decl.TheVariants.{ObjectType, Suffix, Param, Maker}
use Rattle.meaning_texts.specs.Classes.{is_letter, is_digit, is_name_byte, is_key_byte, is_string_byte, IsWord, IsId, IsName, IsStringText}
use Rattle.meaning_texts.specs.Tests.{is_name}
use Rattle.meaning_texts.proofs.Lemmas.{word_decides}
use Rattle.meaning_graph.specs.Tokens.{Token, word, string, semicolon, comma, opening, closing, begins_in_class, BeginsWith, a_word, a_string, a_semicolon, a_comma, an_opening, a_closing, Tokens, no_more, blank, one}
use Rattle.meaning_graph.specs.Grammar.{id_tokens, optional_tokens, part_tokens, kind_tokens, string_tokens, extra_tokens, closure_tokens, way_tokens, maker_tokens, decl_tokens, graph_tokens, IsSpellablePart, IsSpellableKind, IsSpellableExtra, IsSpellableTool, IsSpellableMake, IsSpellableDecl, HasSpelling, GraphText}
use Rattle.meaning_graph.specs.Spelling.{token_spelling, between, tokens_spelling, graph_spelling}

-- ---- tokens of their classes

abbrev IsOfClass : Token → Type 0
IsOfClass (word w) = IsWord w
IsOfClass (string s) = IsStringText s
IsOfClass semicolon = ⊤
IsOfClass comma = ⊤
IsOfClass opening = ⊤
IsOfClass closing = ⊤

abbrev AreOfClass : List Token → Type 0
AreOfClass [] = ⊤
AreOfClass (t ∷ ts) = IsOfClass t × AreOfClass ts

joined : (xs ys : List Token) → AreOfClass xs → AreOfClass ys → AreOfClass (xs ++ ys)
joined [] ys a b = b
joined (x ∷ xs) ys a b = (a.0, joined xs ys a.1 b)

abbrev is_alphanumeric : ℕ → Bool
is_alphanumeric b = is_letter b || is_digit b

key_is_name : (b : ℕ) → is_key_byte b ≡ true → is_name_byte b ≡ true
key_is_name b e = elim (or_cases (is_alphanumeric b) (nat_eq b 95) e) [
  | inl h ↦ or_left (is_alphanumeric b || nat_eq b 46 || nat_eq b 95 || nat_eq b 45) (nat_eq b 47) (or_left (is_alphanumeric b || nat_eq b 46 || nat_eq b 95) (nat_eq b 45) (or_left (is_alphanumeric b || nat_eq b 46) (nat_eq b 95) (or_left (is_alphanumeric b) (nat_eq b 46) h)))
  | inr h ↦ or_left (is_alphanumeric b || nat_eq b 46 || nat_eq b 95 || nat_eq b 45) (nat_eq b 47) (or_left (is_alphanumeric b || nat_eq b 46 || nat_eq b 95) (nat_eq b 45) (or_right (is_alphanumeric b || nat_eq b 46) (nat_eq b 95) h))
]

id_word : (id : List ℕ) → IsId id → IsWord id
id_word id i = record { some = i.key.some; short = i.key.short; each = All-weaker (λ b. is_key_byte b ≡ true) (λ b. is_name_byte b ≡ true) key_is_name id i.key.each }

string_range : (b : ℕ) → 35 ≤ b → b ≤ 126 → is_string_byte b ≡ true
string_range b low high = and_from _ _ (and_from _ _ (le-leb 32 b (omega arith)) (le-leb b 126 high)) (not_from_false (nat_eq b 34) (ne_eqb b 34 (λ e. absurd (omega arith))))

within_range : (low high b : ℕ) → (nat_le low b && nat_le b high) ≡ true → 35 ≤ low → high ≤ 126 → is_string_byte b ≡ true
within_range low high b e l h =
    let p = and_parts (nat_le low b) (nat_le b high) e in
    let x : low ≤ b = leb-true low b p.0 in
    let y : b ≤ high = leb-true b high p.1 in
    string_range b (omega arith) (omega arith)

alphanumeric_string : (b : ℕ) → is_alphanumeric b ≡ true → is_string_byte b ≡ true
alphanumeric_string b e = elim (or_cases (is_letter b) (is_digit b) e) [
  | inl h ↦ elim (or_cases (nat_le 65 b && nat_le b 90) (nat_le 97 b && nat_le b 122) h) [
    | inl k ↦ within_range 65 90 b k (omega arith) (omega arith)
    | inr k ↦ within_range 97 122 b k (omega arith) (omega arith)
  ]
  | inr h ↦ within_range 48 57 b h (omega arith) (omega arith)
]

name_is_string : (b : ℕ) → is_name_byte b ≡ true → is_string_byte b ≡ true
name_is_string b e = elim (or_cases (is_alphanumeric b || nat_eq b 46 || nat_eq b 95 || nat_eq b 45) (nat_eq b 47) e) [
  | inr h ↦ rw (eqb-true b 47 h) refl
  | inl h ↦ elim (or_cases (is_alphanumeric b || nat_eq b 46 || nat_eq b 95) (nat_eq b 45) h) [
    | inr k ↦ rw (eqb-true b 45 k) refl
    | inl k ↦ elim (or_cases (is_alphanumeric b || nat_eq b 46) (nat_eq b 95) k) [
      | inr m ↦ rw (eqb-true b 95 m) refl
      | inl m ↦ elim (or_cases (is_alphanumeric b) (nat_eq b 46) m) [
        | inr n ↦ rw (eqb-true b 46 n) refl
        | inl n ↦ alphanumeric_string b n
      ]
    ]
  ]
]

name_string : (name : List ℕ) → IsName name → IsStringText name
name_string name n = record { short = n.short; each = All-weaker (λ b. is_name_byte b ≡ true) (λ b. is_string_byte b ≡ true) name_is_string name n.each }

-- a keyword is a word
key : (w : List ℕ) → is_name w ≡ true → IsWord w
key w e = (word_decides is_name_byte w).0 e

ids_class : (ids : List (List ℕ)) → All IsId ids → AreOfClass (id_tokens ids)
ids_class [] a = tt
ids_class (x ∷ []) a = (id_word x (All-head IsId x [] a), tt)
ids_class (x ∷ y ∷ ids) a = (id_word x (All-head IsId x (y ∷ ids) a), (tt, ids_class (y ∷ ids) (All-tail IsId x (y ∷ ids) a)))

optional_class : (keyword : List ℕ) (ids : List (List ℕ)) → IsWord keyword → All IsId ids → AreOfClass (optional_tokens keyword ids)
optional_class keyword [] k a = tt
optional_class keyword (x ∷ ids) k a = (k, ids_class (x ∷ ids) a)

parts_class : (ps : List PartDecl) → All IsSpellablePart ps → AreOfClass (part_tokens ps)
parts_class [] a = tt
parts_class (p ∷ []) a = let h : IsSpellablePart p = All-head IsSpellablePart p [] a in (id_word p.name h.name, (id_word p.of h.of, tt))
parts_class (p ∷ q ∷ ps) a = let h : IsSpellablePart p = All-head IsSpellablePart p (q ∷ ps) a in (id_word p.name h.name, (id_word p.of h.of, (tt, parts_class (q ∷ ps) (All-tail IsSpellablePart p (q ∷ ps) a))))

kind_class : (k : Kind) (supers : List (List ℕ)) → IsSpellableKind k → All IsId supers → AreOfClass (kind_tokens k supers)
kind_class Simple supers k a = (key (codes "simple") refl, optional_class (codes "is") supers (key (codes "is") refl) a)
kind_class (ListOf of) supers k a = (key (codes "list") refl, (key (codes "of") refl, (id_word of k, optional_class (codes "is") supers (key (codes "is") refl) a)))
kind_class (Compound parts) supers k a = (key (codes "compound") refl, (tt, joined (part_tokens parts) (closing ∷ []) (parts_class parts k.each) (tt, tt)))

strings_class : (ws : List (List ℕ)) → All IsStringText ws → AreOfClass (string_tokens ws)
strings_class [] a = tt
strings_class (w ∷ ws) a = (All-head IsStringText w ws a, strings_class ws (All-tail IsStringText w ws a))

extras_class : (xs : List Extra) → All IsSpellableExtra xs → AreOfClass (extra_tokens xs)
extras_class [] a = tt
extras_class (Also x ∷ xs) a = (key (codes "also") refl, (id_word x (All-head IsSpellableExtra (Also x) xs a), extras_class xs (All-tail IsSpellableExtra (Also x) xs a)))
extras_class (With x ∷ xs) a = (key (codes "with") refl, (name_string x (All-head IsSpellableExtra (With x) xs a), extras_class xs (All-tail IsSpellableExtra (With x) xs a)))

closure_class : (c : Option (List ℕ)) → IfSome c IsId → AreOfClass (closure_tokens c)
closure_class None i = tt
closure_class (Some id) i = (key (codes "closure") refl, (id_word id i, tt))

way_class : (m : MakerDecl) → IsId m.from → IsId m.to → AreOfClass (way_tokens m)
way_class m from to = (key (codes "from") refl, (id_word m.from from, (key (codes "to") refl, (id_word m.to to, tt))))

-- the tokens after the types of a tool
abbrev tail_tokens : ToolDecl → List Token
tail_tokens t = optional_tokens (codes "uses") t.uses ++ (extra_tokens t.extras ++ closure_tokens t.closure)

abbrev run_tokens : ToolDecl → List Token
run_tokens t = word (codes "run") ∷ (string_tokens t.words ++ tail_tokens t)

run_class : (t : ToolDecl) → IsSpellableTool t → AreOfClass (run_tokens t)
run_class t s =
    let extras : AreOfClass (extra_tokens t.extras ++ closure_tokens t.closure) = joined (extra_tokens t.extras) (closure_tokens t.closure) (extras_class t.extras s.extras) (closure_class t.closure s.closure) in
    let tail : AreOfClass (tail_tokens t) = joined (optional_tokens (codes "uses") t.uses) (extra_tokens t.extras ++ closure_tokens t.closure) (optional_class (codes "uses") t.uses (key (codes "uses") refl) s.uses) extras in
    (key (codes "run") refl, joined (string_tokens t.words) (tail_tokens t) (strings_class t.words s.words) tail)

maker_class : (m : MakerDecl) (a : Make) → IsId m.name → IsId m.from → IsId m.to → IsSpellableMake a → AreOfClass (maker_tokens m a)
maker_class m (Tool t) name from to s = (key (codes "tool") refl, (id_word m.name name, (s.version, joined (way_tokens m) (run_tokens t) (way_class m from to) (run_class t s))))
maker_class m Read name from to s = (key (codes "read") refl, (id_word m.name name, way_class m from to))
maker_class m Each name from to s = (key (codes "each") refl, (id_word m.name name, way_class m from to))
maker_class m Pack name from to s = (key (codes "pack") refl, (id_word m.name name, way_class m from to))

decl_class : (d : Decl) → IsSpellableDecl d → AreOfClass (decl_tokens d)
decl_class (ObjectType t) s = (key (codes "type") refl, (id_word t.name s.name, kind_class t.kind t.supers s.kind s.supers))
decl_class (Suffix u) s = (key (codes "suffix") refl, (s.suffix, (id_word u.of s.of, tt)))
decl_class (Param id) s = (key (codes "param") refl, (id_word id s, tt))
decl_class (Maker m) s = maker_class m m.make s.name s.from s.to s.make

-- ---- lines

-- a token stands before what doesn't lengthen it
begins : (t : Token) (rest : List ℕ) → IsOfClass t → begins_in_class is_name_byte rest ≡ false → BeginsWith (token_spelling t ++ rest) t rest
begins (word w) rest c n = a_word w rest c n
begins (string s) rest c n = rw (append_assoc s (34 ∷ []) rest) (a_string s rest c)
begins semicolon rest c n = a_semicolon rest
begins comma rest c n = a_comma rest
begins opening rest c n = an_opening rest
begins closing rest c n = a_closing rest

-- The text after a token doesn't lengthen it, and has these tokens.
pub record Behind (t : Token) (text : List ℕ) (tokens : List Token) : Type 0 where
  pub begins : BeginsWith (token_spelling t ++ text) t text
  pub rest_is : Tokens text tokens []

spaced : (t : Token) (text : List ℕ) (tokens : List Token) → IsOfClass t → Tokens text tokens [] → Behind t (32 ∷ text) tokens
spaced t text tokens c d = record { begins = begins t (32 ∷ text) c refl; rest_is = blank 32 text tokens [] refl d }

tight : (t : Token) (b : ℕ) (text : List ℕ) (tokens : List Token) → IsOfClass t → is_name_byte b ≡ false → Tokens (b ∷ text) tokens [] → Behind t (b ∷ text) tokens
tight t b text tokens c n d = record { begins = begins t (b ∷ text) c n; rest_is = d }

-- a token before another one, with what stands between them
before_next : (t u : Token) (text : List ℕ) (tokens : List Token) → IsOfClass t → Tokens (token_spelling u ++ text) tokens [] → Behind t (between t u ++ (token_spelling u ++ text)) tokens
before_next (word w) (word v) text tokens c d = spaced (word w) (token_spelling (word v) ++ text) tokens c d
before_next (word w) (string r) text tokens c d = spaced (word w) (token_spelling (string r) ++ text) tokens c d
before_next (word w) semicolon text tokens c d = tight (word w) 59 text tokens c refl d
before_next (word w) comma text tokens c d = tight (word w) 44 text tokens c refl d
before_next (word w) opening text tokens c d = spaced (word w) (token_spelling opening ++ text) tokens c d
before_next (word w) closing text tokens c d = tight (word w) 41 text tokens c refl d
before_next (string s) (word v) text tokens c d = spaced (string s) (token_spelling (word v) ++ text) tokens c d
before_next (string s) (string r) text tokens c d = spaced (string s) (token_spelling (string r) ++ text) tokens c d
before_next (string s) semicolon text tokens c d = tight (string s) 59 text tokens c refl d
before_next (string s) comma text tokens c d = tight (string s) 44 text tokens c refl d
before_next (string s) opening text tokens c d = spaced (string s) (token_spelling opening ++ text) tokens c d
before_next (string s) closing text tokens c d = tight (string s) 41 text tokens c refl d
before_next semicolon (word v) text tokens c d = spaced semicolon (token_spelling (word v) ++ text) tokens c d
before_next semicolon (string r) text tokens c d = spaced semicolon (token_spelling (string r) ++ text) tokens c d
before_next semicolon semicolon text tokens c d = tight semicolon 59 text tokens c refl d
before_next semicolon comma text tokens c d = tight semicolon 44 text tokens c refl d
before_next semicolon opening text tokens c d = spaced semicolon (token_spelling opening ++ text) tokens c d
before_next semicolon closing text tokens c d = tight semicolon 41 text tokens c refl d
before_next comma (word v) text tokens c d = spaced comma (token_spelling (word v) ++ text) tokens c d
before_next comma (string r) text tokens c d = spaced comma (token_spelling (string r) ++ text) tokens c d
before_next comma semicolon text tokens c d = tight comma 59 text tokens c refl d
before_next comma comma text tokens c d = tight comma 44 text tokens c refl d
before_next comma opening text tokens c d = spaced comma (token_spelling opening ++ text) tokens c d
before_next comma closing text tokens c d = tight comma 41 text tokens c refl d
before_next opening (word v) text tokens c d = record { begins = an_opening (token_spelling (word v) ++ text); rest_is = d }
before_next opening (string r) text tokens c d = record { begins = an_opening (token_spelling (string r) ++ text); rest_is = d }
before_next opening semicolon text tokens c d = record { begins = an_opening (token_spelling semicolon ++ text); rest_is = d }
before_next opening comma text tokens c d = record { begins = an_opening (token_spelling comma ++ text); rest_is = d }
before_next opening opening text tokens c d = record { begins = an_opening (token_spelling opening ++ text); rest_is = d }
before_next opening closing text tokens c d = record { begins = an_opening (token_spelling closing ++ text); rest_is = d }
before_next closing (word v) text tokens c d = spaced closing (token_spelling (word v) ++ text) tokens c d
before_next closing (string r) text tokens c d = spaced closing (token_spelling (string r) ++ text) tokens c d
before_next closing semicolon text tokens c d = tight closing 59 text tokens c refl d
before_next closing comma text tokens c d = tight closing 44 text tokens c refl d
before_next closing opening text tokens c d = spaced closing (token_spelling opening ++ text) tokens c d
before_next closing closing text tokens c d = tight closing 41 text tokens c refl d

-- what stands on a line after its first token
abbrev line_behind_token : Token → List Token → List ℕ
line_behind_token t [] = 10 ∷ []
line_behind_token t (u ∷ ts) = between t u ++ tokens_spelling (u ∷ ts)

first_on_line : (t : Token) (ts : List Token) → tokens_spelling (t ∷ ts) ≡ token_spelling t ++ line_behind_token t ts
first_on_line t [] = refl
first_on_line t (u ∷ ts) = refl

-- the tokens on a line, and what follows the line
line_read : (ts : List Token) (text : List ℕ) (tokens : List Token) → AreOfClass ts → Tokens text tokens [] → Tokens (tokens_spelling ts ++ text) (ts ++ tokens) []
line_read [] text tokens c d = blank 10 text tokens [] refl d
line_read (t ∷ []) text tokens c d =
    let b : Tokens (10 ∷ text) tokens [] = blank 10 text tokens [] refl d in
    rw (append_assoc (token_spelling t) (10 ∷ []) text) (one (token_spelling t ++ 10 ∷ text) t (10 ∷ text) tokens [] (begins t (10 ∷ text) c.0 refl) b)
line_read (t ∷ u ∷ ts) text tokens c d =
    let next : Tokens (tokens_spelling (u ∷ ts) ++ text) ((u ∷ ts) ++ tokens) [] = line_read (u ∷ ts) text tokens c.1 d in
    let same : tokens_spelling (u ∷ ts) ++ text ≡ token_spelling u ++ (line_behind_token u ts ++ text) = ap (λ x. x ++ text) (first_on_line u ts) ∙ append_assoc (token_spelling u) (line_behind_token u ts) text in
    let k : Behind t (between t u ++ (token_spelling u ++ (line_behind_token u ts ++ text))) ((u ∷ ts) ++ tokens) = before_next t u (line_behind_token u ts ++ text) ((u ∷ ts) ++ tokens) c.0 (subst (λ x. Tokens x ((u ∷ ts) ++ tokens) []) same next) in
    let whole : (token_spelling t ++ (between t u ++ tokens_spelling (u ∷ ts))) ++ text ≡ token_spelling t ++ (between t u ++ (token_spelling u ++ (line_behind_token u ts ++ text)))
    = append_assoc (token_spelling t) (between t u ++ tokens_spelling (u ∷ ts)) text ∙ ap (λ x. token_spelling t ++ x) (append_assoc (between t u) (tokens_spelling (u ∷ ts)) text ∙ ap (λ x. between t u ++ x) same) in
    subst (λ x. Tokens x (t ∷ ((u ∷ ts) ++ tokens)) []) (sym whole) (one _ t _ ((u ∷ ts) ++ tokens) [] k.begins k.rest_is)

-- ---- graphs

graph_read : (decls : List Decl) → All IsSpellableDecl decls → Tokens (flat_map (λ d. tokens_spelling (decl_tokens d ++ semicolon ∷ [])) decls) (graph_tokens decls) []
graph_read [] s = no_more []
graph_read (d ∷ decls) s =
    line_read (decl_tokens d ++ semicolon ∷ []) (flat_map (λ d. tokens_spelling (decl_tokens d ++ semicolon ∷ [])) decls) (graph_tokens decls)
    (joined (decl_tokens d) (semicolon ∷ []) (decl_class d (All-head IsSpellableDecl d decls s)) (tt, tt)) (graph_read decls (All-tail IsSpellableDecl d decls s))

pub spelled : (decls : List Decl) → HasSpelling decls → GraphText (graph_spelling decls) decls
unfolding graph_spelling
spelled decls h = record { spelled = h; tokens = graph_read decls h.spellable }
