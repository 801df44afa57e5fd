-- The tokens of a list of declarations tell the list.
use Rattle.std.proofs.Common.{◌≡◌, ℕ, Bool, true, false, not, ◌||◌, List, [], ◌∷◌, ◌++◌, Option, Some, None, refl, sym, ap, ap₂, ◌∙◌, subst, append_assoc}
use Rattle.std.specs.Prelude.{codes, bytes_eq}
use Rattle.std.specs.List.{list_all, All}
use Rattle.std.proofs.lemmas.Bool.{both_ways, and_parts, and_from, not-true}
use Rattle.std.proofs.lemmas.Slice.Eq.{bytes_eq-Decides}
use Rattle.std.proofs.lemmas.List.Folds.{list_all-append}
use Rattle.std.proofs.lemmas.List.Elements.{All-head, All-tail}
use Rattle.object_values.specs.declared.graph.PartDecl.{PartDecl}
use Rattle.object_values.specs.declared.graph.Kind.{Kind}
use Rattle.object_values.specs.declared.graph.Kind.TheVariants.{Simple, List as ListOf, Compound}
use Rattle.object_values.specs.declared.graph.TypeDecl.{TypeDecl}
use Rattle.object_values.specs.declared.graph.SuffixDecl.{SuffixDecl}
use Rattle.object_values.specs.declared.graph.Extra.{Extra}
use Rattle.object_values.specs.declared.graph.Extra.TheVariants.{Also, With}
use Rattle.object_values.specs.declared.graph.ToolDecl.{ToolDecl}
use Rattle.object_values.specs.declared.graph.Make.{Make}
use Rattle.object_values.specs.declared.graph.Make.TheVariants.{Tool, Read, Each, Pack}
use Rattle.object_values.specs.declared.graph.MakerDecl.{MakerDecl}
use Rattle.object_values.specs.declared.graph.Decl.{Decl}
use Rattle.object_values.specs.declared.graph.Decl.TheVariants.{ObjectType, Suffix, Param, Maker}
use Rattle.meaning_graph.specs.Tokens.{Token, word, string, semicolon, comma, opening, closing}
use Rattle.meaning_graph.specs.Grammar.{id_tokens, optional_tokens, part_tokens, kind_tokens, string_tokens, extra_tokens, closure_tokens, maker_tokens, decl_tokens, graph_tokens, HasNoSupers, IsInGrammar}

-- ---- lists of tokens that are cut where a kind of token ends

abbrev pub ends : (Token → Bool) → List Token → Bool
ends kind [] = true
ends kind (t ∷ ts) = not (kind t)

pub record SameTokens (xs ys us vs : List Token) : Type 0 where
  pub before : xs ≡ ys
  pub behind : us ≡ vs

pub cut_tokens : (kind : Token → Bool) (xs ys us vs : List Token) → list_all kind xs ≡ true → list_all kind ys ≡ true → ends kind us ≡ true → ends kind vs ≡ true → xs ++ us ≡ ys ++ vs → SameTokens xs ys us vs
cut_tokens kind [] [] us vs a b c d e = record { before = refl; behind = e }
cut_tokens kind [] (y ∷ ys) us vs a b c d e =
    let h = and_parts (kind y) (list_all kind ys) b in
    let k : not (kind y) ≡ true = subst (λ ts. ends kind ts ≡ true) e c in
    absurd (both_ways (kind y) (not-true (kind y) k) h.0)
cut_tokens kind (x ∷ xs) [] us vs a b c d e =
    let h = and_parts (kind x) (list_all kind xs) a in
    let k : not (kind x) ≡ true = subst (λ ts. ends kind ts ≡ true) (sym e) d in
    absurd (both_ways (kind x) (not-true (kind x) k) h.0)
cut_tokens kind (x ∷ xs) (y ∷ ys) us vs a b c d e =
    let first : x ≡ y = cc in
    let rest : xs ++ us ≡ ys ++ vs = cc in
    let h = and_parts (kind x) (list_all kind xs) a in
    let k = and_parts (kind y) (list_all kind ys) b in
    let r : SameTokens xs ys us vs = cut_tokens kind xs ys us vs h.1 k.1 c d rest in
    record { before = ap₂ (λ (t : Token) ts. t ∷ ts) first r.before; behind = r.behind }

-- ---- keywords

abbrev first_word : List Token → List ℕ
first_word [] = []
first_word (word w ∷ ts) = w
first_word (string s ∷ ts) = []
first_word (semicolon ∷ ts) = []
first_word (comma ∷ ts) = []
first_word (opening ∷ ts) = []
first_word (closing ∷ ts) = []

same_bytes : (x y : List ℕ) → x ≡ y → bytes_eq x y ≡ true
same_bytes x y e = (bytes_eq-Decides x y).1 e

-- two lists of tokens that begin with different words are two
pub apart : {us vs : List Token} → us ≡ vs → bytes_eq (first_word us) (first_word vs) ≡ false → ⊥
apart {us = us} {vs = vs} e f = both_ways (bytes_eq (first_word us) (first_word vs)) f (same_bytes (first_word us) (first_word vs) (ap first_word e))

-- ---- lists of names

abbrev is_comma : Token → Bool
is_comma (word w) = false
is_comma (string s) = false
is_comma semicolon = false
is_comma comma = true
is_comma opening = false
is_comma closing = false

abbrev pub is_string : Token → Bool
is_string (word w) = false
is_string (string s) = true
is_string semicolon = false
is_string comma = false
is_string opening = false
is_string closing = false

pub record SameNames (xs ys : List (List ℕ)) (us vs : List Token) : Type 0 where
  pub names : xs ≡ ys
  pub behind : us ≡ vs

comma_behind : (us rest : List Token) → ends is_comma us ≡ true → us ≡ comma ∷ rest → ⊥
comma_behind us rest c e = both_ways false refl (subst (λ ts. ends is_comma ts ≡ true) e c)

ids_cut : (x y : List ℕ) (xs ys : List (List ℕ)) (us vs : List Token) → ends is_comma us ≡ true → ends is_comma vs ≡ true → id_tokens (x ∷ xs) ++ us ≡ id_tokens (y ∷ ys) ++ vs → SameNames (x ∷ xs) (y ∷ ys) us vs
ids_cut x y [] [] us vs c d e = record { names = let n : x ≡ y = cc in ap (λ (t : List ℕ). t ∷ []) n; behind = cc }
ids_cut x y [] (z ∷ ys) us vs c d e = absurd (comma_behind us (id_tokens (z ∷ ys) ++ vs) c cc)
ids_cut x y (z ∷ xs) [] us vs c d e = absurd (comma_behind vs (id_tokens (z ∷ xs) ++ us) d cc)
ids_cut x y (z ∷ xs) (w ∷ ys) us vs c d e =
    let first : x ≡ y = cc in
    let rest : id_tokens (z ∷ xs) ++ us ≡ id_tokens (w ∷ ys) ++ vs = cc in
    let r : SameNames (z ∷ xs) (w ∷ ys) us vs = ids_cut z w xs ys us vs c d rest in
    record { names = ap₂ (λ (t : List ℕ) ts. t ∷ ts) first r.names; behind = r.behind }

same_ids : (x y : List ℕ) (xs ys : List (List ℕ)) → id_tokens (x ∷ xs) ≡ id_tokens (y ∷ ys) → x ∷ xs ≡ y ∷ ys
same_ids x y xs ys e = let r : SameNames (x ∷ xs) (y ∷ ys) [] [] = ids_cut x y xs ys [] [] refl refl (ap (λ ts. ts ++ []) e) in r.names

same_supers : (keyword : List ℕ) (xs ys : List (List ℕ)) → optional_tokens keyword xs ≡ optional_tokens keyword ys → xs ≡ ys
same_supers keyword [] [] e = refl
same_supers keyword [] (y ∷ ys) e = let n : ⊥ = cc in absurd n
same_supers keyword (x ∷ xs) [] e = let n : ⊥ = cc in absurd n
same_supers keyword (x ∷ xs) (y ∷ ys) e = same_ids x y xs ys cc

-- ---- kinds

same_part : (p q : PartDecl) → p.name ≡ q.name → p.of ≡ q.of → p ≡ q
same_part p q n o = let e : ◌≡◌ {A = PartDecl} (record { name = p.name; of = p.of }) (record { name = q.name; of = q.of }) = cc in e

same_parts : (ps qs : List PartDecl) → part_tokens ps ++ closing ∷ [] ≡ part_tokens qs ++ closing ∷ [] → ps ≡ qs
same_parts [] [] e = refl
same_parts [] (q ∷ []) e = let n : ⊥ = cc in absurd n
same_parts [] (q ∷ r ∷ qs) e = let n : ⊥ = cc in absurd n
same_parts (p ∷ []) [] e = let n : ⊥ = cc in absurd n
same_parts (p ∷ r ∷ ps) [] e = let n : ⊥ = cc in absurd n
same_parts (p ∷ []) (q ∷ []) e = let n : p.name ≡ q.name = cc in let o : p.of ≡ q.of = cc in ap (λ (x : PartDecl). x ∷ []) (same_part p q n o)
same_parts (p ∷ []) (q ∷ r ∷ qs) e = let n : ⊥ = cc in absurd n
same_parts (p ∷ r ∷ ps) (q ∷ []) e = let n : ⊥ = cc in absurd n
same_parts (p ∷ r ∷ ps) (q ∷ s ∷ qs) e =
    let rest : part_tokens (r ∷ ps) ++ closing ∷ [] ≡ part_tokens (s ∷ qs) ++ closing ∷ [] = cc in
    let n : p.name ≡ q.name = cc in
    let o : p.of ≡ q.of = cc in
    ap₂ (λ (x : PartDecl) xs. x ∷ xs) (same_part p q n o) (same_parts (r ∷ ps) (s ∷ qs) rest)

pub record SameKind (k l : Kind) (xs ys : List (List ℕ)) : Type 0 where
  pub kind : k ≡ l
  pub supers : xs ≡ ys

same_kinds : (k l : Kind) (xs ys : List (List ℕ)) → HasNoSupers k xs → HasNoSupers l ys → kind_tokens k xs ≡ kind_tokens l ys → SameKind k l xs ys
same_kinds Simple Simple xs ys a b e = record { kind = refl; supers = same_supers (codes "is") xs ys cc }
same_kinds Simple (ListOf of) xs ys a b e = absurd (apart e refl)
same_kinds Simple (Compound parts) xs ys a b e = absurd (apart e refl)
same_kinds (ListOf of) Simple xs ys a b e = absurd (apart e refl)
same_kinds (ListOf of) (ListOf other) xs ys a b e = record { kind = let o : of ≡ other = cc in ap (λ (x : List ℕ). ListOf x) o; supers = same_supers (codes "is") xs ys cc }
same_kinds (ListOf of) (Compound parts) xs ys a b e = absurd (apart e refl)
same_kinds (Compound parts) Simple xs ys a b e = absurd (apart e refl)
same_kinds (Compound parts) (ListOf of) xs ys a b e = absurd (apart e refl)
same_kinds (Compound parts) (Compound others) xs ys a b e = record { kind = let p : part_tokens parts ++ closing ∷ [] ≡ part_tokens others ++ closing ∷ [] = cc in ap (λ (x : List PartDecl). Compound x) (same_parts parts others p); supers = a ∙ sym b }

-- ---- tools

pub strings_all : (ws : List (List ℕ)) → list_all is_string (string_tokens ws) ≡ true
strings_all [] = refl
strings_all (w ∷ ws) = strings_all ws

same_strings : (ws vs : List (List ℕ)) → string_tokens ws ≡ string_tokens vs → ws ≡ vs
same_strings [] [] e = refl
same_strings [] (v ∷ vs) e = let n : ⊥ = cc in absurd n
same_strings (w ∷ ws) [] e = let n : ⊥ = cc in absurd n
same_strings (w ∷ ws) (v ∷ vs) e = let first : w ≡ v = cc in let rest : string_tokens ws ≡ string_tokens vs = cc in ap₂ (λ (t : List ℕ) ts. t ∷ ts) first (same_strings ws vs rest)

-- what stands after the words of a tool
abbrev pub extras_behind : List Extra → Option (List ℕ) → List Token
extras_behind extras closure = extra_tokens extras ++ closure_tokens closure

abbrev pub uses_behind : List (List ℕ) → List Extra → Option (List ℕ) → List Token
uses_behind uses extras closure = optional_tokens (codes "uses") uses ++ extras_behind extras closure

extras_end : (kind : Token → Bool) → ((w : List ℕ) → kind (word w) ≡ false) → (extras : List Extra) (closure : Option (List ℕ)) → ends kind (extras_behind extras closure) ≡ true
extras_end kind none [] None = refl
extras_end kind none [] (Some id) = rw (none (codes "closure")) refl
extras_end kind none (Also id ∷ rest) closure = rw (none (codes "also")) refl
extras_end kind none (With name ∷ rest) closure = rw (none (codes "with")) refl

pub uses_end : (kind : Token → Bool) → ((w : List ℕ) → kind (word w) ≡ false) → (uses : List (List ℕ)) (extras : List Extra) (closure : Option (List ℕ)) → ends kind (uses_behind uses extras closure) ≡ true
uses_end kind none [] extras closure = extras_end kind none extras closure
uses_end kind none (u ∷ uses) extras closure = rw (none (codes "uses")) refl

pub record SameExtras (xs ys : List Extra) (c d : Option (List ℕ)) : Type 0 where
  pub extras : xs ≡ ys
  pub closure : c ≡ d

same_extras : (xs ys : List Extra) (c d : Option (List ℕ)) → extras_behind xs c ≡ extras_behind ys d → SameExtras xs ys c d
same_extras [] [] None None e = record { extras = refl; closure = refl }
same_extras [] [] None (Some d) e = absurd (apart e refl)
same_extras [] [] (Some c) None e = absurd (apart e refl)
same_extras [] [] (Some c) (Some d) e = record { extras = refl; closure = let o : c ≡ d = cc in ap (λ (x : List ℕ). Some x) o }
same_extras [] (Also y ∷ ys) None d e = absurd (apart e refl)
same_extras [] (Also y ∷ ys) (Some c) d e = absurd (apart e refl)
same_extras [] (With y ∷ ys) None d e = absurd (apart e refl)
same_extras [] (With y ∷ ys) (Some c) d e = absurd (apart e refl)
same_extras (Also x ∷ xs) [] c None e = absurd (apart e refl)
same_extras (Also x ∷ xs) [] c (Some d) e = absurd (apart e refl)
same_extras (With x ∷ xs) [] c None e = absurd (apart e refl)
same_extras (With x ∷ xs) [] c (Some d) e = absurd (apart e refl)
same_extras (Also x ∷ xs) (With y ∷ ys) c d e = absurd (apart e refl)
same_extras (With x ∷ xs) (Also y ∷ ys) c d e = absurd (apart e refl)
same_extras (Also x ∷ xs) (Also y ∷ ys) c d e =
    let first : x ≡ y = cc in
    let rest : extras_behind xs c ≡ extras_behind ys d = cc in
    let r : SameExtras xs ys c d = same_extras xs ys c d rest in
    record { extras = ap₂ (λ (t : List ℕ) ts. Also t ∷ ts) first r.extras; closure = r.closure }
same_extras (With x ∷ xs) (With y ∷ ys) c d e =
    let first : x ≡ y = cc in
    let rest : extras_behind xs c ≡ extras_behind ys d = cc in
    let r : SameExtras xs ys c d = same_extras xs ys c d rest in
    record { extras = ap₂ (λ (t : List ℕ) ts. With t ∷ ts) first r.extras; closure = r.closure }

-- no extra begins with `uses`
uses_apart : (extras : List Extra) (closure : Option (List ℕ)) (rest : List Token) → extras_behind extras closure ≡ word (codes "uses") ∷ rest → ⊥
uses_apart [] None rest e = apart e refl
uses_apart [] (Some id) rest e = apart e refl
uses_apart (Also id ∷ more) closure rest e = apart e refl
uses_apart (With name ∷ more) closure rest e = apart e refl

same_uses : (us vs : List (List ℕ)) (xs ys : List Extra) (c d : Option (List ℕ)) → uses_behind us xs c ≡ uses_behind vs ys d → SameNames us vs (extras_behind xs c) (extras_behind ys d)
same_uses [] [] xs ys c d e = record { names = refl; behind = e }
same_uses [] (v ∷ vs) xs ys c d e = absurd (uses_apart xs c (id_tokens (v ∷ vs) ++ extras_behind ys d) e)
same_uses (u ∷ us) [] xs ys c d e = absurd (uses_apart ys d (id_tokens (u ∷ us) ++ extras_behind xs c) (sym e))
same_uses (u ∷ us) (v ∷ vs) xs ys c d e = ids_cut u v us vs (extras_behind xs c) (extras_behind ys d) (extras_end is_comma (λ w. refl) xs c) (extras_end is_comma (λ w. refl) ys d) cc

same_tool : (a b : ToolDecl) → a.version ≡ b.version → a.words ≡ b.words → a.uses ≡ b.uses → a.extras ≡ b.extras → a.closure ≡ b.closure → a ≡ b
same_tool a b v w u x c = let e : ◌≡◌ {A = ToolDecl} (record { version = a.version; words = a.words; uses = a.uses; extras = a.extras; closure = a.closure }) (record { version = b.version; words = b.words; uses = b.uses; extras = b.extras; closure = b.closure }) = cc in e

tools_told : (a b : ToolDecl) → a.version ≡ b.version → string_tokens a.words ++ uses_behind a.uses a.extras a.closure ≡ string_tokens b.words ++ uses_behind b.uses b.extras b.closure → a ≡ b
tools_told a b v e =
    let s : SameTokens (string_tokens a.words) (string_tokens b.words) (uses_behind a.uses a.extras a.closure) (uses_behind b.uses b.extras b.closure)
    = cut_tokens is_string (string_tokens a.words) (string_tokens b.words) (uses_behind a.uses a.extras a.closure) (uses_behind b.uses b.extras b.closure) (strings_all a.words) (strings_all b.words) (uses_end is_string (λ w. refl) a.uses a.extras a.closure) (uses_end is_string (λ w. refl) b.uses b.extras b.closure) e in
    let u : SameNames a.uses b.uses (extras_behind a.extras a.closure) (extras_behind b.extras b.closure) = same_uses a.uses b.uses a.extras b.extras a.closure b.closure s.behind in
    let x : SameExtras a.extras b.extras a.closure b.closure = same_extras a.extras b.extras a.closure b.closure u.behind in
    same_tool a b v (same_strings a.words b.words s.before) u.names x.extras x.closure

-- ---- makers

pub record SameMaker (m n : MakerDecl) (a b : Make) : Type 0 where
  pub name : m.name ≡ n.name
  pub make : a ≡ b
  pub from : m.from ≡ n.from
  pub to : m.to ≡ n.to

makers_told : (m n : MakerDecl) (a b : Make) → maker_tokens m a ≡ maker_tokens n b → SameMaker m n a b
makers_told m n (Tool a) (Tool b) e =
    let v : a.version ≡ b.version = cc in
    let rest : string_tokens a.words ++ uses_behind a.uses a.extras a.closure ≡ string_tokens b.words ++ uses_behind b.uses b.extras b.closure = cc in
    record { name = cc; make = ap (λ (t : ToolDecl). Tool t) (tools_told a b v rest); from = cc; to = cc }
makers_told m n (Tool a) Read e = absurd (apart e refl)
makers_told m n (Tool a) Each e = absurd (apart e refl)
makers_told m n (Tool a) Pack e = absurd (apart e refl)
makers_told m n Read (Tool b) e = absurd (apart e refl)
makers_told m n Read Read e = record { name = cc; make = refl; from = cc; to = cc }
makers_told m n Read Each e = absurd (apart e refl)
makers_told m n Read Pack e = absurd (apart e refl)
makers_told m n Each (Tool b) e = absurd (apart e refl)
makers_told m n Each Read e = absurd (apart e refl)
makers_told m n Each Each e = record { name = cc; make = refl; from = cc; to = cc }
makers_told m n Each Pack e = absurd (apart e refl)
makers_told m n Pack (Tool b) e = absurd (apart e refl)
makers_told m n Pack Read e = absurd (apart e refl)
makers_told m n Pack Each e = absurd (apart e refl)
makers_told m n Pack Pack e = record { name = cc; make = refl; from = cc; to = cc }

same_maker : (m n : MakerDecl) → SameMaker m n m.make n.make → m ≡ n
same_maker m n s = let e : ◌≡◌ {A = MakerDecl} (record { name = m.name; make = m.make; from = m.from; to = m.to }) (record { name = n.name; make = n.make; from = n.from; to = n.to }) = cc in e

abbrev is_maker_word : List ℕ → Bool
is_maker_word key = bytes_eq key (codes "tool") || bytes_eq key (codes "read") || bytes_eq key (codes "each") || bytes_eq key (codes "pack")

first_of_maker : (m : MakerDecl) (a : Make) (key : List ℕ) (rest : List Token) → maker_tokens m a ≡ word key ∷ rest → is_maker_word key ≡ true
first_of_maker m (Tool a) key rest e = let k : codes "tool" ≡ key = cc in rw (← k) refl
first_of_maker m Read key rest e = let k : codes "read" ≡ key = cc in rw (← k) refl
first_of_maker m Each key rest e = let k : codes "each" ≡ key = cc in rw (← k) refl
first_of_maker m Pack key rest e = let k : codes "pack" ≡ key = cc in rw (← k) refl

no_maker : (m : MakerDecl) (key : List ℕ) (rest : List Token) → is_maker_word key ≡ false → maker_tokens m m.make ≡ word key ∷ rest → ⊥
no_maker m key rest none e = both_ways _ none (first_of_maker m m.make key rest e)

-- ---- declarations

same_type : (t u : TypeDecl) → t.name ≡ u.name → SameKind t.kind u.kind t.supers u.supers → t ≡ u
same_type t u n k = let e : ◌≡◌ {A = TypeDecl} (record { name = t.name; kind = t.kind; supers = t.supers }) (record { name = u.name; kind = u.kind; supers = u.supers }) = cc in e

same_suffix : (s t : SuffixDecl) → s.suffix ≡ t.suffix → s.of ≡ t.of → s ≡ t
same_suffix s t n o = let e : ◌≡◌ {A = SuffixDecl} (record { suffix = s.suffix; of = s.of }) (record { suffix = t.suffix; of = t.of }) = cc in e

same_decl : (d e : Decl) → IsInGrammar d → IsInGrammar e → decl_tokens d ≡ decl_tokens e → d ≡ e
same_decl (ObjectType t) (ObjectType u) a b h =
    let n : t.name ≡ u.name = cc in
    let k : kind_tokens t.kind t.supers ≡ kind_tokens u.kind u.supers = cc in
    ap (λ (x : TypeDecl). ObjectType x) (same_type t u n (same_kinds t.kind u.kind t.supers u.supers a b k))
same_decl (ObjectType t) (Suffix s) a b h = absurd (apart h refl)
same_decl (ObjectType t) (Param id) a b h = absurd (apart h refl)
same_decl (ObjectType t) (Maker m) a b h = absurd (no_maker m _ _ refl (sym h))
same_decl (Suffix s) (ObjectType t) a b h = absurd (apart h refl)
same_decl (Suffix s) (Suffix t) a b h = let n : s.suffix ≡ t.suffix = cc in let o : s.of ≡ t.of = cc in ap (λ (x : SuffixDecl). Suffix x) (same_suffix s t n o)
same_decl (Suffix s) (Param id) a b h = absurd (apart h refl)
same_decl (Suffix s) (Maker m) a b h = absurd (no_maker m _ _ refl (sym h))
same_decl (Param id) (ObjectType t) a b h = absurd (apart h refl)
same_decl (Param id) (Suffix s) a b h = absurd (apart h refl)
same_decl (Param id) (Param other) a b h = let n : id ≡ other = cc in ap (λ (x : List ℕ). Param x) n
same_decl (Param id) (Maker m) a b h = absurd (no_maker m _ _ refl (sym h))
same_decl (Maker m) (ObjectType t) a b h = absurd (no_maker m _ _ refl h)
same_decl (Maker m) (Suffix s) a b h = absurd (no_maker m _ _ refl h)
same_decl (Maker m) (Param id) a b h = absurd (no_maker m _ _ refl h)
same_decl (Maker m) (Maker n) a b h = ap (λ (x : MakerDecl). Maker x) (same_maker m n (makers_told m n m.make n.make h))

-- ---- lists of declarations

-- no token of a declaration is a semicolon
abbrev is_inside : Token → Bool
is_inside (word w) = true
is_inside (string s) = true
is_inside semicolon = false
is_inside comma = true
is_inside opening = true
is_inside closing = true

abbrev AreInside : List Token → Type 0
AreInside ts = list_all is_inside ts ≡ true

joined : (xs ys : List Token) → AreInside xs → AreInside ys → AreInside (xs ++ ys)
joined xs ys a b = rw (list_all-append is_inside xs ys) (and_from _ _ a b)

ids_inside : (xs : List (List ℕ)) → AreInside (id_tokens xs)
ids_inside [] = refl
ids_inside (x ∷ []) = refl
ids_inside (x ∷ y ∷ xs) = ids_inside (y ∷ xs)

optional_inside : (keyword : List ℕ) (xs : List (List ℕ)) → AreInside (optional_tokens keyword xs)
optional_inside keyword [] = refl
optional_inside keyword (x ∷ xs) = ids_inside (x ∷ xs)

parts_inside : (ps : List PartDecl) → AreInside (part_tokens ps)
parts_inside [] = refl
parts_inside (p ∷ []) = refl
parts_inside (p ∷ q ∷ ps) = parts_inside (q ∷ ps)

kind_inside : (k : Kind) (xs : List (List ℕ)) → AreInside (kind_tokens k xs)
kind_inside Simple xs = optional_inside (codes "is") xs
kind_inside (ListOf of) xs = optional_inside (codes "is") xs
kind_inside (Compound parts) xs = joined (part_tokens parts) (closing ∷ []) (parts_inside parts) refl

strings_inside : (ws : List (List ℕ)) → AreInside (string_tokens ws)
strings_inside [] = refl
strings_inside (w ∷ ws) = strings_inside ws

extras_inside : (xs : List Extra) → AreInside (extra_tokens xs)
extras_inside [] = refl
extras_inside (Also x ∷ xs) = extras_inside xs
extras_inside (With x ∷ xs) = extras_inside xs

closure_inside : (c : Option (List ℕ)) → AreInside (closure_tokens c)
closure_inside None = refl
closure_inside (Some id) = refl

maker_inside : (m : MakerDecl) (a : Make) → AreInside (maker_tokens m a)
maker_inside m (Tool t) = joined (string_tokens t.words) (uses_behind t.uses t.extras t.closure) (strings_inside t.words) (joined (optional_tokens (codes "uses") t.uses) (extras_behind t.extras t.closure) (optional_inside (codes "uses") t.uses) (joined (extra_tokens t.extras) (closure_tokens t.closure) (extras_inside t.extras) (closure_inside t.closure)))
maker_inside m Read = refl
maker_inside m Each = refl
maker_inside m Pack = refl

decl_inside : (d : Decl) → AreInside (decl_tokens d)
decl_inside (ObjectType t) = kind_inside t.kind t.supers
decl_inside (Suffix s) = refl
decl_inside (Param id) = refl
decl_inside (Maker m) = maker_inside m m.make

nonempty_decl : (d : Decl) (rest : List Token) → (decl_tokens d ++ semicolon ∷ []) ++ rest ≡ [] → ⊥
nonempty_decl (ObjectType t) rest e = cc
nonempty_decl (Suffix s) rest e = cc
nonempty_decl (Param id) rest e = cc
nonempty_decl (Maker m) rest e = go m.make e
  where
    go : (a : Make) → (maker_tokens m a ++ semicolon ∷ []) ++ rest ≡ [] → ⊥
    go (Tool t) e = cc
    go Read e = cc
    go Each e = cc
    go Pack e = cc

-- the tokens tell the list
pub same_decls : (a b : List Decl) → All IsInGrammar a → All IsInGrammar b → graph_tokens a ≡ graph_tokens b → a ≡ b
same_decls [] [] p q e = refl
same_decls [] (d ∷ ds) p q e = absurd (nonempty_decl d (graph_tokens ds) (sym e))
same_decls (d ∷ ds) [] p q e = absurd (nonempty_decl d (graph_tokens ds) e)
same_decls (d ∷ ds) (f ∷ fs) p q e =
    let x : (decl_tokens d ++ semicolon ∷ []) ++ graph_tokens ds ≡ decl_tokens d ++ semicolon ∷ graph_tokens ds = append_assoc (decl_tokens d) (semicolon ∷ []) (graph_tokens ds) in
    let y : (decl_tokens f ++ semicolon ∷ []) ++ graph_tokens fs ≡ decl_tokens f ++ semicolon ∷ graph_tokens fs = append_assoc (decl_tokens f) (semicolon ∷ []) (graph_tokens fs) in
    let s : SameTokens (decl_tokens d) (decl_tokens f) (semicolon ∷ graph_tokens ds) (semicolon ∷ graph_tokens fs)
    = cut_tokens is_inside (decl_tokens d) (decl_tokens f) (semicolon ∷ graph_tokens ds) (semicolon ∷ graph_tokens fs) (decl_inside d) (decl_inside f) refl refl (sym x ∙ e ∙ y) in
    let rest : graph_tokens ds ≡ graph_tokens fs = tails _ _ s.behind in
    ap₂ (λ (t : Decl) ts. t ∷ ts) (same_decl d f (All-head IsInGrammar d ds p) (All-head IsInGrammar f fs q) s.before) (same_decls ds fs (All-tail IsInGrammar d ds p) (All-tail IsInGrammar f fs q) rest)
  where
    tails : (us vs : List Token) → ◌≡◌ {A = List Token} (semicolon ∷ us) (semicolon ∷ vs) → us ≡ vs
    tails us vs e = cc
