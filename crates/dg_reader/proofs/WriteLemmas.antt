-- What is written, put together.
use Rattle.std.proofs.Common.{◌≡◌, ℕ, ◌+◌, take, get_or, add-one, ◌<◌, ◌≤◌, Bool, true, List, [], ◌∷◌, ◌++◌, length, refl, sym, ap, ◌∙◌, subst, append_assoc}
use Rattle.std.specs.Prelude.{codes}
use Rattle.std.proofs.lemmas.Grind.{flat_map-append}
use Rattle.std.proofs.lemmas.List.{take_all, take_more}
use Rattle.object_values.specs.declared.graph.PartDecl.{PartDecl}
use Rattle.object_values.specs.declared.graph.Kind.{Kind}
use Rattle.object_values.specs.declared.graph.Kind.TheVariants.{Compound}
use Rattle.object_values.specs.declared.graph.Extra.{Extra}
use Rattle.object_values.specs.declared.graph.ToolDecl.{ToolDecl}
use Rattle.object_values.specs.declared.graph.MakerDecl.{MakerDecl}
use Rattle.object_values.specs.declared.graph.Decl.{Decl}
use Rattle.meaning_graph.specs.Tokens.{Token, word, string, semicolon, comma, opening, closing}
use Rattle.meaning_graph.specs.Grammar.{id_tokens, optional_tokens, part_tokens, kind_tokens, string_tokens, extra_tokens, closure_tokens, way_tokens, tool_tokens, decl_tokens}
use Rattle.meaning_graph.specs.Spelling.{token_spelling, is_opening, tokens_spelling, graph_spelling}
use Rattle.dg_reader.specs.declared.writer.Writer.{Writer}
use Rattle.dg_reader.specs.Written.{gap_before, line_from, glued_behind, Writes}
use Rattle.dg_reader.proofs.ListLemmas.{id_tokens_more, part_tokens_more, string_tokens_more, extra_tokens_more}

pub nil_right : {A : Type 0} (xs : List A) → xs ++ [] ≡ xs
nil_right [] = refl
nil_right (x ∷ xs) = ap (λ r. x ∷ r) (nil_right xs)

line_append : (glued : Bool) (ts us : List Token) → line_from glued (ts ++ us) ≡ line_from glued ts ++ line_from (glued_behind glued ts) us
line_append glued [] us = refl
line_append glued (t ∷ ts) us =
    let rest : List ℕ = line_from (is_opening t) ts in
    let more : List ℕ = line_from (glued_behind (is_opening t) ts) us in
    ap (λ x. gap_before glued t ++ (token_spelling t ++ x)) (line_append (is_opening t) ts us)
    ∙ ap (λ x. gap_before glued t ++ x) (sym (append_assoc (token_spelling t) rest more))
    ∙ sym (append_assoc (gap_before glued t) (token_spelling t ++ rest) more)

glued_append : (glued : Bool) (ts us : List Token) → glued_behind glued (ts ++ us) ≡ glued_behind (glued_behind glued ts) us
glued_append glued [] us = refl
glued_append glued (t ∷ ts) us = glued_append (is_opening t) ts us

pub writes_none : (w : Writer) → Writes [] w w
writes_none w = record { out = sym (nil_right w.out); behind = refl }

pub writes_append : (ts us : List Token) (a b c : Writer) → Writes ts a b → Writes us b c → Writes (ts ++ us) a c
writes_append ts us a b c v w = record {
  out = w.out ∙ ap (λ x. x ++ line_from b.glued us) v.out ∙ append_assoc a.out (line_from a.glued ts) (line_from b.glued us) ∙ ap (λ o. a.out ++ (line_from a.glued ts ++ line_from o us)) v.behind ∙ ap (λ x. a.out ++ x) (sym (line_append a.glued ts us));
  behind = w.behind ∙ ap (λ o. glued_behind o us) v.behind ∙ sym (glued_append a.glued ts us);
}

-- ---- lists

pub ids_written : (first : List ℕ) (ids : List (List ℕ)) (id : List ℕ) (a b c d : Writer) → Writes (id_tokens (first ∷ ids)) a b → Writes (comma ∷ []) b c → Writes (word id ∷ []) c d → Writes (id_tokens (first ∷ (ids ++ id ∷ []))) a d
ids_written first ids id a b c d v k w = subst (λ ts. Writes ts a d) (id_tokens_more first ids id) (writes_append (id_tokens (first ∷ ids)) (comma ∷ word id ∷ []) a b d v (writes_append (comma ∷ []) (word id ∷ []) b c d k w))

pub parts_written : (first : PartDecl) (ps : List PartDecl) (p : PartDecl) (a b c d : Writer) → Writes (part_tokens (first ∷ ps)) a b → Writes (comma ∷ []) b c → Writes (word p.name ∷ word p.of ∷ []) c d → Writes (part_tokens (first ∷ (ps ++ p ∷ []))) a d
parts_written first ps p a b c d v k w = subst (λ ts. Writes ts a d) (part_tokens_more first ps p) (writes_append (part_tokens (first ∷ ps)) (comma ∷ word p.name ∷ word p.of ∷ []) a b d v (writes_append (comma ∷ []) (word p.name ∷ word p.of ∷ []) b c d k w))

pub strings_written : (ws : List (List ℕ)) (s : List ℕ) (a b c : Writer) → Writes (string_tokens ws) a b → Writes (string s ∷ []) b c → Writes (string_tokens (ws ++ s ∷ [])) a c
strings_written ws s a b c v w = subst (λ ts. Writes ts a c) (string_tokens_more ws s) (writes_append (string_tokens ws) (string s ∷ []) a b c v w)

pub extras_written : (es : List Extra) (e : Extra) (a b c : Writer) → Writes (extra_tokens es) a b → Writes (extra_tokens (e ∷ [])) b c → Writes (extra_tokens (es ++ e ∷ [])) a c
extras_written es e a b c v w = subst (λ ts. Writes ts a c) (extra_tokens_more es e) (writes_append (extra_tokens es) (extra_tokens (e ∷ [])) a b c v w)

-- ---- lines

-- after the first token, and the LF
rest_spelled : (t : Token) (ts : List Token) → tokens_spelling (t ∷ ts) ≡ token_spelling t ++ (line_from (is_opening t) ts ++ 10 ∷ [])
rest_spelled t [] = refl
rest_spelled t (u ∷ ts) =
    let rest : List ℕ = line_from (is_opening u) ts in
    ap (λ x. token_spelling t ++ (gap_before (is_opening t) u ++ x)) (rest_spelled u ts ∙ sym (append_assoc (token_spelling u) rest (10 ∷ [])))
    ∙ ap (λ x. token_spelling t ++ x) (sym (append_assoc (gap_before (is_opening t) u) (token_spelling u ++ rest) (10 ∷ [])))

pub line_spelled : (ts : List Token) → tokens_spelling ts ≡ line_from true ts ++ 10 ∷ []
line_spelled [] = refl
line_spelled (t ∷ ts) = rest_spelled t ts ∙ sym (append_assoc (token_spelling t) (line_from (is_opening t) ts) (10 ∷ []))

-- a declaration, its `;` and its LF
pub decl_written : (d : Decl) (a b c : Writer) (out : List ℕ) → a.glued ≡ true → Writes (decl_tokens d) a b → Writes (semicolon ∷ []) b c → out ≡ c.out ++ 10 ∷ [] → out ≡ a.out ++ tokens_spelling (decl_tokens d ++ semicolon ∷ [])
decl_written d a b c out o v w e =
    let ts : List Token = decl_tokens d ++ semicolon ∷ [] in
    let whole : Writes ts a c = writes_append (decl_tokens d) (semicolon ∷ []) a b c v w in
    e ∙ ap (λ x. x ++ 10 ∷ []) whole.out ∙ append_assoc a.out (line_from a.glued ts) (10 ∷ []) ∙ ap (λ x. a.out ++ (line_from x ts ++ 10 ∷ [])) o ∙ ap (λ x. a.out ++ x) (sym (line_spelled ts))

pub graph_more : (decls : List Decl) (d : Decl) → graph_spelling decls ++ tokens_spelling (decl_tokens d ++ semicolon ∷ []) ≡ graph_spelling (decls ++ d ∷ [])
unfolding graph_spelling
graph_more decls d = ap (λ x. graph_spelling decls ++ x) (sym (nil_right (tokens_spelling (decl_tokens d ++ semicolon ∷ [])))) ∙ sym (flat_map-append (λ d. tokens_spelling (decl_tokens d ++ semicolon ∷ [])) decls (d ∷ []))

pub graph_none : graph_spelling [] ≡ []
unfolding graph_spelling
graph_none = refl

-- ---- item by item

take_first : {A : Type 0} (all rest : List A) (first : A) (i : ℕ) → all ≡ first ∷ rest → take (i + 1) all ≡ first ∷ take i rest
take_first all rest first i e = ap (take (i + 1)) e ∙ (rw add-one refl)

take_next : {A : Type 0} (all rest : List A) (first x : A) (i : ℕ) → all ≡ first ∷ rest → i < length rest → x ≡ get_or rest i x → first ∷ (take i rest ++ x ∷ []) ≡ take (i + 1 + 1) all
take_next all rest first x i e less is = ap (λ xs. first ∷ (take i rest ++ xs ∷ [])) is ∙ ap (λ xs. first ∷ xs) (sym (take_more rest i x less)) ∙ sym (take_first all rest first (i + 1) e)

pub ids_begin : (all rest : List (List ℕ)) (first : List ℕ) (a b : Writer) → all ≡ first ∷ rest → Writes (word first ∷ []) a b → Writes (id_tokens (take (0 + 1) all)) a b
ids_begin all rest first a b e w = subst (λ xs. Writes (id_tokens xs) a b) (sym (take_first all rest first 0 e)) w

pub ids_step : (all rest : List (List ℕ)) (first id : List ℕ) (i : ℕ) (a b c d : Writer) → all ≡ first ∷ rest → i < length rest → id ≡ get_or rest i id → Writes (id_tokens (take (i + 1) all)) a b → Writes (comma ∷ []) b c → Writes (word id ∷ []) c d → Writes (id_tokens (take (i + 1 + 1) all)) a d
ids_step all rest first id i a b c d e less is v k w =
    let before : Writes (id_tokens (first ∷ take i rest)) a b = subst (λ xs. Writes (id_tokens xs) a b) (take_first all rest first i e) v in
    subst (λ xs. Writes (id_tokens xs) a d) (take_next all rest first id i e less is) (ids_written first (take i rest) id a b c d before k w)

pub parts_begin : (all rest : List PartDecl) (first : PartDecl) (a b : Writer) → all ≡ first ∷ rest → Writes (word first.name ∷ word first.of ∷ []) a b → Writes (part_tokens (take (0 + 1) all)) a b
parts_begin all rest first a b e w = subst (λ (xs : List PartDecl). Writes (part_tokens xs) a b) (sym (take_first all rest first 0 e)) w

pub parts_step : (all rest : List PartDecl) (first part : PartDecl) (i : ℕ) (a b c d : Writer) → all ≡ first ∷ rest → i < length rest → part ≡ get_or rest i part → Writes (part_tokens (take (i + 1) all)) a b → Writes (comma ∷ []) b c → Writes (word part.name ∷ word part.of ∷ []) c d → Writes (part_tokens (take (i + 1 + 1) all)) a d
parts_step all rest first part i a b c d e less is v k w =
    let before : Writes (part_tokens (first ∷ take i rest)) a b = subst (λ (xs : List PartDecl). Writes (part_tokens xs) a b) (take_first all rest first i e) v in
    subst (λ (xs : List PartDecl). Writes (part_tokens xs) a d) (take_next all rest first part i e less is) (parts_written first (take i rest) part a b c d before k w)

pub take_step : {A : Type 0} (xs : List A) (x : A) (i : ℕ) → i < length xs → x ≡ get_or xs i x → take i xs ++ x ∷ [] ≡ take (i + 1) xs
take_step xs x i less is = ap (λ y. take i xs ++ y ∷ []) is ∙ sym (take_more xs i x less)

pub whole_taken : {A : Type 0} (all rest : List A) (first : A) (i : ℕ) → all ≡ first ∷ rest → length rest ≤ i → take (i + 1) all ≡ all
whole_taken all rest first i e le = take_first all rest first i e ∙ ap (λ xs. first ∷ xs) (take_all i rest le) ∙ sym e

-- ---- what is longer

pub compound_written : (k : Kind) (ps : List PartDecl) (supers : List (List ℕ)) (a b c d e : Writer) → k ≡ Compound ps → Writes (word (codes "compound") ∷ []) a b → Writes (opening ∷ []) b c → Writes (part_tokens ps) c d → Writes (closing ∷ []) d e → Writes (kind_tokens k supers) a e
compound_written k ps supers a b c d e is v w x y =
    let behind : Writes (opening ∷ (part_tokens ps ++ closing ∷ [])) b e = writes_append (opening ∷ []) (part_tokens ps ++ closing ∷ []) b c e w (writes_append (part_tokens ps) (closing ∷ []) c d e x y) in
    subst (λ (x : Kind). Writes (kind_tokens x supers) a e) (sym is) (writes_append (word (codes "compound") ∷ []) (opening ∷ (part_tokens ps ++ closing ∷ [])) a b e v behind)

-- the options of a tool
options_written : (tool : ToolDecl) (a b c d e : Writer) → Writes (string_tokens tool.words) a b → Writes (optional_tokens (codes "uses") tool.uses) b c → Writes (extra_tokens tool.extras) c d → Writes (closure_tokens tool.closure) d e → Writes (string_tokens tool.words ++ (optional_tokens (codes "uses") tool.uses ++ (extra_tokens tool.extras ++ closure_tokens tool.closure))) a e
options_written tool a b c d e v w x y = writes_append (string_tokens tool.words) _ a b e v (writes_append (optional_tokens (codes "uses") tool.uses) _ b c e w (writes_append (extra_tokens tool.extras) (closure_tokens tool.closure) c d e x y))

pub tool_written : (m : MakerDecl) (tool : ToolDecl) (a b c d e f g h i j : Writer) → Writes (word (codes "tool") ∷ []) a b → Writes (word m.name ∷ []) b c → Writes (word tool.version ∷ []) c d → Writes (way_tokens m) d e → Writes (word (codes "run") ∷ []) e f → Writes (string_tokens tool.words) f g → Writes (optional_tokens (codes "uses") tool.uses) g h → Writes (extra_tokens tool.extras) h i → Writes (closure_tokens tool.closure) i j → Writes (tool_tokens m tool) a j
tool_written m tool a b c d e f g h i j v w x y run words uses extras closure =
    let options : List Token = string_tokens tool.words ++ (optional_tokens (codes "uses") tool.uses ++ (extra_tokens tool.extras ++ closure_tokens tool.closure)) in
    let behind : Writes (way_tokens m ++ word (codes "run") ∷ options) d j = writes_append (way_tokens m) (word (codes "run") ∷ options) d e j y (writes_append (word (codes "run") ∷ []) options e f j run (options_written tool f g h i j words uses extras closure)) in
    writes_append (word (codes "tool") ∷ []) (word m.name ∷ word tool.version ∷ (way_tokens m ++ word (codes "run") ∷ options)) a b j v (writes_append (word m.name ∷ []) (word tool.version ∷ (way_tokens m ++ word (codes "run") ∷ options)) b c j w (writes_append (word tool.version ∷ []) (way_tokens m ++ word (codes "run") ∷ options) c d j x behind))
