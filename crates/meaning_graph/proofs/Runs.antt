-- The tokens of a graph are expected one after the other.
use Rattle.std.proofs.Common.{◌≡◌, ℕ, true, List, [], ◌∷◌, ◌++◌, Option, Some, None, refl, ap, ◌∙◌, append_assoc, arith, ◌<◌, length}
use Rattle.std.specs.Prelude.{codes, IfSome}
use Rattle.std.specs.List.{All}
use Rattle.std.specs.Option.{option_and_then}
use Rattle.std.proofs.lemmas.List.Elements.{All-head, All-tail}
use Rattle.object_values.specs.declared.graph.PartDecl.{PartDecl}
use Rattle.object_values.specs.declared.graph.Kind.{Kind}
use Rattle.object_values.specs.declared.graph.Kind.TheVariants.{Simple, List as ListOf, Compound}
use Rattle.object_values.specs.declared.graph.Extra.{Extra}
use Rattle.object_values.specs.declared.graph.Extra.TheVariants.{Also, With}
use Rattle.object_values.specs.declared.graph.Make.{Make}
use Rattle.object_values.specs.declared.graph.Make.TheVariants.{Tool, Read, Each, Pack}
use Rattle.object_values.specs.declared.graph.MakerDecl.{MakerDecl}
use Rattle.object_values.specs.declared.graph.Decl.{Decl}
use Rattle.object_values.specs.declared.graph.Decl.TheVariants.{ObjectType, Suffix, Param, Maker}
use Rattle.meaning_texts.specs.Classes.{is_name_byte, IsWord, IsId, IsStringText}
use Rattle.meaning_texts.specs.Tests.{is_name, is_id, is_string_text}
use Rattle.meaning_texts.proofs.Lemmas.{word_decides, id_decides, string_decides}
use Rattle.meaning_graph.specs.Tokens.{Token, word, semicolon, comma, closing}
use Rattle.meaning_graph.specs.Grammar.{id_tokens, optional_tokens, part_tokens, kind_tokens, string_tokens, closure_tokens, maker_tokens, decl_tokens, graph_tokens, IsSpellablePart, IsSpellableKind, IsSpellableExtra, IsSpellableMake, IsSpellableDecl}
use Rattle.meaning_graph.specs.Going.{Class, keyword, identifier, any_string, Stage, kind, supers, super_ids, parts, ending, strings, used_ids, extras, Expected, expect, start, expected_after, run}
use Rattle.meaning_graph.proofs.Decls.{uses_behind, extras_behind}

id_test : (id : List ℕ) → IsId id → is_id id ≡ true
id_test id i = (id_decides id).1 i

word_test : (w : List ℕ) → IsWord w → is_name w ≡ true
word_test w i = (word_decides is_name_byte w).1 i

string_test : (s : List ℕ) → IsStringText s → is_string_text s ≡ true
string_test s i = (string_decides s).1 i

-- an identifier that must come
id_run : (id : List ℕ) (rest : List Class) (stage : Stage) (tokens : List Token) → IsId id → run (expect (identifier ∷ rest) stage) (word id ∷ tokens) ≡ run (expect rest stage) tokens
id_run id rest stage tokens i = rw (id_test id i) refl

super_ids_run : (x : List ℕ) (xs : List (List ℕ)) (tokens : List Token) → All IsId (x ∷ xs) → run (expect (identifier ∷ []) super_ids) (id_tokens (x ∷ xs) ++ tokens) ≡ run (expect [] super_ids) tokens
super_ids_run x [] tokens a = id_run x [] super_ids tokens (All-head IsId x [] a)
super_ids_run x (y ∷ xs) tokens a = id_run x [] super_ids (comma ∷ (id_tokens (y ∷ xs) ++ tokens)) (All-head IsId x (y ∷ xs) a) ∙ super_ids_run y xs tokens (All-tail IsId x (y ∷ xs) a)

used_ids_run : (x : List ℕ) (xs : List (List ℕ)) (tokens : List Token) → All IsId (x ∷ xs) → run (expect (identifier ∷ []) used_ids) (id_tokens (x ∷ xs) ++ tokens) ≡ run (expect [] used_ids) tokens
used_ids_run x [] tokens a = id_run x [] used_ids tokens (All-head IsId x [] a)
used_ids_run x (y ∷ xs) tokens a = id_run x [] used_ids (comma ∷ (id_tokens (y ∷ xs) ++ tokens)) (All-head IsId x (y ∷ xs) a) ∙ used_ids_run y xs tokens (All-tail IsId x (y ∷ xs) a)

supers_run : (xs : List (List ℕ)) (tokens : List Token) → All IsId xs → run (expect [] supers) (optional_tokens (codes "is") xs ++ semicolon ∷ tokens) ≡ run start tokens
supers_run [] tokens a = refl
supers_run (x ∷ xs) tokens a = super_ids_run x xs (semicolon ∷ tokens) a

parts_run : (p : PartDecl) (ps : List PartDecl) (tokens : List Token) → All IsSpellablePart (p ∷ ps) → run (expect (identifier ∷ identifier ∷ []) parts) (part_tokens (p ∷ ps) ++ tokens) ≡ run (expect [] parts) tokens
parts_run p [] tokens a =
    let h : IsSpellablePart p = All-head IsSpellablePart p [] a in
    id_run p.name (identifier ∷ []) parts (word p.of ∷ tokens) h.name ∙ id_run p.of [] parts tokens h.of
parts_run p (q ∷ ps) tokens a =
    let h : IsSpellablePart p = All-head IsSpellablePart p (q ∷ ps) a in
    id_run p.name (identifier ∷ []) parts (word p.of ∷ comma ∷ (part_tokens (q ∷ ps) ++ tokens)) h.name ∙ id_run p.of [] parts (comma ∷ (part_tokens (q ∷ ps) ++ tokens)) h.of ∙ parts_run q ps tokens (All-tail IsSpellablePart p (q ∷ ps) a)

kind_run : (k : Kind) (xs : List (List ℕ)) (tokens : List Token) → IsSpellableKind k → All IsId xs → run (expect [] kind) (kind_tokens k xs ++ semicolon ∷ tokens) ≡ run start tokens
kind_run Simple xs tokens k a = supers_run xs tokens a
kind_run (ListOf of) xs tokens k a = id_run of [] supers (optional_tokens (codes "is") xs ++ semicolon ∷ tokens) k ∙ supers_run xs tokens a
kind_run (Compound []) xs tokens k a = let some : 0 < 0 = k.some in absurd (omega arith)
kind_run (Compound (p ∷ ps)) xs tokens k a =
    ap (run (expect (identifier ∷ identifier ∷ []) parts)) (append_assoc (part_tokens (p ∷ ps)) (closing ∷ []) (semicolon ∷ tokens)) ∙ parts_run p ps (closing ∷ semicolon ∷ tokens) k.each

strings_run : (ws : List (List ℕ)) (tokens : List Token) → All IsStringText ws → run (expect [] strings) (string_tokens ws ++ tokens) ≡ run (expect [] strings) tokens
strings_run [] tokens a = refl
strings_run (w ∷ ws) tokens a = rw (string_test w (All-head IsStringText w ws a)) (strings_run ws tokens (All-tail IsStringText w ws a))

closure_run : (c : Option (List ℕ)) (tokens : List Token) → IfSome c IsId → run (expect [] extras) (closure_tokens c ++ semicolon ∷ tokens) ≡ run start tokens
closure_run None tokens i = refl
closure_run (Some id) tokens i = id_run id [] ending (semicolon ∷ tokens) i

extras_run : (es : List Extra) (c : Option (List ℕ)) (tokens : List Token) → All IsSpellableExtra es → IfSome c IsId → run (expect [] extras) (extras_behind es c ++ semicolon ∷ tokens) ≡ run start tokens
extras_run [] c tokens a i = closure_run c tokens i
extras_run (Also x ∷ es) c tokens a i = id_run x [] extras (extras_behind es c ++ semicolon ∷ tokens) (All-head IsSpellableExtra (Also x) es a) ∙ extras_run es c tokens (All-tail IsSpellableExtra (Also x) es a) i
extras_run (With x ∷ es) c tokens a i = rw (word_test x (All-head IsSpellableExtra (With x) es a)) (extras_run es c tokens (All-tail IsSpellableExtra (With x) es a) i)

-- what may stand after extras may stand after strings and used parameters
behind_strings : (es : List Extra) (c : Option (List ℕ)) (tokens : List Token) → run (expect [] strings) (extras_behind es c ++ semicolon ∷ tokens) ≡ run (expect [] extras) (extras_behind es c ++ semicolon ∷ tokens)
behind_strings [] None tokens = refl
behind_strings [] (Some id) tokens = refl
behind_strings (Also x ∷ es) c tokens = refl
behind_strings (With x ∷ es) c tokens = refl

behind_used : (es : List Extra) (c : Option (List ℕ)) (tokens : List Token) → run (expect [] used_ids) (extras_behind es c ++ semicolon ∷ tokens) ≡ run (expect [] extras) (extras_behind es c ++ semicolon ∷ tokens)
behind_used [] None tokens = refl
behind_used [] (Some id) tokens = refl
behind_used (Also x ∷ es) c tokens = refl
behind_used (With x ∷ es) c tokens = refl

uses_run : (us : List (List ℕ)) (es : List Extra) (c : Option (List ℕ)) (tokens : List Token) → All IsId us → All IsSpellableExtra es → IfSome c IsId → run (expect [] strings) (uses_behind us es c ++ semicolon ∷ tokens) ≡ run start tokens
uses_run [] es c tokens a b i = behind_strings es c tokens ∙ extras_run es c tokens b i
uses_run (u ∷ us) es c tokens a b i =
    ap (run (expect (identifier ∷ []) used_ids)) (append_assoc (id_tokens (u ∷ us)) (extras_behind es c) (semicolon ∷ tokens)) ∙ used_ids_run u us (extras_behind es c ++ semicolon ∷ tokens) a ∙ behind_used es c tokens ∙ extras_run es c tokens b i

-- the way of a read, an each and a pack
way_run : (name from to : List ℕ) (tokens : List Token) → IsId name → IsId from → IsId to → run (expect (identifier ∷ keyword (codes "from") ∷ identifier ∷ keyword (codes "to") ∷ identifier ∷ []) ending) (word name ∷ word (codes "from") ∷ word from ∷ word (codes "to") ∷ word to ∷ semicolon ∷ tokens) ≡ run start tokens
way_run name from to tokens n f t = rw (id_test name n, id_test from f, id_test to t) refl

words_run : (ws : List (List ℕ)) (us : List (List ℕ)) (es : List Extra) (c : Option (List ℕ)) (tokens : List Token) → 0 < length ws → All IsStringText ws → All IsId us → All IsSpellableExtra es → IfSome c IsId
    → run (expect (any_string ∷ []) strings) ((string_tokens ws ++ uses_behind us es c) ++ semicolon ∷ tokens) ≡ run start tokens
words_run [] us es c tokens some a b d i = absurd (omega arith)
words_run (w ∷ ws) us es c tokens some a b d i =
    let e : (string_tokens ws ++ uses_behind us es c) ++ semicolon ∷ tokens ≡ string_tokens ws ++ (uses_behind us es c ++ semicolon ∷ tokens) = append_assoc (string_tokens ws) (uses_behind us es c) (semicolon ∷ tokens) in
    rw (string_test w (All-head IsStringText w ws a), e) (strings_run ws (uses_behind us es c ++ semicolon ∷ tokens) (All-tail IsStringText w ws a) ∙ uses_run us es c tokens b d i)

maker_run : (m : MakerDecl) (a : Make) (tokens : List Token) → IsId m.name → IsId m.from → IsId m.to → IsSpellableMake a → run start (maker_tokens m a ++ semicolon ∷ tokens) ≡ run start tokens
maker_run m (Tool t) tokens n f o i =
    rw (id_test m.name n, word_test t.version i.version, id_test m.from f, id_test m.to o) (words_run t.words t.uses t.extras t.closure tokens i.some i.words i.uses i.extras i.closure)
maker_run m Read tokens n f o i = way_run m.name m.from m.to tokens n f o
maker_run m Each tokens n f o i = way_run m.name m.from m.to tokens n f o
maker_run m Pack tokens n f o i = way_run m.name m.from m.to tokens n f o

decl_run : (d : Decl) (tokens : List Token) → IsSpellableDecl d → run start (decl_tokens d ++ semicolon ∷ tokens) ≡ run start tokens
decl_run (ObjectType t) tokens s = id_run t.name [] kind (kind_tokens t.kind t.supers ++ semicolon ∷ tokens) s.name ∙ kind_run t.kind t.supers tokens s.kind s.supers
decl_run (Suffix u) tokens s = rw (word_test u.suffix s.suffix, id_test u.of s.of) refl
decl_run (Param id) tokens s = rw (id_test id s) refl
decl_run (Maker m) tokens s = maker_run m m.make tokens s.name s.from s.to s.make

-- the tokens of a graph lead back to the start
pub graph_run : (ds : List Decl) → All IsSpellableDecl ds → run start (graph_tokens ds) ≡ Some start
graph_run [] a = refl
graph_run (d ∷ ds) a = ap (run start) (append_assoc (decl_tokens d) (semicolon ∷ []) (graph_tokens ds)) ∙ decl_run d (graph_tokens ds) (All-head IsSpellableDecl d ds a) ∙ graph_run ds (All-tail IsSpellableDecl d ds a)

chain : (xs ys : List Token) (o : Option Expected) → ((f : Expected) → run f (xs ++ ys) ≡ option_and_then (λ (g : Expected). run g ys) (run f xs)) → option_and_then (λ (f : Expected). run f (xs ++ ys)) o ≡ option_and_then (λ (g : Expected). run g ys) (option_and_then (λ (f : Expected). run f xs) o)
chain xs ys None each = refl
chain xs ys (Some f) each = each f

-- a run over two lists is one over the first, and then one over the second
pub run_append : (e : Expected) (xs ys : List Token) → run e (xs ++ ys) ≡ option_and_then (λ (f : Expected). run f ys) (run e xs)
run_append e [] ys = refl
run_append e (x ∷ xs) ys = chain xs ys (expected_after e.must e.stage x) (λ f. run_append f xs ys)
