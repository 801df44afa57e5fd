-- Tokens that lead back to the start are those of a graph.
use Rattle.std.proofs.Common.{◌≡◌, ℕ, zero, suc, ◌<◌, ◌≤◌, true, false, List, [], ◌∷◌, ◌++◌, length, Option, Some, None, refl, sym, ap, ap₂, ◌∙◌, inl, inr, append_assoc, arith}
use Rattle.std.specs.Prelude.{codes, bytes_eq, IfSome}
use Rattle.std.specs.List.{All}
use Rattle.std.specs.Option.{option_and_then}
use Rattle.std.proofs.lemmas.Bool.{cases_Bool, both_ways}
use Rattle.std.proofs.lemmas.Slice.Eq.{bytes_eq-Decides}
use Rattle.std.proofs.lemmas.List.Elements.{All-nil, All-cons}
use Rattle.object_values.specs.declared.graph.PartDecl.{PartDecl}
use Rattle.object_values.specs.declared.graph.Kind.{Kind}
use Rattle.object_values.specs.declared.graph.Kind.TheVariants.{Simple, List as ListOf, Compound}
use Rattle.object_values.specs.declared.graph.Extra.{Extra}
use Rattle.object_values.specs.declared.graph.Extra.TheVariants.{Also, With}
use Rattle.object_values.specs.declared.graph.Make.{Make}
use Rattle.object_values.specs.declared.graph.Make.TheVariants.{Tool, Read, Each, Pack}
use Rattle.object_values.specs.declared.graph.Decl.{Decl}
use Rattle.object_values.specs.declared.graph.Decl.TheVariants.{ObjectType, Suffix, Param, Maker}
use Rattle.meaning_texts.specs.Classes.{is_name_byte, IsWord, IsId, IsName, IsStringText}
use Rattle.meaning_texts.specs.Limits.{extra_bound}
use Rattle.meaning_texts.specs.Tests.{is_string_text}
use Rattle.meaning_texts.proofs.Lemmas.{word_decides, id_decides, string_decides}
use Rattle.meaning_graph.specs.Tokens.{Token, word, string, semicolon, comma, opening, closing}
use Rattle.meaning_graph.specs.Grammar.{id_tokens, optional_tokens, part_tokens, kind_tokens, string_tokens, decl_tokens, graph_tokens, IsSpellablePart, IsSpellableKind, IsSpellableExtra, IsSpellableMake, IsSpellableDecl, HasNoSupers, IsInGrammar, HasSpelling}
use Rattle.meaning_graph.specs.Going.{Class, keyword, identifier, any_word, any_string, name_string, open_mark, accepts, Stage, between, kind, supers, super_ids, parts, ending, strings, used_ids, extras, Expected, expect, start, way, tool_front, extra_word, run}
use Rattle.meaning_graph.specs.TextLaws.{AreOfGraph}
use Rattle.meaning_graph.proofs.Decls.{extras_behind, uses_behind}

-- ---- what must come

no_run : (e : Expected) → ◌≡◌ {A = Option Expected} None (Some e) → ⊥
no_run e h = cc

inside : (e f : Expected) → ◌≡◌ {A = Option Expected} (Some e) (Some f) → e ≡ f
inside e f h = cc

not_empty : (c : Class) (cs : List Class) → ◌≡◌ {A = List Class} (c ∷ cs) [] → ⊥
not_empty c cs h = cc

-- the next token is of its class, and the rest leads back to the start
record Next (c : Class) (cs : List Class) (l : Stage) (us : List Token) : Type 0 where
  token : Token
  rest : List Token
  is : us ≡ token ∷ rest
  accepted : accepts c token ≡ true
  runs : run (expect cs l) rest ≡ Some start

next : (c : Class) (cs : List Class) (l : Stage) (us : List Token) → run (expect (c ∷ cs) l) us ≡ Some start → Next c cs l us
next c cs l [] h = absurd (not_empty c cs (ap (λ (e : Expected). e.must) (inside (expect (c ∷ cs) l) start h)))
next c cs l (t ∷ us) h = elim (cases_Bool (accepts c t)) [
  | inl e ↦ record { token = t; rest = us; is = refl; accepted = e; runs = rw e at h }
  | inr e ↦ absurd (no_run start (rw e at h))
]

record TextNext (P : List ℕ → Type 0) (make : List ℕ → Token) (cs : List Class) (l : Stage) (us : List Token) : Type 0 where
  text : List ℕ
  rest : List Token
  is : us ≡ make text ∷ rest
  class : P text
  runs : run (expect cs l) rest ≡ Some start

id_next : (cs : List Class) (l : Stage) (us : List Token) → run (expect (identifier ∷ cs) l) us ≡ Some start → TextNext IsId (λ x. word x) cs l us
id_next cs l us h = let n : Next identifier cs l us = next identifier cs l us h in id_of n.token n.rest n.is n.accepted n.runs
  where
    id_of : (t : Token) (rest : List Token) → us ≡ t ∷ rest → accepts identifier t ≡ true → run (expect cs l) rest ≡ Some start → TextNext IsId (λ x. word x) cs l us
    id_of (word v) rest is e r = record { text = v; rest = rest; is = is; class = (id_decides v).0 e; runs = r }
    id_of (string s) rest is e r = absurd (both_ways false refl e)
    id_of semicolon rest is e r = absurd (both_ways false refl e)
    id_of comma rest is e r = absurd (both_ways false refl e)
    id_of opening rest is e r = absurd (both_ways false refl e)
    id_of closing rest is e r = absurd (both_ways false refl e)

word_next : (cs : List Class) (l : Stage) (us : List Token) → run (expect (any_word ∷ cs) l) us ≡ Some start → TextNext IsWord (λ x. word x) cs l us
word_next cs l us h = let n : Next any_word cs l us = next any_word cs l us h in word_of n.token n.rest n.is n.accepted n.runs
  where
    word_of : (t : Token) (rest : List Token) → us ≡ t ∷ rest → accepts any_word t ≡ true → run (expect cs l) rest ≡ Some start → TextNext IsWord (λ x. word x) cs l us
    word_of (word v) rest is e r = record { text = v; rest = rest; is = is; class = (word_decides is_name_byte v).0 e; runs = r }
    word_of (string s) rest is e r = absurd (both_ways false refl e)
    word_of semicolon rest is e r = absurd (both_ways false refl e)
    word_of comma rest is e r = absurd (both_ways false refl e)
    word_of opening rest is e r = absurd (both_ways false refl e)
    word_of closing rest is e r = absurd (both_ways false refl e)

string_next : (cs : List Class) (l : Stage) (us : List Token) → run (expect (any_string ∷ cs) l) us ≡ Some start → TextNext IsStringText (λ x. string x) cs l us
string_next cs l us h = let n : Next any_string cs l us = next any_string cs l us h in string_of n.token n.rest n.is n.accepted n.runs
  where
    string_of : (t : Token) (rest : List Token) → us ≡ t ∷ rest → accepts any_string t ≡ true → run (expect cs l) rest ≡ Some start → TextNext IsStringText (λ x. string x) cs l us
    string_of (word v) rest is e r = absurd (both_ways false refl e)
    string_of (string s) rest is e r = record { text = s; rest = rest; is = is; class = (string_decides s).0 e; runs = r }
    string_of semicolon rest is e r = absurd (both_ways false refl e)
    string_of comma rest is e r = absurd (both_ways false refl e)
    string_of opening rest is e r = absurd (both_ways false refl e)
    string_of closing rest is e r = absurd (both_ways false refl e)

name_next : (cs : List Class) (l : Stage) (us : List Token) → run (expect (name_string ∷ cs) l) us ≡ Some start → TextNext IsName (λ x. string x) cs l us
name_next cs l us h = let n : Next name_string cs l us = next name_string cs l us h in name_of n.token n.rest n.is n.accepted n.runs
  where
    name_of : (t : Token) (rest : List Token) → us ≡ t ∷ rest → accepts name_string t ≡ true → run (expect cs l) rest ≡ Some start → TextNext IsName (λ x. string x) cs l us
    name_of (word v) rest is e r = absurd (both_ways false refl e)
    name_of (string s) rest is e r = record { text = s; rest = rest; is = is; class = (word_decides is_name_byte s).0 e; runs = r }
    name_of semicolon rest is e r = absurd (both_ways false refl e)
    name_of comma rest is e r = absurd (both_ways false refl e)
    name_of opening rest is e r = absurd (both_ways false refl e)
    name_of closing rest is e r = absurd (both_ways false refl e)

key_next : (w : List ℕ) (cs : List Class) (l : Stage) (us : List Token) → run (expect (keyword w ∷ cs) l) us ≡ Some start → TextNext (λ v. v ≡ w) (λ x. word x) cs l us
key_next w cs l us h = let n : Next (keyword w) cs l us = next (keyword w) cs l us h in key_of n.token n.rest n.is n.accepted n.runs
  where
    key_of : (t : Token) (rest : List Token) → us ≡ t ∷ rest → accepts (keyword w) t ≡ true → run (expect cs l) rest ≡ Some start → TextNext (λ v. v ≡ w) (λ x. word x) cs l us
    key_of (word v) rest is e r = record { text = v; rest = rest; is = is; class = (bytes_eq-Decides v w).0 e; runs = r }
    key_of (string s) rest is e r = absurd (both_ways false refl e)
    key_of semicolon rest is e r = absurd (both_ways false refl e)
    key_of comma rest is e r = absurd (both_ways false refl e)
    key_of opening rest is e r = absurd (both_ways false refl e)
    key_of closing rest is e r = absurd (both_ways false refl e)

record OpenNext (cs : List Class) (l : Stage) (us : List Token) : Type 0 where
  rest : List Token
  is : us ≡ opening ∷ rest
  runs : run (expect cs l) rest ≡ Some start

open_next : (cs : List Class) (l : Stage) (us : List Token) → run (expect (open_mark ∷ cs) l) us ≡ Some start → OpenNext cs l us
open_next cs l us h = let n : Next open_mark cs l us = next open_mark cs l us h in open_of n.token n.rest n.is n.accepted n.runs
  where
    open_of : (t : Token) (rest : List Token) → us ≡ t ∷ rest → accepts open_mark t ≡ true → run (expect cs l) rest ≡ Some start → OpenNext cs l us
    open_of (word v) rest is e r = absurd (both_ways false refl e)
    open_of (string s) rest is e r = absurd (both_ways false refl e)
    open_of semicolon rest is e r = absurd (both_ways false refl e)
    open_of comma rest is e r = absurd (both_ways false refl e)
    open_of opening rest is e r = record { rest = rest; is = is; runs = r }
    open_of closing rest is e r = absurd (both_ways false refl e)

-- ---- what the tokens after a stage are

record Begin (us : List Token) : Type 0 where
  decls : List Decl
  good : HasSpelling decls
  is : us ≡ graph_tokens decls

record Tail (us : List Token) : Type 0 where
  after : List Token
  is : us ≡ semicolon ∷ after
  begins : Begin after

abbrev more_ids : List (List ℕ) → List Token
more_ids [] = []
more_ids (x ∷ xs) = comma ∷ id_tokens (x ∷ xs)

ids_first : (x : List ℕ) (xs : List (List ℕ)) → id_tokens (x ∷ xs) ≡ word x ∷ more_ids xs
ids_first x [] = refl
ids_first x (y ∷ xs) = refl

abbrev more_parts : List PartDecl → List Token
more_parts [] = []
more_parts (p ∷ ps) = comma ∷ part_tokens (p ∷ ps)

parts_first : (p : PartDecl) (ps : List PartDecl) → part_tokens (p ∷ ps) ≡ word p.name ∷ word p.of ∷ more_parts ps
parts_first p [] = refl
parts_first p (q ∷ ps) = refl

record SuperTail (us : List Token) : Type 0 where
  ids : List (List ℕ)
  all : All IsId ids
  rest : List Token
  is : us ≡ optional_tokens (codes "is") ids ++ rest
  tail : Tail rest

record IdsTail (us : List Token) : Type 0 where
  ids : List (List ℕ)
  all : All IsId ids
  rest : List Token
  is : us ≡ more_ids ids ++ rest
  tail : Tail rest

record KindTail (us : List Token) : Type 0 where
  kind_is : Kind
  ids : List (List ℕ)
  spellable : IsSpellableKind kind_is
  all : All IsId ids
  none : HasNoSupers kind_is ids
  rest : List Token
  is : us ≡ kind_tokens kind_is ids ++ rest
  tail : Tail rest

record PartsTail (us : List Token) : Type 0 where
  part_list : List PartDecl
  all : All IsSpellablePart part_list
  rest : List Token
  is : us ≡ more_parts part_list ++ closing ∷ rest
  tail : Tail rest

record ExtraTail (us : List Token) : Type 0 where
  extra_list : List Extra
  closure : Option (List ℕ)
  all : All IsSpellableExtra extra_list
  id : IfSome closure IsId
  few : length extra_list ≤ length us
  rest : List Token
  is : us ≡ extras_behind extra_list closure ++ rest
  tail : Tail rest

record UsedTail (us : List Token) : Type 0 where
  ids : List (List ℕ)
  all : All IsId ids
  behind : List Token
  is : us ≡ more_ids ids ++ behind
  extra : ExtraTail behind
  short : length behind ≤ length us

record StringTail (us : List Token) : Type 0 where
  words : List (List ℕ)
  each : All IsStringText words
  ids : List (List ℕ)
  all : All IsId ids
  behind : List Token
  is : us ≡ string_tokens words ++ (optional_tokens (codes "uses") ids ++ behind)
  extra : ExtraTail behind
  short : length behind ≤ length us

abbrev Answer : Stage → List Token → Type 0
Answer between us = Begin us
Answer kind us = KindTail us
Answer supers us = SuperTail us
Answer super_ids us = IdsTail us
Answer parts us = PartsTail us
Answer ending us = Tail us
Answer strings us = StringTail us
Answer used_ids us = UsedTail us
Answer extras us = ExtraTail us

-- shorter tokens that lead back to the start are what their stage says
abbrev Below : List Token → Type 0
Below us = (l : Stage) (vs : List Token) → length vs ≤ length us → run (expect [] l) vs ≡ Some start → Answer l vs

-- ---- extras

same_word : (w v : List ℕ) → bytes_eq w v ≡ true → w ≡ v
same_word w v e = (bytes_eq-Decides w v).0 e

also_answer : (w : List ℕ) (us : List Token) → Below us → w ≡ codes "also" → run (expect (identifier ∷ []) extras) us ≡ Some start → ExtraTail (word w ∷ us)
also_answer w us ih e h =
    let n : TextNext IsId (λ x. word x) [] extras us = id_next [] extras us h in
    let len : length us ≡ suc (length n.rest) = ap length n.is in
    let x : ExtraTail n.rest = ih extras n.rest (omega arith) n.runs in
    let few : length x.extra_list ≤ length n.rest = x.few in
    let whole : us ≡ word n.text ∷ (extras_behind x.extra_list x.closure ++ x.rest) = n.is ∙ ap (λ ts. word n.text ∷ ts) x.is in
    record { extra_list = Also n.text ∷ x.extra_list; closure = x.closure; all = All-cons IsSpellableExtra (Also n.text) x.extra_list n.class x.all; id = x.id; few = omega arith; rest = x.rest; is = ap₂ (λ (k : List ℕ) ts. word k ∷ ts) e whole; tail = x.tail }

with_answer : (w : List ℕ) (us : List Token) → Below us → w ≡ codes "with" → run (expect (name_string ∷ []) extras) us ≡ Some start → ExtraTail (word w ∷ us)
with_answer w us ih e h =
    let n : TextNext IsName (λ x. string x) [] extras us = name_next [] extras us h in
    let len : length us ≡ suc (length n.rest) = ap length n.is in
    let x : ExtraTail n.rest = ih extras n.rest (omega arith) n.runs in
    let few : length x.extra_list ≤ length n.rest = x.few in
    let whole : us ≡ string n.text ∷ (extras_behind x.extra_list x.closure ++ x.rest) = n.is ∙ ap (λ ts. string n.text ∷ ts) x.is in
    record { extra_list = With n.text ∷ x.extra_list; closure = x.closure; all = All-cons IsSpellableExtra (With n.text) x.extra_list n.class x.all; id = x.id; few = omega arith; rest = x.rest; is = ap₂ (λ (k : List ℕ) ts. word k ∷ ts) e whole; tail = x.tail }

closure_answer : (w : List ℕ) (us : List Token) → Below us → w ≡ codes "closure" → run (expect (identifier ∷ []) ending) us ≡ Some start → ExtraTail (word w ∷ us)
closure_answer w us ih e h =
    let n : TextNext IsId (λ x. word x) [] ending us = id_next [] ending us h in
    let len : length us ≡ suc (length n.rest) = ap length n.is in
    let x : Tail n.rest = ih ending n.rest (omega arith) n.runs in
    record { extra_list = []; closure = Some n.text; all = All-nil IsSpellableExtra; id = n.class; few = omega arith; rest = n.rest; is = ap₂ (λ (k : List ℕ) ts. word k ∷ ts) e n.is; tail = x }

extra_answer : (w : List ℕ) (us : List Token) → Below us → option_and_then (λ (f : Expected). run f us) (extra_word w) ≡ Some start → ExtraTail (word w ∷ us)
extra_answer w us ih h = elim (cases_Bool (bytes_eq w (codes "also"))) [
  | inl e ↦ also_answer w us ih (same_word w (codes "also") e) (rw e at h)
  | inr e ↦ let h1 = rw e at h in elim (cases_Bool (bytes_eq w (codes "with"))) [
    | inl f ↦ with_answer w us ih (same_word w (codes "with") f) (rw f at h1)
    | inr f ↦ let h2 = rw f at h1 in elim (cases_Bool (bytes_eq w (codes "closure"))) [
      | inl g ↦ closure_answer w us ih (same_word w (codes "closure") g) (rw g at h2)
      | inr g ↦ absurd (no_run start (rw g at h2))
    ]
  ]
]

-- ---- strings and used parameters

no_extras : (us : List Token) → Tail us → ExtraTail us
no_extras us t = record { extra_list = []; closure = None; all = All-nil IsSpellableExtra; id = tt; few = omega arith; rest = us; is = refl; tail = t }

no_used : (us : List Token) → ExtraTail us → UsedTail us
no_used us x = record { ids = []; all = All-nil IsId; behind = us; is = refl; extra = x; short = omega arith }

no_strings : (us : List Token) → ExtraTail us → StringTail us
no_strings us x = record { words = []; each = All-nil IsStringText; ids = []; all = All-nil IsId; behind = us; is = refl; extra = x; short = omega arith }

-- an identifier, and what follows it
record OneUsed (us : List Token) : Type 0 where
  first : List ℕ
  ids : List (List ℕ)
  all : All IsId (first ∷ ids)
  behind : List Token
  is : us ≡ id_tokens (first ∷ ids) ++ behind
  extra : ExtraTail behind
  short : length behind ≤ length us

used_answer : (us : List Token) → Below us → run (expect (identifier ∷ []) used_ids) us ≡ Some start → OneUsed us
used_answer us ih h =
    let n : TextNext IsId (λ x. word x) [] used_ids us = id_next [] used_ids us h in
    let len : length us ≡ suc (length n.rest) = ap length n.is in
    let x : UsedTail n.rest = ih used_ids n.rest (omega arith) n.runs in
    let s : length x.behind ≤ length n.rest = x.short in
    let whole : us ≡ word n.text ∷ (more_ids x.ids ++ x.behind) = n.is ∙ ap (λ ts. word n.text ∷ ts) x.is in
    record { first = n.text; ids = x.ids; all = All-cons IsId n.text x.ids n.class x.all; behind = x.behind; is = whole ∙ ap (λ ts. ts ++ x.behind) (sym (ids_first n.text x.ids)); extra = x.extra; short = omega arith }

uses_answer : (w : List ℕ) (us : List Token) → Below us → w ≡ codes "uses" → run (expect (identifier ∷ []) used_ids) us ≡ Some start → StringTail (word w ∷ us)
uses_answer w us ih e h =
    let u : OneUsed us = used_answer us ih h in
    let s : length u.behind ≤ length us = u.short in
    record { words = []; each = All-nil IsStringText; ids = u.first ∷ u.ids; all = u.all; behind = u.behind; is = ap₂ (λ (k : List ℕ) ts. word k ∷ ts) e u.is; extra = u.extra; short = omega arith }

strings_word : (w : List ℕ) (us : List Token) → Below us → run (expect [] strings) (word w ∷ us) ≡ Some start → StringTail (word w ∷ us)
strings_word w us ih h = elim (cases_Bool (bytes_eq w (codes "uses"))) [
  | inl e ↦ uses_answer w us ih (same_word w (codes "uses") e) (rw e at h)
  | inr e ↦ no_strings (word w ∷ us) (extra_answer w us ih (rw e at h))
]

strings_string : (s : List ℕ) (us : List Token) → Below us → run (expect [] strings) (string s ∷ us) ≡ Some start → StringTail (string s ∷ us)
strings_string s us ih h = elim (cases_Bool (is_string_text s)) [
  | inl e ↦
      let x : StringTail us = ih strings us (omega arith) (rw e at h) in
      let l : length x.behind ≤ length us = x.short in
      record { words = s ∷ x.words; each = All-cons IsStringText s x.words ((string_decides s).0 e) x.each; ids = x.ids; all = x.all; behind = x.behind; is = ap (λ ts. string s ∷ ts) x.is; extra = x.extra; short = omega arith }
  | inr e ↦ absurd (no_run start (rw e at h))
]

used_comma : (us : List Token) → Below us → run (expect (identifier ∷ []) used_ids) us ≡ Some start → UsedTail (comma ∷ us)
used_comma us ih h =
    let u : OneUsed us = used_answer us ih h in
    let s : length u.behind ≤ length us = u.short in
    record { ids = u.first ∷ u.ids; all = u.all; behind = u.behind; is = ap (λ ts. comma ∷ ts) u.is; extra = u.extra; short = omega arith }

-- ---- supertypes and kinds

record OneSuper (us : List Token) : Type 0 where
  first : List ℕ
  ids : List (List ℕ)
  all : All IsId (first ∷ ids)
  rest : List Token
  is : us ≡ id_tokens (first ∷ ids) ++ rest
  tail : Tail rest

super_answer : (us : List Token) → Below us → run (expect (identifier ∷ []) super_ids) us ≡ Some start → OneSuper us
super_answer us ih h =
    let n : TextNext IsId (λ x. word x) [] super_ids us = id_next [] super_ids us h in
    let len : length us ≡ suc (length n.rest) = ap length n.is in
    let x : IdsTail n.rest = ih super_ids n.rest (omega arith) n.runs in
    let whole : us ≡ word n.text ∷ (more_ids x.ids ++ x.rest) = n.is ∙ ap (λ ts. word n.text ∷ ts) x.is in
    record { first = n.text; ids = x.ids; all = All-cons IsId n.text x.ids n.class x.all; rest = x.rest; is = whole ∙ ap (λ ts. ts ++ x.rest) (sym (ids_first n.text x.ids)); tail = x.tail }

supers_word : (w : List ℕ) (us : List Token) → Below us → run (expect [] supers) (word w ∷ us) ≡ Some start → SuperTail (word w ∷ us)
supers_word w us ih h = elim (cases_Bool (bytes_eq w (codes "is"))) [
  | inl e ↦ let u : OneSuper us = super_answer us ih (rw e at h) in record { ids = u.first ∷ u.ids; all = u.all; rest = u.rest; is = ap₂ (λ (k : List ℕ) ts. word k ∷ ts) (same_word w (codes "is") e) u.is; tail = u.tail }
  | inr e ↦ absurd (no_run start (rw e at h))
]

super_comma : (us : List Token) → Below us → run (expect (identifier ∷ []) super_ids) us ≡ Some start → IdsTail (comma ∷ us)
super_comma us ih h = let u : OneSuper us = super_answer us ih h in record { ids = u.first ∷ u.ids; all = u.all; rest = u.rest; is = ap (λ ts. comma ∷ ts) u.is; tail = u.tail }

record OnePart (us : List Token) : Type 0 where
  first : PartDecl
  more : List PartDecl
  all : All IsSpellablePart (first ∷ more)
  rest : List Token
  is : us ≡ part_tokens (first ∷ more) ++ closing ∷ rest
  tail : Tail rest

part_answer : (us : List Token) → Below us → run (expect (identifier ∷ identifier ∷ []) parts) us ≡ Some start → OnePart us
part_answer us ih h =
    let n : TextNext IsId (λ x. word x) (identifier ∷ []) parts us = id_next (identifier ∷ []) parts us h in
    let m : TextNext IsId (λ x. word x) [] parts n.rest = id_next [] parts n.rest n.runs in
    let len : length us ≡ suc (length n.rest) = ap length n.is in
    let next_len : length n.rest ≡ suc (length m.rest) = ap length m.is in
    let x : PartsTail m.rest = ih parts m.rest (omega arith) m.runs in
    let p : PartDecl = record { name = n.text; of = m.text } in
    let whole : us ≡ word n.text ∷ word m.text ∷ (more_parts x.part_list ++ closing ∷ x.rest) = n.is ∙ ap (λ ts. word n.text ∷ ts) (m.is ∙ ap (λ ts. word m.text ∷ ts) x.is) in
    record { first = p; more = x.part_list; all = All-cons IsSpellablePart p x.part_list (record { name = n.class; of = m.class }) x.all; rest = x.rest; is = whole ∙ ap (λ ts. ts ++ closing ∷ x.rest) (sym (parts_first p x.part_list)); tail = x.tail }

part_comma : (us : List Token) → Below us → run (expect (identifier ∷ identifier ∷ []) parts) us ≡ Some start → PartsTail (comma ∷ us)
part_comma us ih h = let u : OnePart us = part_answer us ih h in record { part_list = u.first ∷ u.more; all = u.all; rest = u.rest; is = ap (λ ts. comma ∷ ts) u.is; tail = u.tail }

simple_answer : (w : List ℕ) (us : List Token) → Below us → w ≡ codes "simple" → run (expect [] supers) us ≡ Some start → KindTail (word w ∷ us)
simple_answer w us ih e h =
    let x : SuperTail us = ih supers us (omega arith) h in
    record { kind_is = Simple; ids = x.ids; spellable = tt; all = x.all; none = tt; rest = x.rest; is = ap₂ (λ (k : List ℕ) ts. word k ∷ ts) e x.is; tail = x.tail }

list_answer : (w : List ℕ) (us : List Token) → Below us → w ≡ codes "list" → run (expect (keyword (codes "of") ∷ identifier ∷ []) supers) us ≡ Some start → KindTail (word w ∷ us)
list_answer w us ih e h =
    let k : TextNext (λ v. v ≡ codes "of") (λ x. word x) (identifier ∷ []) supers us = key_next (codes "of") (identifier ∷ []) supers us h in
    let n : TextNext IsId (λ x. word x) [] supers k.rest = id_next [] supers k.rest k.runs in
    let len : length us ≡ suc (length k.rest) = ap length k.is in
    let next_len : length k.rest ≡ suc (length n.rest) = ap length n.is in
    let x : SuperTail n.rest = ih supers n.rest (omega arith) n.runs in
    let inner : us ≡ word (codes "of") ∷ word n.text ∷ (optional_tokens (codes "is") x.ids ++ x.rest) = k.is ∙ ap₂ (λ (v : List ℕ) ts. word v ∷ ts) k.class (n.is ∙ ap (λ ts. word n.text ∷ ts) x.is) in
    record { kind_is = ListOf n.text; ids = x.ids; spellable = n.class; all = x.all; none = tt; rest = x.rest; is = ap₂ (λ (v : List ℕ) ts. word v ∷ ts) e inner; tail = x.tail }

compound_answer : (w : List ℕ) (us : List Token) → Below us → w ≡ codes "compound" → run (expect (open_mark ∷ identifier ∷ identifier ∷ []) parts) us ≡ Some start → KindTail (word w ∷ us)
compound_answer w us ih e h =
    let o : OpenNext (identifier ∷ identifier ∷ []) parts us = open_next (identifier ∷ identifier ∷ []) parts us h in
    let len : length us ≡ suc (length o.rest) = ap length o.is in
    let x : OnePart o.rest = part_answer o.rest (λ l vs low r. ih l vs (omega arith) r) o.runs in
    let inner : us ≡ opening ∷ ((part_tokens (x.first ∷ x.more) ++ closing ∷ []) ++ x.rest) = o.is ∙ ap (λ ts. opening ∷ ts) (x.is ∙ sym (append_assoc (part_tokens (x.first ∷ x.more)) (closing ∷ []) x.rest)) in
    record { kind_is = Compound (x.first ∷ x.more); ids = []; spellable = record { some = omega arith; each = x.all }; all = All-nil IsId; none = refl; rest = x.rest; is = ap₂ (λ (v : List ℕ) ts. word v ∷ ts) e inner; tail = x.tail }

kind_answer : (w : List ℕ) (us : List Token) → Below us → run (expect [] kind) (word w ∷ us) ≡ Some start → KindTail (word w ∷ us)
kind_answer w us ih h = elim (cases_Bool (bytes_eq w (codes "simple"))) [
  | inl e ↦ simple_answer w us ih (same_word w (codes "simple") e) (rw e at h)
  | inr e ↦ let h1 = rw e at h in elim (cases_Bool (bytes_eq w (codes "list"))) [
    | inl f ↦ list_answer w us ih (same_word w (codes "list") f) (rw f at h1)
    | inr f ↦ let h2 = rw f at h1 in elim (cases_Bool (bytes_eq w (codes "compound"))) [
      | inl g ↦ compound_answer w us ih (same_word w (codes "compound") g) (rw g at h2)
      | inr g ↦ absurd (no_run start (rw g at h2))
    ]
  ]
]

-- ---- declarations

begin_with : (d : Decl) (rest us : List Token) → IsSpellableDecl d → IsInGrammar d → Tail rest → us ≡ decl_tokens d ++ rest → Begin us
begin_with d rest us s g t e =
    let b : Begin t.after = t.begins in
    let tail_is : rest ≡ semicolon ∷ graph_tokens b.decls = t.is ∙ ap (λ ts. semicolon ∷ ts) b.is in
    record {
      decls = d ∷ b.decls;
      good = record { spellable = All-cons IsSpellableDecl d b.decls s b.good.spellable; grammar = All-cons IsInGrammar d b.decls g b.good.grammar };
      is = e ∙ ap (λ ts. decl_tokens d ++ ts) tail_is ∙ sym (append_assoc (decl_tokens d) (semicolon ∷ []) (graph_tokens b.decls));
    }

type_answer : (w : List ℕ) (us : List Token) → Below us → w ≡ codes "type" → run (expect (identifier ∷ []) kind) us ≡ Some start → Begin (word w ∷ us)
type_answer w us ih e h =
    let n : TextNext IsId (λ x. word x) [] kind us = id_next [] kind us h in
    let len : length us ≡ suc (length n.rest) = ap length n.is in
    let x : KindTail n.rest = ih kind n.rest (omega arith) n.runs in
    let inner : us ≡ word n.text ∷ (kind_tokens x.kind_is x.ids ++ x.rest) = n.is ∙ ap (λ ts. word n.text ∷ ts) x.is in
    begin_with (ObjectType (record { name = n.text; kind = x.kind_is; supers = x.ids })) x.rest (word w ∷ us) (record { name = n.class; kind = x.spellable; supers = x.all }) x.none x.tail (ap₂ (λ (v : List ℕ) ts. word v ∷ ts) e inner)

suffix_answer : (w : List ℕ) (us : List Token) → Below us → w ≡ codes "suffix" → run (expect (any_word ∷ identifier ∷ []) ending) us ≡ Some start → Begin (word w ∷ us)
suffix_answer w us ih e h =
    let n : TextNext IsWord (λ x. word x) (identifier ∷ []) ending us = word_next (identifier ∷ []) ending us h in
    let m : TextNext IsId (λ x. word x) [] ending n.rest = id_next [] ending n.rest n.runs in
    let len : length us ≡ suc (length n.rest) = ap length n.is in
    let next_len : length n.rest ≡ suc (length m.rest) = ap length m.is in
    let x : Tail m.rest = ih ending m.rest (omega arith) m.runs in
    let inner : us ≡ word n.text ∷ word m.text ∷ m.rest = n.is ∙ ap (λ ts. word n.text ∷ ts) m.is in
    begin_with (Suffix (record { suffix = n.text; of = m.text })) m.rest (word w ∷ us) (record { suffix = n.class; of = m.class }) tt x (ap₂ (λ (v : List ℕ) ts. word v ∷ ts) e inner)

param_answer : (w : List ℕ) (us : List Token) → Below us → w ≡ codes "param" → run (expect (identifier ∷ []) ending) us ≡ Some start → Begin (word w ∷ us)
param_answer w us ih e h =
    let n : TextNext IsId (λ x. word x) [] ending us = id_next [] ending us h in
    let len : length us ≡ suc (length n.rest) = ap length n.is in
    let x : Tail n.rest = ih ending n.rest (omega arith) n.runs in
    begin_with (Param n.text) n.rest (word w ∷ us) n.class tt x (ap₂ (λ (v : List ℕ) ts. word v ∷ ts) e n.is)

-- the name and the way of a maker, and what is expected after them
record WayNext (cs : List Class) (l : Stage) (us : List Token) : Type 0 where
  from : List ℕ
  to : List ℕ
  from_id : IsId from
  to_id : IsId to
  rest : List Token
  is : us ≡ word (codes "from") ∷ word from ∷ word (codes "to") ∷ word to ∷ rest
  short : length us ≡ suc (suc (suc (suc (length rest))))
  runs : run (expect cs l) rest ≡ Some start

way_next : (cs : List Class) (l : Stage) (us : List Token) → run (expect (keyword (codes "from") ∷ identifier ∷ keyword (codes "to") ∷ identifier ∷ cs) l) us ≡ Some start → WayNext cs l us
way_next cs l us h =
    let a : TextNext (λ v. v ≡ codes "from") (λ x. word x) (identifier ∷ keyword (codes "to") ∷ identifier ∷ cs) l us = key_next (codes "from") (identifier ∷ keyword (codes "to") ∷ identifier ∷ cs) l us h in
    let b : TextNext IsId (λ x. word x) (keyword (codes "to") ∷ identifier ∷ cs) l a.rest = id_next (keyword (codes "to") ∷ identifier ∷ cs) l a.rest a.runs in
    let c : TextNext (λ v. v ≡ codes "to") (λ x. word x) (identifier ∷ cs) l b.rest = key_next (codes "to") (identifier ∷ cs) l b.rest b.runs in
    let d : TextNext IsId (λ x. word x) cs l c.rest = id_next cs l c.rest c.runs in
    let la : length us ≡ suc (length a.rest) = ap length a.is in
    let lb : length a.rest ≡ suc (length b.rest) = ap length b.is in
    let lc : length b.rest ≡ suc (length c.rest) = ap length c.is in
    let ld : length c.rest ≡ suc (length d.rest) = ap length d.is in
    let e : b.rest ≡ word (codes "to") ∷ word d.text ∷ d.rest = c.is ∙ ap₂ (λ (v : List ℕ) ts. word v ∷ ts) c.class d.is in
    let f : a.rest ≡ word b.text ∷ word (codes "to") ∷ word d.text ∷ d.rest = b.is ∙ ap (λ ts. word b.text ∷ ts) e in
    record { from = b.text; to = d.text; from_id = b.class; to_id = d.class; rest = d.rest; is = a.is ∙ ap₂ (λ (v : List ℕ) ts. word v ∷ ts) a.class f; short = omega arith; runs = d.runs }

-- a read, an each or a pack
record PlainMaker (us : List Token) : Type 0 where
  name : List ℕ
  from : List ℕ
  to : List ℕ
  name_id : IsId name
  from_id : IsId from
  to_id : IsId to
  rest : List Token
  is : us ≡ word name ∷ word (codes "from") ∷ word from ∷ word (codes "to") ∷ word to ∷ rest
  tail : Tail rest

plain_answer : (us : List Token) → Below us → run (expect way ending) us ≡ Some start → PlainMaker us
plain_answer us ih h =
    let cs : List Class = keyword (codes "from") ∷ identifier ∷ keyword (codes "to") ∷ identifier ∷ [] in
    let n : TextNext IsId (λ x. word x) cs ending us = id_next cs ending us h in
    let m : WayNext [] ending n.rest = way_next [] ending n.rest n.runs in
    let len : length us ≡ suc (length n.rest) = ap length n.is in
    let next_len : length n.rest ≡ suc (suc (suc (suc (length m.rest)))) = m.short in
    record { name = n.text; from = m.from; to = m.to; name_id = n.class; from_id = m.from_id; to_id = m.to_id; rest = m.rest; is = n.is ∙ ap (λ ts. word n.text ∷ ts) m.is; tail = ih ending m.rest (omega arith) m.runs }

made_answer : (make : Make) (key w : List ℕ) (us : List Token) → IsSpellableMake make → ((name from to : List ℕ) → decl_tokens (Maker (record { name = name; make = make; from = from; to = to })) ≡ word key ∷ word name ∷ word (codes "from") ∷ word from ∷ word (codes "to") ∷ word to ∷ [])
    → Below us → w ≡ key → run (expect way ending) us ≡ Some start → Begin (word w ∷ us)
made_answer make key w us s t ih e h =
    let p : PlainMaker us = plain_answer us ih h in
    let d : Decl = Maker (record { name = p.name; make = make; from = p.from; to = p.to }) in
    let whole : word w ∷ us ≡ decl_tokens d ++ p.rest = ap₂ (λ (v : List ℕ) ts. word v ∷ ts) e p.is ∙ ap (λ ts. ts ++ p.rest) (sym (t p.name p.from p.to)) in
    begin_with d p.rest (word w ∷ us) (record { name = p.name_id; make = s; from = p.from_id; to = p.to_id }) tt p.tail whole

-- a tool up to its first word, and what follows it
record ToolNext (us : List Token) : Type 0 where
  name : List ℕ
  version : List ℕ
  from : List ℕ
  to : List ℕ
  first : List ℕ
  name_id : IsId name
  version_word : IsWord version
  from_id : IsId from
  to_id : IsId to
  first_string : IsStringText first
  rest : List Token
  is : us ≡ word name ∷ word version ∷ word (codes "from") ∷ word from ∷ word (codes "to") ∷ word to ∷ word (codes "run") ∷ string first ∷ rest
  short : length rest ≤ length us
  runs : run (expect [] strings) rest ≡ Some start

tool_next : (us : List Token) → run (expect tool_front strings) us ≡ Some start → ToolNext us
tool_next us h =
    let behind : List Class = keyword (codes "run") ∷ any_string ∷ [] in
    let ways : List Class = keyword (codes "from") ∷ identifier ∷ keyword (codes "to") ∷ identifier ∷ behind in
    let a : TextNext IsId (λ x. word x) (any_word ∷ ways) strings us = id_next (any_word ∷ ways) strings us h in
    let b : TextNext IsWord (λ x. word x) ways strings a.rest = word_next ways strings a.rest a.runs in
    let c : WayNext behind strings b.rest = way_next behind strings b.rest b.runs in
    let d : TextNext (λ v. v ≡ codes "run") (λ x. word x) (any_string ∷ []) strings c.rest = key_next (codes "run") (any_string ∷ []) strings c.rest c.runs in
    let e : TextNext IsStringText (λ x. string x) [] strings d.rest = string_next [] strings d.rest d.runs in
    let la : length us ≡ suc (length a.rest) = ap length a.is in
    let lb : length a.rest ≡ suc (length b.rest) = ap length b.is in
    let lc : length b.rest ≡ suc (suc (suc (suc (length c.rest)))) = c.short in
    let ld : length c.rest ≡ suc (length d.rest) = ap length d.is in
    let le : length d.rest ≡ suc (length e.rest) = ap length e.is in
    let x : c.rest ≡ word (codes "run") ∷ string e.text ∷ e.rest = d.is ∙ ap₂ (λ (v : List ℕ) ts. word v ∷ ts) d.class e.is in
    let y : b.rest ≡ word (codes "from") ∷ word c.from ∷ word (codes "to") ∷ word c.to ∷ word (codes "run") ∷ string e.text ∷ e.rest = c.is ∙ ap (λ ts. word (codes "from") ∷ word c.from ∷ word (codes "to") ∷ word c.to ∷ ts) x in
    record {
      name = a.text;
      version = b.text;
      from = c.from;
      to = c.to;
      first = e.text;
      name_id = a.class;
      version_word = b.class;
      from_id = c.from_id;
      to_id = c.to_id;
      first_string = e.class;
      rest = e.rest;
      is = a.is ∙ ap (λ ts. word a.text ∷ ts) (b.is ∙ ap (λ ts. word b.text ∷ ts) y);
      short = omega arith;
      runs = e.runs;
    }

tool_answer : (w : List ℕ) (us : List Token) → length us < extra_bound → Below us → w ≡ codes "tool" → run (expect tool_front strings) us ≡ Some start → Begin (word w ∷ us)
tool_answer w us bound ih e h =
    let n : ToolNext us = tool_next us h in
    let x : StringTail n.rest = ih strings n.rest n.short n.runs in
    let y : ExtraTail x.behind = x.extra in
    let short : length n.rest ≤ length us = n.short in
    let nearer : length x.behind ≤ length n.rest = x.short in
    let few : length y.extra_list ≤ length x.behind = y.few in
    let d : Decl = Maker (record { name = n.name; make = Tool (record { version = n.version; words = n.first ∷ x.words; uses = x.ids; extras = y.extra_list; closure = y.closure }); from = n.from; to = n.to }) in
    let joined : optional_tokens (codes "uses") x.ids ++ x.behind ≡ uses_behind x.ids y.extra_list y.closure ++ y.rest
    = ap (λ ts. optional_tokens (codes "uses") x.ids ++ ts) y.is ∙ sym (append_assoc (optional_tokens (codes "uses") x.ids) (extras_behind y.extra_list y.closure) y.rest) in
    let inner : n.rest ≡ (string_tokens x.words ++ uses_behind x.ids y.extra_list y.closure) ++ y.rest
    = x.is ∙ ap (λ ts. string_tokens x.words ++ ts) joined ∙ sym (append_assoc (string_tokens x.words) (uses_behind x.ids y.extra_list y.closure) y.rest) in
    let whole : word w ∷ us ≡ decl_tokens d ++ y.rest
    = ap₂ (λ (v : List ℕ) ts. word v ∷ ts) e (n.is ∙ ap (λ ts. word n.name ∷ word n.version ∷ word (codes "from") ∷ word n.from ∷ word (codes "to") ∷ word n.to ∷ word (codes "run") ∷ string n.first ∷ ts) inner) in
    begin_with d y.rest (word w ∷ us)
    (record { name = n.name_id; make = record { version = n.version_word; some = omega arith; words = All-cons IsStringText n.first x.words n.first_string x.each; uses = x.all; few = omega arith; extras = y.all; closure = y.id }; from = n.from_id; to = n.to_id })
    tt y.tail whole

decl_answer : (w : List ℕ) (us : List Token) → length us < extra_bound → Below us → run start (word w ∷ us) ≡ Some start → Begin (word w ∷ us)
decl_answer w us bound ih h = elim (cases_Bool (bytes_eq w (codes "type"))) [
  | inl e ↦ type_answer w us ih (same_word w (codes "type") e) (rw e at h)
  | inr e ↦ let h1 = rw e at h in elim (cases_Bool (bytes_eq w (codes "suffix"))) [
    | inl e ↦ suffix_answer w us ih (same_word w (codes "suffix") e) (rw e at h1)
    | inr e ↦ let h2 = rw e at h1 in elim (cases_Bool (bytes_eq w (codes "param"))) [
      | inl e ↦ param_answer w us ih (same_word w (codes "param") e) (rw e at h2)
      | inr e ↦ let h3 = rw e at h2 in elim (cases_Bool (bytes_eq w (codes "tool"))) [
        | inl e ↦ tool_answer w us bound ih (same_word w (codes "tool") e) (rw e at h3)
        | inr e ↦ let h4 = rw e at h3 in elim (cases_Bool (bytes_eq w (codes "read"))) [
          | inl e ↦ made_answer Read (codes "read") w us tt (λ n f t. refl) ih (same_word w (codes "read") e) (rw e at h4)
          | inr e ↦ let h5 = rw e at h4 in elim (cases_Bool (bytes_eq w (codes "each"))) [
            | inl e ↦ made_answer Each (codes "each") w us tt (λ n f t. refl) ih (same_word w (codes "each") e) (rw e at h5)
            | inr e ↦ let h6 = rw e at h5 in elim (cases_Bool (bytes_eq w (codes "pack"))) [
              | inl e ↦ made_answer Pack (codes "pack") w us tt (λ n f t. refl) ih (same_word w (codes "pack") e) (rw e at h6)
              | inr e ↦ absurd (no_run start (rw e at h6))
            ]
          ]
        ]
      ]
    ]
  ]
]

-- ---- all stages

at_end : (l : Stage) → ◌≡◌ {A = Option Expected} (Some (expect [] l)) (Some start) → Answer l []
at_end between h = record { decls = []; good = record { spellable = All-nil IsSpellableDecl; grammar = All-nil IsInGrammar }; is = refl }
at_end kind h = let e : kind ≡ between = ap (λ (x : Expected). x.stage) (inside (expect [] kind) start h) in let n : ⊥ = cc in absurd n
at_end supers h = let e : supers ≡ between = ap (λ (x : Expected). x.stage) (inside (expect [] supers) start h) in let n : ⊥ = cc in absurd n
at_end super_ids h = let e : super_ids ≡ between = ap (λ (x : Expected). x.stage) (inside (expect [] super_ids) start h) in let n : ⊥ = cc in absurd n
at_end parts h = let e : parts ≡ between = ap (λ (x : Expected). x.stage) (inside (expect [] parts) start h) in let n : ⊥ = cc in absurd n
at_end ending h = let e : ending ≡ between = ap (λ (x : Expected). x.stage) (inside (expect [] ending) start h) in let n : ⊥ = cc in absurd n
at_end strings h = let e : strings ≡ between = ap (λ (x : Expected). x.stage) (inside (expect [] strings) start h) in let n : ⊥ = cc in absurd n
at_end used_ids h = let e : used_ids ≡ between = ap (λ (x : Expected). x.stage) (inside (expect [] used_ids) start h) in let n : ⊥ = cc in absurd n
at_end extras h = let e : extras ≡ between = ap (λ (x : Expected). x.stage) (inside (expect [] extras) start h) in let n : ⊥ = cc in absurd n

ended : (us : List Token) → Below us → run start us ≡ Some start → Tail (semicolon ∷ us)
ended us ih h = record { after = us; is = refl; begins = ih between us (omega arith) h }

no_ids : (us : List Token) → Tail us → IdsTail us
no_ids us t = record { ids = []; all = All-nil IsId; rest = us; is = refl; tail = t }

one_step : (l : Stage) (t : Token) (us : List Token) → length us < extra_bound → Below us → run (expect [] l) (t ∷ us) ≡ Some start → Answer l (t ∷ us)
one_step between (word w) us bound ih h = decl_answer w us bound ih h
one_step between (string s) us bound ih h = absurd (no_run start h)
one_step between semicolon us bound ih h = absurd (no_run start h)
one_step between comma us bound ih h = absurd (no_run start h)
one_step between opening us bound ih h = absurd (no_run start h)
one_step between closing us bound ih h = absurd (no_run start h)
one_step kind (word w) us bound ih h = kind_answer w us ih h
one_step kind (string s) us bound ih h = absurd (no_run start h)
one_step kind semicolon us bound ih h = absurd (no_run start h)
one_step kind comma us bound ih h = absurd (no_run start h)
one_step kind opening us bound ih h = absurd (no_run start h)
one_step kind closing us bound ih h = absurd (no_run start h)
one_step supers (word w) us bound ih h = supers_word w us ih h
one_step supers (string s) us bound ih h = absurd (no_run start h)
one_step supers semicolon us bound ih h = record { ids = []; all = All-nil IsId; rest = semicolon ∷ us; is = refl; tail = ended us ih h }
one_step supers comma us bound ih h = absurd (no_run start h)
one_step supers opening us bound ih h = absurd (no_run start h)
one_step supers closing us bound ih h = absurd (no_run start h)
one_step super_ids (word w) us bound ih h = absurd (no_run start h)
one_step super_ids (string s) us bound ih h = absurd (no_run start h)
one_step super_ids semicolon us bound ih h = no_ids (semicolon ∷ us) (ended us ih h)
one_step super_ids comma us bound ih h = super_comma us ih h
one_step super_ids opening us bound ih h = absurd (no_run start h)
one_step super_ids closing us bound ih h = absurd (no_run start h)
one_step parts (word w) us bound ih h = absurd (no_run start h)
one_step parts (string s) us bound ih h = absurd (no_run start h)
one_step parts semicolon us bound ih h = absurd (no_run start h)
one_step parts comma us bound ih h = part_comma us ih h
one_step parts opening us bound ih h = absurd (no_run start h)
one_step parts closing us bound ih h = record { part_list = []; all = All-nil IsSpellablePart; rest = us; is = refl; tail = ih ending us (omega arith) h }
one_step ending (word w) us bound ih h = absurd (no_run start h)
one_step ending (string s) us bound ih h = absurd (no_run start h)
one_step ending semicolon us bound ih h = ended us ih h
one_step ending comma us bound ih h = absurd (no_run start h)
one_step ending opening us bound ih h = absurd (no_run start h)
one_step ending closing us bound ih h = absurd (no_run start h)
one_step strings (word w) us bound ih h = strings_word w us ih h
one_step strings (string s) us bound ih h = strings_string s us ih h
one_step strings semicolon us bound ih h = no_strings (semicolon ∷ us) (no_extras (semicolon ∷ us) (ended us ih h))
one_step strings comma us bound ih h = absurd (no_run start h)
one_step strings opening us bound ih h = absurd (no_run start h)
one_step strings closing us bound ih h = absurd (no_run start h)
one_step used_ids (word w) us bound ih h = no_used (word w ∷ us) (extra_answer w us ih h)
one_step used_ids (string s) us bound ih h = absurd (no_run start h)
one_step used_ids semicolon us bound ih h = no_used (semicolon ∷ us) (no_extras (semicolon ∷ us) (ended us ih h))
one_step used_ids comma us bound ih h = used_comma us ih h
one_step used_ids opening us bound ih h = absurd (no_run start h)
one_step used_ids closing us bound ih h = absurd (no_run start h)
one_step extras (word w) us bound ih h = extra_answer w us ih h
one_step extras (string s) us bound ih h = absurd (no_run start h)
one_step extras semicolon us bound ih h = no_extras (semicolon ∷ us) (ended us ih h)
one_step extras comma us bound ih h = absurd (no_run start h)
one_step extras opening us bound ih h = absurd (no_run start h)
one_step extras closing us bound ih h = absurd (no_run start h)

-- so many tokens at most that lead back to the start are what their stage says
told : (n : ℕ) (l : Stage) (us : List Token) → length us ≤ n → length us < extra_bound → run (expect [] l) us ≡ Some start → Answer l us
told n l [] low bound h = at_end l h
told zero l (t ∷ us) low bound h = absurd (omega arith)
told (suc n) l (t ∷ us) low bound h = one_step l t us (omega arith) (λ k vs short r. told n k vs (omega arith) (omega arith) r) h

pub graph_told : (us : List Token) → length us < extra_bound → run start us ≡ Some start → AreOfGraph us
graph_told us bound h = let b : Begin us = told (length us) between us (omega arith) bound h in record { decls = b.decls; spelled = b.good; is = b.is }
