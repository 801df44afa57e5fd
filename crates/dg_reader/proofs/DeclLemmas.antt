-- Declarations, put together from their parts.
use Rattle.std.proofs.Common.{◌≡◌, ℕ, ◌+◌, ◌<◌, ◌≤◌, List, [], ◌∷◌, ◌++◌, length, Option, Some, refl, sym, subst, arith}
use Rattle.std.specs.Prelude.{codes}
use Rattle.std.proofs.lemmas.List.Elements.{All-nil}
use Rattle.object_values.specs.declared.graph.PartDecl.{PartDecl}
use Rattle.object_values.specs.declared.graph.Kind.TheVariants.{Simple, List as ListOf, Compound}
use Rattle.object_values.specs.declared.graph.Extra.{Extra}
use Rattle.object_values.specs.declared.graph.Extra.TheVariants.{Also, With}
use Rattle.object_values.specs.declared.graph.TypeDecl.{TypeDecl}
use Rattle.object_values.specs.declared.graph.ToolDecl.{ToolDecl}
use Rattle.object_values.specs.declared.graph.Make.{Make}
use Rattle.object_values.specs.declared.graph.Make.TheVariants.{Tool, Read, Each, Pack}
use Rattle.object_values.specs.declared.graph.Decl.{Decl}
use Rattle.object_values.specs.declared.graph.Decl.TheVariants.{ObjectType, Suffix, Param, Maker}
use Rattle.meaning_texts.specs.Classes.{IsId, IsWord}
use Rattle.meaning_graph.specs.Tokens.{Token, word, semicolon, opening, closing, Tokens}
use Rattle.meaning_graph.specs.Grammar.{optional_tokens, part_tokens, kind_tokens, string_tokens, extra_tokens, closure_tokens, decl_tokens, IsSpellableDecl, IsInGrammar}
use Rattle.meaning_graph.specs.Going.{Class, keyword, identifier, any_word, any_string, open_mark, Stage, between, kind, supers, parts, ending, strings, extras, Expected, expect, start, step_at, way, tool_front}
use Rattle.dg_reader.specs.declared.cursor.Wanted.TheVariants.{Id, Word}
use Rattle.dg_reader.specs.Walks.{TakesToken, HasNone, Finds, CarriesStops}
use Rattle.dg_reader.specs.Reads.{ReadsParts, ReadsStrings, ReadsExtras, HasNoExtra, ReadsSupers, ReadsUses, ReadsClosure, ReadsWay, way_classes, ReadsKind, ReadsTool, ReadsHead, HeadBehind, KindBehind, plain_keyword, ReadsDecl}
use Rattle.meaning_graph.proofs.Lemmas.{tokens_append, tokens_short}
use Rattle.dg_reader.proofs.TokenLemmas.{takes_cons, takes_one, tokens_snoc, takes_shorter, takes_past}
use Rattle.dg_reader.proofs.WalkLemmas.{leads_step, leads_class, leads_found, leads_keyword}
use Rattle.dg_reader.proofs.ListLemmas.{id_found, word_found}

-- the keyword of a declaration, or of a kind, leads on
pub first_leads : (w : List ℕ) (l : Stage) (f : Expected) (text mid : List ℕ) → step_at l (word w) ≡ Some f → TakesToken text (word w) mid → CarriesStops (expect [] l) text f mid
first_leads w l f text mid s k = leads_step (expect [] l) f text (word w) mid k s

-- ---- kinds

pub simple_read : (ids : List (List ℕ)) (text rest : List ℕ) → ReadsSupers ids text rest → KindBehind (codes "simple") Simple ids text rest
simple_read ids text rest r = λ whole k. record {
  spelled = tt;
  each = r.each;
  grammar = tt;
  tokens = takes_cons whole (word (codes "simple")) text (optional_tokens (codes "is") ids) rest k r.tokens;
  leads = λ place h. first_leads (codes "simple") kind (expect [] supers) whole text refl k place (r.leads place h);
}

pub of_leads : (of text mid last : List ℕ) → TakesToken text (word (codes "of")) mid → Finds Id of mid last → CarriesStops (expect (keyword (codes "of") ∷ identifier ∷ []) supers) text (expect [] supers) last
of_leads of text mid last k f = λ place h. leads_keyword (codes "of") text mid k (identifier ∷ []) supers place (leads_found Id of mid last f [] supers place h)

pub list_read : (of : List ℕ) (ids : List (List ℕ)) (text mid last rest : List ℕ) → TakesToken text (word (codes "of")) mid → Finds Id of mid last → ReadsSupers ids last rest → KindBehind (codes "list") (ListOf of) ids text rest
list_read of ids text mid last rest k f r = λ whole first. record {
  spelled = id_found of mid last f;
  each = r.each;
  grammar = tt;
  tokens = takes_cons whole (word (codes "list")) text (word (codes "of") ∷ word of ∷ optional_tokens (codes "is") ids) rest first (takes_cons text (word (codes "of")) mid (word of ∷ optional_tokens (codes "is") ids) rest k (takes_cons mid (word of) last (optional_tokens (codes "is") ids) rest f.taken r.tokens));
  leads = λ place h. first_leads (codes "list") kind (expect (keyword (codes "of") ∷ identifier ∷ []) supers) whole text refl first place (of_leads of text mid last k f place (r.leads place h));
}

pub open_leads : (text mid : List ℕ) → TakesToken text opening mid → CarriesStops (expect (open_mark ∷ identifier ∷ identifier ∷ []) parts) text (expect (identifier ∷ identifier ∷ []) parts) mid
open_leads text mid k = leads_class open_mark text opening mid k refl (identifier ∷ identifier ∷ []) parts

pub parts_lead : (ps : List PartDecl) (text mid last : List ℕ) → TakesToken text opening mid → ReadsParts ps mid last → CarriesStops (expect (open_mark ∷ identifier ∷ identifier ∷ []) parts) text (expect [] parts) last
parts_lead ps text mid last k r = λ place h. open_leads text mid k place (r.leads place h)

pub compound_read : (ps : List PartDecl) (text mid last rest : List ℕ) → TakesToken text opening mid → ReadsParts ps mid last → TakesToken last closing rest → KindBehind (codes "compound") (Compound ps) [] text rest
compound_read ps text mid last rest k r c = λ whole first. record {
  spelled = record { some = r.some; each = r.each };
  each = All-nil IsId;
  grammar = refl;
  tokens = takes_cons whole (word (codes "compound")) text (opening ∷ (part_tokens ps ++ closing ∷ [])) rest first (takes_cons text opening mid (part_tokens ps ++ closing ∷ []) rest k (tokens_snoc mid (part_tokens ps) last closing rest r.tokens c));
  leads = λ place h. first_leads (codes "compound") kind (expect (open_mark ∷ identifier ∷ identifier ∷ []) parts) whole text refl first place (parts_lead ps text mid last k r place (leads_step (expect [] parts) (expect [] ending) last closing rest c refl place h));
}

-- ---- types, suffixes and parameters

pub type_read : (t : TypeDecl) (text mid rest : List ℕ) → Finds Id t.name text mid → ReadsKind t.kind t.supers mid rest → HeadBehind (codes "type") (ObjectType t) text rest
type_read t text mid rest f r = λ whole first. record {
  spelled = λ _. record { name = id_found t.name text mid f; kind = r.spelled; supers = r.each };
  grammar = r.grammar;
  tokens = takes_cons whole (word (codes "type")) text (word t.name ∷ kind_tokens t.kind t.supers) rest first (takes_cons text (word t.name) mid (kind_tokens t.kind t.supers) rest f.taken r.tokens);
  leads = λ place h. leads_step start (expect (identifier ∷ []) kind) whole (word (codes "type")) text first refl place (leads_found Id t.name text mid f [] kind place (r.leads place h));
}

pub suffix_read : (suffix of text mid rest : List ℕ) → Finds Word suffix text mid → Finds Id of mid rest → HeadBehind (codes "suffix") (Suffix (record { suffix = suffix; of = of })) text rest
suffix_read suffix of text mid rest f g = λ whole first. record {
  spelled = λ _. record { suffix = word_found suffix text mid f; of = id_found of mid rest g };
  grammar = tt;
  tokens = takes_cons whole (word (codes "suffix")) text (word suffix ∷ word of ∷ []) rest first (takes_cons text (word suffix) mid (word of ∷ []) rest f.taken (takes_one mid (word of) rest g.taken));
  leads = λ place h. leads_step start (expect (any_word ∷ identifier ∷ []) ending) whole (word (codes "suffix")) text first refl place (leads_found Word suffix text mid f (identifier ∷ []) ending place (leads_found Id of mid rest g [] ending place h));
}

pub param_read : (id text rest : List ℕ) → Finds Id id text rest → HeadBehind (codes "param") (Param id) text rest
param_read id text rest f = λ whole first. record {
  spelled = λ _. id_found id text rest f;
  grammar = tt;
  tokens = takes_cons whole (word (codes "param")) text (word id ∷ []) rest first (takes_one text (word id) rest f.taken);
  leads = λ place h. leads_step start (expect (identifier ∷ []) ending) whole (word (codes "param")) text first refl place (leads_found Id id text rest f [] ending place h);
}

-- ---- ways

pub from_leads : (text mid : List ℕ) → TakesToken text (word (codes "from")) mid → (more : List Class) (stage : Stage) → CarriesStops (expect (way_classes more) stage) text (expect (identifier ∷ keyword (codes "to") ∷ identifier ∷ more) stage) mid
from_leads text mid k more stage = leads_keyword (codes "from") text mid k (identifier ∷ keyword (codes "to") ∷ identifier ∷ more) stage

pub base_leads : (from text mid last : List ℕ) → TakesToken text (word (codes "from")) mid → Finds Id from mid last → (more : List Class) (stage : Stage) → CarriesStops (expect (way_classes more) stage) text (expect (keyword (codes "to") ∷ identifier ∷ more) stage) last
base_leads from text mid last k f more stage = λ place h. from_leads text mid k more stage place (leads_found Id from mid last f (keyword (codes "to") ∷ identifier ∷ more) stage place h)

pub to_leads : (from text mid last next : List ℕ) → TakesToken text (word (codes "from")) mid → Finds Id from mid last → TakesToken last (word (codes "to")) next → (more : List Class) (stage : Stage) → CarriesStops (expect (way_classes more) stage) text (expect (identifier ∷ more) stage) next
to_leads from text mid last next k f l more stage = λ place h. base_leads from text mid last k f more stage place (leads_keyword (codes "to") last next l (identifier ∷ more) stage place h)

pub way_read : (from to text mid last next rest : List ℕ) → TakesToken text (word (codes "from")) mid → Finds Id from mid last → TakesToken last (word (codes "to")) next → Finds Id to next rest → ReadsWay from to text rest
way_read from to text mid last next rest k f l g = record {
  from_id = id_found from mid last f;
  to_id = id_found to next rest g;
  tokens = takes_cons text (word (codes "from")) mid (word from ∷ word (codes "to") ∷ word to ∷ []) rest k (takes_cons mid (word from) last (word (codes "to") ∷ word to ∷ []) rest f.taken (takes_cons last (word (codes "to")) next (word to ∷ []) rest l (takes_one next (word to) rest g.taken)));
  leads = λ more stage place h. to_leads from text mid last next k f l more stage place (leads_found Id to next rest g more stage place h);
}

-- ---- makers with a way alone

pub plain_leads : (name from to text mid rest : List ℕ) → Finds Id name text mid → ReadsWay from to mid rest → CarriesStops (expect way ending) text (expect [] ending) rest
plain_leads name from to text mid rest f r = λ place h. leads_found Id name text mid f (way_classes []) ending place (r.leads [] ending place h)

plain_tokens : (first name from to whole text mid rest : List ℕ) → TakesToken whole (word first) text → Finds Id name text mid → ReadsWay from to mid rest → Tokens whole (word first ∷ word name ∷ word (codes "from") ∷ word from ∷ word (codes "to") ∷ word to ∷ []) rest
plain_tokens first name from to whole text mid rest k f r = takes_cons whole (word first) text (word name ∷ word (codes "from") ∷ word from ∷ word (codes "to") ∷ word to ∷ []) rest k (takes_cons text (word name) mid (word (codes "from") ∷ word from ∷ word (codes "to") ∷ word to ∷ []) rest f.taken r.tokens)

inside : (x y : List ℕ) → ◌≡◌ {A = Option (List ℕ)} (Some x) (Some y) → x ≡ y
inside x y e = cc

-- a declaration of a keyword, a name and a way
plain_by : (d : Decl) (first name from to text mid rest : List ℕ) → (IsId name → IsId from → IsId to → IsSpellableDecl d) → IsInGrammar d
    → decl_tokens d ≡ word first ∷ word name ∷ word (codes "from") ∷ word from ∷ word (codes "to") ∷ word to ∷ []
    → step_at between (word first) ≡ Some (expect way ending) → Finds Id name text mid → ReadsWay from to mid rest → HeadBehind first d text rest
plain_by d first name from to text mid rest spelled grammar are goes f r = λ whole k. record {
  spelled = λ _. spelled (id_found name text mid f) r.from_id r.to_id;
  grammar = grammar;
  tokens = subst (λ ts. Tokens whole ts rest) (sym are) (plain_tokens first name from to whole text mid rest k f r);
  leads = λ place h. leads_step start (expect way ending) whole (word first) text k goes place (plain_leads name from to text mid rest f r place h);
}

abbrev plain_maker : Make → List ℕ → List ℕ → List ℕ → Decl
plain_maker make name from to = Maker (record { name = name; make = make; from = from; to = to })

pub plain_read : (make : Make) (name from to text mid rest : List ℕ) → Finds Id name text mid → ReadsWay from to mid rest → (first : List ℕ) → plain_keyword make ≡ Some first → HeadBehind first (plain_maker make name from to) text rest
plain_read (Tool tool) name from to text mid rest f r first e = let n : ⊥ = cc in absurd n
plain_read Read name from to text mid rest f r first e = subst (λ w. HeadBehind w (plain_maker Read name from to) text rest) (inside (codes "read") first e) (plain_by (plain_maker Read name from to) (codes "read") name from to text mid rest (λ n a b. record { name = n; make = tt; from = a; to = b }) tt refl refl f r)
plain_read Each name from to text mid rest f r first e = subst (λ w. HeadBehind w (plain_maker Each name from to) text rest) (inside (codes "each") first e) (plain_by (plain_maker Each name from to) (codes "each") name from to text mid rest (λ n a b. record { name = n; make = tt; from = a; to = b }) tt refl refl f r)
plain_read Pack name from to text mid rest f r first e = subst (λ w. HeadBehind w (plain_maker Pack name from to) text rest) (inside (codes "pack") first e) (plain_by (plain_maker Pack name from to) (codes "pack") name from to text mid rest (λ n a b. record { name = n; make = tt; from = a; to = b }) tt refl refl f r)

-- ---- tools

extras_count : (es : List Extra) → length es ≤ length (extra_tokens es)
extras_count [] = omega arith
extras_count (Also id ∷ es) = let h = extras_count es in omega arith
extras_count (With name ∷ es) = let h = extras_count es in omega arith

pub uses_lead : (words uses : List (List ℕ)) (text mid last : List ℕ) → ReadsStrings words text mid → HasNone any_string mid → ReadsUses uses mid last → CarriesStops (expect (any_string ∷ []) strings) text (expect [] extras) last
uses_lead words uses text mid last w none u = λ place h. w.leads place (u.leads none place h)

pub extras_lead : (words uses : List (List ℕ)) (es : List Extra) (text mid last next : List ℕ) → ReadsStrings words text mid → HasNone any_string mid → ReadsUses uses mid last → ReadsExtras es last next → CarriesStops (expect (any_string ∷ []) strings) text (expect [] extras) next
extras_lead words uses es text mid last next w none u x = λ place h. uses_lead words uses text mid last w none u place (x.leads place h)

pub tool_options : (tool : ToolDecl) (text mid last next rest : List ℕ) → ReadsStrings tool.words text mid → HasNone any_string mid → ReadsUses tool.uses mid last → ReadsExtras tool.extras last next → HasNoExtra next → ReadsClosure tool.closure next rest → ReadsTool tool text rest
tool_options tool text mid last next rest w none u x done c =
    let count : length tool.extras ≤ length (extra_tokens tool.extras) = extras_count tool.extras in
    let a : length (string_tokens tool.words) + length mid ≤ length text = tokens_short text (string_tokens tool.words) mid w.tokens in
    let b : length (optional_tokens (codes "uses") tool.uses) + length last ≤ length mid = tokens_short mid (optional_tokens (codes "uses") tool.uses) last u.tokens in
    let d : length (extra_tokens tool.extras) + length next ≤ length last = tokens_short last (extra_tokens tool.extras) next x.tokens in
    record {
      spelled = λ version low. record { version = version; some = w.some; words = w.each; uses = u.each; few = omega arith; extras = x.each; closure = c.each };
      tokens = tokens_append text (string_tokens tool.words) mid (optional_tokens (codes "uses") tool.uses ++ (extra_tokens tool.extras ++ closure_tokens tool.closure)) rest w.tokens (tokens_append mid (optional_tokens (codes "uses") tool.uses) last (extra_tokens tool.extras ++ closure_tokens tool.closure) rest u.tokens (tokens_append last (extra_tokens tool.extras) next (closure_tokens tool.closure) rest x.tokens c.tokens));
      leads = λ place h. extras_lead tool.words tool.uses tool.extras text mid last next w none u x place (c.leads done place h);
    }

-- up to the version, up to the way, and up to `run`
pub name_leads : (name text mid : List ℕ) → Finds Id name text mid → CarriesStops (expect tool_front strings) text (expect (any_word ∷ way_classes (keyword (codes "run") ∷ any_string ∷ [])) strings) mid
name_leads name text mid f = leads_found Id name text mid f (any_word ∷ way_classes (keyword (codes "run") ∷ any_string ∷ [])) strings

pub version_leads : (name version text mid last : List ℕ) → Finds Id name text mid → Finds Word version mid last → CarriesStops (expect tool_front strings) text (expect (way_classes (keyword (codes "run") ∷ any_string ∷ [])) strings) last
version_leads name version text mid last f g = λ place h. name_leads name text mid f place (leads_found Word version mid last g (way_classes (keyword (codes "run") ∷ any_string ∷ [])) strings place h)

pub way_leads : (name version from to text mid last next : List ℕ) → Finds Id name text mid → Finds Word version mid last → ReadsWay from to last next → CarriesStops (expect tool_front strings) text (expect (keyword (codes "run") ∷ any_string ∷ []) strings) next
way_leads name version from to text mid last next f g r = λ place h. version_leads name version text mid last f g place (r.leads (keyword (codes "run") ∷ any_string ∷ []) strings place h)

pub run_leads : (name version from to text mid last next then : List ℕ) → Finds Id name text mid → Finds Word version mid last → ReadsWay from to last next → TakesToken next (word (codes "run")) then → CarriesStops (expect tool_front strings) text (expect (any_string ∷ []) strings) then
run_leads name version from to text mid last next then f g r k = λ place h. way_leads name version from to text mid last next f g r place (leads_keyword (codes "run") next then k (any_string ∷ []) strings place h)

tool_by : (name version from to : List ℕ) (tool : ToolDecl) (text mid last next then rest : List ℕ) → tool.version ≡ version → Finds Id name text mid → Finds Word version mid last → ReadsWay from to last next → TakesToken next (word (codes "run")) then → ReadsTool tool then rest
    → Tokens text (word name ∷ word tool.version ∷ ((word (codes "from") ∷ word from ∷ word (codes "to") ∷ word to ∷ []) ++ word (codes "run") ∷ (string_tokens tool.words ++ (optional_tokens (codes "uses") tool.uses ++ (extra_tokens tool.extras ++ closure_tokens tool.closure))))) rest
tool_by name version from to tool text mid last next then rest same f g r k t =
    let options : List Token = string_tokens tool.words ++ (optional_tokens (codes "uses") tool.uses ++ (extra_tokens tool.extras ++ closure_tokens tool.closure)) in
    let ways : List Token = word (codes "from") ∷ word from ∷ word (codes "to") ∷ word to ∷ [] in
    let behind : Tokens last (ways ++ word (codes "run") ∷ options) rest = tokens_append last ways next (word (codes "run") ∷ options) rest r.tokens (takes_cons next (word (codes "run")) then options rest k t.tokens) in
    let taken : TakesToken mid (word tool.version) last = subst (λ v. TakesToken mid (word v) last) (sym same) g.taken in
    takes_cons text (word name) mid (word tool.version ∷ (ways ++ word (codes "run") ∷ options)) rest f.taken (takes_cons mid (word tool.version) last (ways ++ word (codes "run") ∷ options) rest taken behind)

pub tool_read : (name version from to : List ℕ) (tool : ToolDecl) (text mid last next then rest : List ℕ) → tool.version ≡ version → Finds Id name text mid → Finds Word version mid last → ReadsWay from to last next → TakesToken next (word (codes "run")) then → ReadsTool tool then rest
    → HeadBehind (codes "tool") (Maker (record { name = name; make = Tool tool; from = from; to = to })) text rest
tool_read name version from to tool text mid last next then rest same f g r k t = λ whole first.
    let a : length text < length whole = takes_shorter whole (word (codes "tool")) text first in
    let b : length mid < length text = takes_shorter text (word name) mid f.taken in
    let c : length last < length mid = takes_shorter mid (word version) last g.taken in
    let d = tokens_short last (word (codes "from") ∷ word from ∷ word (codes "to") ∷ word to ∷ []) next r.tokens in
    let e : length then < length next = takes_shorter next (word (codes "run")) then k in
    record {
      spelled = λ low. record { name = id_found name text mid f; make = t.spelled (subst IsWord (sym same) (word_found version mid last g)) (omega arith); from = r.from_id; to = r.to_id };
      grammar = tt;
      tokens = takes_cons whole (word (codes "tool")) text _ rest first (tool_by name version from to tool text mid last next then rest same f g r k t);
      leads = λ place h. leads_step start (expect tool_front strings) whole (word (codes "tool")) text first refl place (run_leads name version from to text mid last next then f g r k place (t.leads place h));
    }

-- ---- the end of a declaration

pub decl_read : (d : Decl) (text mid rest : List ℕ) → ReadsHead d text mid → TakesToken mid semicolon rest → ReadsDecl d text rest
decl_read d text mid rest r k = record { spelled = r.spelled; grammar = r.grammar; tokens = tokens_snoc text (decl_tokens d) mid semicolon rest r.tokens k; past = takes_past mid semicolon rest k }
