-- The lists in declarations, item by item.
use Rattle.std.proofs.Common.{◌≡◌, ℕ, ◌<◌, List, [], ◌∷◌, ◌++◌, length, Some, None, refl, sym, ap, subst, length-append, arith}
use Rattle.std.specs.Prelude.{codes}
use Rattle.std.proofs.lemmas.List.Elements.{All-nil, All-cons, All-append}
use Rattle.object_values.specs.declared.graph.PartDecl.{PartDecl}
use Rattle.object_values.specs.declared.graph.Extra.{Extra}
use Rattle.object_values.specs.declared.graph.Extra.TheVariants.{Also, With}
use Rattle.meaning_texts.specs.Classes.{is_name_byte, IsId, IsName, IsWord, IsStringText}
use Rattle.meaning_texts.proofs.Lemmas.{word_decides, id_decides, string_decides}
use Rattle.meaning_graph.specs.Tokens.{word, string, comma, Tokens, no_more}
use Rattle.meaning_graph.specs.Grammar.{id_tokens, optional_tokens, part_tokens, string_tokens, extra_tokens, IsSpellablePart, IsSpellableExtra}
use Rattle.meaning_graph.specs.Going.{identifier, name_string, Stage, supers, super_ids, parts, ending, strings, used_ids, extras, expect, step_at}
use Rattle.dg_reader.specs.declared.cursor.Wanted.TheVariants.{Id, Word, String, NameString}
use Rattle.dg_reader.specs.Walks.{TakesToken, IsNotAt, Finds, CarriesStops}
use Rattle.dg_reader.specs.Reads.{ReadsIds, ReadsParts, ReadsStrings, ReadsExtras, ReadsSupers, ReadsUses, ReadsClosure}
use Rattle.meaning_graph.proofs.Lemmas.{tokens_append}
use Rattle.dg_reader.proofs.TokenLemmas.{takes_cons, takes_one, tokens_snoc}
use Rattle.dg_reader.proofs.WalkLemmas.{leads_step, leads_found}
use Rattle.dg_reader.proofs.StageLemmas.{supers_ending, super_ids_ending, strings_extras, used_ids_extras, extras_ending}

-- ---- what was found is of its class

pub id_found : (id text rest : List ℕ) → Finds Id id text rest → IsId id
id_found id text rest f = (id_decides id).0 f.accepted

pub word_found : (w text rest : List ℕ) → Finds Word w text rest → IsWord w
word_found w text rest f = (word_decides is_name_byte w).0 f.accepted

pub string_found : (s text rest : List ℕ) → Finds String s text rest → IsStringText s
string_found s text rest f = (string_decides s).0 f.accepted

pub name_found : (s text rest : List ℕ) → Finds NameString s text rest → IsName s
name_found s text rest f = (word_decides is_name_byte s).0 f.accepted

-- ---- identifiers

pub id_tokens_more : (x : List ℕ) (xs : List (List ℕ)) (id : List ℕ) → id_tokens (x ∷ xs) ++ comma ∷ word id ∷ [] ≡ id_tokens ((x ∷ xs) ++ id ∷ [])
id_tokens_more x [] id = refl
id_tokens_more x (y ∷ xs) id = ap (λ ts. word x ∷ comma ∷ ts) (id_tokens_more y xs id)

pub ids_one : (id text rest : List ℕ) → Finds Id id text rest → ReadsIds (id ∷ []) text rest
ids_one id text rest f = record {
  some = omega arith;
  each = All-cons IsId id [] (id_found id text rest f) (All-nil IsId);
  tokens = takes_one text (word id) rest f.taken;
  leads = λ stage _. leads_found Id id text rest f [] stage;
}

-- a comma leads to a further identifier
pub ids_comma : (ids : List (List ℕ)) (text mid next : List ℕ) → ReadsIds ids text mid → TakesToken mid comma next → (stage : Stage) → step_at stage comma ≡ Some (expect (identifier ∷ []) stage) → CarriesStops (expect (identifier ∷ []) stage) text (expect (identifier ∷ []) stage) next
ids_comma ids text mid next r k stage s = λ place h. r.leads stage s place (leads_step (expect [] stage) (expect (identifier ∷ []) stage) mid comma next k s place h)

pub ids_more : (ids : List (List ℕ)) (id text mid next rest : List ℕ) → ReadsIds ids text mid → TakesToken mid comma next → Finds Id id next rest → ReadsIds (ids ++ id ∷ []) text rest
ids_more [] id text mid next rest r k f = let some : 0 < 0 = r.some in absurd (omega arith)
ids_more (x ∷ xs) id text mid next rest r k f = record {
  some = omega arith;
  each = All-append IsId (x ∷ xs) (id ∷ []) r.each (All-cons IsId id [] (id_found id next rest f) (All-nil IsId));
  tokens = subst (λ ts. Tokens text ts rest) (id_tokens_more x xs id) (tokens_append text (id_tokens (x ∷ xs)) mid (comma ∷ word id ∷ []) rest r.tokens (takes_cons mid comma next (word id ∷ []) rest k (takes_one next (word id) rest f.taken)));
  leads = λ stage s place h. ids_comma (x ∷ xs) text mid next r k stage s place (leads_found Id id next rest f [] stage place h);
}

-- ---- parts

pub part_tokens_more : (p : PartDecl) (ps : List PartDecl) (q : PartDecl) → part_tokens (p ∷ ps) ++ comma ∷ word q.name ∷ word q.of ∷ [] ≡ part_tokens ((p ∷ ps) ++ q ∷ [])
part_tokens_more p [] q = refl
part_tokens_more p (r ∷ ps) q = ap (λ ts. word p.name ∷ word p.of ∷ comma ∷ ts) (part_tokens_more r ps q)

pub parts_one : (p : PartDecl) (text mid rest : List ℕ) → Finds Id p.name text mid → Finds Id p.of mid rest → ReadsParts (p ∷ []) text rest
parts_one p text mid rest f g = record {
  some = omega arith;
  each = All-cons IsSpellablePart p [] (record { name = id_found p.name text mid f; of = id_found p.of mid rest g }) (All-nil IsSpellablePart);
  tokens = takes_cons text (word p.name) mid (word p.of ∷ []) rest f.taken (takes_one mid (word p.of) rest g.taken);
  leads = λ place h. leads_found Id p.name text mid f (identifier ∷ []) parts place (leads_found Id p.of mid rest g [] parts place h);
}

pub parts_comma : (ps : List PartDecl) (text mid next : List ℕ) → ReadsParts ps text mid → TakesToken mid comma next → CarriesStops (expect (identifier ∷ identifier ∷ []) parts) text (expect (identifier ∷ identifier ∷ []) parts) next
parts_comma ps text mid next r k = λ place h. r.leads place (leads_step (expect [] parts) (expect (identifier ∷ identifier ∷ []) parts) mid comma next k refl place h)

pub parts_more : (ps : List PartDecl) (q : PartDecl) (text mid next rest : List ℕ) → ReadsParts ps text mid → TakesToken mid comma next → ReadsParts (q ∷ []) next rest → ReadsParts (ps ++ q ∷ []) text rest
parts_more [] q text mid next rest r k f = let some : 0 < 0 = r.some in absurd (omega arith)
parts_more (p ∷ ps) q text mid next rest r k f = record {
  some = omega arith;
  each = All-append IsSpellablePart (p ∷ ps) (q ∷ []) r.each f.each;
  tokens = subst (λ ts. Tokens text ts rest) (part_tokens_more p ps q) (tokens_append text (part_tokens (p ∷ ps)) mid (comma ∷ word q.name ∷ word q.of ∷ []) rest r.tokens (takes_cons mid comma next (word q.name ∷ word q.of ∷ []) rest k f.tokens));
  leads = λ place h. parts_comma (p ∷ ps) text mid next r k place (f.leads place h);
}

-- ---- strings

pub string_tokens_more : (ws : List (List ℕ)) (s : List ℕ) → string_tokens ws ++ string s ∷ [] ≡ string_tokens (ws ++ s ∷ [])
string_tokens_more [] s = refl
string_tokens_more (w ∷ ws) s = ap (λ ts. string w ∷ ts) (string_tokens_more ws s)

pub strings_one : (s text rest : List ℕ) → Finds String s text rest → ReadsStrings (s ∷ []) text rest
strings_one s text rest f = record {
  some = omega arith;
  each = All-cons IsStringText s [] (string_found s text rest f) (All-nil IsStringText);
  tokens = takes_one text (string s) rest f.taken;
  leads = leads_found String s text rest f [] strings;
}

pub strings_more : (ws : List (List ℕ)) (s text mid rest : List ℕ) → ReadsStrings ws text mid → Finds String s mid rest → ReadsStrings (ws ++ s ∷ []) text rest
strings_more ws s text mid rest r f = record {
  some = let l = length-append ws (s ∷ []) in omega arith;
  each = All-append IsStringText ws (s ∷ []) r.each (All-cons IsStringText s [] (string_found s mid rest f) (All-nil IsStringText));
  tokens = subst (λ ts. Tokens text ts rest) (string_tokens_more ws s) (tokens_snoc text (string_tokens ws) mid (string s) rest r.tokens f.taken);
  leads = λ place h. r.leads place (leads_step (expect [] strings) (expect [] strings) mid (string s) rest f.taken (rw f.accepted refl) place h);
}

-- ---- extras

pub extra_tokens_more : (es : List Extra) (e : Extra) → extra_tokens es ++ extra_tokens (e ∷ []) ≡ extra_tokens (es ++ e ∷ [])
extra_tokens_more [] e = refl
extra_tokens_more (Also x ∷ es) e = ap (λ ts. word (codes "also") ∷ word x ∷ ts) (extra_tokens_more es e)
extra_tokens_more (With x ∷ es) e = ap (λ ts. word (codes "with") ∷ string x ∷ ts) (extra_tokens_more es e)

pub extras_none : (text : List ℕ) → ReadsExtras [] text text
extras_none text = record { each = All-nil IsSpellableExtra; tokens = no_more text; leads = λ place h. h }

pub also_leads : (text mid : List ℕ) → TakesToken text (word (codes "also")) mid → CarriesStops (expect [] extras) text (expect (identifier ∷ []) extras) mid
also_leads text mid k = leads_step (expect [] extras) (expect (identifier ∷ []) extras) text (word (codes "also")) mid k refl

pub with_leads : (text mid : List ℕ) → TakesToken text (word (codes "with")) mid → CarriesStops (expect [] extras) text (expect (name_string ∷ []) extras) mid
with_leads text mid k = leads_step (expect [] extras) (expect (name_string ∷ []) extras) text (word (codes "with")) mid k refl

pub extras_also : (id text mid rest : List ℕ) → TakesToken text (word (codes "also")) mid → Finds Id id mid rest → ReadsExtras (Also id ∷ []) text rest
extras_also id text mid rest k f = record {
  each = All-cons IsSpellableExtra (Also id) [] (id_found id mid rest f) (All-nil IsSpellableExtra);
  tokens = takes_cons text (word (codes "also")) mid (word id ∷ []) rest k (takes_one mid (word id) rest f.taken);
  leads = λ place h. also_leads text mid k place (leads_found Id id mid rest f [] extras place h);
}

pub extras_with : (name text mid rest : List ℕ) → TakesToken text (word (codes "with")) mid → Finds NameString name mid rest → ReadsExtras (With name ∷ []) text rest
extras_with name text mid rest k f = record {
  each = All-cons IsSpellableExtra (With name) [] (name_found name mid rest f) (All-nil IsSpellableExtra);
  tokens = takes_cons text (word (codes "with")) mid (string name ∷ []) rest k (takes_one mid (string name) rest f.taken);
  leads = λ place h. with_leads text mid k place (leads_found NameString name mid rest f [] extras place h);
}

pub extras_more : (es : List Extra) (e : Extra) (text mid rest : List ℕ) → ReadsExtras es text mid → ReadsExtras (e ∷ []) mid rest → ReadsExtras (es ++ e ∷ []) text rest
extras_more es e text mid rest r f = record {
  each = All-append IsSpellableExtra es (e ∷ []) r.each f.each;
  tokens = subst (λ ts. Tokens text ts rest) (extra_tokens_more es e) (tokens_append text (extra_tokens es) mid (extra_tokens (e ∷ [])) rest r.tokens f.tokens);
  leads = λ place h. r.leads place (f.leads place h);
}

-- ---- what may be left out

optional_is : (first : List ℕ) (ids : List (List ℕ)) → 0 < length ids → optional_tokens first ids ≡ word first ∷ id_tokens ids
optional_is first [] some = absurd (omega arith)
optional_is first (x ∷ xs) some = refl

optional_read : (first : List ℕ) (ids : List (List ℕ)) (text mid rest : List ℕ) → TakesToken text (word first) mid → ReadsIds ids mid rest → Tokens text (optional_tokens first ids) rest
optional_read first ids text mid rest k r = subst (λ ts. Tokens text ts rest) (sym (optional_is first ids r.some)) (takes_cons text (word first) mid (id_tokens ids) rest k r.tokens)

pub is_leads : (text mid : List ℕ) → TakesToken text (word (codes "is")) mid → CarriesStops (expect [] supers) text (expect (identifier ∷ []) super_ids) mid
is_leads text mid k = leads_step (expect [] supers) (expect (identifier ∷ []) super_ids) text (word (codes "is")) mid k refl

pub supers_read : (ids : List (List ℕ)) (text mid rest : List ℕ) → TakesToken text (word (codes "is")) mid → ReadsIds ids mid rest → IsNotAt comma rest → ReadsSupers ids text rest
supers_read ids text mid rest k r none = record {
  each = r.each;
  tokens = optional_read (codes "is") ids text mid rest k r;
  leads = λ place h. is_leads text mid k place (r.leads super_ids refl place (super_ids_ending rest none place h));
}

pub no_supers : (text : List ℕ) → IsNotAt (word (codes "is")) text → ReadsSupers [] text text
no_supers text none = record { each = All-nil IsId; tokens = no_more text; leads = supers_ending text none }

pub uses_leads : (text mid : List ℕ) → TakesToken text (word (codes "uses")) mid → CarriesStops (expect [] strings) text (expect (identifier ∷ []) used_ids) mid
uses_leads text mid k = leads_step (expect [] strings) (expect (identifier ∷ []) used_ids) text (word (codes "uses")) mid k refl

pub uses_read : (ids : List (List ℕ)) (text mid rest : List ℕ) → TakesToken text (word (codes "uses")) mid → ReadsIds ids mid rest → IsNotAt comma rest → ReadsUses ids text rest
uses_read ids text mid rest k r none = record {
  each = r.each;
  tokens = optional_read (codes "uses") ids text mid rest k r;
  leads = λ _ place h. uses_leads text mid k place (r.leads used_ids refl place (used_ids_extras rest none place h));
}

pub no_uses : (text : List ℕ) → IsNotAt (word (codes "uses")) text → ReadsUses [] text text
no_uses text none = record { each = All-nil IsId; tokens = no_more text; leads = λ no_string. strings_extras text no_string none }

pub closure_leads : (text mid : List ℕ) → TakesToken text (word (codes "closure")) mid → CarriesStops (expect [] extras) text (expect (identifier ∷ []) ending) mid
closure_leads text mid k = leads_step (expect [] extras) (expect (identifier ∷ []) ending) text (word (codes "closure")) mid k refl

pub closure_read : (id text mid rest : List ℕ) → TakesToken text (word (codes "closure")) mid → Finds Id id mid rest → ReadsClosure (Some id) text rest
closure_read id text mid rest k f = record {
  each = id_found id mid rest f;
  tokens = takes_cons text (word (codes "closure")) mid (word id ∷ []) rest k (takes_one mid (word id) rest f.taken);
  leads = λ _ place h. closure_leads text mid k place (leads_found Id id mid rest f [] ending place h);
}

pub no_closure : (text : List ℕ) → IsNotAt (word (codes "closure")) text → ReadsClosure None text text
no_closure text none = record { each = tt; tokens = no_more text; leads = λ no_extra. extras_ending text no_extra none }
