-- The declarations of a file, one by one.
use Rattle.std.proofs.Common.{◌≡◌, ℕ, ◌-◌, ◌<◌, ◌≤◌, true, false, List, [], ◌∷◌, ◌++◌, length, take, drop, get_or, refl, sym, ap, ◌∙◌, subst, inl, inr, ◌⊎◌, length-append, take-append-drop, arith}
use Rattle.std.proofs.lemmas.Option.{slice_get_within}
use Rattle.std.proofs.Math.Seq.{take-append_seam, get_or-append_seam}
use Rattle.std.proofs.Math.ListN.{get_or-append}
use Rattle.std.proofs.lemmas.Bool.{cases_order}
use Rattle.std.proofs.lemmas.List.{take-append-le}
use Rattle.std.proofs.lemmas.Grind.{flat_map-append}
use Rattle.std.proofs.lemmas.List.Elements.{All-nil, All-push}
use Rattle.object_values.specs.declared.graph.Decl.{Decl}
use Rattle.object_values.specs.declared.graph.GraphFault.{GraphFault}
use Rattle.meaning_texts.specs.Limits.{graph_limit}
use Rattle.meaning_graph.specs.Tokens.{Token, semicolon, Tokens, no_more, is_past_gap}
use Rattle.meaning_graph.specs.Lexing.{past_gap}
use Rattle.meaning_graph.specs.Grammar.{decl_tokens, graph_tokens, HasSpelling, IsSpellableDecl, IsInGrammar, GraphText}
use Rattle.meaning_graph.specs.Places.{line_behind}
use Rattle.meaning_graph.specs.Checks.{FirstFault}
use Rattle.meaning_graph.proofs.Lemmas.{gap_read, tokens_append, tokens_short, past_is_past}
use Rattle.dg_reader.specs.Reads.{ReadsDecl}
use Rattle.dg_reader.specs.Files.{BeginsAt, ReadsDecls, IsCheckFault}
use Rattle.dg_reader.proofs.FaultLemmas.{rest_at}

-- ---- one by one

pub none_read : (text : List ℕ) → ReadsDecls [] [] text (past_gap false text)
none_read text = record {
  spelled = record { spellable = All-nil IsSpellableDecl; grammar = All-nil IsInGrammar };
  tokens = gap_read false text [] (past_gap false text) (no_more (past_gap false text));
  past = past_is_past false text;
  counted = refl;
  places = λ count less. absurd (omega arith);
}

tokens_more : (decls : List Decl) (d : Decl) → graph_tokens decls ++ (decl_tokens d ++ semicolon ∷ []) ≡ graph_tokens (decls ++ d ∷ [])
tokens_more decls d = ap (λ ts. graph_tokens decls ++ ts) (sym (nil_right (decl_tokens d ++ semicolon ∷ []))) ∙ sym (flat_map-append (λ d. decl_tokens d ++ semicolon ∷ []) decls (d ∷ []))
  where
    nil_right : (ts : List Token) → ts ++ [] ≡ ts
    nil_right [] = refl
    nil_right (t ∷ ts) = ap (λ rest. t ∷ rest) (nil_right ts)

good_more : (decls : List Decl) (d : Decl) → HasSpelling decls → IsSpellableDecl d → IsInGrammar d → HasSpelling (decls ++ d ∷ [])
good_more decls d h s g = record { spellable = All-push IsSpellableDecl decls d h.spellable s; grammar = All-push IsInGrammar decls d h.grammar g }

place_kept : (decls : List Decl) (d : Decl) (text : List ℕ) (count place : ℕ) → count < length decls → BeginsAt text decls count place → BeginsAt text (decls ++ d ∷ []) count place
place_kept decls d text count place less b =
    let le : count ≤ length decls = omega arith in
    record { within = b.within; before = subst (λ (ds : List Decl). Tokens text (graph_tokens ds) (drop place text)) (sym (take-append-le count decls (d ∷ []) le)) b.before; begins = b.begins }

place_new : (decls : List Decl) (d : Decl) (text mid : List ℕ) → Tokens text (graph_tokens decls) mid → is_past_gap mid ≡ true → BeginsAt text (decls ++ d ∷ []) (length decls) (length text - length mid)
place_new decls d text mid t p =
    let at : drop (length text - length mid) text ≡ mid = rest_at text (graph_tokens decls) mid t in
    record {
      within = omega arith;
      before = subst (λ (ds : List Decl). Tokens text (graph_tokens ds) (drop (length text - length mid) text)) (sym (take-append_seam decls (d ∷ []))) (subst (Tokens text (graph_tokens decls)) (sym at) t);
      begins = subst (λ x. is_past_gap x ≡ true) (sym at) p;
    }

places_more : (decls : List Decl) (starts : List ℕ) (d : Decl) (text mid : List ℕ) → ReadsDecls decls starts text mid → (count : ℕ) → count < length (decls ++ d ∷ []) → BeginsAt text (decls ++ d ∷ []) count (get_or (starts ++ (length text - length mid) ∷ []) count 0)
places_more decls starts d text mid r count less =
    let l = length-append decls (d ∷ []) in
    let same : length starts ≡ length decls = r.counted in
    elim (cases_lt count (length decls)) [
      | inl lt ↦
          let old : get_or (starts ++ (length text - length mid) ∷ []) count 0 ≡ get_or starts count 0 = get_or-append starts ((length text - length mid) ∷ []) 0 count (omega arith) in
          subst (BeginsAt text (decls ++ d ∷ []) count) (sym old) (place_kept decls d text count (get_or starts count 0) lt (r.places count lt))
      | inr ge ↦
          let here : count ≡ length decls = omega arith in
          let there : count ≡ length starts = omega arith in
          let new : get_or (starts ++ (length text - length mid) ∷ []) count 0 ≡ length text - length mid = ap (λ k. get_or (starts ++ (length text - length mid) ∷ []) k 0) there ∙ get_or-append_seam starts (length text - length mid) [] 0 in
          subst (BeginsAt text (decls ++ d ∷ []) count) (sym new) (subst (λ k. BeginsAt text (decls ++ d ∷ []) k (length text - length mid)) (sym here) (place_new decls d text mid r.tokens r.past))
    ]
  where
    cases_lt : (a b : ℕ) → (a < b) ⊎ (b ≤ a)
    cases_lt a b = elim (cases_order a b) [
      | inl e ↦ inr (omega arith)
      | inr h ↦ elim h [ inl lt ↦ inl lt | inr gt ↦ inr (omega arith) ]
    ]

pub more_read : (decls : List Decl) (starts : List ℕ) (d : Decl) (text mid rest : List ℕ) → length text ≤ graph_limit → ReadsDecls decls starts text mid → ReadsDecl d mid rest → ReadsDecls (decls ++ d ∷ []) (starts ++ (length text - length mid) ∷ []) text rest
more_read decls starts d text mid rest low r n =
    let short = tokens_short text (graph_tokens decls) mid r.tokens in
    let same : length starts ≡ length decls = r.counted in
    let a = length-append decls (d ∷ []) in
    let b = length-append starts ((length text - length mid) ∷ []) in
    record {
      spelled = good_more decls d r.spelled (n.spelled (omega arith)) n.grammar;
      tokens = subst (λ ts. Tokens text ts rest) (tokens_more decls d) (tokens_append text (graph_tokens decls) mid (decl_tokens d ++ semicolon ∷ []) rest r.tokens n.tokens);
      past = n.past;
      counted = omega arith;
      places = places_more decls starts d text mid r;
    }

-- a declaration with its `;` is no empty text
pub decl_shorter : (d : Decl) (mid rest : List ℕ) → ReadsDecl d mid rest → length rest < length mid
decl_shorter d mid rest n =
    let short = tokens_short mid (decl_tokens d ++ semicolon ∷ []) rest n.tokens in
    let a = length-append (decl_tokens d) (semicolon ∷ []) in
    omega arith

pub left_within : (decls : List Decl) (starts text mid : List ℕ) → ReadsDecls decls starts text mid → length mid ≤ length text
left_within decls starts text mid r = let short = tokens_short text (graph_tokens decls) mid r.tokens in omega arith

-- ---- whole files

pub whole_read : (decls : List Decl) (starts text : List ℕ) → ReadsDecls decls starts text [] → GraphText text decls
whole_read decls starts text r = record { spelled = r.spelled; tokens = r.tokens }

-- the declaration with the first fault is one of them
pub fault_within : (decls : List Decl) (number : ℕ) (fault : GraphFault) → FirstFault decls number fault → (0 < number) × (number - 1 < length decls)
fault_within decls number fault f = (f.there.counted, slice_get_within decls (number - 1) f.there.declaration f.there.there)

pub check_refused : (decls : List Decl) (starts text : List ℕ) (number : ℕ) (fault : GraphFault) → ReadsDecls decls starts text [] → FirstFault decls number fault
    → (get_or starts (number - 1) 0 ≤ length text) × IsCheckFault text (line_behind (take (get_or starts (number - 1) 0) text)) fault
check_refused decls starts text number fault r f =
    let w = fault_within decls number fault f in
    let low : 0 < number = w.0 in
    let less : number - 1 < length decls = w.1 in
    let place : ℕ = get_or starts (number - 1) 0 in
    let b : BeginsAt text decls (number - 1) place = r.places (number - 1) less in (
      b.within,
      record {
        decls = decls;
        number = number;
        read = whole_read decls starts text r;
        first = f;
        begins = record {
          front = take place text;
          rest = drop place text;
          counted = (low, omega arith);
          is = sym (take-append-drop place text);
          before = b.before;
          begins = b.begins;
          line_is = refl;
        };
      },
    )
