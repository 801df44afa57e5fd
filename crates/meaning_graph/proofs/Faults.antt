-- A text is of one list, and has one syntax fault, at most; and each declaration begins on one line.
use Rattle.std.proofs.Common.{◌≡◌, ℕ, ◌-◌, ◌<◌, ◌≤◌, false, List, [], ◌∷◌, ◌++◌, length, take, drop, refl, sym, ap, subst, ◌∙◌, inl, inr, append_assoc}
use Rattle.std.proofs.lemmas.List.{append_cancel_right, append-nil, take-append-drop}
use Rattle.std.proofs.lemmas.Grind.{flat_map-append}
use Rattle.object_values.specs.declared.graph.Decl.{Decl}
use Rattle.meaning_graph.specs.Tokens.{Token, semicolon, Tokens}
use Rattle.meaning_graph.specs.Lexing.{past_gap}
use Rattle.meaning_graph.specs.Grammar.{decl_tokens, graph_tokens, GraphText}
use Rattle.meaning_graph.specs.Places.{line_behind, column_behind, IsSyntaxFault, BeginsOnLine}
use Rattle.meaning_graph.proofs.Stops.{GoesOn, compared, none_at_end}
use Rattle.meaning_graph.proofs.Decls.{same_decls}
use Rattle.meaning_graph.proofs.Readings.{Cut, tokens_append, tokens_cut, Before, read_before, past_is_past, past_read}

-- ---- one list

pub one_graph : (text : List ℕ) (a b : List Decl) → GraphText text a → GraphText text b → b ≡ a
one_graph text a b x y = elim (compared text (graph_tokens b) (graph_tokens a) [] [] y.tokens x.tokens refl refl) [
  | inl h ↦ same_decls b a y.spelled.grammar x.spelled.grammar h.tokens
  | inr h ↦ elim h [
    | inl g ↦ absurd (none_at_end g.token g.left g.begins)
    | inr g ↦ absurd (none_at_end g.token g.left g.begins)
  ]
]

-- ---- one place

-- what stands before one rest is one text
same_front : (xs ys rest : List ℕ) → xs ++ rest ≡ ys ++ rest → xs ≡ ys
same_front xs ys rest e = append_cancel_right xs ys rest e

-- where one reading stops another doesn't go on, if both stop at faults
no_more_tokens : (text : List ℕ) (l c m d : ℕ) (f : IsSyntaxFault text l c) (g : IsSyntaxFault text m d) → GoesOn f.tokens g.tokens f.rest → ⊥
no_more_tokens text l c m d f g k =
    let whole : (f.tokens ++ k.token ∷ []) ++ (k.more ++ g.goes_on.more) ≡ graph_tokens g.goes_on.decls =
    append_assoc f.tokens (k.token ∷ []) (k.more ++ g.goes_on.more) ∙ sym (append_assoc f.tokens (k.token ∷ k.more) g.goes_on.more) ∙ ap (λ ts. ts ++ g.goes_on.more) (sym k.tokens) ∙ g.goes_on.is in
    f.stops k.token k.left k.begins (record { more = k.more ++ g.goes_on.more; decls = g.goes_on.decls; spelled = g.goes_on.spelled; is = whole })

pub one_fault : (text : List ℕ) (l c m d : ℕ) → IsSyntaxFault text l c → IsSyntaxFault text m d → (m ≡ l) × (d ≡ c)
one_fault text l c m d f g = elim (compared text f.tokens g.tokens f.rest g.rest f.before g.before f.begins g.begins) [
  | inl h ↦
      let whole : f.front ++ f.rest ≡ g.front ++ f.rest = sym f.is ∙ g.is ∙ ap (λ x. g.front ++ x) (sym h.left) in
      let same : f.front ≡ g.front = same_front f.front g.front f.rest whole in
      (g.line_is ∙ ap line_behind (sym same) ∙ sym f.line_is, g.column_is ∙ ap column_behind (sym same) ∙ sym f.column_is)
  | inr h ↦ elim h [
    | inl k ↦ absurd (no_more_tokens text l c m d f g k)
    | inr k ↦ absurd (no_more_tokens text m d l c g f k)
  ]
]

-- ---- the line of a declaration

longer : (ts more : List Token) (t : Token) → ts ≡ ts ++ t ∷ more → ⊥
longer [] more t e = cc
longer (u ∷ ts) more t e = longer ts more t cc

pub one_line : (text : List ℕ) (decls : List Decl) (number line other : ℕ) → BeginsOnLine text decls number line → BeginsOnLine text decls number other → other ≡ line
one_line text decls number line other f g =
    elim (compared text (graph_tokens (take (number - 1) decls)) (graph_tokens (take (number - 1) decls)) f.rest g.rest f.before g.before f.begins g.begins) [
      | inl h ↦
          let whole : f.front ++ f.rest ≡ g.front ++ f.rest = sym f.is ∙ g.is ∙ ap (λ x. g.front ++ x) (sym h.left) in
          g.line_is ∙ ap line_behind (sym (same_front f.front g.front f.rest whole)) ∙ sym f.line_is
      | inr h ↦ elim h [
        | inl k ↦ absurd (longer (graph_tokens (take (number - 1) decls)) k.more k.token k.tokens)
        | inr k ↦ absurd (longer (graph_tokens (take (number - 1) decls)) k.more k.token k.tokens)
      ]
    ]

pub each_begins : (text : List ℕ) (decls : List Decl) (number : ℕ) → GraphText text decls → 0 < number → number ≤ length decls → (line : ℕ) × BeginsOnLine text decls number line
each_begins text decls number g low high =
    let front : List Token = graph_tokens (take (number - 1) decls) in
    let behind : List Token = graph_tokens (drop (number - 1) decls) in
    let all : graph_tokens decls ≡ front ++ behind =
    ap graph_tokens (sym (take-append-drop (number - 1) decls)) ∙ flat_map-append (λ d. decl_tokens d ++ semicolon ∷ []) (take (number - 1) decls) (drop (number - 1) decls) in
    let c : Cut text front behind [] = tokens_cut text front behind [] (subst (λ ts. Tokens text ts []) all g.tokens) in
    let rest : List ℕ = past_gap false c.mid in
    let before : Tokens text front rest = subst (λ ts. Tokens text ts rest) (append-nil front) (tokens_append text front c.mid [] rest c.before (past_read c.mid)) in
    let b : Before text rest = read_before text front rest before in
    (line_behind b.front, record { front = b.front; rest = rest; counted = (low, high); is = b.is; before = before; begins = past_is_past false c.mid; line_is = refl })
