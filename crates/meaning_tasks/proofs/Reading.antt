-- What a reference list gives: kept parameters are some of the written ones, and its expressions are canonical.
use Rattle.std.proofs.Common.{◌≡◌, ℕ, ◌+◌, Bool, true, false, List, [], ◌∷◌, ◌⊎◌, inl, inr, sym, subst, refl, cond, nat_lt, length}
use Rattle.std.specs.Prelude.{Option, Some, None}
use Rattle.std.specs.Ordering.{is_lt}
use Rattle.object_values.specs.declared.nodes.ParamValue.{ParamValue}
use Rattle.object_values.specs.declared.expressions.Expression.{Expression}
use Rattle.object_values.specs.declared.expressions.Line.{Line}
use Rattle.object_values.specs.declared.expressions.Line.TheVariants.{Good}
use Rattle.object_values.specs.declared.expressions.Lines.TheVariants.{These, TooMany}
use Rattle.meaning_texts.specs.Expressions.{IsCanonical, name_cmp}
use Rattle.meaning_texts.specs.Limits.{reference_limit}
use Rattle.meaning_texts.specs.Lists.{once}
use Rattle.meaning_texts.specs.Reading.{same_param, put_sorted, sorted, kept_params, expression_of}
use Rattle.meaning_texts.specs.References.{is_passed_over, read_line, read_lines, references}
use Rattle.meaning_texts.specs.Lines.{lines_of}
use Rattle.meaning_texts.proofs.Lemmas.{canonical, is_read, from_filter}
use Rattle.meaning_graph.specs.Graphs.{Text}
use Rattle.meaning_texts.specs.Lists.{IsIn}

-- ---- parameters

from_single : (p : ParamValue) (ps : List ParamValue) → IsIn p (once same_param ps) → IsIn p ps
from_single p [] h = h
from_single p (q ∷ ps) (inl e) = inl e
from_single p (q ∷ ps) (inr h) = inr (from_single p ps (from_filter _ p (once same_param ps) h).0)

from_put : (p q : ParamValue) (ps : List ParamValue) → IsIn p (put_sorted q ps) → (p ≡ q) ⊎ IsIn p ps
from_put p q [] (inl e) = inl e
from_put p q [] (inr h) = absurd h
from_put p q (r ∷ ps) h = (elim (is_lt (name_cmp r.param q.param)) as (λ b. IsIn p (cond b (r ∷ put_sorted q ps) (q ∷ r ∷ ps)) → (p ≡ q) ⊎ IsIn p (r ∷ ps)) [
  | true ↦ elim [ inl e ↦ inr (inl e) | inr k ↦ elim (from_put p q ps k) [ inl e ↦ inl e | inr i ↦ inr (inr i) ] ]
  | false ↦ elim [ inl e ↦ inl e | inr k ↦ inr k ]
]) h

from_sorted : (p : ParamValue) (ps : List ParamValue) → IsIn p (sorted ps) → IsIn p ps
from_sorted p [] h = h
from_sorted p (q ∷ ps) h = elim (from_put p q (sorted ps) h) [ inl e ↦ inl e | inr k ↦ inr (from_sorted p ps k) ]

pub from_kept : (p : ParamValue) (ps : List ParamValue) → IsIn p (kept_params ps) → IsIn p ps
unfolding kept_params
from_kept p ps h = from_single p ps (from_sorted p (once same_param ps) h)

-- ---- lines of a reference list

line_canonical : (line : Text) (number k : ℕ) (e : Expression) → read_line number (expression_of line) ≡ Good k e → IsCanonical e
line_canonical line number k e h = by_read (expression_of line) refl h
  where
    by_read : (o : Option Expression) → expression_of line ≡ o → read_line number o ≡ Good k e → IsCanonical e
    by_read None r q = cc
    by_read (Some x) r q = let same : x ≡ e = cc in subst IsCanonical same (canonical line x (is_read line x r))

lines_canonical : (lines : List Text) (number k : ℕ) (e : Expression) → IsIn (Good k e) (read_lines number lines) → IsCanonical e
lines_canonical [] number k e h = absurd h
lines_canonical (line ∷ lines) number k e h = (elim (is_passed_over line) as (λ b. IsIn (Good k e) (cond b (read_lines (number + 1) lines) (read_line number (expression_of line) ∷ read_lines (number + 1) lines)) → IsCanonical e) [
  | true ↦ λ i. lines_canonical lines (number + 1) k e i
  | false ↦ elim [ inl q ↦ line_canonical line number k e (sym q) | inr i ↦ lines_canonical lines (number + 1) k e i ]
]) h

-- the expressions of a reference list are canonical
pub references_canonical : (text : Text) (lines : List Line) (k : ℕ) (e : Expression) → references text ≡ These lines → IsIn (Good k e) lines → IsCanonical e
unfolding references
references_canonical text lines k e h i = by_count (nat_lt reference_limit (length (read_lines 1 (lines_of text)))) h
  where
    by_count : (b : Bool) → cond b TooMany (These (read_lines 1 (lines_of text))) ≡ These lines → IsCanonical e
    by_count true q = cc
    by_count false q = let same : read_lines 1 (lines_of text) ≡ lines = cc in lines_canonical (lines_of text) 1 k e (subst (λ l. IsIn (Good k e) l) (sym same) i)
