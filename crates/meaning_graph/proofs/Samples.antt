-- What the worked examples rest on: spellings that compute.
use Rattle.std.proofs.Common.{◌≡◌, ℕ, true, List, [], ◌∷◌, length, Option, Some, None, refl, sym, subst, leb-true, arith}
use Rattle.std.specs.Prelude.{codes, nat_le, MatchOption}
use Rattle.meaning_texts.specs.Limits.{graph_limit}
use Rattle.meaning_graph.specs.Graphs.{Graph}
use Rattle.meaning_graph.specs.Samples.{suffix}
use Rattle.meaning_graph.specs.Tokens.{no_more}
use Rattle.meaning_graph.specs.Grammar.{graph_tokens, HasSpelling, GraphText}
use Rattle.meaning_graph.specs.Going.{start, run}
use Rattle.meaning_graph.specs.Places.{BeginsOnLine}
use Rattle.meaning_graph.specs.Checks.{Checked, FirstFault, FaultAt, first_fault}
use Rattle.meaning_graph.proofs.Decls.{same_decls}
use Rattle.meaning_graph.specs.TextLaws.{AreOfGraph}
use Rattle.meaning_graph.proofs.Fronts.{whole_from_run}
use Rattle.meaning_graph.proofs.CheckedGraphs.{checked_in_grammar}
use Rattle.meaning_graph.proofs.Firsts.{first_or_checked}
use Rattle.meaning_graph.proofs.Lexed.{read_tokens, tokens_read}

pub checked_if_none : (g : Graph) → first_fault g ≡ None → Checked g
checked_if_none g e = subst (λ (o : Option FaultAt). MatchOption o (Checked g) (λ at. FirstFault g at.number at.fault)) e (first_or_checked g)

-- tokens that lead back to the start are those of a list with a spelling, which is this one
pub spelling_if : (g : Graph) → nat_le (length (graph_tokens g)) graph_limit ≡ true → run start (graph_tokens g) ≡ Some start → first_fault g ≡ None → HasSpelling g
spelling_if g low back none =
    let of : AreOfGraph (graph_tokens g) = whole_from_run (graph_tokens g) (leb-true (length (graph_tokens g)) graph_limit low) back in
    let same : g ≡ of.decls = same_decls g of.decls (checked_in_grammar g (checked_if_none g none)) of.spelled.grammar of.is in
    subst HasSpelling (sym same) of.spelled

pub text_if : (text : List ℕ) (g : Graph) → HasSpelling g → read_tokens (length (graph_tokens g)) text ≡ Some (record { tokens = graph_tokens g; rest = [] }) → GraphText text g
text_if text g h e = record { spelled = h; tokens = tokens_read (length (graph_tokens g)) text (record { tokens = graph_tokens g; rest = [] }) e }

pub suffix_begins : BeginsOnLine (codes "suffix .c c;") (suffix (codes ".c") (codes "c") ∷ []) 1 1
suffix_begins = record { front = []; rest = codes "suffix .c c;"; counted = (omega arith, omega arith); is = refl; before = no_more (codes "suffix .c c;"); begins = refl; line_is = refl }
