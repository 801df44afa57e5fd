-- What the laws of graph files say.
use Rattle.std.specs.Prelude.{◌≡◌, ◌↔◌, ◌<◌, ◌≤◌, ℕ, false, List, [], Some, length, IsTrue, MatchOption}
use Rattle.object_values.specs.declared.graph.Decl.{Decl}
use Rattle.object_values.specs.declared.graph.GraphFault.{GraphFault}
use Rattle.meaning_texts.specs.Limits.{graph_limit}
use Rattle.meaning_graph.specs.Graphs.{Text, Graph}
use Rattle.meaning_graph.specs.Tokens.{Token, BeginsWith, Tokens, is_past_gap}
use Rattle.meaning_graph.specs.Lexing.{past_gap, taken, token_at}
use Rattle.meaning_graph.specs.Grammar.{graph_tokens, IsSpellable, HasSpelling, GraphText}
use Rattle.meaning_graph.specs.Going.{start, run, can_go_on}
use Rattle.meaning_graph.specs.Places.{line_behind, column_behind, IsFrontOfGraph, IsSyntaxFault, BeginsOnLine}
use Rattle.meaning_graph.specs.Stopping.{syntax_stop, front_of}
use Rattle.meaning_graph.specs.Spelling.{graph_spelling}
use Rattle.meaning_graph.specs.Checks.{IsANamed, is_a_named, Checked, FirstFault, first_fault, FaultAt}

-- The computed token is the one with which a text begins, with what follows it, and no other one
-- is.
abbrev pub TokenIsAtFront : Type 0
TokenIsAtFront =
    (text : List ℕ) (t : Token) (rest : List ℕ)
    → (token_at text ≡ Some (taken t rest)) ↔ BeginsWith text t rest

-- What stands after a gap: the text has no tokens before it, and it begins with neither a blank
-- nor a comment.
pub record IsBehindGap (text rest : List ℕ) : Type 0 where
  pub gap : Tokens text [] rest
  pub past : IsTrue (is_past_gap rest)

abbrev pub GapIsPassed : Type 0
GapIsPassed = (text rest : List ℕ) → (past_gap false text ≡ rest) ↔ IsBehindGap text rest

-- The canonical spelling of a list is a text of it.
abbrev pub SpellingIsText : Type 0
SpellingIsText = (decls : List Decl) → HasSpelling decls → GraphText (graph_spelling decls) decls

-- A text is of one list at most.
abbrev pub GraphIsOne : Type 0
GraphIsOne =
    (text : List ℕ) (decls other : List Decl) → GraphText text decls → GraphText text other
    → other ≡ decls

-- A text has one place of a syntax fault at most.
pub record SamePlace (line column m d : ℕ) : Type 0 where
  pub line_is : m ≡ line
  pub column_is : d ≡ column

abbrev pub SyntaxFaultIsOne : Type 0
SyntaxFaultIsOne =
    (text : List ℕ) (line column m d : ℕ) → IsSyntaxFault text line column → IsSyntaxFault text m d
    → SamePlace line column m d

-- A declaration begins on one line.
abbrev pub LineIsOne : Type 0
LineIsOne =
    (text : List ℕ) (decls : List Decl) (number line other : ℕ)
    → BeginsOnLine text decls number line → BeginsOnLine text decls number other → other ≡ line

-- Each declaration of a text begins on a line.
abbrev pub EachDeclarationBegins : Type 0
EachDeclarationBegins =
    (text : List ℕ) (decls : List Decl) (number : ℕ) → GraphText text decls → 0 < number
    → number ≤ length decls → (line : ℕ) × BeginsOnLine text decls number line

-- The computed first fault is the first one, and there is none exactly where the list is checked.
abbrev pub FirstFaultIsComputed : Type 0
FirstFaultIsComputed =
    (g : Graph)
    → MatchOption (first_fault g) (Checked g) (λ (at : FaultAt). FirstFault g at.number at.fault)

-- A spellable list that is checked has a spelling.
abbrev pub CheckedHasSpelling : Type 0
CheckedHasSpelling = (g : Graph) → IsSpellable g → Checked g → HasSpelling g

-- A list has one first fault at most.
pub record SameFault (number other : ℕ) (fault second : GraphFault) : Type 0 where
  pub number_is : other ≡ number
  pub fault_is : second ≡ fault

abbrev pub FirstFaultIsOne : Type 0
FirstFaultIsOne =
    (g : Graph) (number other : ℕ) (fault second : GraphFault) → FirstFault g number fault
    → FirstFault g other second → SameFault number other fault second

-- The test on two names holds exactly where supertypes lead from the type of the one to the type of
-- the other.
abbrev pub NamedIsReachability : Type 0
NamedIsReachability = (g : Graph) (a b : Text) → IsTrue (is_a_named g a b) ↔ IsANamed g a b

-- The computed test holds of the tokens that can go on to a graph, of as many as a graph file may
-- have.
abbrev pub GoingIsTested : Type 0
GoingIsTested =
    (tokens : List Token) → length tokens ≤ graph_limit
    → IsTrue (can_go_on tokens) ↔ IsFrontOfGraph tokens

-- They are the tokens of a graph.
pub record AreOfGraph (tokens : List Token) : Type 0 where
  pub decls : List Decl
  pub spelled : HasSpelling decls
  pub is : tokens ≡ graph_tokens decls

-- Such tokens lead back to the start exactly where they are those of a graph.
abbrev pub WholeIsTested : Type 0
WholeIsTested =
    (tokens : List Token) → length tokens ≤ graph_limit
    → (run start tokens ≡ Some start) ↔ AreOfGraph tokens

-- The text has its syntax fault where this rest of it begins.
abbrev pub IsFaultBefore : List ℕ → List ℕ → Type 0
IsFaultBefore text rest =
    IsSyntaxFault text (line_behind (front_of text rest)) (column_behind (front_of text rest))

-- A text that isn't too long is one of a graph, or has a syntax fault where it is computed to stop.
abbrev pub EachGraphTextIsAnswered : Type 0
EachGraphTextIsAnswered =
    (text : List ℕ) → length text ≤ graph_limit
    → MatchOption (syntax_stop text) ((decls : List Decl) × GraphText text decls)
    (IsFaultBefore text)
