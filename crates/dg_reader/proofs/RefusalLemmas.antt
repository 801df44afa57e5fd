-- Each text is read or refused, and in one way.
use Rattle.std.proofs.Common.{◌≡◌, ◌≢◌, ℕ, ◌-◌, ◌<◌, ◌≤◌, List, length, Option, Some, None, refl, ap₂, subst, inl, inr, ◌⊎◌, arith}
use Rattle.std.specs.Prelude.{MatchOption}
use Rattle.std.proofs.lemmas.Bool.{cases_lt}
use Rattle.std.proofs.lemmas.Option.{slice_get_within}
use Rattle.object_values.specs.declared.graph.Decl.{Decl}
use Rattle.object_values.specs.declared.graph.GraphFault.{GraphFault}
use Rattle.meaning_texts.specs.Limits.{graph_limit}
use Rattle.meaning_graph.specs.Grammar.{GraphText}
use Rattle.meaning_graph.specs.Places.{line_behind, column_behind, BeginsOnLine, IsSyntaxFault}
use Rattle.meaning_graph.specs.Checks.{HasFault, Checked, FirstFault, FaultAt, first_fault}
use Rattle.meaning_graph.proofs.Lemmas.{one_graph, one_fault, one_line, each_begins, OneFault, first_or_checked, one_first, answered}
use Rattle.meaning_graph.specs.Stopping.{syntax_stop, front_of}
use Rattle.dg_reader.specs.declared.fault.ReadFault.{ReadFault}
use Rattle.dg_reader.specs.declared.fault.ReadFault.TheVariants.{TooLong, Syntax, Check, Memory}
use Rattle.dg_reader.specs.Files.{IsRead, IsCheckFault, Refuses}

-- ---- read is not refused

pub not_refused : (text : List ℕ) (decls : List Decl) (fault : ReadFault) → fault ≢ Memory → IsRead text decls → Refuses text fault → ⊥
not_refused text decls TooLong other r long = let few = r.short in let more : graph_limit < length text = long in absurd (omega arith)
not_refused text decls (Syntax line column) other r is = is.1.none decls r.spelled
not_refused text decls (Check line found) other r is =
    let f = is.1 in
    let same : f.decls ≡ decls = one_graph text decls f.decls r.spelled f.read in
    r.checked f.number found (subst (λ (ds : List Decl). HasFault ds f.number found) same f.first.there)
not_refused text decls Memory other r is = other refl

-- ---- one fault

one_check : (text : List ℕ) (line other : ℕ) (fault second : GraphFault) → IsCheckFault text line fault → IsCheckFault text other second → Check other second ≡ Check line fault
one_check text line other fault second a b =
    let same : b.decls ≡ a.decls = one_graph text a.decls b.decls a.read b.read in
    let first : FirstFault a.decls b.number second = subst (λ (ds : List Decl). FirstFault ds b.number second) same b.first in
    let one : OneFault a.number b.number fault second = one_first a.decls a.number b.number fault second a.first first in
    let begins : BeginsOnLine text a.decls b.number other = subst (λ (ds : List Decl). BeginsOnLine text ds b.number other) same b.begins in
    let at : BeginsOnLine text a.decls a.number other = subst (λ (n : ℕ). BeginsOnLine text a.decls n other) one.number_is begins in
    ap₂ (λ (l : ℕ) (f : GraphFault). Check l f) (one_line text a.decls a.number line other a.begins at) one.fault_is

too_long : (text : List ℕ) → graph_limit < length text → length text ≤ graph_limit → ⊥
too_long text long few = absurd (omega arith)

pub refused_by_one : (text : List ℕ) (fault second : ReadFault) → fault ≢ Memory → second ≢ Memory → Refuses text fault → Refuses text second → second ≡ fault
refused_by_one text TooLong TooLong n m a b = refl
refused_by_one text TooLong (Syntax k d) n m a b = absurd (too_long text a b.0)
refused_by_one text TooLong (Check k h) n m a b = absurd (too_long text a b.0)
refused_by_one text TooLong Memory n m a b = absurd (m refl)
refused_by_one text (Syntax l c) TooLong n m a b = absurd (too_long text b a.0)
refused_by_one text (Syntax l c) (Syntax k d) n m a b = let same = one_fault text l c k d a.1 b.1 in ap₂ (λ (x y : ℕ). Syntax x y) same.0 same.1
refused_by_one text (Syntax l c) (Check k h) n m a b = absurd (a.1.none b.1.decls b.1.read)
refused_by_one text (Syntax l c) Memory n m a b = absurd (m refl)
refused_by_one text (Check l f) TooLong n m a b = absurd (too_long text b a.0)
refused_by_one text (Check l f) (Syntax k d) n m a b = absurd (b.1.none a.1.decls a.1.read)
refused_by_one text (Check l f) (Check k h) n m a b = one_check text l k f h a.1 b.1
refused_by_one text (Check l f) Memory n m a b = absurd (m refl)
refused_by_one text Memory second n m a b = absurd (n refl)

-- ---- each text

abbrev Answer : List ℕ → Type 0
Answer text = ((decls : List Decl) × IsRead text decls) ⊎ ((fault : ReadFault) × (fault ≢ Memory) × Refuses text fault)

check_refuses : (text : List ℕ) (decls : List Decl) (at : FaultAt) → length text ≤ graph_limit → GraphText text decls → FirstFault decls at.number at.fault → Answer text
check_refuses text decls at few g first =
    let within : at.number - 1 < length decls = slice_get_within decls (at.number - 1) first.there.declaration first.there.there in
    let low : 0 < at.number = first.there.counted in
    let begins : (line : ℕ) × BeginsOnLine text decls at.number line = each_begins text decls at.number g low (omega arith) in
    inr (Check begins.0 at.fault, (λ e. cc), (few, record { decls = decls; number = at.number; read = g; first = first; begins = begins.1 }))

by_check : (text : List ℕ) (decls : List Decl) (found : Option FaultAt) → length text ≤ graph_limit → GraphText text decls → MatchOption found (Checked decls) (λ (at : FaultAt). FirstFault decls at.number at.fault) → Answer text
by_check text decls None few g checked = inl (decls, record { short = few; spelled = g; checked = checked })
by_check text decls (Some at) few g first = check_refuses text decls at few g first

by_stop : (text : List ℕ) (stop : Option (List ℕ)) → length text ≤ graph_limit → MatchOption stop ((decls : List Decl) × GraphText text decls) (λ (rest : List ℕ). IsSyntaxFault text (line_behind (front_of text rest)) (column_behind (front_of text rest))) → Answer text
by_stop text None few g = by_check text g.0 (first_fault g.0) few g.1 (first_or_checked g.0)
by_stop text (Some rest) few f = inr (Syntax (line_behind (front_of text rest)) (column_behind (front_of text rest)), (λ e. cc), (few, f))

pub read_or_refused : (text : List ℕ) → Answer text
read_or_refused text = elim (cases_lt graph_limit (length text)) [
  | inl long ↦ inr (TooLong, (λ e. cc), long)
  | inr few ↦ by_stop text (syntax_stop text) few (answered text few)
]
