-- A graph file is opened, and in one way only.
use Rattle.std.proofs.Common.{◌≡◌, ap, sym, ◌∙◌, subst, refl, inl, inr}
use Rattle.std.specs.Prelude.{Option, Some, None}
use Rattle.meaning_graph.specs.Graphs.{Text, Graph}
use Rattle.meaning_graph.proofs.Lemmas.{one_graph}
use Rattle.dg_reader.specs.Files.{IsRead, Refuses}
use Rattle.dg_reader.proofs.Lemmas.{not_refused, refused_by_one, read_or_refused}
use Rattle.odin_shell.specs.declared.graph.Opened.{Opened}
use Rattle.odin_shell.specs.declared.graph.Opened.TheVariants as opened
use Rattle.odin_shell.specs.Opened.{fault_line, no_file_line, GraphIsRefused, no_file, not_read, GraphIsOpened}

-- ---- one way

read_is_one : (text : Text) (g h : Graph) → IsRead text g → IsRead text h → h ≡ g
read_is_one text g h a b = one_graph text g h a.spelled b.spelled

refused_is_one : (given : Option Text) (a : Text) → GraphIsRefused given a → (other : Option Text) (b : Text) → other ≡ given → GraphIsRefused other b → b ≡ a
refused_is_one given a no_file other b e no_file = refl
refused_is_one given a no_file other b e (not_read text f n r) = absurd cc
refused_is_one given a (not_read text f n r) other b e no_file = absurd cc
refused_is_one given a (not_read text f n r) other b e (not_read same h m q) =
    let is : same ≡ text = cc in
    ap fault_line (refused_by_one text f h n m r (subst (λ (t : Text). Refuses t h) is q))

-- a file that is read is refused by no line
read_not_refused : (given : Option Text) (text : Text) (g : Graph) (line : Text) → given ≡ Some text → IsRead text g → GraphIsRefused given line → ⊥
read_not_refused given text g line there read no_file = cc
read_not_refused given text g line there read (not_read same f n refuses) =
    let is : same ≡ text = cc in
    not_refused text g f n read (subst (λ (t : Text). Refuses t f) is refuses)

pub opened_is_one : (given : Option Text) (o p : Opened) → GraphIsOpened given o → GraphIsOpened given p → p ≡ o
opened_is_one given (opened.Ready text g) (opened.Ready other h) a b =
    let same : other ≡ text = (let is : Some other ≡ Some text = sym b.there ∙ a.there in cc) in
    let one : h ≡ g = read_is_one text g h a.read (subst (λ (t : Text). IsRead t h) same b.read) in
    λ i. opened.Ready (same i) (one i)
opened_is_one given (opened.Ready text g) (opened.Refused line) a b = absurd (read_not_refused given text g line a.there a.read b)
opened_is_one given (opened.Refused line) (opened.Ready text g) a b = absurd (read_not_refused given text g line b.there b.read a)
opened_is_one given (opened.Refused line) (opened.Refused other) a b = ap opened.Refused (refused_is_one given line a given other refl b)

-- ---- each file

pub each_is_opened : (given : Option Text) → (o : Opened) × GraphIsOpened given o
each_is_opened None = (opened.Refused no_file_line, no_file)
each_is_opened (Some text) = elim (read_or_refused text) [
  | inl read ↦ (opened.Ready text read.0, record { there = refl; read = read.1 })
  | inr refused ↦ (opened.Refused (fault_line refused.0), not_read text refused.0 refused.1 refused.2)
]
