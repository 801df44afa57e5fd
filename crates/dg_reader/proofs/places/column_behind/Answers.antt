use Rattle.std.proofs.Common.{◌≡◌, ◌<◌, ◌+◌, length, get_or, ap, length-drop, arith}
use Rattle.std.proofs.lemmas.Bool.Decides.{Decides-eqb}
use Rattle.meaning_texts.specs.Lines.{LineCut}
use Rattle.dg_reader.proofs.PlaceLemmas.{behind_last, whole_last}
use Rattle.dg_reader.proofs.places.column_behind.Goals as goal

pub returns-in-Some-clause-value : goal.returns-in-Some-clause-value
returns-in-Some-clause-value c =
    let found = rw c.in-Some.is at c.memrchr.ensures in
    let here : c.in-Some.end < length c.args.front.now = found.0.high in
    let lf : get_or c.args.front.now c.in-Some.end 0 ≡ 10 = (Decides-eqb _ 10).0 found.1 in
    let last = behind_last c.args.front.now c.in-Some.end here (λ k more less e. found.0.after k (omega arith) less ((Decides-eqb _ 10).1 e)) lf in
    let size = length-drop (c.in-Some.end + 1) c.args.front.now in
    let same = ap length last in
    omega arith

pub returns-in-None-clause-value : goal.returns-in-None-clause-value
returns-in-None-clause-value c =
    let none = rw c.in-None.is at c.memrchr.ensures in
    let whole = whole_last c.args.front.now (λ k less e. none k (omega arith) less ((Decides-eqb _ 10).1 e)) in
    let same = ap (λ (cut : LineCut). length cut.last) whole in
    omega arith
