use Rattle.std.proofs.Common.{◌≡◌, ◌<◌, ◌-◌, ◌+◌, ◌++◌, ◌∷◌, length, take, drop, get_or, sym, ap, ◌∙◌, arith}
use Rattle.std.proofs.lemmas.Bool.Decides.{Decides-eqb}
use Rattle.std.proofs.lemmas.Grind.{common_steps}
use Rattle.meaning_texts.proofs.Lemmas.{HasNo-places, HasNo-take}
use Rattle.odin_bytes.proofs.CutLemmas.{cut_there}
use Rattle.odin_bytes.proofs.words.cut_at.Goals as goal

pub returns-in-Some-clause-some : goal.returns-in-Some-clause-some
returns-in-Some-clause-some c =
    let found = rw c.in-Some.is at c.memchr.ensures in
    let here : c.in-Some.at < length c.args.text.now = found.0.high in
    let there : get_or c.args.text.now c.in-Some.at 0 ≡ c.args.byte = (Decides-eqb _ c.args.byte).0 found.1 in
    let rest : take (length c.args.text.now - (c.in-Some.at + 1)) (drop (c.in-Some.at + 1) c.args.text.now) ≡ drop (c.in-Some.at + 1) c.args.text.now = grind (arith, common_steps) in (
      cut_there c.args.byte c.args.text.now c.in-Some.at here there ∙ ap (λ t. take c.in-Some.at c.args.text.now ++ c.args.byte ∷ t) (sym rest),
      HasNo-take c.args.byte c.args.text.now c.in-Some.at (λ k lt in_text e. found.0.before k (omega arith) lt ((Decides-eqb _ c.args.byte).1 e)),
    )

pub returns-in-None-clause-none : goal.returns-in-None-clause-none
returns-in-None-clause-none c =
    let none = rw c.in-None.is at c.memchr.ensures in
    HasNo-places c.args.byte c.args.text.now (λ k lt e. none k (omega arith) lt ((Decides-eqb _ c.args.byte).1 e))
