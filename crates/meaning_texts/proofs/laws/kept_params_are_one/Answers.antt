use Rattle.std.proofs.Common.{sym, subst}
use Rattle.meaning_texts.specs.Expressions.{AreKeptAs}
use Rattle.meaning_texts.proofs.Params.{kept_are_kept, one_kept}
use Rattle.meaning_texts.proofs.laws.kept_params_are_one.Goals as goal

pub returns : goal.returns
returns c = λ written kept. (one_kept written kept, λ e. subst (AreKeptAs written) (sym e) (kept_are_kept written))
