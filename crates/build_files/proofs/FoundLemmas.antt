-- What is found grows.
use Rattle.std.proofs.Common.{[], ◌++◌, append-nil, append_assoc, ap, sym, ◌∙◌}
use Rattle.build_files.specs.declared.walk.Found.{Found}
use Rattle.build_files.specs.Found.{FindsMore}

pub grows_none : (found : Found) → FindsMore found found
grows_none found = record { more = []; names = sym (append-nil found.names.items); odd = λ e. e; missing = λ e. e }

pub grows_then : (old mid new : Found) → FindsMore old mid → FindsMore mid new → FindsMore old new
grows_then old mid new first second = record {
  more = first.more ++ second.more;
  names = second.names ∙ ap (λ names. names ++ second.more) first.names ∙ append_assoc old.names.items first.more second.more;
  odd = λ e. second.odd (first.odd e);
  missing = λ e. second.missing (first.missing e);
}
