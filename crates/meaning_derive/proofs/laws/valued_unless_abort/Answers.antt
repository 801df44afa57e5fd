use Rattle.meaning_derive.proofs.Sound.{derived_sound, valued_exactly}
use Rattle.meaning_derive.proofs.laws.valued_unless_abort.Goals as goal

pub returns : goal.returns
returns c = λ g s outcomes h n view e. valued_exactly view (derived_sound g s outcomes h n view e)
