use Rattle.plain_derive.proofs.derivation.derive_plain.Given as goal

abbrev pub ghosts-derive_counted : goal.ghosts-derive_counted
ghosts-derive_counted g a = record { name = a.blank.name; parts = a.blank.parts }
