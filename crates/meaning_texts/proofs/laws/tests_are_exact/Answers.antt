use Rattle.meaning_texts.specs.Classes.{is_name_byte, is_key_byte}
use Rattle.meaning_texts.proofs.Words.{word_decides, id_decides, value_decides, string_decides}
use Rattle.meaning_texts.proofs.laws.tests_are_exact.Goals as goal

pub returns : goal.returns
returns c = λ text. record { names = word_decides is_name_byte text; ids = id_decides text; keys = word_decides is_key_byte text; values = value_decides text; strings = string_decides text }
