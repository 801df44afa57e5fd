-- The classes of words as tests that compute.
use Rattle.std.specs.Prelude.{ℕ, Bool, ◌&&◌, nat_lt, nat_le, List, length}
use Rattle.std.specs.List.{list_all}
use Rattle.object_values.specs.declared.nodes.ParamValue.{ParamValue}
use Rattle.meaning_texts.specs.Limits.{word_limit}
use Rattle.meaning_texts.specs.Classes.{is_name_byte, is_key_byte, is_value_byte, is_string_byte, begins_with_letter}

abbrev pub is_word_of : (ℕ → Bool) → List ℕ → Bool
is_word_of class text =
    nat_lt 0 (length text) && nat_le (length text) word_limit && list_all class text

abbrev pub is_name : List ℕ → Bool
is_name = is_word_of is_name_byte

abbrev pub is_key : List ℕ → Bool
is_key = is_word_of is_key_byte

abbrev pub is_id : List ℕ → Bool
is_id text = is_key text && begins_with_letter text

abbrev pub is_param_value : List ℕ → Bool
is_param_value = list_all is_value_byte

abbrev pub is_string_text : List ℕ → Bool
is_string_text text = nat_le (length text) word_limit && list_all is_string_byte text

abbrev pub is_param_of_class : ParamValue → Bool
is_param_of_class p = is_id p.param && is_param_value p.value
