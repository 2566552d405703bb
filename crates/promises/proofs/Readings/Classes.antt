-- Classes, computed. Assumes nothing.
use mathlib.Core.Path.{refl}
use Rattle.value.specs.Types.{family_of, is_numeric, real_type}
use Rattle.value.specs.Classes.{has_sign_bit, is_character, has_charset, is_enum_or_set}
use Rattle.map_check.specs.Ranks.{ranks_after}
use Rattle.map_check.specs.Fields.{rival_of}
use Rattle.rows_event.specs.Events.{form_of}
use Rattle.promises.specs.Classes.{Classes}

pub classes : Classes
unfolding family_of is_numeric real_type has_sign_bit is_character has_charset is_enum_or_set ranks_after rival_of form_of
classes =
    record {
      numeric = refl;
      character = refl;
      enum_or_set = refl;
      sign_document = refl;
      sign_mysql = refl;
      sign_mariadb = refl;
      charset_document = refl;
      charset_mysql = refl;
      charset_mariadb = refl;
      sets = refl;
      enums = refl;
      geometries = refl;
      vectors = refl;
      not_real = refl;
      real_of_10 = refl;
      family_of_10 = refl;
      fields = refl;
      rivals = refl;
      codes = refl;
      extra_codes = refl;
      update_codes = refl;
    }
