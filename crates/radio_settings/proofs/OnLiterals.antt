-- What an answer unfolds to compute what a literal text comes to.
use Rattle.std.specs.Prelude.{⊤}
use Rattle.std.specs.Str.{is_utf8, chars}
use Rattle.toml.proofs.OnLiterals.{toml_on_literals}
use Rattle.radio_values.specs.AllowedOrigin.{is_allowed_origin}
use Rattle.radio_values.specs.MountName.{is_mount_name}
use Rattle.radio_keys.specs.Keys.{word}
use Rattle.radio_keys.specs.Lookup.{value_at, text_at, text_or, flag_or, table_at, table_or_empty, list_at, tables_at}
use Rattle.radio_keys.specs.Rows.{row_fault, table_fault, list_fault}
use Rattle.radio_settings_values.specs.Repeats.{first_repeat}
use Rattle.radio_settings_values.specs.Web.{web_path}
use Rattle.radio_settings.specs.Web.{web_of}
use Rattle.radio_settings.specs.Mounts.{mount_setting_of}
use Rattle.radio_settings.specs.Relays.{relay_setting_of}
use Rattle.radio_settings.specs.Document.{document_faults, reading_of}

unfoldable pub on_literals : ⊤
unfolding toml_on_literals is_utf8 chars word value_at text_at text_or flag_or table_at table_or_empty list_at tables_at
    is_allowed_origin is_mount_name web_of web_path row_fault table_fault list_fault first_repeat mount_setting_of relay_setting_of document_faults reading_of
on_literals = tt
