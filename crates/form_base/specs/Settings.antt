-- What the settings are where the command line says nothing.
use Rattle.form_base.specs.declared.settings.Settings.{Settings}

-- one worker; the terms held are those of two buffers and eight buckets
abbrev pub default_settings : Settings
default_settings = record {
  workers = 1;
  bucket = 500;
  buffer = 20000;
  fan = 16;
  hold = 44000;
  max_repeat = 10000;
  max_expand = 10000000;
  max_terms = 1099511627776;
}
