-- Defines the names of applications, a rule of this project: 1 to 64 ASCII letters, digits, `_`, `-` and `.`; `ICUDATA`
-- names the common bundles.
use Rattle.std.specs.Prelude.{ℕ, ◌==◌, ◌&&◌, ◌||◌, Bool, not, List, length, nat_le, if◌then◌else◌, Result, Ok, Err}
use Rattle.std.specs.Prelude.{codes}
use Rattle.std.specs.List.{list_all}
use Rattle.std.specs.Str.{bytes_eq}
use Rattle.std.specs.Char.{is_ascii_alphanumeric}
use Rattle.rb_packages.specs.declared.app.AppFault.{AppFault}
use Rattle.rb_packages.specs.declared.app.AppFault.TheVariants.{BadApp, Reserved}

-- a byte of an application's name
abbrev pub is_app_byte : ℕ → Bool
is_app_byte b = is_ascii_alphanumeric b || (b == 0x5F || (b == 0x2D || b == 0x2E))

abbrev pub is_app : List ℕ → Bool
is_app bytes = (nat_le 1 (length bytes) && nat_le (length bytes) 64) && list_all is_app_byte bytes

-- the name, or the reason why the bytes aren't one
abbrev pub app_of : List ℕ → Result (List ℕ) AppFault
app_of bytes = if not (is_app bytes) then Err BadApp else if bytes_eq bytes (codes "ICUDATA") then Err Reserved
    else Ok bytes
