-- Defines the replies to requests for what is stored, a rule of this project: a bundle's file or its text, and the sizes
-- of an application's files.
use Rattle.std.specs.Prelude.{◌≡◌, ◌⊎◌, ℕ, List, length, map, Bool, true, false, codes}
use Rattle.std.specs.Prelude.{Option, Some, None, Result, Ok, Err}
use Rattle.rb_format.specs.File.{source_tree_of}
use Rattle.rb_printer.specs.Whole.{IsBundleText}
use Rattle.rb_packages.specs.Packages.{files_of, file_at}
use Rattle.rb_packages.specs.Words.{app_word}
use Rattle.rb_packages.specs.declared.app.AppFault.{AppFault}
use Rattle.rb_engine.specs.Kept.{Kept}
use Rattle.rb_replies.specs.Extended.{sizes_data, file_line, text_data}
use Rattle.rb_requests.specs.Within.{error_line, limited_line, line_of}
use Rattle.rb_requests.specs.declared.limits.Limits.{Limits}

-- the names of an application's bundles, each with the length of its file, in the order of installation
abbrev pub sizes_reply : Limits → Kept → Result (List ℕ) AppFault → List ℕ
sizes_reply limits kept (Err e) = error_line (app_word e)
sizes_reply limits kept (Ok app) =
    limited_line limits.reply_bytes (line_of (sizes_data (map (λ e. (e.0, length e.1)) (files_of app kept.packages))))

-- the file of a bundle, or a text of it under its locale's name; or an error if the text would be too long to be read
-- again: how long a text is is left open
abbrev pub FileReply : Limits → (is_text : Bool) → (n : List ℕ) → Option (List ℕ) → List ℕ → Type 0
FileReply limits is_text n None text = text ≡ error_line (codes "Absent")
FileReply limits true n (Some file) text = ((printed : List ℕ) × IsBundleText printed n (source_tree_of file)
    × (text ≡ limited_line limits.reply_bytes (line_of (text_data printed)))) ⊎ (text ≡ error_line (codes "TooLarge"))
FileReply limits false n (Some file) text = text ≡ limited_line limits.reply_bytes (file_line file)

-- what is exported of the application's bundle with the name; the application's name is checked first
abbrev pub ExportReply : Limits → Kept → (is_text : Bool) → Result (List ℕ) AppFault → Option (List ℕ) → List ℕ → Type 0
ExportReply limits kept is_text (Err e) locale text = text ≡ error_line (app_word e)
ExportReply limits kept is_text (Ok app) None text = text ≡ error_line (codes "BadLocale")
ExportReply limits kept is_text (Ok app) (Some n) text = FileReply limits is_text n (file_at app n kept.packages) text
