-- Defines sums of the files of an application, for proofs.
use Rattle.std.proofs.Common.{ℕ, ◌+◌, ◌-◌, List, length, unwrap_or}
use Rattle.rb_packages.specs.Packages.{Files}
use Rattle.rb_replies.specs.Replied.{usage_data}
use Rattle.rb_requests.specs.Limits.{len_at, used}
use Rattle.rb_requests.specs.Within.{line_of}

-- their length with a file of this length under a name
abbrev pub used_with : List ℕ → Files → ℕ → ℕ
used_with name files len = (used files - unwrap_or (len_at name files) 0) + len

-- the line that says how much they are
abbrev pub usage_line : Files → List ℕ
usage_line files = line_of (usage_data (used files) (length files))
