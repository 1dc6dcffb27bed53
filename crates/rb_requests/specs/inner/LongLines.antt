-- For what is private. Defines the bytes of lines that are written piece by piece.
use Rattle.std.specs.Prelude.{ℕ, List}
use Rattle.rb_replies.specs.Extended.{file_line, text_data, tree_line}
use Rattle.rb_requests.specs.Within.{line_of}
use Rattle.rb_requests.specs.declared.long_line.LongLine.{LongLine}
use Rattle.rb_requests.specs.declared.long_line.LongLine.TheVariants.{File, Text, Tree}

abbrev pub long_line : LongLine → List ℕ
long_line (File file) = file_line file.now
long_line (Text text) = line_of (text_data text.now)
long_line (Tree actual valid tree) = tree_line actual.now valid.now tree.now
