-- For what is private. Defines the lengths of lines under limits in the program's type.
use Rattle.rb_requests.specs.Within.{longest_kept, longest_read}
use Rattle.rb_requests.specs.declared.limits.Limits.{Limits}
use Rattle.rb_requests.specs.declared.reading.Longest.{Longest}

abbrev pub longest : Limits → Longest
longest limits =
    record { kept = longest_kept limits; limit = longest_read limits; passes_starved = limits.keep_serving }
