-- For what is private. Defines what a line asks by its kind of request.
use Rattle.std.specs.Prelude.{List, codes, Option, option_map, option_and_then}
use Rattle.serde_json.specs.Data.{Data}
use Rattle.serde_json.specs.Find.{get, as_array}
use Rattle.rb_requests.specs.Asked.{text_at, payload_in}
use Rattle.rb_requests.specs.ExtendedAsked.{ExtendedAsk, Puts, Exports, AsksTree, AsksUsage, ReleaseChange}
use Rattle.rb_requests.specs.ExtendedAsked.{all_changes, extended_by, flag_in, form_in, named, names_in, path_in}

-- an array of changes
abbrev pub changes_in : Data → Option (List ReleaseChange)
changes_in d = option_and_then all_changes (as_array d)

abbrev pub put_in : Data → Option ExtendedAsk
put_in d = named d (λ a l. option_map (Puts a l) (payload_in d))

abbrev pub export_in : Data → Option ExtendedAsk
export_in d = named d (λ a l. option_map (Exports a l) (form_in (get (codes "as") d)))

abbrev pub tree_in : Data → Option ExtendedAsk
tree_in d = named d (λ a l. option_map (AsksTree a l) (path_in (get (codes "path") d)))

abbrev pub usage_asked : Data → Option ExtendedAsk
usage_asked d = option_map AsksUsage (text_at (codes "app") d)

abbrev pub sized_list_in : Data → Option ExtendedAsk
sized_list_in d = option_and_then (names_in d) (flag_in (get (codes "sizes") d))

abbrev pub extended_in : Data → Option ExtendedAsk
extended_in d = option_and_then (λ op. extended_by op d) (text_at (codes "op") d)
