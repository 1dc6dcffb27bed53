use Rattle.std.proofs.Common.{◌≢◌, ◌≤◌, ◌&&◌, List, [], ℕ, length, sym, ◌∙◌, rules}
use Rattle.std.proofs.lemmas.List.{at_drop_all}
use Rattle.rb_fallback.specs.inner.PathScan.{may_end}
use Rattle.rb_fallback.proofs.PathScans.{path_scan}
use Rattle.rb_fallback.proofs.path.is_short_path.Goals as goal

pub returns-else-is_empty : goal.returns-else-is_empty
returns-else-is_empty c =
    let path = c.args.path.now in
    let past : length path ≤ c.loop-byte.byte-index = search rules in
    let there : path ≢ [] = search rules in
    sym (c.loop-byte.invariant ∙ at_drop_all (λ (l : List ℕ). c.loop-byte.good && may_end c.loop-byte.before l) path c.loop-byte.byte-index past)
    ∙ sym (path_scan path there)
