use Rattle.std.proofs.Common.{◌≡◌, ℕ, ◌+◌, ◌*◌, ◌-◌, ◌≤◌, ◌<◌, max, Err}
use Rattle.rb_tree.specs.Resource.{trees_height}
use Rattle.rb_format.specs.declared.fault.FileFault.TheVariants.{TooDeep}
use Rattle.rb_format.specs.inner.FirstFault.{result_map}
use Rattle.rb_format.specs.Place as fields
use Rattle.rb_validator.specs.inner.KnownKeys.{IsSound}
use Rattle.rb_validator.specs.inner.Marks.{IsKnown, Leads, After, run_of}
use Rattle.rb_validator.specs.inner.CachedSpans.{AreRuns}
use Rattle.rb_validator.proofs.items.walk.+check.Given as goal

-- 2 ^ 66 for a level, and below it a run's length
abbrev pub decreases-check_item : goal.decreases-check_item
decreases-check_item l = 73786976294838206464 * l.left

abbrev pub decreases-check_inner : goal.decreases-check_inner
decreases-check_inner l = 73786976294838206464 * l.left + 73786976294838206463

abbrev pub decreases-check_items : goal.decreases-check_items
decreases-check_items l = 73786976294838206464 * l.left + l.items.count + 1

abbrev pub invariant-check_items-loop-i : goal.invariant-check_items-loop-i
invariant-check_items-loop-i l =
    record {
      value : result_map (λ ts. max l.height (trees_height ts)) (run_of l.body.layout.now l.body.bytes.now l.left l.i (l.first + l.count - l.i)) ≡ result_map trees_height
          (run_of l.body.layout.now l.body.bytes.now l.left l.first l.count);
      low : l.height ≤ l.left;
      sound : IsSound l.body.layout.now l.body.bytes.now l.state.keys.known;
      after : After l.body.layout.now l.body.bytes.now l.initial.state.memo l.state.memo;
      holds : AreRuns l.body.layout.now l.body.bytes.now l.state.memo l.state.runs;
      known : (j : ℕ) → j < l.i → l.first ≤ j → IsKnown l.state.memo (fields.word_at l.body.bytes.now j);
      leads : Leads l.body.layout.now l.body.bytes.now l.state.memo (λ e. run_of l.body.layout.now l.body.bytes.now e l.i (l.first + l.count - l.i) ≡ Err TooDeep);
    }
