use Rattle.rb_engine.proofs.Keeping.{keeps_texts, keeps_common_texts, keeps_trees}
use Rattle.rb_engine.proofs.laws.a_text_is_kept_as_its_bundle.Goals as goal

pub returns-clause-tree : goal.returns-clause-tree
returns-clause-tree c = keeps_trees

pub returns-clause-lookups : goal.returns-clause-lookups
returns-clause-lookups c = keeps_texts

pub returns-clause-icudata : goal.returns-clause-icudata
returns-clause-icudata c = keeps_common_texts
