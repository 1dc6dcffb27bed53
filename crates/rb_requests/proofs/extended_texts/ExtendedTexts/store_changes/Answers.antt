use Rattle.std.proofs.Common.{codes}
use Rattle.serde_json.proofs.Views.{get_member-put}
use Rattle.rb_requests.proofs.ExtendedFound.{other_at, texts_stay}
use Rattle.rb_requests.proofs.extended_texts.ExtendedTexts.store_changes.Goals as goal

pub returns : goal.returns
returns c found d are h = record {
  texts = texts_stay c.args.self.now.texts d found h.texts;
  form = other_at (codes "changes") d found c.args.self.now.form (codes "as") (λ e. cc) h.form;
  sizes = other_at (codes "changes") d found c.args.self.now.sizes (codes "sizes") (λ e. cc) h.sizes;
  changes = (d, get_member-put (codes "changes") d found, are);
}
