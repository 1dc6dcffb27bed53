use Rattle.std.proofs.Common.{sym, codes}
use Rattle.rb_requests.proofs.ExtendedFound.{others_at}
use Rattle.rb_requests.proofs.extended_texts.ExtendedTexts.store.Goals as goal

pub returns : goal.returns
returns c found d is h =
    let key = c.args.key.now in record {
      texts = c.put.ensures found d is h.texts;
      form = c.after-self.ensures found d is h.form;
      sizes = c.after-self-2.ensures found d is h.sizes;
      changes = others_at key d found c.args.self.now.changes (codes "changes") (λ e. c.requires (sym e)) h.changes;
    }
