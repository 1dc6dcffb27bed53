use Rattle.std.proofs.Common.{◌∙◌, ℕ, List, ◌++◌, [], refl, sym, ap, subst, append_assoc}
use Rattle.hex.specs.Hex.{encode_lower, encode_with, lower_digits}
use Rattle.rb_replies.proofs.Digits.{digits_joined}
use Rattle.rb_replies.proofs.extended.put_digits.Goals as goal

pub spans-init : goal.spans-init
unfolding encode_with
spans-init g c = record { done = []; whole = refl; written = g.met.O.Outlet.nothing c.args.out.now }

pub spans-preserved : goal.spans-preserved
spans-preserved g c =
    let i = c.spans.invariant in
    let span = c.split_at.result.0.now in
    let after = c.split_at.result.1.now in
    let Takes = g.O.Outlet.takes c.args.out.now c.put_span.new.out in
    let both = g.met.O.Outlet.joined c.args.out.now c.spans.out c.put_span.new.out (encode_lower i.done) (encode_lower span) i.written c.put_span.ensures in record {
      done = i.done ++ span;
      whole = append_assoc i.done span after ∙ ap (λ (zs : List ℕ). i.done ++ zs) (sym c.split_at.ensures.by_index.0) ∙ i.whole;
      written = subst Takes (digits_joined lower_digits i.done span) both;
    }
