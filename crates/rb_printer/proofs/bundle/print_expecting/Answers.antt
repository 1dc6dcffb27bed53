use Rattle.std.proofs.Common.{ℕ, List, [], subst, arith}
use Rattle.rb_printer.specs.Sign.{signs_chars}
use Rattle.rb_printer.specs.Page.{page, members_of}
use Rattle.rb_printer.specs.Whole.{IsBundleText}
use Rattle.rb_printer.specs.inner.Growth.{Adds}
use Rattle.rb_printer.proofs.Least.{page_frame}
use Rattle.rb_printer.proofs.Pages.{page_printed}
use Rattle.rb_printer.proofs.bundle.print_expecting.Goals as goal

pub returns-in_default-clause-error : goal.returns-in_default-clause-error
returns-in_default-clause-error g c = λ _.
    omega (arith, page_frame c.args.name.now c.args.no_fallback (members_of (g.N.Node.tree c.args.root)), c.in_default.ensures)

pub returns-clause-text : goal.returns-clause-text
returns-clause-text g c =
    let t = g.N.Node.tree c.args.root in
    let units = c.as_slice.result.now in
    let chars = signs_chars (page units c.args.no_fallback (members_of t)) in
    let adds : Adds [] c.put_page.new.out.items chars =
    subst (λ (old : List ℕ). Adds old c.put_page.new.out.items chars) c.in_ok-bytes.ensures.items c.in_ok-put_page.ensures.adds in
    subst (λ (name : List ℕ). IsBundleText c.put_page.new.out.items name (record { tree = t; no_fallback = c.args.no_fallback })) c.as_slice.ensures
    (page_printed c.put_page.new.out.items units c.args.no_fallback t c.requires c.in_ok-put_page.ensures.sound c.in_ok-put_page.ensures.units adds
    (omega arith))
