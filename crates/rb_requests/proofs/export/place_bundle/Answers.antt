use Rattle.rb_requests.proofs.export.place_bundle.Goals as goal

pub returns-then-is_text : goal.returns-then-is_text
returns-then-is_text g c = rw (c.in-Some.is, c.if-is_text.true) c.place_text.ensures
