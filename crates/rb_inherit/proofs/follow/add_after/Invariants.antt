use Rattle.std.proofs.Common.{◌≡◌, None}
use Rattle.rb_inherit.specs.inner.Earlier.{Grows, Stays}
use Rattle.rb_inherit.proofs.follow.add_after.Given as goal

abbrev pub invariant-links : goal.invariant-links
invariant-links g l = record {
  stays : Stays l.fn.before.found l.found;
  layers : Grows l.fn.place.layers.items l.place.layers.items;
  keys : l.place.keys.items ≡ l.fn.place.keys.items;
  link : l.initial.link ≡ None → l.link ≡ None;
  found : l.initial.link ≡ None → l.found ≡ l.initial.found;
  place : l.initial.link ≡ None → l.place ≡ l.initial.place;
}
