-- Defines how an engine changes by a request whose reply has a number, if memory may run out and handles may share it.
use Rattle.std.specs.Prelude.{◌≡◌, ◌≢◌, ℕ}
use Rattle.rb_engine.specs.Kept.{Kept}
use Rattle.rb_engine.specs.Version.{next_version}
use Rattle.rb_engine.specs.declared.request.Request.{Request}
use Rattle.resb.specs.Changes.{HandlesAs}

pub record Changes (old : Kept) (request : Request) (n : ℕ) (new : Kept) : Type 0 where
  pub unchanged : n ≢ 0 → new ≡ old
  pub version : n ≡ 0 → new.version ≡ next_version old.version
  pub handled : n ≢ 1 → n ≢ 4 → HandlesAs old request n new
