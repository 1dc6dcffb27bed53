-- Defines the answer of a lookup over files, and its status, this project's own rule.
use Rattle.std.specs.Prelude.{◌≡◌, ℕ, List, Bool, true, false, codes, if◌then◌else◌, Option, Result, Ok, Err}
use Rattle.rb_engine.specs.Answer.{Response, Finds, answer_over}
use Rattle.rb_engine.specs.Ask.{Looks}
use Rattle.rb_engine.specs.Kept.{Kept, state_of}
use Rattle.rb_console.specs.Starting.{HasParentsFor}
use Rattle.rb_asked.specs.declared.shared.ParentsSource.{ParentsSource}

-- the application for which the bundles are installed
abbrev pub look_app : List ℕ
look_app = codes "look"

-- what an engine answers
abbrev pub looked_up : Kept → List ℕ → List ℕ → Response
looked_up engine locale path =
    answer_over (state_of engine).start ((state_of engine).lists look_app) (Looks look_app locale path)

abbrev pub is_found : Response → Bool
is_found (Finds hit valid) = true
is_found other = false

-- the status is 0 if something is found, and 2 if the reply can't be written
abbrev pub look_status : {T E : Type 0} → Bool → Result T E → ℕ
look_status found (Ok done) = if found then 0 else 1
look_status found (Err error) = 2

-- something is found by an engine with explicit parents, if any are given
abbrev pub IsFoundWith : Option ParentsSource → List ℕ → List ℕ → Type 0
IsFoundWith parents locale path = (engine : Kept) × HasParentsFor parents (state_of engine).start.parents
    × (is_found (looked_up engine locale path) ≡ true)
