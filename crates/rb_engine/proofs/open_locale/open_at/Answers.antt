use Rattle.std.proofs.Common.{◌≡◌, [], ap, sym, ◌∙◌, subst}
use Rattle.rb_parents.specs.Family.{parent_of}
use Rattle.rb_parents.specs.Trail.{stops}
use Rattle.rb_fallback.specs.Stops.{AreStopsOf, CountsTrail}
use Rattle.rb_packages.specs.Lent.{files_in}
use Rattle.rb_packages.specs.Packages.{Files, files_of, icudata_of, shelf_of}
use Rattle.rb_packages.specs.Shelf.{bundle_at}
use Rattle.rb_engine.specs.Answer.{Refuses, lookup_in}
use Rattle.rb_engine.specs.OpenLocale.{names_of, opened_stop}
use Rattle.rb_engine.specs.declared.request.LookFault.TheVariants as fault
use Rattle.rb_engine.proofs.Opening.{count_none, files_none, none_refused, opens, trail_refused}
use Rattle.rb_engine.proofs.open_locale.open_at.Goals as goal

pub returns-in-Err-clause-refused : goal.returns-in-Err-clause-refused
returns-in-Err-clause-refused c = λ path good short.
    let icu = bundle_at (icudata_of c.args.packages.now) in
    let ps = parent_of c.args.parents.now in
    let n = c.args.place.now.name in
    let files = files_in c.shelf-own.result in
    let same : files ≡ files_of c.args.place.now.app c.args.packages.now = c.shelf-own.ensures.files in
    subst (λ (fs : Files). lookup_in (bundle_at (shelf_of fs)) icu ps n path ≡ Refuses c.from.result) same
    (trail_refused (bundle_at (shelf_of files)) icu ps n path c.in-Err.fault c.in-Err.ensures.fault good short ∙ ap Refuses (sym c.from.ensures))

pub returns-then-opened-eq0-clause-refused : goal.returns-then-opened-eq0-clause-refused
returns-then-opened-eq0-clause-refused c = λ path good short.
    let icu = bundle_at (icudata_of c.args.packages.now) in
    let ps = parent_of c.args.parents.now in
    let n = c.args.place.now.name in
    let files = files_in c.shelf-own.result in
    let same : files ≡ files_of c.args.place.now.app c.args.packages.now = c.shelf-own.ensures.files in
    let read = c.in-Ok.ensures.stops in
    subst (λ (fs : Files). lookup_in (bundle_at (shelf_of fs)) icu ps n path ≡ Refuses fault.NoBundle) same
    (none_refused (bundle_at (shelf_of files)) icu ps n path read.0 read.1 (count_none c.in-Ok.opened files read.0 c.if-opened-eq0.true read.2) good short)

pub returns-in-Some-clause-stops : goal.returns-in-Some-clause-stops
returns-in-Some-clause-stops c =
    let ps = parent_of c.args.parents.now in
    let n = c.args.place.now.name in
    let files = files_in c.shelf-own.result in
    let same : files ≡ files_of c.args.place.now.app c.args.packages.now = c.shelf-own.ensures.files in
    let read = c.in-Ok.ensures.stops in
    subst (λ (fs : Files). AreStopsOf (opened_stop c.in-Ok.opened fs) (bundle_at (shelf_of fs)) ps n) same (opens c.in-Ok.opened files ps n read.0 read.1 read.2)

pub returns-in-Some-clause-names : goal.returns-in-Some-clause-names
returns-in-Some-clause-names c =
    let ps = parent_of c.args.parents.now in
    let n = c.args.place.now.name in
    let same : files_in c.shelf-own.result ≡ files_of c.args.place.now.app c.args.packages.now = c.shelf-own.ensures.files in
    subst (λ (fs : Files). CountsTrail (names_of c.in-Ok.opened) (bundle_at (shelf_of fs)) ps n) same c.in-Ok.ensures.names

pub returns-in-None-clause-refused : goal.returns-in-None-clause-refused
returns-in-None-clause-refused c = λ path good short.
    let icu = bundle_at (icudata_of c.args.packages.now) in
    let ps = parent_of c.args.parents.now in
    let n = c.args.place.now.name in
    let files = files_in c.shelf-own.result in
    let same : files ≡ files_of c.args.place.now.app c.args.packages.now = c.shelf-own.ensures.files in
    let read = c.in-Ok.ensures.stops in
    let none : stops (bundle_at (shelf_of files)) read.0 ≡ [] =
    subst (λ (fs : Files). stops (bundle_at (shelf_of fs)) read.0 ≡ []) (sym (same ∙ c.in-None.ensures.none)) (files_none read.0) in
    subst (λ (fs : Files). lookup_in (bundle_at (shelf_of fs)) icu ps n path ≡ Refuses fault.NoBundle) same
    (none_refused (bundle_at (shelf_of files)) icu ps n path read.0 read.1 none good short)
