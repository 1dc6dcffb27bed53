-- The whole item at which a walk ends.
use Rattle.std.proofs.Common.{◌≡◌, ℕ, ◌<◌, List, [], ◌∷◌, ◌++◌, length, drop, Option, Some, None, Ok, Err, Bool, true, false, cond, refl, sym, ap, ◌∙◌, subst, arith}
use Rattle.std.specs.List.{join_with_byte}
use Rattle.rb_tree.specs.Resource.{Resource, alias}
use Rattle.rb_tree.specs.Path.{segments}
use Rattle.rb_tree.specs.Walk.{Walked, ends, links, gone, stop_of, rest_of, end, link, nowhere}
use Rattle.rb_fallback.proofs.Paths.{segments_joined}
use Rattle.std.specs.Prelude.{Result}
use Rattle.rb_json.specs.Printed.{is_within, laid_out}
use Rattle.rb_json.specs.Value.{value_of}
use Rattle.rb_json.specs.declared.layout.Layout.{Layout}
use Rattle.rb_convert.specs.Whole.{Prints, light, reached}
use Rattle.rb_convert.specs.declared.value.ValueError.{ValueError}
use Rattle.rb_convert.specs.declared.value.ValueError.TheVariants.{Missing, TooLarge}

pub reached_end : (w : Walked) (t : Resource) → end t ≡ stop_of w → Some t ≡ reached w
reached_end (ends u) t h = let same : t ≡ u = cc in ap Some same
reached_end (links us walked rest) t h = absurd cc
reached_end gone t h = absurd cc

pub reached_link : (w : Walked) (t : Resource) (cut : ℕ) (path : List ℕ) → link t cut ≡ stop_of w → rest_of w ≡ segments path → length path ≡ 0
    → Some t ≡ reached w
reached_link (ends u) t cut path h r e = absurd cc
reached_link (links us walked []) t cut path h r e = let same : t ≡ alias us = cc in ap Some same
reached_link (links us walked (s ∷ rest)) t cut [] h r e = absurd cc
reached_link (links us walked (s ∷ rest)) t cut (b ∷ path) h r e = absurd (omega arith)
reached_link gone t cut path h r e = absurd cc

pub led_on : (w : Walked) (t : Resource) (cut : ℕ) (path : List ℕ) → link t cut ≡ stop_of w → rest_of w ≡ segments path → 0 < length path
    → None ≡ reached w
led_on (ends u) t cut path h r e = absurd cc
led_on (links us walked []) t cut path h r e =
    let none : [] ≡ path = ap (join_with_byte 47) r ∙ segments_joined path in
    let long : 0 ≡ length path = ap length none in
    absurd (omega arith)
led_on (links us walked (x ∷ rest)) t cut path h r e = refl
led_on gone t cut path h r e = absurd cc

pub reached_gone : (w : Walked) → nowhere ≡ stop_of w → None ≡ reached w
reached_gone (ends u) h = absurd cc
reached_gone (links us walked rest) h = absurd cc
reached_gone gone h = refl

pub light_ok : (o : Option Resource) (t : Resource) → Some t ≡ o → is_within t ≡ true → light o ≡ Ok t
light_ok None t e h = absurd cc
light_ok (Some u) t e h =
    let same : t ≡ u = cc in
    subst (λ (v : Resource). light (Some v) ≡ Ok t) same (rw h refl)

pub light_large : (o : Option Resource) (t : Resource) → Some t ≡ o → is_within t ≡ false → light o ≡ Err TooLarge
light_large None t e h = absurd cc
light_large (Some u) t e h =
    let same : t ≡ u = cc in
    subst (λ (v : Resource). light (Some v) ≡ Err TooLarge) same (rw h refl)

pub light_none : (o : Option Resource) → None ≡ o → light o ≡ Err Missing
light_none None e = refl
light_none (Some u) e = absurd cc

pub printed_item : (Takes : List ℕ → Type 0) (layout : Layout) (r : Result Resource ValueError) (t : Resource) → r ≡ Ok t
    → Takes (laid_out layout (value_of t)) → Prints Takes layout r
printed_item Takes layout r t is h = subst (Prints Takes layout) (sym is) h
