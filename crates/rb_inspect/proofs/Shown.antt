-- The item that is shown at the end of a walk.
use Rattle.std.proofs.Common.{◌≡◌, ℕ, List, [], Ok, sym, ap, ◌∙◌}
use Rattle.std.specs.List.{join_with_byte}
use Rattle.rb_tree.specs.Resource.{Resource, alias}
use Rattle.rb_tree.specs.Path.{segments}
use Rattle.rb_tree.specs.Walk.{Walked, ends, links, gone, stop_of, rest_of, end, link}
use Rattle.rb_fallback.proofs.Paths.{segments_joined}
use Rattle.rb_json.specs.Item.{item_data}
use Rattle.rb_inspect.specs.Got.{shown}

pub shown_end : (w : Walked) (t : Resource) → end t ≡ stop_of w → shown w ≡ Ok (item_data t [])
shown_end (ends u) t h = let same : t ≡ u = cc in ap (λ v. Ok (item_data v [])) (sym same)
shown_end (links us walked rest) t h = absurd cc
shown_end gone t h = absurd cc

pub shown_link : (w : Walked) (t : Resource) (cut : ℕ) (path : List ℕ) → link t cut ≡ stop_of w → rest_of w ≡ segments path → shown w ≡ Ok (item_data t path)
shown_link (ends u) t cut path h r = absurd cc
shown_link (links us walked rest) t cut path h r =
    let same : t ≡ alias us = cc in
    ap (λ p. Ok (item_data (alias us) p)) (ap (join_with_byte 47) r ∙ segments_joined path) ∙ ap (λ v. Ok (item_data v path)) (sym same)
shown_link gone t cut path h r = absurd cc
