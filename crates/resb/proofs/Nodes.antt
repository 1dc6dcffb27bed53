-- The item that a lookup gives without the names of bundles.
use Rattle.std.proofs.Common.{◌≡◌, ℕ, List, Result, Ok, Err, ap, ◌∙◌, subst}
use Rattle.rb_views.specs.Seen.{tree_seen}
use Rattle.rb_views.specs.declared.item.Item.{Item}
use Rattle.rb_fallback.specs.FoundNode.{IsNodeOf, node_of}
use Rattle.rb_fallback.specs.declared.found.Found.{Found}
use Rattle.rb_engine.specs.Answer.{Response, Finds, Refuses}
use Rattle.rb_engine.specs.LookResponse.{look_response}
use Rattle.rb_engine.specs.declared.request.LookFault.{LookFault}
use Rattle.resb.specs.Looks.{Describes}

pub item_told : (item : Item) (response : Response) (kind count number : ℕ)
    → IsNodeOf (Ok item) (λ (x : Result (Found Item) LookFault). look_response tree_seen x ≡ response)
    → ((actual valid : List ℕ) → Describes (Finds (record { tree = tree_seen item; actual = actual }) valid) 0 kind count number)
    → Describes response 0 kind count number
item_told item response kind count number n h = by n.found n.is n.known
  where
    by : (x : Result (Found Item) LookFault) → Ok item ≡ node_of x → look_response tree_seen x ≡ response → Describes response 0 kind count number
    by (Ok f) e known =
        let same : item ≡ f.node = cc in
        subst (λ (r : Response). Describes r 0 kind count number) known
        (subst (λ (i : Item). Describes (Finds (record { tree = tree_seen i; actual = f.actual }) f.valid) 0 kind count number) same (h f.actual f.valid))
    by (Err g) e known = cc

pub fault_told : (fault : LookFault) (response : Response)
    → IsNodeOf (Err fault) (λ (x : Result (Found Item) LookFault). look_response tree_seen x ≡ response) → Refuses fault ≡ response
fault_told fault response n = by n.found n.is n.known
  where
    by : (x : Result (Found Item) LookFault) → Err fault ≡ node_of x → look_response tree_seen x ≡ response → Refuses fault ≡ response
    by (Ok f) e known = cc
    by (Err g) e known = let same : fault ≡ g = cc in ap Refuses same ∙ known
