use Rattle.std.proofs.Common.{ℕ, Option, subst}
use Rattle.std.specs.Prelude.{MatchOption}
use Rattle.hop_arena.specs.declared.element.Element.{Element}
use Rattle.hop_arena.specs.Claiming.{Misses, Claims}
use Rattle.hop_map.specs.Private.Updates.{ClaimsOrLacks}
use Rattle.hop_map.proofs.Wholes.{found_at_once, found_later, missed_keeps}
use Rattle.hop_map.proofs.updating.claim_free.Goals as goal

pub returns-in-Some-clause-claimed : goal.returns-in-Some-clause-claimed
returns-in-Some-clause-claimed c = found_at_once c.args.table.now.about c.args.arena.now.map c.args.lane.now.known
    c.claim_near.new.lane.known c.in-Some.element c.in-Some.ensures.claimed

pub returns-clause-claimed : goal.returns-clause-claimed
returns-clause-claimed c =
    let a = c.args.table.now.about in
    let m = c.args.arena.now.map in
    let l = c.args.lane.now.known in
    let k = c.claim_near.new.lane.known in
    let o = c.claim_patiently.result in
    let l' = c.claim_patiently.new.lane.known in
    let missed : Misses a l m k = subst (λ (r : Option Element). MatchOption r (Misses a l m k) (λ (x : Element). Claims a l m x k))
    c.in_default.is c.claim_near.ensures.claimed in
    found_later a m l k l' (missed_keeps a m l k missed) o
    (subst (λ (n : ℕ). ClaimsOrLacks a k n o l') c.claim_near.ensures.arena.0 c.claim_patiently.ensures.claimed)
