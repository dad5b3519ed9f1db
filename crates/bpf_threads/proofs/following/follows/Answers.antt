use Rattle.std.proofs.Common.{◌≡◌, ◌+◌, ◌++◌, ◌∷◌, [], ℤ, Bool, true, false, Option, Some, inr, subst, sym, to_z, of_z, w32, rules}
use Rattle.std.specs.Prelude.{IfSome}
use Rattle.bpf_loader.specs.Places.{target}
use Rattle.bpf_threads.specs.Chart.{FollowsSpots, IsSpotThere, MayBe}
use Rattle.bpf_threads.proofs.following.follows.Goals as goal

pub returns-else-len-ge-MAX_FRAMES : goal.returns-else-len-ge-MAX_FRAMES
returns-else-len-ge-MAX_FRAMES c t =
    let spot = c.args.spot.now in
    let by = c.in-CallLocal.offset in
    let e : to_z w32 (of_z w32 by) ≡ by = search rules in
    let there = subst (λ (z : ℤ). IsSpotThere c.args.spots.now spot.jump (target spot.pc z) (spot.callers.items ++ (spot.pc + 1) ∷ [])
    spot.known) e (c.enters.ensures t) in
    subst (FollowsSpots c.args.spots.now spot) (sym c.in-CallLocal.is) (inr there)

pub returns-in-Jump : goal.returns-in-Jump
returns-in-Jump c t =
    let spot = c.args.spot.now in
    let by = c.in-Jump.offset in
    let e : to_z w32 (of_z w32 c.from.result) ≡ by = search rules in
    let there = subst (λ (z : ℤ). IsSpotThere c.args.spots.now spot.jump (target spot.pc z) spot.callers.items spot.known) e (c.jumps.ensures t) in
    subst (FollowsSpots c.args.spots.now spot) (sym c.in-Jump.is) there

pub returns-in-JumpLong : goal.returns-in-JumpLong
returns-in-JumpLong c t =
    let spot = c.args.spot.now in
    let by = c.in-JumpLong.offset in
    let e : to_z w32 (of_z w32 by) ≡ by = search rules in
    let there = subst (λ (z : ℤ). IsSpotThere c.args.spots.now spot.jump (target spot.pc z) spot.callers.items spot.known) e (c.jumps-in-JumpLong.ensures t) in
    subst (FollowsSpots c.args.spots.now spot) (sym c.in-JumpLong.is) there

pub returns-in-JumpIf : goal.returns-in-JumpIf
returns-in-JumpIf c t =
    let spot = c.args.spot.now in
    let i = c.in-JumpIf in
    let e : to_z w32 (of_z w32 c.from-in-JumpIf.result) ≡ i.offset = search rules in
    let Is : Bool → Type 0 = MayBe spot i.width i.condition i.dst i.src in
    let P : Option Bool → Type 0 = λ o. IfSome o (λ (b : Bool). (taken : Bool) → Is taken → b ≡ taken) in
    let taken : Is true → c.decision-decided.result ≡ Some false → ⊥ = λ may is.
    (let wrong : false ≡ true = subst P is c.decision-decided.ensures true may in cc) in
    let passed : Is false → c.decision-decided.result ≡ Some true → ⊥ = λ may is.
    (let wrong : true ≡ false = subst P is c.decision-decided.ensures false may in cc) in
    subst (FollowsSpots c.args.spots.now spot) (sym i.is) (
      (λ may. subst (λ (z : ℤ). IsSpotThere c.args.spots.now spot.jump (target spot.pc z) spot.callers.items spot.known) e
          (c.branches.ensures.jump t (taken may))),
      (λ may. c.branches.ensures.next t (passed may)),
    )
