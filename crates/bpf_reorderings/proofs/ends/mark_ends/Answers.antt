use Rattle.std.proofs.Common.{◌≡◌, ◌+◌, ◌<◌, ◌≤◌, ℕ, Bool, true, false, if◌then◌else◌, refl, arith}
use Rattle.bpf_explore.specs.Private.Ends.{unmarked}
use Rattle.bpf_reorderings.proofs.ends.mark_ends.Goals as goal

less : (old new : ℕ) (now : Bool) → (now ≡ true → new < old) → new ≤ old → new + (if now then 1 else 0) < old + 1
less old new true fewer least = let one = fewer refl in omega arith
less old new false fewer least = omega arith

pub loop-more-smaller : goal.loop-more-smaller
loop-more-smaller c =
    let far = less (unmarked c.loop-more.marks.items) (unmarked c.mark_more-more.new.marks.items) c.mark_more-more.result
    c.mark_more-more.ensures.fewer c.mark_more-more.ensures.no_more in
    rw c.loop-more-test.true far
