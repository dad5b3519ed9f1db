use Rattle.std.proofs.Common.{◌≡◌, ◌≢◌, ℕ, subst, arith}
use Rattle.std.proofs.lemmas.Bool.Decides.{nat_tests}
use Rattle.hop_map.specs.Private.Locks.{Sought}
use Rattle.hop_map.proofs.Gathering.{has_last, not_locked}
use Rattle.hop_map.proofs.listing.has_lock.Goals as goal

pub returns-clause-last : goal.returns-clause-last
returns-clause-last g c = λ t.
    let a = c.args.table.now.about in
    let l = c.args.lane.now.known in
    let y = c.seek.new.lane.known in
    let same : c.seek.result.segment ≡ c.args.segment = grind (arith, nat_tests) in
    has_last a l c.args.map c.args.segment c.seek.result.stamp y
    (subst (λ (i : ℕ). Sought a l c.args.map c.args.segment i c.seek.result.stamp y) same c.seek.ensures.sought) c.requires.covers

pub returns-clause-none : goal.returns-clause-none
returns-clause-none g c = λ f.
    let a = c.args.table.now.about in
    let l = c.args.lane.now.known in
    let other : c.seek.result.segment ≢ c.args.segment = (λ e. (let z = e in grind (arith, nat_tests))) in
    not_locked a l c.args.map c.args.segment c.seek.new.lane.known
    (record { owner = c.seek.result.segment; stamp = c.seek.result.stamp; sought = c.seek.ensures.sought; other = other }) c.requires.covers
