use Rattle.std.proofs.Common.{ℕ, List, [], get_or, arith, sym, subst}
use Rattle.bpf_races.specs.declared.access.Access.{Access}
use Rattle.bpf_races.specs.Touch.{AreAtOdds, Clash, IsAmong}
use Rattle.bpf_races.specs.Private.Clashes.{Collects}
use Rattle.bpf_races.proofs.Clashing.{Below, no_access, at_read, as_well, access_begins, access_ends, access_goes_on}
use Rattle.bpf_races.proofs.clash.racing_bytes.Goals as goal

abbrev AtSome : List Access → Access → ℕ → Type 0
AtSome seconds first b = (second : Access) × IsAmong seconds second × AreAtOdds first second b

pub loop-k-init : goal.loop-k-init
loop-k-init c =
    let Q = AtSome c.args.seconds.now in
    subst (λ (xs : List ℕ). Collects (Below Q c.args.firsts.now 0) c.args.sync.now [] xs) (sym c.new-bytes.ensures.items)
    (access_begins c.args.sync.now Q c.args.firsts.now [])

pub loop-k-preserved : goal.loop-k-preserved
loop-k-preserved c =
    let xs = c.args.firsts.now in
    access_goes_on c.args.sync.now (AtSome c.args.seconds.now) xs c.loop-k.k (get_or xs c.loop-k.k no_access) [] c.loop-k.bytes.items
    c.push_of_one.new.bytes.items (at_read xs c.loop-k.k (omega arith)) c.loop-k.invariant c.in_ok-push_of_one.ensures

pub returns : goal.returns
returns c =
    let firsts = c.args.firsts.now in
    let seconds = c.args.seconds.now in
    as_well c.args.sync.now (λ b. (first : Access) × IsAmong firsts first × AtSome seconds first b) (Clash firsts seconds) [] c.loop-k.bytes.items
    (λ b (first, there, (second, there_too, odds)). (first, second, there, there_too, odds))
    (λ b (first, second, there, there_too, odds). (first, there, (second, there_too, odds)))
    (access_ends c.args.sync.now (AtSome seconds) firsts c.loop-k.k [] c.loop-k.bytes.items (omega arith) c.loop-k.invariant)
