use Rattle.std.proofs.Common.{◌≡◌, ℕ, List, [], Some, get_or, arith, subst, sym}
use Rattle.std.specs.Prelude.{slice_get}
use Rattle.std.proofs.lemmas.Option.{slice_get-get_or}
use Rattle.bpf_races.specs.declared.found.Pair.{Pair}
use Rattle.bpf_races.specs.Touch.{Clash}
use Rattle.bpf_races.specs.Private.Clashes.{Collects}
use Rattle.bpf_races.proofs.WithinLaws.{amid_begins, amid_ends, amid_goes_on}
use Rattle.bpf_races.proofs.within.add_bytes.Goals as goal

pub loop-at-init : goal.loop-at-init
loop-at-init c =
    let pair : Pair = record { one = c.here.result; other = c.here-2.result } in
    amid_begins c.args.situation.now.machine.now c.args.situation.now.sync.now c.args.situation.now.nexts.now c.args.first.now
    c.args.second.now pair c.here.ensures c.here-2.ensures
    c.deref-at-items.result.now c.args.races.now.items c.requires.before

pub loop-at-preserved : goal.loop-at-preserved
loop-at-preserved c =
    let pair : Pair = record { one = c.here.result; other = c.here-2.result } in
    let first = c.args.first.now in
    let second = c.args.second.now in
    let bytes = c.deref-at-items.result.now in
    let n = c.loop-at.at-index in
    let b = get_or bytes n 0 in
    let at : slice_get bytes n ≡ Some b = slice_get-get_or bytes n 0 c.loop-at-test.true in
    let collects = subst (λ (xs : List ℕ). Collects (Clash first.accesses second.accesses) c.args.situation.now.sync.now [] xs)
    (sym c.deref-at-items.ensures.value) c.in_ok-bytes.ensures in
    amid_goes_on c.args.situation.now.machine.now c.args.situation.now.sync.now c.args.situation.now.nexts.now first second pair
    c.here.ensures c.here-2.ensures bytes n b
    c.in_ok-race.race c.loop-at.races.items c.add_race.new.races.items c.requires.order c.requires.next.is
    c.requires.next_too.is collects at c.in_ok-race.ensures c.in_ok-add_race.ensures c.loop-at.invariant

pub returns : goal.returns
returns c =
    let pair : Pair = record { one = c.here.result; other = c.here-2.result } in
    let first = c.args.first.now in
    let second = c.args.second.now in
    let collects = subst (λ (xs : List ℕ). Collects (Clash first.accesses second.accesses) c.args.situation.now.sync.now [] xs)
    (sym c.deref-at-items.ensures.value) c.in_ok-bytes.ensures in
    amid_ends c.args.situation.now.machine.now c.args.situation.now.sync.now c.args.situation.now.nexts.now first second pair c.here.ensures c.here-2.ensures
    c.deref-at-items.result.now c.loop-at.at-index c.loop-at.races.items c.requires.next.is c.requires.next_too.is
    collects (let past = c.loop-at-test.false in omega arith) c.loop-at.invariant
