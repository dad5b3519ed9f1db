use Rattle.std.proofs.Common.{arith}
use Rattle.bpf_races.proofs.WithinLaws.{next_read, own_back, own_next, own_up, row_begins, row_ends}
use Rattle.bpf_races.proofs.within.add_races_of.Goals as goal

pub loop-other-init : goal.loop-other-init
loop-other-init c = row_begins c.args.situation.now.machine.now c.args.situation.now.sync.now c.args.situation.now.nexts.now c.args.cpu
    c.args.races.now.items c.requires.before

pub add_bytes-requires-clause-next : goal.add_bytes-requires-clause-next
add_bytes-requires-clause-next c =
    let first = c.index-nexts-cpu.result in
    own_next c.args.situation.now.machine.now c.args.cpu first (c.requires.nexts.each c.args.cpu first
    (next_read c.args.situation.now.nexts.now c.args.cpu first c.requires.within c.index-nexts-cpu.is))

pub add_bytes-requires-clause-next_too : goal.add_bytes-requires-clause-next_too
add_bytes-requires-clause-next_too c =
    let second = c.index-nexts-other.result in
    let other = c.loop-other.other in
    own_next c.args.situation.now.machine.now other second (c.requires.nexts.each other second
    (next_read c.args.situation.now.nexts.now other second c.loop-other-test.true c.index-nexts-other.is))

pub add_bytes-requires-clause-before : goal.add_bytes-requires-clause-before
add_bytes-requires-clause-before c =
    let first = c.index-nexts-cpu.result in
    let second = c.index-nexts-other.result in
    let other = c.loop-other.other in
    own_up c.args.situation.now.machine.now c.args.situation.now.sync.now c.args.situation.now.nexts.now c.args.cpu other first second
    (c.requires.nexts.each c.args.cpu first (next_read c.args.situation.now.nexts.now c.args.cpu first c.requires.within c.index-nexts-cpu.is))
    (c.requires.nexts.each other second (next_read c.args.situation.now.nexts.now other second c.loop-other-test.true c.index-nexts-other.is))
    c.loop-other.races.items c.loop-other.invariant

pub loop-other-preserved : goal.loop-other-preserved
loop-other-preserved c =
    let first = c.index-nexts-cpu.result in
    let second = c.index-nexts-other.result in
    let other = c.loop-other.other in
    own_back c.args.situation.now.machine.now c.args.situation.now.sync.now c.args.situation.now.nexts.now c.args.cpu other first second
    (c.requires.nexts.each c.args.cpu first (next_read c.args.situation.now.nexts.now c.args.cpu first c.requires.within c.index-nexts-cpu.is))
    (c.requires.nexts.each other second (next_read c.args.situation.now.nexts.now other second c.loop-other-test.true c.index-nexts-other.is))
    c.add_bytes.new.races.items c.in_ok-add_bytes.ensures

pub returns : goal.returns
returns c = row_ends c.args.situation.now.machine.now c.args.situation.now.sync.now c.args.situation.now.nexts.now c.args.cpu
    c.loop-other.other c.loop-other.races.items
    (omega arith) c.loop-other.invariant
