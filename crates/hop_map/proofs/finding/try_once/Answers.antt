use Rattle.std.proofs.Common.{arith}
use Rattle.hop_map.proofs.Onces.{disturbed_first, way_of}
use Rattle.hop_map.proofs.Loads.{loads_stopped}
use Rattle.hop_map.proofs.Ways.{first_stopped, first_there, first_near, first_grows}
use Rattle.hop_map.proofs.finding.try_once.Goals as goal

pub read_segment-lane-requires-clause-homed : goal.read_segment-lane-requires-clause-homed
read_segment-lane-requires-clause-homed c = record {
  home = c.homing-at.ensures.home;
  key_size = c.homing-at.ensures.key;
  small = c.homing-at.ensures.small;
  elements = c.homing-at.ensures.elements;
}

pub read_segment-lane-requires-clause-even : goal.read_segment-lane-requires-clause-even
read_segment-lane-requires-clause-even c = let z = c.if-first-from.true in let l = c.from.ensures in omega arith

pub read_segment-lane-requires-clause-begins : goal.read_segment-lane-requires-clause-begins
read_segment-lane-requires-clause-begins c = (
  c.args.lane.known,
  c.requires.asks,
  (first_there c.args.table.now.about c.args.lane.known c.args.map c.homing-at.result.home c.see_stamp-first.result c.first_way-way.result
      c.see_stamp-first.new.self.known c.first_way-way.ensures.inside c.first_way-way.ensures.way c.first_way-way.ensures.level
      c.first_way-way.ensures.few c.see_stamp-first.ensures.seen (let z = c.if-first-from.true in let l = c.from.ensures in omega arith)
      (let z = c.if-first-from.true in let l = c.from.ensures in let f = c.first_way-way.ensures.few in omega arith)),
)

pub returns-then-read-first-clause-ends : goal.returns-then-read-first-clause-ends
returns-then-read-first-clause-ends c = c.read_segment-lane.ensures.other c.args.lane.known c.requires.asks
    (first_there c.args.table.now.about c.args.lane.known c.args.map c.homing-at.result.home c.see_stamp-first.result c.first_way-way.result
    c.see_stamp-first.new.self.known c.first_way-way.ensures.inside c.first_way-way.ensures.way c.first_way-way.ensures.level
    c.first_way-way.ensures.few c.see_stamp-first.ensures.seen (let z = c.if-first-from.true in let l = c.from.ensures in omega arith)
    (let z = c.if-first-from.true in let l = c.from.ensures in let f = c.first_way-way.ensures.few in omega arith)) c.if-read-first.true

pub returns-then-read-first-clause-loads : goal.returns-then-read-first-clause-loads
returns-then-read-first-clause-loads c = c.read_segment-lane.ensures.loads c.args.lane.known c.requires.asks
    (first_there c.args.table.now.about c.args.lane.known c.args.map c.homing-at.result.home c.see_stamp-first.result c.first_way-way.result
    c.see_stamp-first.new.self.known c.first_way-way.ensures.inside c.first_way-way.ensures.way c.first_way-way.ensures.level
    c.first_way-way.ensures.few c.see_stamp-first.ensures.seen (let z = c.if-first-from.true in let l = c.from.ensures in omega arith)
    (let z = c.if-first-from.true in let l = c.from.ensures in let f = c.first_way-way.ensures.few in omega arith))

pub returns-then-first-from-clause-ends : goal.returns-then-first-from-clause-ends
returns-then-first-from-clause-ends c = c.read_segment-lane.ensures.same c.args.lane.known c.requires.asks
    (first_there c.args.table.now.about c.args.lane.known c.args.map c.homing-at.result.home c.see_stamp-first.result c.first_way-way.result
    c.see_stamp-first.new.self.known c.first_way-way.ensures.inside c.first_way-way.ensures.way c.first_way-way.ensures.level
    c.first_way-way.ensures.few c.see_stamp-first.ensures.seen (let z = c.if-first-from.true in let l = c.from.ensures in omega arith)
    (let z = c.if-first-from.true in let l = c.from.ensures in let f = c.first_way-way.ensures.few in omega arith)) c.if-read-first.false

pub returns-then-first-from-clause-loads : goal.returns-then-first-from-clause-loads
returns-then-first-from-clause-loads c = c.read_segment-lane.ensures.loads c.args.lane.known c.requires.asks
    (first_there c.args.table.now.about c.args.lane.known c.args.map c.homing-at.result.home c.see_stamp-first.result c.first_way-way.result
    c.see_stamp-first.new.self.known c.first_way-way.ensures.inside c.first_way-way.ensures.way c.first_way-way.ensures.level
    c.first_way-way.ensures.few c.see_stamp-first.ensures.seen (let z = c.if-first-from.true in let l = c.from.ensures in omega arith)
    (let z = c.if-first-from.true in let l = c.from.ensures in let f = c.first_way-way.ensures.few in omega arith))

pub returns-then-first-eq1-clause-ends : goal.returns-then-first-eq1-clause-ends
returns-then-first-eq1-clause-ends c =
    let a = c.args.table.now.about in
    let m = c.args.map in
    let key = c.args.key.now in
    let odd = c.if-first-eq1.true in
    let walked = first_stopped c.args.table.now.about c.args.lane.known c.args.map c.homing-at.result.home c.see_stamp-first.result
    c.first_way-way.result c.see_stamp-first.new.self.known c.first_way-way.ensures.inside c.first_way-way.ensures.way
    c.first_way-way.ensures.level c.first_way-way.ensures.few c.see_stamp-first.ensures.seen odd in
    let way = way_of a m c.first_way-way.result.segment c.homing-at.result.home key walked.way c.homing-at.ensures.home walked.is_way in
    disturbed_first a c.args.lane.known m c.first_way-way.result.segment c.see_stamp-first.result key c.requires.asks walked.way way
    c.see_stamp-first.new.self.known odd (walked.locked odd)

pub returns-then-first-eq1-clause-loads : goal.returns-then-first-eq1-clause-loads
returns-then-first-eq1-clause-loads c =
    let odd = c.if-first-eq1.true in
    loads_stopped c.args.table.now.about c.args.lane.known c.args.map c.homing-at.result.home c.first_way-way.result.segment
    c.see_stamp-first.result c.see_stamp-first.new.self.known
    (first_stopped c.args.table.now.about c.args.lane.known c.args.map c.homing-at.result.home c.see_stamp-first.result
    c.first_way-way.result c.see_stamp-first.new.self.known c.first_way-way.ensures.inside c.first_way-way.ensures.way
    c.first_way-way.ensures.level c.first_way-way.ensures.few c.see_stamp-first.ensures.seen odd) odd

pub try_on_way-requires-clause-grows : goal.try_on_way-requires-clause-grows
try_on_way-requires-clause-grows c = first_grows c.args.table.now.about c.args.lane.known c.args.map c.homing-at.result.home
    c.see_stamp-first.result c.first_way-way.result c.see_stamp-first.new.self.known c.first_way-way.ensures.inside
    c.first_way-way.ensures.way c.first_way-way.ensures.level c.first_way-way.ensures.few c.see_stamp-first.ensures.seen
    (λ e. c.if-first-from.false (let z = c.if-first-eq1.false in let l = c.from.ensures in omega (arith, e)))

pub try_on_way-requires-clause-begins : goal.try_on_way-requires-clause-begins
try_on_way-requires-clause-begins c = (
  c.args.lane.known,
  c.requires.asks,
  (first_near c.args.table.now.about c.args.lane.known c.args.map c.homing-at.result.home c.see_stamp-first.result c.first_way-way.result
      c.see_stamp-first.new.self.known c.first_way-way.ensures.inside c.first_way-way.ensures.way c.first_way-way.ensures.level
      c.first_way-way.ensures.few c.see_stamp-first.ensures.seen (let z = c.if-first-eq1.false in omega arith)),
)

pub returns-clause-ends : goal.returns-clause-ends
returns-clause-ends c = c.try_on_way.ensures.ends c.args.lane.known c.requires.asks
    (first_near c.args.table.now.about c.args.lane.known c.args.map c.homing-at.result.home c.see_stamp-first.result c.first_way-way.result
    c.see_stamp-first.new.self.known c.first_way-way.ensures.inside c.first_way-way.ensures.way c.first_way-way.ensures.level
    c.first_way-way.ensures.few c.see_stamp-first.ensures.seen (let z = c.if-first-eq1.false in omega arith))

pub returns-clause-loads : goal.returns-clause-loads
returns-clause-loads c = c.try_on_way.ensures.loads c.args.lane.known c.requires.asks
    (first_near c.args.table.now.about c.args.lane.known c.args.map c.homing-at.result.home c.see_stamp-first.result c.first_way-way.result
    c.see_stamp-first.new.self.known c.first_way-way.ensures.inside c.first_way-way.ensures.way c.first_way-way.ensures.level
    c.first_way-way.ensures.few c.see_stamp-first.ensures.seen (let z = c.if-first-eq1.false in omega arith))
