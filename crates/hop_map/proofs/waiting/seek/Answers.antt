use Rattle.std.proofs.Common.{◌∙◌}
use Rattle.hop_map.proofs.Ways.{begins, small, goes}
use Rattle.hop_map.proofs.waiting.seek.Goals as goal

pub way-init : goal.way-init
way-init g c =
    let w = c.first_way-way.ensures in
    let n = c.note_stamp-stamp in
    record {
      table = n.ensures.table;
      at = record {
        before = c.args.lane.now.known;
        walking = begins c.args.table.now.about c.args.lane.now.known c.args.map c.args.home c.first_way-way.result
            w.inside (w.born c.args.lane.now.known) w.way w.few;
        noted = n.ensures.noted;
      };
    }

pub towards-requires-clause-small : goal.towards-requires-clause-small
towards-requires-clause-small g c = small c.args.table.now.about c.args.map c.way.way.segment c.way.stamp c.way.invariant.at.noted.deep

pub note_stamp-stamp-requires-in-way-clause-inside : goal.note_stamp-stamp-requires-in-way-clause-inside
note_stamp-stamp-requires-in-way-clause-inside g c =
    let t = c.way.invariant.at in
    let e = c.in-Some.ensures.way in
    (goes c.args.table.now.about c.args.lane.now.known c.args.map c.args.home c.way.stamp c.way._level c.way.way t.before c.way.lane.known
    t.walking t.noted c.in-Some.next e.0 e.1).inside

pub note_stamp-stamp-requires-in-way-clause-born : goal.note_stamp-stamp-requires-in-way-clause-born
note_stamp-stamp-requires-in-way-clause-born g c =
    let t = c.way.invariant.at in
    let e = c.in-Some.ensures.way in
    (goes c.args.table.now.about c.args.lane.now.known c.args.map c.args.home c.way.stamp c.way._level c.way.way t.before c.way.lane.known
    t.walking t.noted c.in-Some.next e.0 e.1).born

pub way-preserved : goal.way-preserved
way-preserved g c =
    let n = c.note_stamp-stamp-in-way in
    let t = c.way.invariant.at in
    let e = c.in-Some.ensures.way in
    record {
      table = n.ensures.table ∙ c.way.invariant.table;
      at = record {
        before = c.way.lane.known;
        walking = goes c.args.table.now.about c.args.lane.now.known c.args.map c.args.home c.way.stamp c.way._level c.way.way t.before
            c.way.lane.known t.walking t.noted c.in-Some.next e.0 e.1;
        noted = n.ensures.noted;
      };
    }
