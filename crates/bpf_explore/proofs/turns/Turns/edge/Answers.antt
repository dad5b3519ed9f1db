use Rattle.std.proofs.Common.{◌+◌, ◌*◌, length, refl, arith}
use Rattle.std.proofs.lemmas.Option.{slice_get_read}
use Rattle.bpf_explore.specs.Private.Edges.{edge_of}
use Rattle.bpf_explore.proofs.EdgeLaws.{placed_edge, read_edge}
use Rattle.bpf_explore.proofs.RowLaws.{turn_inside}
use Rattle.bpf_explore.proofs.turns.Turns.edge.Goals as goal

pub overflow_mul-place : goal.overflow_mul-place
overflow_mul-place c =
    let r = c.requires in
    let inside = turn_inside r.0 c.args.self.now c.args.place c.args.cpu r.1 r.2 r.3 in
    omega (arith, inside)

pub overflow_add-place : goal.overflow_add-place
overflow_add-place c =
    let r = c.requires in
    let inside = turn_inside r.0 c.args.self.now c.args.place c.args.cpu r.1 r.2 r.3 in
    omega (arith, inside)

pub index-requires : goal.index-requires
index-requires c =
    let r = c.requires in
    let inside = turn_inside r.0 c.args.self.now c.args.place c.args.cpu r.1 r.2 r.3 in
    omega (arith, inside)

pub returns : goal.returns
returns c kept are less =
    let turns = c.args.self.now in
    let arrivals = turns.arrivals.items in
    let number = c.args.place * turns.cpus + c.args.cpu in
    let a = c.index.result.now in
    let own = c.requires.3 in
    let inside = turn_inside kept turns c.args.place c.args.cpu are less own in
    let read = slice_get_read arrivals (length arrivals) number a refl inside c.index.ensures in
    let e = edge_of turns.cpus (0 + number) a in
    placed_edge turns.peers.items kept c.args.place c.args.cpu e (are.each c.args.place c.args.cpu e less own (read_edge turns.cpus 0 arrivals number a read))
