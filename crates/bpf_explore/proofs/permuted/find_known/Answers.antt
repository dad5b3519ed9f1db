use Rattle.std.proofs.Common.{Vec, Global, sym, subst}
use Rattle.bpf_live.specs.Live.{Table}
use Rattle.bpf_machine.specs.Machine.{MachineState}
use Rattle.bpf_alike.specs.Worlds.{AreLiveTables, table_at}
use Rattle.bpf_equal.specs.declared.peers.Peer.{Peer}
use Rattle.bpf_explore.specs.Private.Peers.{IsKeptElsewhereAt}
use Rattle.bpf_explore.proofs.permuted.find_known.Goals as goal

pub is_elsewhere-requires-clause-tables : goal.is_elsewhere-requires-clause-tables
is_elsewhere-requires-clause-tables c =
    let own = c.args.album.now in
    subst (λ (ts : Vec Table Global). AreLiveTables own.stock.programs (table_at ts.items)) (sym c.loop-step.invariant.tables) c.requires.tables

pub returns-then-branch-clause-kept : goal.returns-then-branch-clause-kept
returns-then-branch-clause-kept c m numbered =
    subst (λ (ps : Vec Peer Global). IsKeptElsewhereAt ps.items c.args.album.now.kept c.in-Some.place m) c.loop-step.invariant.peers
    (c.in_ok-is_elsewhere.ensures.kept c.if-branch.true m numbered)
