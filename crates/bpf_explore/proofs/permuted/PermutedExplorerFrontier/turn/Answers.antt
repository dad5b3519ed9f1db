use Rattle.std.proofs.Common.{◌≡◌, ◌<◌, ℕ, List, Vec, Global, false, length, ap, sym, subst, arith}
use Rattle.std.specs.Prelude.{IfSome}
use Rattle.bpf_machine.specs.Machine.{MachineState}
use Rattle.bpf_explore.specs.Private.Peers.{IsKeptElsewhereAt}
use Rattle.bpf_alike.specs.Worlds.{AreLiveTables, table_at}
use Rattle.bpf_equal.specs.Groups.{ArePeers}
use Rattle.bpf_explore.specs.Album.{AlbumState, IsNumbered, PermutedState}
use Rattle.bpf_explore.specs.Scouts.{IsTurnAhead}
use Rattle.bpf_equal.specs.declared.peers.Peer.{Peer}
use Rattle.bpf_explore.specs.Search.{IsIdleAt, IsTurned, Permuted}
use Rattle.bpf_explore.proofs.SearchLaws.{idle_turned}
use Rattle.bpf_explore.proofs.ScoutLaws.{same_has_more}
use Rattle.bpf_explore.proofs.PermutedLaws.{alike_permuted, known_turned, none_has, same_extends, some_has, twins_as, twins_more, twins_still}
use Rattle.bpf_explore.proofs.permuted.PermutedExplorerFrontier.turn.Goals as goal

pub find_known-requires : goal.find_known-requires
find_known-requires c =
    let m = c.self.inside in
    let now = c.look.new.self in
    let place = c.args.place in
    let there = subst (λ (p : PermutedState). place < length p.found.kept) (sym c.self.view_is) c.requires in
    let some : 0 < length m.explorer.kept = omega (arith, there) in
    let same = same_extends m.explorer.kept now.kept c.look.ensures.kept in
    let twins = twins_more m.explorer.stock now.stock m.explorer.kept now.kept c.look.ensures.more some same m.twins.peers.items
    m.twins.tables.items c.self.invariant in
    let turn = some_has (λ (n : ℕ). IsTurnAhead false m.explorer.kept now.stock place c.args.cpu n c.look.new.room.numbers.items)
    c.in_ok-looked.looked c.in-Some.ahead c.in-Some.is c.in_ok-looked.ensures.turn in
    let same_album = sym c.album-album.ensures in
    record {
      numbered = (
        turn.0,
        subst (λ (a : AlbumState). IsNumbered a.stock turn.0 c.deref.result.now) same_album
            (subst (IsNumbered now.stock turn.0) (sym c.deref.ensures.value) turn.2),
      );
      peers = subst (λ (a : AlbumState). ArePeers a.stock.shape a.stock.programs m.twins.peers.items) same_album twins.fit.are;
      tables = subst (λ (a : AlbumState). AreLiveTables a.stock.programs (table_at m.twins.tables.items)) same_album twins.right;
    }

pub keep_turn-requires : goal.keep_turn-requires
keep_turn-requires c =
    let m = c.self.inside in
    let now = c.look.new.self in
    let place = c.args.place in
    let there = subst (λ (p : PermutedState). place < length p.found.kept) (sym c.self.view_is) c.requires in
    let kept = sym c.look.ensures.kept in
    let turn = some_has (λ (n : ℕ). IsTurnAhead false m.explorer.kept now.stock place c.args.cpu n c.look.new.room.numbers.items)
    c.in_ok-looked.looked c.in-Some.ahead c.in-Some.is c.in_ok-looked.ensures.turn in
    record {
      place = subst (λ (ms : List MachineState). place < length ms) kept there;
      turn = subst (λ (ns : List ℕ). IsTurnAhead false now.kept now.stock place c.args.cpu c.in-Some.ahead ns) (sym c.deref-2.ensures.value)
          (subst (λ (ms : List MachineState). IsTurnAhead false ms now.stock place c.args.cpu c.in-Some.ahead c.look.new.room.numbers.items) kept turn);
    }

pub invariant_of-self : goal.invariant_of-self
invariant_of-self c =
    let m = c.self.inside in
    let now = c.look.new.self in
    let there = subst (λ (p : PermutedState). c.args.place < length p.found.kept) (sym c.self.view_is) c.requires in
    twins_still m.explorer.stock now.stock m.explorer.kept now.kept c.args.place c.look.ensures.more there c.look.ensures.kept
    m.twins.peers.items m.twins.tables.items c.self.invariant

pub invariant_of-self-in_default : goal.invariant_of-self-in_default
invariant_of-self-in_default c =
    let m = c.self.inside in
    let now = c.look.new.self in
    let there = subst (λ (p : PermutedState). c.args.place < length p.found.kept) (sym c.self.view_is) c.requires in
    twins_still m.explorer.stock now.stock m.explorer.kept now.kept c.args.place c.look.ensures.more there c.look.ensures.kept
    m.twins.peers.items m.twins.tables.items c.self.invariant

pub returns-in_default-clause-turned : goal.returns-in_default-clause-turned
returns-in_default-clause-turned c =
    let m = c.self.inside in
    let now = c.look.new.self in
    let idle = none_has (IsIdleAt m.explorer.kept c.args.place c.args.cpu) c.in_ok-looked.looked c.in_default.is c.in_ok-looked.ensures.idle in
    idle_turned (Permuted m.twins.peers.items) now.kept c.args.place c.args.cpu
    (subst (λ (ms : List MachineState). IsIdleAt ms c.args.place c.args.cpu) (sym c.look.ensures.kept) idle)

pub invariant_of-self-in_err-find_known : goal.invariant_of-self-in_err-find_known
invariant_of-self-in_err-find_known c =
    let m = c.self.inside in
    let now = c.look.new.self in
    let there = subst (λ (p : PermutedState). c.args.place < length p.found.kept) (sym c.self.view_is) c.requires in
    let still = twins_still m.explorer.stock now.stock m.explorer.kept now.kept c.args.place c.look.ensures.more there c.look.ensures.kept
    m.twins.peers.items m.twins.tables.items c.self.invariant in
    twins_as now.stock now.kept m.twins.peers c.find_known.new.twins.peers m.twins.tables c.find_known.new.twins.tables c.find_known.ensures.peers
    c.find_known.ensures.tables still

pub invariant_of-self-in-Some-2 : goal.invariant_of-self-in-Some-2
invariant_of-self-in-Some-2 c =
    let m = c.self.inside in
    let now = c.look.new.self in
    let there = subst (λ (p : PermutedState). c.args.place < length p.found.kept) (sym c.self.view_is) c.requires in
    let still = twins_still m.explorer.stock now.stock m.explorer.kept now.kept c.args.place c.look.ensures.more there c.look.ensures.kept
    m.twins.peers.items m.twins.tables.items c.self.invariant in
    twins_as now.stock now.kept m.twins.peers c.find_known.new.twins.peers m.twins.tables c.find_known.new.twins.tables c.find_known.ensures.peers
    c.find_known.ensures.tables still

pub returns-in-Some-2-clause-turned : goal.returns-in-Some-2-clause-turned
returns-in-Some-2-clause-turned c =
    let m = c.self.inside in
    let now = c.look.new.self in
    let place = c.args.place in
    let numbers = c.deref.result.now in
    let peers = m.twins.peers.items in
    let later = c.find_known.new.twins.peers.items in
    let same : later ≡ peers = ap (λ (ps : Vec Peer Global). ps.items) c.find_known.ensures.peers in
    let first = some_has (λ (n : ℕ). IsTurnAhead false m.explorer.kept now.stock place c.args.cpu n c.look.new.room.numbers.items)
    c.in_ok-looked.looked c.in-Some.ahead c.in-Some.is c.in_ok-looked.ensures.turn in
    let turn : IsTurnAhead false now.kept now.stock place c.args.cpu c.in-Some.ahead numbers =
    subst (λ (ns : List ℕ). IsTurnAhead false now.kept now.stock place c.args.cpu c.in-Some.ahead ns) (sym c.deref.ensures.value)
    (subst (λ (ms : List MachineState). IsTurnAhead false ms now.stock place c.args.cpu c.in-Some.ahead c.look.new.room.numbers.items)
    (sym c.look.ensures.kept) first) in
    subst (λ (ps : List Peer). IsTurned (Permuted ps) now.kept place c.args.cpu) (sym same)
    (known_turned peers now.kept now.stock place c.args.cpu c.in-Some.ahead c.in-Some-2.field-0 numbers turn (some_has
    (λ (n : ℕ). (one : MachineState) → IsNumbered now.stock one numbers → IsKeptElsewhereAt peers now.kept n one) c.in_ok-find_known.field-0
    c.in-Some-2.field-0 c.in-Some-2.is (subst (λ (a : AlbumState). IfSome c.in_ok-find_known.field-0 (λ n. (one : MachineState)
    → IsNumbered a.stock one numbers → IsKeptElsewhereAt peers a.kept n one)) c.album-album.ensures c.in_ok-find_known.ensures.kept)))

pub invariant_of-self-in_err-number : goal.invariant_of-self-in_err-number
invariant_of-self-in_err-number c =
    let m = c.self.inside in
    let now = c.look.new.self in
    let there = subst (λ (p : PermutedState). c.args.place < length p.found.kept) (sym c.self.view_is) c.requires in
    let still = twins_still m.explorer.stock now.stock m.explorer.kept now.kept c.args.place c.look.ensures.more there c.look.ensures.kept
    m.twins.peers.items m.twins.tables.items c.self.invariant in
    let after = twins_as now.stock now.kept m.twins.peers c.find_known.new.twins.peers m.twins.tables c.find_known.new.twins.tables c.find_known.ensures.peers
    c.find_known.ensures.tables still in
    let all = c.keep_turn.new.self in
    let inside = subst (λ (ms : List MachineState). c.args.place < length ms) (sym c.look.ensures.kept) there in
    twins_more now.stock all.stock now.kept all.kept (same_has_more now.stock all.stock c.keep_turn.ensures.stock) (omega (arith, inside))
    c.keep_turn.ensures.extends c.find_known.new.twins.peers.items c.find_known.new.twins.tables.items after

pub invariant_of-self-in_err-add : goal.invariant_of-self-in_err-add
invariant_of-self-in_err-add c =
    let m = c.self.inside in
    let now = c.look.new.self in
    let there = subst (λ (p : PermutedState). c.args.place < length p.found.kept) (sym c.self.view_is) c.requires in
    let still = twins_still m.explorer.stock now.stock m.explorer.kept now.kept c.args.place c.look.ensures.more there c.look.ensures.kept
    m.twins.peers.items m.twins.tables.items c.self.invariant in
    let after = twins_as now.stock now.kept m.twins.peers c.find_known.new.twins.peers m.twins.tables c.find_known.new.twins.tables c.find_known.ensures.peers
    c.find_known.ensures.tables still in
    let all = c.keep_turn.new.self in
    let inside = subst (λ (ms : List MachineState). c.args.place < length ms) (sym c.look.ensures.kept) there in
    twins_more now.stock all.stock now.kept all.kept (same_has_more now.stock all.stock c.keep_turn.ensures.stock) (omega (arith, inside))
    c.keep_turn.ensures.extends c.find_known.new.twins.peers.items c.find_known.new.twins.tables.items after

pub invariant_of-self-2 : goal.invariant_of-self-2
invariant_of-self-2 c =
    let m = c.self.inside in
    let now = c.look.new.self in
    let there = subst (λ (p : PermutedState). c.args.place < length p.found.kept) (sym c.self.view_is) c.requires in
    let still = twins_still m.explorer.stock now.stock m.explorer.kept now.kept c.args.place c.look.ensures.more there c.look.ensures.kept
    m.twins.peers.items m.twins.tables.items c.self.invariant in
    let after = twins_as now.stock now.kept m.twins.peers c.find_known.new.twins.peers m.twins.tables c.find_known.new.twins.tables c.find_known.ensures.peers
    c.find_known.ensures.tables still in
    let all = c.keep_turn.new.self in
    let inside = subst (λ (ms : List MachineState). c.args.place < length ms) (sym c.look.ensures.kept) there in
    twins_more now.stock all.stock now.kept all.kept (same_has_more now.stock all.stock c.keep_turn.ensures.stock) (omega (arith, inside))
    c.keep_turn.ensures.extends c.find_known.new.twins.peers.items c.find_known.new.twins.tables.items after

pub returns-clause-turned : goal.returns-clause-turned
returns-clause-turned c =
    alike_permuted c.find_known.new.twins.peers.items c.keep_turn.new.self.kept c.args.place c.args.cpu c.in_ok-number.ensures.turned
