use Rattle.std.proofs.Common.{◌<◌, ◌-◌, List, length, sym, subst, arith}
use Rattle.bpf_machine.specs.Machine.{MachineState}
use Rattle.bpf_alike.specs.Covers.{IsKeptAlike}
use Rattle.bpf_explore.specs.declared.spread.Swap.{Swap}
use Rattle.bpf_explore.specs.Album.{AlbumState, HasMore, HaveEndedAt, Stock}
use Rattle.bpf_explore.specs.Private.Album.{AddsOne}
use Rattle.bpf_explore.specs.Private.Peers.{AreAllRefilled, CanExchange, HasGrown}
use Rattle.bpf_explore.proofs.AlbumLaws.{adds_extends, kept_somewhere}
use Rattle.bpf_explore.proofs.CloseLaws.{all_refilled, cut_swaps, ended_as_shown, kept_so, swap_leads}
use Rattle.bpf_explore.proofs.PeerLaws.{few_there}
use Rattle.bpf_explore.proofs.PermutedLaws.{same_extends}
use Rattle.bpf_explore.proofs.ScoutLaws.{same_has_more}
use Rattle.bpf_explore.proofs.SpreadLaws.{all_led}
use Rattle.bpf_explore.proofs.spread.Spread.keep_exchanged.Goals as goal

pub exchange_end-requires-clause-jobs : goal.exchange_end-requires-clause-jobs
exchange_end-requires-clause-jobs g c one at =
    let m = c.self.inside in
    let peers = c.args.peers.now in
    let can = subst (λ (a : AlbumState). CanExchange a.stock a.kept peers) (sym c.self.view_is) c.requires.can in
    let led = all_led g.R.Runs.runs c.self.invariant.0 m.album.kept m.origins.items m.swaps.items c.self.invariant.1 in
    let pair = c.requires.group in
    few_there g.R.Runs.runs c.self.invariant.0 m.album.stock m.album.kept peers can c.of_kind.ensures led c.args.one c.args.other pair.0
    pair.1 pair.2 c.args.place one at

pub invariant_of-self-in_err-kept : goal.invariant_of-self-in_err-kept
invariant_of-self-in_err-kept g c =
    let m = c.self.inside in
    let peers = c.args.peers.now in
    let can = subst (λ (a : AlbumState). CanExchange a.stock a.kept peers) (sym c.self.view_is) c.requires.can in
    let led = all_led g.R.Runs.runs c.self.invariant.0 m.album.kept m.origins.items m.swaps.items c.self.invariant.1 in
    let pair = c.requires.group in
    let there = subst (λ (a : AlbumState). c.args.place < length a.kept) (sym c.self.view_is) c.requires.place in
    let ended = subst (λ (a : AlbumState). HaveEndedAt a.kept c.args.place) (sym c.self.view_is) c.requires.ended in
    let now = c.exchange_end.new.self in
    let all = c.keep-kept.new.self.kept in
    let adds = subst (λ (ms : List MachineState). AddsOne ms now.machine all) c.exchange_end.ensures.same c.keep-kept.ensures.adds in
    let swap : Swap = record { from = c.in_ok-from.from; one = c.cpu_of.result; other = c.cpu_of-2.result } in
    let leads = swap_leads g.R.Runs.runs c.self.invariant.0 m.album.stock m.album.kept peers can c.of_kind.ensures led c.args.place
    c.args.one c.args.other pair.0 pair.1 pair.2
    c.requires.less there ended now.machine c.in_ok-exchange_end.ensures.ok swap c.in_ok-from.ensures (c.cpu_of.ensures pair.0 (pair.2).first)
    (c.cpu_of-2.ensures pair.1 (pair.2).second) in
    let over = ended_as_shown g.R.Runs.runs c.self.invariant.0 m.album.stock m.album.kept peers can c.of_kind.ensures led c.args.place
    c.args.one c.args.other pair.0 pair.1 pair.2
    c.requires.less there ended now.machine c.in_ok-exchange_end.ensures.ok swap c.in_ok-from.ensures (c.cpu_of.ensures pair.0 (pair.2).first)
    (c.cpu_of-2.ensures pair.1 (pair.2).second) in (
      c.self.invariant.0,
      cut_swaps g.R.Runs.runs c.self.invariant.0 m.album.kept all now.machine m.origins.items m.swaps.items c.push.new.self.items c.truncate.new.self.items swap
          (c.len.result - c.len-2.result) c.self.invariant.1 (omega (arith, c.in_ok-from.ensures, there)) leads over adds c.in_ok-push.ensures.items
          (omega (arith, c.len.ensures, c.len-2.ensures)) c.truncate.ensures.items,
    )

pub invariant_of-self-2 : goal.invariant_of-self-2
invariant_of-self-2 g c =
    let m = c.self.inside in
    let peers = c.args.peers.now in
    let can = subst (λ (a : AlbumState). CanExchange a.stock a.kept peers) (sym c.self.view_is) c.requires.can in
    let led = all_led g.R.Runs.runs c.self.invariant.0 m.album.kept m.origins.items m.swaps.items c.self.invariant.1 in
    let pair = c.requires.group in
    let there = subst (λ (a : AlbumState). c.args.place < length a.kept) (sym c.self.view_is) c.requires.place in
    let ended = subst (λ (a : AlbumState). HaveEndedAt a.kept c.args.place) (sym c.self.view_is) c.requires.ended in
    let now = c.exchange_end.new.self in
    let all = c.keep-kept.new.self.kept in
    let adds = subst (λ (ms : List MachineState). AddsOne ms now.machine all) c.exchange_end.ensures.same c.keep-kept.ensures.adds in
    let swap : Swap = record { from = c.in_ok-from.from; one = c.cpu_of.result; other = c.cpu_of-2.result } in
    let leads = swap_leads g.R.Runs.runs c.self.invariant.0 m.album.stock m.album.kept peers can c.of_kind.ensures led c.args.place
    c.args.one c.args.other pair.0 pair.1 pair.2
    c.requires.less there ended now.machine c.in_ok-exchange_end.ensures.ok swap c.in_ok-from.ensures (c.cpu_of.ensures pair.0 (pair.2).first)
    (c.cpu_of-2.ensures pair.1 (pair.2).second) in
    let over = ended_as_shown g.R.Runs.runs c.self.invariant.0 m.album.stock m.album.kept peers can c.of_kind.ensures led c.args.place
    c.args.one c.args.other pair.0 pair.1 pair.2
    c.requires.less there ended now.machine c.in_ok-exchange_end.ensures.ok swap c.in_ok-from.ensures (c.cpu_of.ensures pair.0 (pair.2).first)
    (c.cpu_of-2.ensures pair.1 (pair.2).second) in (
      c.self.invariant.0,
      cut_swaps g.R.Runs.runs c.self.invariant.0 m.album.kept all now.machine m.origins.items m.swaps.items c.push.new.self.items c.truncate.new.self.items swap
          (c.len.result - c.len-2.result) c.self.invariant.1 (omega (arith, c.in_ok-from.ensures, there)) leads over adds c.in_ok-push.ensures.items
          (omega (arith, c.len.ensures, c.len-2.ensures)) c.truncate.ensures.items,
    )

pub returns-clause-kept : goal.returns-clause-kept
returns-clause-kept g c =
    let m = c.self.inside in
    let peers = c.args.peers.now in
    let can = subst (λ (a : AlbumState). CanExchange a.stock a.kept peers) (sym c.self.view_is) c.requires.can in
    let led = all_led g.R.Runs.runs c.self.invariant.0 m.album.kept m.origins.items m.swaps.items c.self.invariant.1 in
    let pair = c.requires.group in
    let there = subst (λ (a : AlbumState). c.args.place < length a.kept) (sym c.self.view_is) c.requires.place in
    let ended = subst (λ (a : AlbumState). HaveEndedAt a.kept c.args.place) (sym c.self.view_is) c.requires.ended in
    let now = c.exchange_end.new.self in
    let all = c.keep-kept.new.self.kept in
    let adds = subst (λ (ms : List MachineState). AddsOne ms now.machine all) c.exchange_end.ensures.same c.keep-kept.ensures.adds in
    kept_so g.R.Runs.runs c.self.invariant.0 m.album.stock m.album.kept peers can c.of_kind.ensures led c.args.place c.args.one c.args.other
    pair.0 pair.1 pair.2 c.requires.less there
    ended now.machine c.in_ok-exchange_end.ensures.ok c.alike_is_an_equivalence.ensures all
    (adds_extends m.album.kept all now.machine adds) (subst (IsKeptAlike all) c.keep-kept.ensures.same
    (kept_somewhere all c.in_ok-kept.field-0 c.keep-kept.new.self.machine c.in_ok-kept.ensures.kept))

pub returns-clause-grown : goal.returns-clause-grown
returns-clause-grown g c =
    let m = c.self.inside in
    let peers = c.args.peers.now in
    let can = subst (λ (a : AlbumState). CanExchange a.stock a.kept peers) (sym c.self.view_is) c.requires.can in
    let led = all_led g.R.Runs.runs c.self.invariant.0 m.album.kept m.origins.items m.swaps.items c.self.invariant.1 in
    let pair = c.requires.group in
    let there = subst (λ (a : AlbumState). c.args.place < length a.kept) (sym c.self.view_is) c.requires.place in
    let ended = subst (λ (a : AlbumState). HaveEndedAt a.kept c.args.place) (sym c.self.view_is) c.requires.ended in
    let now = c.exchange_end.new.self in
    let all = c.keep-kept.new.self.kept in
    let adds = subst (λ (ms : List MachineState). AddsOne ms now.machine all) c.exchange_end.ensures.same c.keep-kept.ensures.adds in
    let swap : Swap = record { from = c.in_ok-from.from; one = c.cpu_of.result; other = c.cpu_of-2.result } in
    let leads = swap_leads g.R.Runs.runs c.self.invariant.0 m.album.stock m.album.kept peers can c.of_kind.ensures led c.args.place
    c.args.one c.args.other pair.0 pair.1 pair.2
    c.requires.less there ended now.machine c.in_ok-exchange_end.ensures.ok swap c.in_ok-from.ensures (c.cpu_of.ensures pair.0 (pair.2).first)
    (c.cpu_of-2.ensures pair.1 (pair.2).second) in
    let over = ended_as_shown g.R.Runs.runs c.self.invariant.0 m.album.stock m.album.kept peers can c.of_kind.ensures led c.args.place
    c.args.one c.args.other pair.0 pair.1 pair.2
    c.requires.less there ended now.machine c.in_ok-exchange_end.ensures.ok swap c.in_ok-from.ensures (c.cpu_of.ensures pair.0 (pair.2).first)
    (c.cpu_of-2.ensures pair.1 (pair.2).second) in
    subst (λ (a : AlbumState). HasGrown a c.keep-kept.new.self) c.self.view_is (record {
      kept = adds_extends m.album.kept all now.machine adds;
      stock = subst (λ (x : Stock). HasMore x c.keep-kept.new.self.stock) c.exchange_end.ensures.stock c.keep-kept.ensures.more;
      whole = λ each. all_refilled m.album.kept all now.machine over adds each;
    })

pub returns-in_err-kept-clause-grown : goal.returns-in_err-kept-clause-grown
returns-in_err-kept-clause-grown g c =
    let m = c.self.inside in
    let peers = c.args.peers.now in
    let can = subst (λ (a : AlbumState). CanExchange a.stock a.kept peers) (sym c.self.view_is) c.requires.can in
    let led = all_led g.R.Runs.runs c.self.invariant.0 m.album.kept m.origins.items m.swaps.items c.self.invariant.1 in
    let pair = c.requires.group in
    let there = subst (λ (a : AlbumState). c.args.place < length a.kept) (sym c.self.view_is) c.requires.place in
    let ended = subst (λ (a : AlbumState). HaveEndedAt a.kept c.args.place) (sym c.self.view_is) c.requires.ended in
    let now = c.exchange_end.new.self in
    let all = c.keep-kept.new.self.kept in
    let adds = subst (λ (ms : List MachineState). AddsOne ms now.machine all) c.exchange_end.ensures.same c.keep-kept.ensures.adds in
    let swap : Swap = record { from = c.in_ok-from.from; one = c.cpu_of.result; other = c.cpu_of-2.result } in
    let leads = swap_leads g.R.Runs.runs c.self.invariant.0 m.album.stock m.album.kept peers can c.of_kind.ensures led c.args.place
    c.args.one c.args.other pair.0 pair.1 pair.2
    c.requires.less there ended now.machine c.in_ok-exchange_end.ensures.ok swap c.in_ok-from.ensures (c.cpu_of.ensures pair.0 (pair.2).first)
    (c.cpu_of-2.ensures pair.1 (pair.2).second) in
    let over = ended_as_shown g.R.Runs.runs c.self.invariant.0 m.album.stock m.album.kept peers can c.of_kind.ensures led c.args.place
    c.args.one c.args.other pair.0 pair.1 pair.2
    c.requires.less there ended now.machine c.in_ok-exchange_end.ensures.ok swap c.in_ok-from.ensures (c.cpu_of.ensures pair.0 (pair.2).first)
    (c.cpu_of-2.ensures pair.1 (pair.2).second) in
    subst (λ (a : AlbumState). HasGrown a c.keep-kept.new.self) c.self.view_is (record {
      kept = adds_extends m.album.kept all now.machine adds;
      stock = subst (λ (x : Stock). HasMore x c.keep-kept.new.self.stock) c.exchange_end.ensures.stock c.keep-kept.ensures.more;
      whole = λ each. all_refilled m.album.kept all now.machine over adds each;
    })

pub returns-in_err-exchange_end-clause-grown : goal.returns-in_err-exchange_end-clause-grown
returns-in_err-exchange_end-clause-grown g c =
    let m = c.self.inside in
    let now = c.exchange_end.new.self in
    subst (λ (a : AlbumState). HasGrown a now) c.self.view_is (record {
      kept = same_extends m.album.kept now.kept c.exchange_end.ensures.same;
      stock = same_has_more m.album.stock now.stock c.exchange_end.ensures.stock;
      whole = λ each. subst AreAllRefilled (sym c.exchange_end.ensures.same) each;
    })

pub returns-in_err-push-clause-grown : goal.returns-in_err-push-clause-grown
returns-in_err-push-clause-grown g c =
    let m = c.self.inside in
    let now = c.exchange_end.new.self in
    subst (λ (a : AlbumState). HasGrown a now) c.self.view_is (record {
      kept = same_extends m.album.kept now.kept c.exchange_end.ensures.same;
      stock = same_has_more m.album.stock now.stock c.exchange_end.ensures.stock;
      whole = λ each. subst AreAllRefilled (sym c.exchange_end.ensures.same) each;
    })
