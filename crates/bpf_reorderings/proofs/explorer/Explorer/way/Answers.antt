use Rattle.std.proofs.Common.{◌≡◌, ◌<◌, ℕ, List, length, map, reverse, sym, subst, arith}
use Rattle.bpf_machine.specs.Schedule.{unrolled}
use Rattle.bpf_buffering.specs.Search.{move_of}
use Rattle.bpf_reorderings.specs.Private.Searching.{Searched}
use Rattle.bpf_reorderings.specs.Private.Trail.{LeadsBy}
use Rattle.bpf_reorderings.proofs.Trails.{leads_nowhere, read_origin, one_back}
use Rattle.bpf_reorderings.proofs.explorer.Explorer.way.Goals as goal

pub loop-state-init : goal.loop-state-init
loop-state-init c =
    let m = c.self.inside in
    record {
      inside = subst (λ (a : Searched). c.args.place < length a.kept) (sym c.self.view_is) c.requires;
      leads = subst (λ (by : List (ℕ × ℕ)). LeadsBy m.patient m.album.kept c.args.place (map move_of (unrolled (reverse by))) c.args.place)
          (sym c.new-by.ensures.items) (leads_nowhere m.patient m.album.kept c.args.place);
    }

pub loop-state-preserved : goal.loop-state-preserved
loop-state-preserved c =
    let m = c.self.inside in
    let i = c.loop-state.invariant.inside in
    let count = c.self.invariant.count in
    let at = read_origin m.origins.items c.loop-state.state c.index-origin.result.now (omega arith) c.index-origin.ensures in
    let r = one_back m.patient m.album.kept m.origins.items c.loop-state.state c.args.place c.index-origin.result.now c.loop-state.by.items
    c.push_moves.new.by.items c.self.invariant (omega arith) i at c.loop-state.invariant.leads c.in_ok-push_moves.ensures in
    record { inside = r.0; leads = r.2 }

pub returns : goal.returns
returns c =
    let m = c.self.inside in
    let first : c.loop-state.state ≡ 0 = omega arith in
    subst (λ (a : Searched). LeadsBy a.patient a.kept 0 (map move_of (unrolled c.reverse.new.self.items)) c.args.place) c.self.view_is
    (subst (λ (by : List (ℕ × ℕ)). LeadsBy m.patient m.album.kept 0 (map move_of (unrolled by)) c.args.place) (sym c.reverse.ensures.items)
    (subst (λ (k : ℕ). LeadsBy m.patient m.album.kept k (map move_of (unrolled (reverse c.loop-state.by.items))) c.args.place) first
    c.loop-state.invariant.leads))
