use Rattle.std.proofs.Common.{◌≡◌, ◌<◌, ◌≤◌, ◌++◌, ◌∙◌, ℕ, ◌-◌, List, Option, Some, length, map, take, drop, sym, ap, subst, arith}
use Rattle.std.proofs.lemmas.List.{take_at}
use Rattle.std.specs.Option.{option_to_list}
use Rattle.bpf_machine.specs.Schedule.{unrolled}
use Rattle.bpf_equal.specs.Permutations.{exchanged}
use Rattle.bpf_explore.specs.declared.explorer.Origin.{Origin}
use Rattle.bpf_explore.specs.declared.spread.Swap.{Swap}
use Rattle.bpf_explore.specs.Album.{AlbumState, LeadsThrough}
use Rattle.bpf_explore.specs.Private.Spread.{exchanged_by}
use Rattle.bpf_explore.specs.Private.Trail.{AreOrigins}
use Rattle.bpf_explore.proofs.SpreadLaws.{leads_among_all, none_left, one_swap_back, one_swap_made, read_swap}
use Rattle.bpf_explore.proofs.spread.Spread.way.Goals as goal

pub loop-state-init : goal.loop-state-init
loop-state-init g c =
    let kept = c.self.inside.album.kept in
    record {
      inside = subst (λ (a : AlbumState). c.args.place < length a.kept) (sym c.self.view_is) c.requires;
      leads = λ schedule leads. subst (λ (ss : List Swap). LeadsThrough g.R.Runs.runs kept 0 (exchanged_by ss schedule) c.args.place)
          (sym c.new-noted.ensures.items) leads;
    }

pub loop-state-preserved : goal.loop-state-preserved
loop-state-preserved g c =
    let m = c.self.inside in
    let state = c.loop-state.state in
    let swap = c.index-swap.result.now in
    let inside = c.loop-state.invariant.inside in
    let count = c.self.invariant.1.count in
    let first : c.len.result ≡ length m.origins.items = omega (arith, c.len.ensures) in
    let past : length m.origins.items ≤ state = omega arith in
    let here = read_swap m.swaps.items (state - c.len-in-loop-state.result) state (length m.origins.items) swap
    (omega (arith, c.len-in-loop-state.ensures)) c.index-swap.ensures (omega (arith, c.len-in-loop-state.ensures)) in
    let r = one_swap_back g.R.Runs.runs c.self.invariant.0 m.album.kept m.origins.items m.swaps.items c.self.invariant.1 state c.args.place
    swap c.loop-state.noted.items
    c.push.new.self.items past inside here c.loop-state.invariant.leads c.in_ok-push.ensures.items in
    record { inside = r.0; leads = r.1 }

pub way_back-requires : goal.way_back-requires
way_back-requires g c =
    let m = c.self.inside in
    let same = sym c.deref.ensures.value in
    let inside : c.loop-state.state < length m.origins.items = omega (arith, c.len.ensures) in
    record {
      runs = c.self.invariant.0;
      are = (
        take (length m.origins.items) m.album.kept,
        subst (AreOrigins g.R.Runs.runs (take (length m.origins.items) m.album.kept)) same c.self.invariant.1.turns,
      );
      place = subst (λ (os : List Origin). c.loop-state.state < length os) same inside;
    }

pub loop-swap-init : goal.loop-swap-init
loop-swap-init g c =
    let m = c.self.inside in
    let state = c.loop-state.state in
    let by = unrolled c.in_ok-by.by.items in
    let inside : state < length m.origins.items = omega (arith, c.len.ensures) in
    let are = subst (AreOrigins g.R.Runs.runs (take (length m.origins.items) m.album.kept)) (sym c.deref.ensures.value) c.self.invariant.1.turns in
    let there = leads_among_all g.R.Runs.runs c.self.invariant.0 m.album.kept m.origins.items m.swaps.items c.self.invariant.1 state by inside
    (c.in_ok-by.ensures (take (length m.origins.items) m.album.kept) are) in
    subst (λ (a : AlbumState). LeadsThrough g.R.Runs.runs a.kept 0 (exchanged_by c.loop-state.noted.items by) c.args.place) c.self.view_is
    (c.loop-state.invariant.leads by there)

pub loop-swap-preserved : goal.loop-swap-preserved
loop-swap-preserved g c =
    let swap = c.in-Some.swap in
    let rest = c.pop.new.self.items in
    let new = c.exchange_turns.new.by in
    let was : c.loop-swap.noted.items ≡ rest ++ option_to_list (Some swap) = c.pop.ensures.items ∙
    ap (λ (o : Option Swap). rest ++ option_to_list o) c.in-Some.is in
    let made : unrolled new ≡ map (exchanged swap.one swap.other) (unrolled c.loop-swap.by.items) = c.exchange_turns.ensures ∙
    ap (λ (rs : List (ℕ × ℕ)). map (exchanged swap.one swap.other) (unrolled rs)) c.deref_mut.ensures.value in
    let leads = one_swap_made g.R.Runs.runs c.args.self.now.kept c.args.place swap c.loop-swap.noted.items rest c.loop-swap.by.items new was made
    c.loop-swap.invariant in
    let size : length new ≡ c.loop-swap.by.len = omega (arith, c.exchange_turns.auto.by, c.deref_mut.ensures.len) in
    subst (λ (rs : List (ℕ × ℕ)). LeadsThrough g.R.Runs.runs c.args.self.now.kept 0 (exchanged_by rest (unrolled rs)) c.args.place)
    (sym (take_at new (drop (length new) c.loop-swap.by.items) c.loop-swap.by.len size)) leads

pub returns : goal.returns
returns g c =
    let none = none_left c.loop-swap.noted.items (omega (arith, c.in_default.ensures.cases)) in
    subst (λ (ss : List Swap). LeadsThrough g.R.Runs.runs c.args.self.now.kept 0 (exchanged_by ss (unrolled c.loop-swap.by.items)) c.args.place) none
    c.loop-swap.invariant
