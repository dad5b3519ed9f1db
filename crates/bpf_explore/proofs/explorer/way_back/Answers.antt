use Rattle.std.proofs.Common.{◌≡◌, ◌<◌, ℕ, List, length, reverse, refl, sym, subst, arith}
use Rattle.bpf_machine.specs.Machine.{MachineState}
use Rattle.bpf_machine.specs.Schedule.{unrolled}
use Rattle.bpf_explore.specs.Album.{LeadsThrough}
use Rattle.bpf_explore.specs.Private.Trail.{AreOrigins, origin_at}
use Rattle.bpf_explore.proofs.TrailLaws.{leads_nowhere, one_back_more}
use Rattle.bpf_explore.proofs.explorer.way_back.Goals as goal

pub loop-state-init : goal.loop-state-init
loop-state-init g c = record {
  inside = c.requires.place;
  leads = λ kept are. subst (λ (by : List (ℕ × ℕ)). LeadsThrough g.R.Runs.runs kept c.args.place (unrolled (reverse by)) c.args.place)
      (sym c.new-by.ensures.items) (leads_nowhere g.R.Runs.runs c.requires.runs.join kept c.args.place);
}

pub loop-state-preserved : goal.loop-state-preserved
loop-state-preserved g c =
    let origins = c.args.origins.now in
    let state = c.loop-state.state in
    let o = origin_at origins state in
    let inside = c.loop-state.invariant.inside in
    let back : (kept : List MachineState) → AreOrigins g.R.Runs.runs kept origins → (o.«from» < length kept)
    × LeadsThrough g.R.Runs.runs kept o.«from» (unrolled (reverse c.push_turns.new.by.items)) c.args.place = λ kept are. (
    let count = are.count in
    one_back_more g.R.Runs.runs c.requires.runs.join kept origins state c.args.place o c.loop-state.by.items c.push_turns.new.by.items are
    (omega arith) (omega arith) refl (c.loop-state.invariant.leads kept are) c.in_ok-push_turns.ensures) in
    let first = c.requires.are in
    let count = first.1.count in
    let less = (back first.0 first.1).0 in
    record { inside = omega arith; leads = λ kept are. (back kept are).1 }

pub returns : goal.returns
returns g c kept are =
    let first : c.loop-state.state ≡ 0 = omega arith in
    subst (λ (by : List (ℕ × ℕ)). LeadsThrough g.R.Runs.runs kept 0 (unrolled by) c.args.place) (sym c.reverse.ensures.items)
    (subst (λ (k : ℕ). LeadsThrough g.R.Runs.runs kept k (unrolled (reverse c.loop-state.by.items)) c.args.place) first (c.loop-state.invariant.leads kept are))
