use Rattle.std.proofs.Common.{◌≡◌, ℕ, List, Bool, true, false, subst, refl}
use Rattle.bpf_machine.specs.Schedule.{unrolled}
use Rattle.bpf_explore.specs.Private.Replays.{CanRunOut, IsReplayed}
use Rattle.bpf_explore.proofs.WayLaws.{none_out_there}
use Rattle.bpf_explore.proofs.hung.show_run_out.Goals as goal

-- it does where it is found to, and it isn't found not to
by_cases : (P : Type 0) (out : Bool) → (out ≡ true → P) → (out ≡ false → ⊥) → P
by_cases P true found never = found refl
by_cases P false found never = absurd (never refl)

pub returns-clause-out : goal.returns-clause-out
returns-clause-out c =
    let kept = c.args.explorer.now.kept in
    let m = c.replay.new.self.machine in
    by_cases (CanRunOut kept) c.in_ok-replay.field-0 c.in_ok-replay.ensures.out
    (λ is. c.requires.out (none_out_there c.free_runs_agree.ensures kept c.in_ok-by.by.items c.args.place m c.requires.fresh c.in_ok-by.ensures
    (subst (λ (by : List (ℕ × ℕ)). IsReplayed kept (unrolled by) m) c.deref.ensures.value c.in_ok-replay.ensures.replayed) (c.in_ok-replay.ensures.none is)))
