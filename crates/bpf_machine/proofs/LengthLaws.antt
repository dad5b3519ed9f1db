-- Schedules that are given in run lengths.
use Rattle.std.proofs.Common.{◌≡◌, ◌∙◌, ℕ, zero, suc, ◌+◌, ◌-◌, ◌<◌, ◌≤◌, List, [], ◌∷◌, ◌++◌, append_assoc, append-nil, length, take}
use Rattle.std.proofs.Common.{replicate, get_or, inr, refl, sym, ap, subst, arith}
use Rattle.std.proofs.lemmas.List.{replicate-append-replicate, take_more, take_all}
use Rattle.std.proofs.lemmas.Grind.{replicate_next}
use Rattle.bpf_machine.specs.declared.machine.Turn.{Turn}
use Rattle.bpf_machine.specs.declared.machine.Turn.TheVariants.{Idle}
use Rattle.bpf_machine.specs.Hands.{IsFree, NoneWaits}
use Rattle.bpf_machine.specs.Schedule.{World, TakesTurn, RunsSchedule, unrolled}
use Rattle.bpf_machine.specs.Machine.{MachineState, Shows}
use Rattle.bpf_machine.proofs.RoundLaws.{idle_turn}
use Rattle.bpf_machine.proofs.TurnLaws.{runs_more}

-- the run of a schedule, as machines show it
abbrev pub Runs : MachineState → List ℕ → MachineState → Type 0
Runs old schedule new = (w : World) → Shows old w → (z : World) × RunsSchedule w schedule z × Shows new z

runs_both : (w : World) (cs ds : List ℕ) (m z : World) → RunsSchedule w cs m → RunsSchedule m ds z → RunsSchedule w (cs ++ ds) z
runs_both w [] ds m z first second = subst (λ (x : World). RunsSchedule x ds z) first second
runs_both w (c ∷ cs) ds m z first second = (first.0, first.1, first.2, runs_both first.1 cs ds m z first.3 second)

-- ---- turns of one CPU
pub one_more : (old mid new : MachineState) (c n : ℕ) (answer : Turn) → Runs old (replicate n c) mid →
    ((w : World) → Shows mid w → (z : World) × TakesTurn w c answer z × Shows new z) → Runs old (replicate (n + 1) c) new
one_more old mid new c n answer runs turn w shows =
    let r = runs w shows in
    let t = turn r.0 r.2 in
    (t.0, subst (λ (cs : List ℕ). RunsSchedule w cs t.0) (sym (replicate_next n c)) (runs_more w (replicate n c) c r.0 answer t.0 r.1 t.1), t.2)

idle_turns : (w : World) (c n : ℕ) → IsFree w.jobs c → NoneWaits w.jobs c → RunsSchedule w (replicate n c) w
idle_turns w c zero free none = refl
idle_turns w c (suc n) free none = (Idle, w, inr (inr (free, none, refl, refl)), idle_turns w c n free none)

-- after an idle turn of it the others change nothing
pub rest_idle : (old mid new : MachineState) (c k n : ℕ) (answer : Turn) → k ≤ n → Runs old (replicate k c) mid →
    ((w : World) → Shows mid w → (z : World) × TakesTurn w c answer z × Shows new z)
    → answer ≡ Idle → new ≡ mid → Runs old (replicate n c) new
rest_idle old mid new c k n answer within runs turn idle stays w shows =
    let r = runs w shows in
    let t = turn r.0 r.2 in
    let none = idle_turn r.0 c answer t.0 t.1 idle in
    let rest = idle_turns r.0 c (n - k) none.0 none.1 in
    let all : replicate n c ≡ replicate k c ++ replicate (n - k) c =
    ap (λ (i : ℕ). replicate i c) (omega arith) ∙ sym (replicate-append-replicate k (n - k) c)
    in
    let run = runs_both w (replicate k c) (replicate (n - k) c) r.0 r.0 r.1 rest in
    (r.0, subst (λ (cs : List ℕ). RunsSchedule w cs r.0) (sym all) run, subst (λ (m : MachineState). Shows m r.0) (sym stays) r.2)

-- ---- run lengths
unrolled-append : (xs ys : List (ℕ × ℕ)) → unrolled (xs ++ ys) ≡ unrolled xs ++ unrolled ys
unrolled-append [] ys = refl
unrolled-append (x ∷ xs) ys = ap (λ (cs : List ℕ). replicate x.1 x.0 ++ cs) (unrolled-append xs ys) ∙ sym
    (append_assoc (replicate x.1 x.0) (unrolled xs) (unrolled ys))

pub next_run : (old mid new : MachineState) (runs : List (ℕ × ℕ)) (i : ℕ) (d : ℕ × ℕ) → i < length runs → Runs old (unrolled (take i runs))
    mid → Runs mid (replicate (get_or runs i d).1 (get_or runs i d).0) new → Runs old (unrolled (take (i + 1) runs)) new
next_run old mid new runs i d inside before here w shows =
    let run = get_or runs i d in
    let r = before w shows in
    let t = here r.0 r.2 in
    let last : unrolled (run ∷ []) ≡ replicate run.1 run.0 = append-nil (replicate run.1 run.0) in
    let all : unrolled (take (i + 1) runs) ≡ unrolled (take i runs) ++ replicate run.1 run.0 =
    ap unrolled (take_more runs i d inside) ∙ (unrolled-append (take i runs) (run ∷ []) ∙ ap (λ (cs : List ℕ). unrolled (take i runs) ++ cs) last)
    in
    (t.0, subst (λ (cs : List ℕ). RunsSchedule w cs t.0) (sym all) (runs_both w (unrolled (take i runs)) (replicate run.1 run.0) r.0 t.0 r.1 t.1), t.2)

pub all_runs : (old new : MachineState) (runs : List (ℕ × ℕ)) (i : ℕ) → length runs ≤ i → Runs old (unrolled (take i runs)) new → Runs old (unrolled runs) new
all_runs old new runs i past made w shows =
    let r = made w shows in (r.0, subst (λ (rs : List (ℕ × ℕ)). RunsSchedule w (unrolled rs) r.0) (take_all i runs past) r.1, r.2)
