use Rattle.std.proofs.Common.{◌≡◌, ℕ, ◌<◌, ◌≤◌, inl, inr, ◌⊎◌, arith}
use Rattle.bpf_debug.specs.Go.{AreIdle, HasWork, IsUp}
use Rattle.bpf_debug.proofs.GoLaws.{up_here, up_again, all_idle, some_weaker, none_weaker}
use Rattle.std.proofs.lemmas.Bool.{cases_lt}
use Rattle.bpf_buffer_debug.proofs.going.next_up.Goals as goal

pub returns-in-Some-clause-up : goal.returns-in-Some-clause-up
returns-in-Some-clause-up c =
    up_here c.args.machine.now.machine.jobs c.args.low c.args.high c.args.from c.in-Some.cpu c.requires c.in-Some.ensures.found

pub returns-in-None-clause-up : goal.returns-in-None-clause-up
returns-in-None-clause-up c =
    let jobs = c.args.machine.now.machine.jobs in
    let least = c.min.result in
    let P : ℕ → Type 0 = λ n. (c.args.low ≤ n) × (n < least) × HasWork jobs n × AreIdle jobs c.args.low n in
    let Q : ℕ → Type 0 = λ n. IsUp jobs c.args.low c.args.high c.args.from n in
    some_weaker P Q c.first_at_work-in-None.result
    (λ n found. up_again jobs c.args.low c.args.high least c.args.from n (omega (arith, c.min.ensures)) (omega (arith, c.min.ensures))
    c.in-None.ensures.none found)
    c.first_at_work-in-None.ensures.found

pub returns-in-None-clause-idle : goal.returns-in-None-clause-idle
returns-in-None-clause-idle c =
    let jobs = c.args.machine.now.machine.jobs in
    let least = c.min.result in
    let is : (least ≡ c.args.from) ⊎ (least ≡ c.args.high) = elim (cases_lt c.args.from c.args.high) [
      | inl less ↦ inl (omega (arith, c.min.ensures))
      | inr more ↦ inr (omega (arith, c.min.ensures))
    ] in
    none_weaker (AreIdle jobs c.args.low least) (AreIdle jobs c.args.low c.args.high) c.first_at_work-in-None.result
    (all_idle jobs c.args.low c.args.high least c.args.from is c.in-None.ensures.none)
    c.first_at_work-in-None.ensures.none
