-- Packets by job, and their lines.
use Rattle.std.proofs.Common.{◌≡◌, ◌∙◌, ℕ, zero, suc, ◌+◌, ◌≤◌, Bool, Option, List, [], ◌∷◌, ◌++◌, append_assoc, length, map, inl, inr}
use Rattle.std.proofs.Common.{refl, sym, ap, subst, arith}
use Rattle.std.specs.Prelude.{slice_index_or, slice_set, Vec}
use Rattle.std.specs.declared.alloc.Global.{Global}
use Rattle.bpf_shared.specs.Contents.{bytes_of_all}
use Rattle.bpf_cpu.specs.declared.job.Job.{Job}
use Rattle.bpf_cpu.specs.Task.{waiting}
use Rattle.bpf_machine.specs.declared.machine.Standing.{Standing}
use Rattle.bpf_machine.specs.declared.machine.Standing.TheVariants as standing
use Rattle.bpf_machine.specs.Questions.{IsStanding}
use Rattle.bpf_names.specs.Names.{Names}
use Rattle.bpf_cpu.specs.declared.outcome.Outcome.{Outcome}
use Rattle.bpf_cpu.specs.Task.{Task, outcome_at}
use Rattle.bpf_machine.specs.Machine.{MachineState, Shows}
use Rattle.bpf_machine.specs.Rounds.{HaveEnded}
use Rattle.bpf_machine.specs.Schedule.{World, unrolled}
use Rattle.bpf_jobs.specs.Printed.{lines_of_lists, TellsWith}
use Rattle.bpf_packets.specs.Packets.{Keeps, given_packets, line_of, packet_lines}
use Rattle.bpf_packets.specs.Private.{AreKept, Puts, SomeRounds, Turns}
use Rattle.bpf_packets.specs.Reports.{IsReportWithPackets}

-- ---- packets by job
pub put_at : (vs : List (Vec ℕ Global)) (j : ℕ) (v : Vec ℕ Global) (bytes : List ℕ) → v.items ≡ bytes → bytes_of_all (slice_set vs j v) ≡
    slice_set (bytes_of_all vs) j bytes
put_at [] j v bytes e = refl
put_at (u ∷ us) zero v bytes e = ap (λ (b : List ℕ). b ∷ bytes_of_all us) e
put_at (u ∷ us) (suc j) v bytes e = ap (λ (bs : List (List ℕ)). u.items ∷ bs) (put_at us j v bytes e)

pub put_past : (vs : List (Vec ℕ Global)) (j : ℕ) (bytes : List ℕ) → length vs ≤ j → bytes_of_all vs ≡ slice_set (bytes_of_all vs) j bytes
put_past [] j bytes past = refl
put_past (u ∷ us) zero bytes past = absurd (omega arith)
put_past (u ∷ us) (suc j) bytes past = ap (λ (bs : List (List ℕ)). u.items ∷ bs) (put_past us j bytes (omega arith))

pub given : (jobs : List Job) → map (λ (job : Job). job.input.packet) jobs ≡ given_packets (map waiting jobs)
given [] = refl
given (job ∷ jobs) = ap (λ (bs : List (List ℕ)). job.input.packet ∷ bs) (given jobs)

-- ---- where a CPU is
pub keeps : (jobs : List Task) (c : ℕ) (r : Standing) (old new : List (List ℕ)) → IsStanding jobs c r → Puts r old new → Keeps jobs c old new
keeps jobs c (standing.InHand j state) old new at is = inl (j, at.0, state.now, at.1, at.2, is)
keeps jobs c (standing.Waiting j) old new next is = inr (next.0, is)
keeps jobs c standing.Idle old new none is = inr (none.0, is)

-- ---- lines
pub one_line_more : (old text new : List ℕ) (n : ℕ) (jobs : List Task) (packets : List (List ℕ)) (end : Option Outcome) (packet : List ℕ)
    → end ≡ outcome_at jobs n → packet ≡ slice_index_or packets n [] → text ≡ old ++ packet_lines n jobs packets → new ≡ text ++ line_of n end packet
    → new ≡ old ++ packet_lines (n + 1) jobs packets
one_line_more old text new n jobs packets end packet ended at before after =
    let next : suc n ≡ n + 1 = omega arith in
    let line : line_of n end packet ≡ line_of n (outcome_at jobs n) (slice_index_or packets n []) =
    ap (λ (e : Option Outcome). line_of n e packet) ended ∙ ap (λ (p : List ℕ). line_of n (outcome_at jobs n) p) at
    in
    subst (λ (k : ℕ). new ≡ old ++ packet_lines k jobs packets) next
    (after ∙ (ap (λ (t : List ℕ). t ++ line_of n end packet) before
    ∙ (append_assoc old (packet_lines n jobs packets) (line_of n end packet)
    ∙ ap (λ (l : List ℕ). old ++ (packet_lines n jobs packets ++ l)) line)))

-- ---- what is printed
-- what is printed of a run whose packets were kept is its report with packets
pub reported : (w : World) (old mid new : MachineState) (names : Names) (runs : List (ℕ × ℕ)) (maps : Bool)
    (given between later : List (List ℕ)) (told text : List ℕ) (stopped : Bool)
    → Shows old w → given ≡ given_packets w.jobs → AreKept (Turns (unrolled runs)) old given mid between → AreKept SomeRounds mid between new later
    → HaveEnded new.jobs
    → ((z : World) → Shows new z → TellsWith (lines_of_lists z names.maps) z.store z.jobs names maps told stopped)
    → text ≡ told ++ packet_lines (length new.jobs) new.jobs later → IsReportWithPackets w runs names maps text stopped
reported w old mid new names runs maps given between later told text stopped shows first before after ended tells is =
    let a = (subst (λ (x : List (List ℕ)). AreKept (Turns (unrolled runs)) old x mid between) first before) w shows in
    let b = after a.0 a.2 in (
      b.0,
      later,
      told,
      (a.0, between, b.1.0, a.1, b.1.1, subst HaveEnded (sym b.2.jobs) ended),
      tells b.0 b.2,
      is ∙ ap (λ (jobs : List Task). told ++ packet_lines (length jobs) jobs later) (sym b.2.jobs),
    )
