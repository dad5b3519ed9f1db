-- What is printed of a run with store buffers is one text; and moves of the x86 machine lead where it ends.
use Rattle.std.proofs.Common.{◌≡◌, ◌∙◌, ℕ, zero, suc, Bool, List, [], ◌∷◌, ◌++◌, length, map, inl, inr, refl, sym, ap, subst}
use Rattle.bpf_names.specs.Names.{Names}
use Rattle.bpf_machine.specs.Laws.{IsFresh}
use Rattle.bpf_machine.specs.Rounds.{HaveEnded}
use Rattle.bpf_machine.specs.Schedule.{World, unrolled}
use Rattle.bpf_x86.specs.Machine.{X86, Move, TurnOf, FlushOf, Moves, RunsMoves, drained}
use Rattle.bpf_buffering.specs.Search.{MovesAreDetermined, NothingWaitsAtLast, move_of}
use Rattle.bpf_jobs.specs.Printed.{Tells, job_lines}
use Rattle.bpf_jobs.proofs.OneListing.{one_asked}
use Rattle.bpf_flushes.specs.Moves.{IsForNothing, Makes, MakesAll, MakesRounds, round_below}
use Rattle.bpf_flushes.specs.Printed.{IsReportWithBuffers, LastsAreReached, ReportsWithBuffersAreDetermined}
use Rattle.bpf_flushes.proofs.Joining.{all_run, runs_both}

clash : (x : X86) (move : Move) (z : X86) → Moves x move z → IsForNothing x move → ⊥
clash x (TurnOf c) z moves nothing = nothing
clash x (FlushOf c) z (b, (oldest, rest, s, is, allowed, same), moved) nothing = let no : oldest ∷ rest ≡ [] = sym is ∙ nothing in cc

module _ (law : MovesAreDetermined) (w : World) (fresh : IsFresh w) where
  one_make : (before : List Move) (x : X86) (move : Move) (y z : X86) → RunsMoves (drained w) before x → Makes x move y → Makes x move z → y ≡ z
  one_make before x move y z runs (inl p) (inl q) =
      law w (before ++ move ∷ []) y z fresh (runs_both before (move ∷ []) (drained w) x y runs (y, p, refl))
      (runs_both before (move ∷ []) (drained w) x z runs (z, q, refl))
  one_make before x move y z runs (inl p) (inr q) = absurd (clash x move y p q.0)
  one_make before x move y z runs (inr p) (inl q) = absurd (clash x move z q p.0)
  one_make before x move y z runs (inr p) (inr q) = p.1 ∙ sym q.1

  one_way : (moves before : List Move) (x y z : X86) → RunsMoves (drained w) before x → MakesAll x moves y → MakesAll x moves z → y ≡ z
  one_way [] before x y z runs p q = p ∙ sym q
  one_way (move ∷ moves) before x y z runs p q =
      let same : q.0 ≡ p.0 = one_make before x move q.0 p.0 runs q.1 p.1 in
      let r = all_run (move ∷ []) x p.0 (p.0, p.1, refl) in
      one_way moves (before ++ r.0) p.0 y z (runs_both before r.0 (drained w) x p.0 runs r.1) p.2 (subst (λ (s : X86). MakesAll s moves z) same q.2)

  one_end : (n k : ℕ) (before : List Move) (x y z : X86) → RunsMoves (drained w) before x → MakesRounds n x y → MakesRounds k x z → y ≡ z
  one_end zero zero before x y z runs p q = p.1 ∙ sym q.1
  one_end zero (suc k) before x y z runs p q = absurd (q.0 p.0)
  one_end (suc n) zero before x y z runs p q = absurd (p.0 q.0)
  one_end (suc n) (suc k) before x y z runs p q =
      let moves = round_below x.world.store.shape.cpus in
      let same : q.1.0 ≡ p.1.0 = one_way moves before x q.1.0 p.1.0 runs q.1.1 p.1.1 in
      let r = all_run moves x p.1.0 p.1.1 in
      one_end n k (before ++ r.0) p.1.0 y z (runs_both before r.0 (drained w) x p.1.0 runs r.1) p.1.2 (subst (λ (s : X86). MakesRounds k s z) same q.1.2)

one_told : (z y : X86) (names : Names) (maps : Bool) (text other : List ℕ) (stopped halted : Bool) → z ≡ y → Tells z.world.store
    z.world.jobs names maps text stopped → Tells y.world.store y.world.jobs names maps other halted
    → (text ≡ other) × (stopped ≡ halted)
one_told z y names maps text other stopped halted same a b =
    let there : Tells z.world.store z.world.jobs names maps other halted = subst
    (λ (s : X86). Tells s.world.store s.world.jobs names maps other halted) (sym same) b in
    let lines = one_asked maps z.world.store names a.0 there.0 a.1 there.1 in
    (a.2 ∙ ap (λ (x : List ℕ). job_lines (length z.world.jobs) z.world.jobs ++ ([] ++ x)) lines ∙ sym there.2, a.3 ∙ sym there.3)

pub determined : MovesAreDetermined → ReportsWithBuffersAreDetermined
determined law w runs names maps text other stopped halted fresh (z, (y, makes, (n, rounds)), tells) (z', (y', makes', (k, rounds')), tells') =
    let moves = map move_of (unrolled runs) in
    let mid : y' ≡ y = one_way law w fresh moves [] (drained w) y' y refl makes' makes in
    let r = all_run moves (drained w) y makes in
    let same : z ≡ z' = one_end law w fresh n k r.0 y z z' r.1 rounds (subst (λ (s : X86). MakesRounds k s z') mid rounds') in
    one_told z z' names maps text other stopped halted same tells tells'

-- ---- where it ends
ended : (n : ℕ) (x z : X86) → MakesRounds n x z → HaveEnded z.world.jobs
ended zero x z p = subst (λ (s : X86). HaveEnded s.world.jobs) (sym p.1) p.0
ended (suc n) x z p = ended n p.1.0 z p.1.2

rounds_run : (n : ℕ) (x z : X86) → MakesRounds n x z → (moves : List Move) × RunsMoves x moves z
rounds_run zero x z p = ([], p.1)
rounds_run (suc n) x z p =
    let first = all_run (round_below x.world.store.shape.cpus) x p.1.0 p.1.1 in
    let rest = rounds_run n p.1.0 z p.1.2 in
    (first.0 ++ rest.0, runs_both first.0 rest.0 x p.1.0 z first.1 rest.1)

pub reached : NothingWaitsAtLast → LastsAreReached
reached law w schedule z (y, makes, (n, rounds)) =
    let first = all_run (map move_of schedule) (drained w) y makes in
    let rest = rounds_run n y z rounds in
    let runs = runs_both first.0 rest.0 (drained w) y z first.1 rest.1 in
    let all = ended n y z rounds in
    ((first.0 ++ rest.0, runs), all, law w (first.0 ++ rest.0) z runs all)

-- what is printed of the machine that rounds leave
pub told : (w : World) (runs : List (ℕ × ℕ)) (z : X86) (names : Names) (maps : Bool) (text : List ℕ) (stopped : Bool) → (y : X86) → MakesAll
    (drained w) (map move_of (unrolled runs)) y → ((n : ℕ) × MakesRounds n y z)
    → Tells z.world.store z.world.jobs names maps text stopped → IsReportWithBuffers w runs names maps text stopped
told w runs z names maps text stopped y made rounds tells = (z, (y, made, rounds), tells)
