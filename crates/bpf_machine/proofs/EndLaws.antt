-- Machines from which an end can be reached, and from which none can.
use Rattle.std.proofs.Common.{◌≡◌, ◌∙◌, ◌+◌, ℕ, zero, suc, List, [], ◌∷◌, ◌++◌, Some, inl, inr, refl, sym, ap, subst, arith}
use Rattle.std.specs.Prelude.{slice_get}
use Rattle.bpf_shared.specs.Laws.{CallsHaveOneReply}
use Rattle.bpf_loader.specs.Loaded.{Loaded}
use Rattle.bpf_loader.specs.Laws.{OneInstructionBegins}
use Rattle.bpf_mem.specs.Laws.{WritesAreDetermined}
use Rattle.bpf_cpu.specs.declared.outcome.Outcome.{Outcome}
use Rattle.bpf_cpu.specs.declared.outcome.Outcome.TheVariants.{OutOfBudget}
use Rattle.bpf_cpu.specs.Task.{Task, InHand, Ended}
use Rattle.bpf_machine.specs.declared.machine.Turn.{Turn}
use Rattle.bpf_machine.specs.declared.machine.Turn.TheVariants as turn
use Rattle.bpf_machine.specs.declared.machine.ahead.Headway.{Headway}
use Rattle.bpf_machine.specs.declared.machine.ahead.Headway.TheVariants.{Idle, Turns}
use Rattle.bpf_machine.specs.Schedule.{World, TakesTurn, RunsSchedule}
use Rattle.bpf_machine.specs.Rounds.{HaveEnded}
use Rattle.bpf_machine.specs.Laws.{IsFresh}
use Rattle.bpf_machine.specs.Machine.{MachineState, Shows}
use Rattle.bpf_machine.specs.Headways.{turns_in, Precedes, with_jobs, IsAheadOf}
use Rattle.bpf_machine.specs.Cover.{IsAhead}
use Rattle.bpf_machine.specs.Patient.{NoneRanOut, IsRicher, AsRich}
use Rattle.bpf_machine.specs.Ends.{RunsFreely, CanEnd, IsHung, FreeRunsAgree}
use Rattle.bpf_machine.proofs.DeterminedTurns.{IsWorld, one_turn, fresh_world}
use Rattle.bpf_machine.proofs.HeadwayLaws.{before}
use Rattle.bpf_machine.proofs.CoverLaws.{now, now_is, IsCoveredBy, LeadsBy, LeadsOn, comes_made, comes_new, comes, true_is_covered, ended_jobs}
use Rattle.bpf_machine.proofs.PatientLaws.{all_same, richer_hand, end_richer, rich_at, rich_again, rich_ended, rich_world, rich_turn}
use Rattle.bpf_machine.proofs.PatientLaws.{stays_ended, none_ran_before, Richly, enriched, IsCoveredRichlyBy}
use Rattle.bpf_machine.proofs.PatientRaceLaws.{world_after}

-- ---- two lists of richer jobs have a third that is richer than both
richer_join : (x y z : Task) → IsRicher x y → IsRicher x z → (t : Task) × IsRicher y t × IsRicher z t
richer_join x y z (inl same) more = (z, subst (λ (t : Task). IsRicher t z) (sym same) more, inl refl)
richer_join x y z (inr (state, left, k, was, is)) more =
    let there = richer_hand x z state left more was in
    let n = there.0 in
    let t : Task = record x { stage = InHand state (left + k + n) } in
    let sum : left + k + n ≡ left + n + k = omega arith in (
      t,
      inr (state, left + k, n, ap (λ (u : Task). u.stage) is, sym (ap (λ (u : Task). record u { stage = InHand state (left + k + n) }) is)),
      inr (
        state,
        left + n,
        k,
        ap (λ (u : Task). u.stage) there.1,
        ap (λ (i : ℕ). record x { stage = InHand state i }) sum ∙ sym
            (ap (λ (u : Task). record u { stage = InHand state (left + n + k) }) there.1),
      ),
    )

pub rich_join : (xs ys zs : List Task) → AsRich xs ys → AsRich xs zs → (ts : List Task) × AsRich ys ts × AsRich zs ts
rich_join [] [] [] a b = ([], tt, tt)
rich_join [] [] (z ∷ zs) a b = absurd b
rich_join [] (y ∷ ys) zs a b = absurd a
rich_join (x ∷ xs) [] zs a b = absurd a
rich_join (x ∷ xs) (y ∷ ys) [] a b = absurd b
rich_join (x ∷ xs) (y ∷ ys) (z ∷ zs) a b =
    let one = richer_join x y z a.0 b.0 in
    let rest = rich_join xs ys zs a.1 b.1 in
    (one.0 ∷ rest.0, (one.1, rest.1), (one.2, rest.2))

-- ---- jobs that have ended
richer_end : (old new : Task) (end : Outcome) → IsRicher old new → new.stage ≡ Ended end → new ≡ old
richer_end old new end (inl same) at = same
richer_end old new end (inr a) at = let no : InHand a.0 (a.1 + a.2) ≡ Ended end = ap (λ (t : Task). t.stage) (sym a.4) ∙ at in cc

pub poor_ended : (xs ys : List Task) → AsRich xs ys → HaveEnded ys → ys ≡ xs
poor_ended [] [] rich ended = refl
poor_ended [] (y ∷ ys) rich ended = absurd rich
poor_ended (x ∷ xs) [] rich ended = absurd rich
poor_ended (x ∷ xs) (y ∷ ys) rich ended =
    let end = ended 0 y refl in
    ap (λ (t : Task). t ∷ ys) (richer_end x y end.0 rich.0 end.1) ∙ ap (λ (ts : List Task). x ∷ ts)
    (poor_ended xs ys rich.1 (λ j task at. ended (suc j) task at))

pub none_poor : (xs ys : List Task) → AsRich xs ys → NoneRanOut ys → NoneRanOut xs
none_poor xs ys rich none j task pc at ended =
    let b = rich_at xs ys j task rich at in
    let same : b.0 ≡ task = end_richer task b.0 (OutOfBudget pc) b.2 ended in
    none j b.0 pc b.1 (ap (λ (t : Task). t.stage) same ∙ ended)

-- what turns ahead lead to has none that ran out: nor had it before them
ended_before : (programs : List Loaded) (n : ℕ) (old new : Task) (end : Outcome) → Precedes programs n old new → old.stage ≡ Ended end → new ≡ old
ended_before programs n old new end (inl a) at = a.0
ended_before programs n old new end (inr a) at = let no : Ended end ≡ InHand a.1 a.2 = sym at ∙ a.6 in cc

pub none_before : (y v : World) (headways : ℕ → Headway) → IsAheadOf (IsAhead headways) headways y.jobs v → NoneRanOut v.jobs → NoneRanOut y.jobs
none_before y v headways ahead none j task pc at ended =
    let b = before v.programs (λ c. turns_in (headways c)) y.jobs v.jobs ahead.each j task at in
    let same : b.0 ≡ task = ended_before v.programs (turns_in (headways task.cpu)) task b.0 (OutOfBudget pc) b.2 ended in
    none j b.0 pc b.1 (ap (λ (t : Task). t.stage) same ∙ ended)

-- what they lead to has ended: so had it before them
pub ended_after : (programs : List Loaded) (n : ℕ) (old new : Task) (end : Outcome) → Precedes programs n old new → new.stage ≡ Ended end → new ≡ old
ended_after programs n old new end (inl a) at = a.0
ended_after programs n old new end (inr a) at = let no : Ended end ≡ InHand a.3 a.4 = sym at ∙ ap (λ (t : Task). t.stage) a.7 in cc

pub have_ended_before : (y v : World) (headways : ℕ → Headway) → IsAheadOf (IsAhead headways) headways y.jobs v → HaveEnded v.jobs → HaveEnded y.jobs
have_ended_before y v headways ahead ended j task at =
    let b = before v.programs (λ c. turns_in (headways c)) y.jobs v.jobs ahead.each j task at in
    let end = ended j b.0 b.1 in
    let same : b.0 ≡ task = ended_after v.programs (turns_in (headways task.cpu)) task b.0 end.0 b.2 end.1 in
    (end.0, ap (λ (t : Task). t.stage) (sym same) ∙ end.1)

-- ---- runs in which jobs are given steps
-- more are given before the first turn
pub gift_first : (cs : List ℕ) (w z : World) (jobs : List Task) → AsRich w.jobs jobs → RunsFreely (with_jobs w jobs) cs z → RunsFreely w cs z
gift_first [] w z jobs rich (more, richer, same) = (more, rich_again w.jobs jobs more rich richer, same)
gift_first (c ∷ cs) w z jobs rich (more, answer, m, richer, progress, runs) = (more, answer, m, rich_again w.jobs jobs more rich richer, progress, runs)

pub runs_then_freely : (cs ds : List ℕ) (w y z : World) → RunsSchedule w cs y → RunsFreely y ds z → RunsFreely w (cs ++ ds) z
runs_then_freely [] ds w y z runs freely = subst (λ (x : World). RunsFreely x ds z) runs freely
runs_then_freely (c ∷ cs) ds w y z (answer, m, progress, runs) freely =
    (w.jobs, answer, m, all_same w.jobs, progress, runs_then_freely cs ds m y z runs freely)

pub freely_again : (cs ds : List ℕ) (w y z : World) → RunsFreely w cs y → RunsFreely y ds z → RunsFreely w (cs ++ ds) z
freely_again [] ds w y z (jobs, rich, same) freely = gift_first ds w z jobs rich (subst (λ (x : World). RunsFreely x ds z) same freely)
freely_again (c ∷ cs) ds w y z (jobs, answer, m, rich, progress, runs) freely =
    (jobs, answer, m, rich, progress, freely_again cs ds m y z runs freely)

pub freely_none : (cs : List ℕ) (w z : World) → RunsFreely w cs z → NoneRanOut z.jobs → NoneRanOut w.jobs
freely_none [] w z (jobs, rich, same) none = none_poor w.jobs jobs rich (subst (λ (x : World). NoneRanOut x.jobs) same none)
freely_none (c ∷ cs) w z (jobs, answer, m, rich, progress, runs) none =
    let after = freely_none cs m z runs none in
    none_poor w.jobs jobs rich (λ j task pc at ended. after j task pc
    (stays_ended (with_jobs w jobs) c answer m j task (OutOfBudget pc) progress at ended) ended)

-- ---- from each kept machine an end
-- the i-th shows the world
abbrev pub IsShownAt : List MachineState → ℕ → World → Type 0
IsShownAt kept i w = (m : MachineState) × (slice_get kept i ≡ Some m) × Shows m w

pub is_turns : (h : Headway) (n : ℕ) → turns_in h ≡ suc n → h ≡ Turns (suc n)
is_turns Idle n e = let no : 0 ≡ suc n = e in cc
is_turns (Turns m) n e = ap Turns e

-- turns of one CPU lead through those that were made ahead to the next kept machine
pub through : (P Q : World → Type 0) (c n : ℕ) → LeadsBy P (λ h u. Q u) c → (w v : World) (headways : ℕ → Headway) → P v → with_jobs v w.jobs ≡
    w → IsAheadOf (IsAhead headways) headways w.jobs v → turns_in (headways c) ≡ n
    → (cs : List ℕ) × (y : World) × RunsSchedule w cs y × IsCoveredBy Q y
through P Q c zero leads w v headways shown same ahead none =
    let r = comes_new w c v headways same ahead P (λ h u. Q u) leads shown none in
    (c ∷ [], r.1, (r.0, r.1, r.4, refl), (r.2, now headways c r.3, r.5, r.6, r.7))
through P Q c (suc n) leads w v headways shown same ahead many =
    let t = comes_made w c v headways same ahead n (is_turns (headways c) n many) in
    let rest = through P Q c n leads t.0 v (now headways c (Turns n)) shown t.2 t.3 (ap turns_in (now_is headways c (Turns n))) in
    (c ∷ rest.0, rest.1, (turn.Ran, t.0, t.1, rest.2), rest.3)

-- this many turns lead from what is true of worlds to an end
abbrev pub EndOn : (ℕ → World → Type 0) → ℕ → ℕ → Type 0
EndOn P zero i = (z : World) → P i z → HaveEnded z.jobs × NoneRanOut z.jobs
EndOn P (suc n) i = (c : ℕ) × (k : ℕ) × LeadsBy (P i) (λ h u. Richly (P k) u) c × EndOn P n k

module _ (P : ℕ → World → Type 0) where
  ends_by : (n i : ℕ) (z : World) → EndOn P n i → IsCoveredBy (P i) z → CanEnd z
  ends_by zero i z ends (v, headways, shown, same, ahead) =
      let e = ends v shown in
      ([], z, (z.jobs, all_same z.jobs, refl), have_ended_before z v headways ahead e.0, none_before z v headways ahead e.1)
  ends_by (suc n) i z (c, k, leads, rest) (v, headways, shown, same, ahead) =
      let t = through (P i) (Richly (P k)) c (turns_in (headways c)) leads z v headways shown same ahead refl in
      let e = enriched (P k) t.1 t.3 in
      let r = ends_by n k (with_jobs t.1 e.0) rest e.2 in
      (t.0 ++ r.0, r.1, runs_then_freely t.0 r.0 z t.1 r.1 t.2 (gift_first r.0 t.1 r.1 e.0 e.1 r.2), r.3, r.4)

  -- so they do from a world that is covered with richer jobs
  pub can_end : (n i : ℕ) (z : World) → EndOn P n i → IsCoveredRichlyBy (P i) z → CanEnd z
  can_end n i z ends (jobs, rich, covered) =
      let r = ends_by n i (with_jobs z jobs) ends covered in
      (r.0, r.1, gift_first r.0 z r.1 jobs rich r.2, r.3, r.4)

module _ (kept : List MachineState) where
  pub one_machine : (i : ℕ) (m n : MachineState) → slice_get kept i ≡ Some m → slice_get kept i ≡ Some n → m ≡ n
  one_machine i m n a b = let both : Some m ≡ Some n = sym a ∙ b in cc

-- ---- from these machines none
module _ (P : World → Type 0) (leads : LeadsOn P (Richly P)) (works : (w : World) → P w → HaveEnded w.jobs → ⊥)
    (none_out : (w : World) → P w → NoneRanOut w.jobs) where
  stays : (v : World) → P v → Richly P v
  stays v shown = (v.jobs, all_same v.jobs, shown)

  -- but for steps that are left, and for turns ahead, one of them shows the world
  abbrev IsLikeStuck : World → Type 0
  IsLikeStuck z = (jobs : List Task) × (top : List Task) × AsRich z.jobs top × AsRich jobs top × IsCoveredBy P (with_jobs z jobs)

  given_more : (z : World) (more : List Task) → AsRich z.jobs more → IsLikeStuck z → IsLikeStuck (with_jobs z more)
  given_more z more rich (jobs, top, up, below, covered) =
      let j = rich_join z.jobs more top rich up in
      (jobs, j.0, j.1, rich_again jobs top j.0 below j.2, covered)

  never_ended : (y : World) → IsLikeStuck y → HaveEnded y.jobs → ⊥
  never_ended y (jobs, top, up, below, (v, headways, shown, same, ahead)) ended =
      let high : top ≡ y.jobs = rich_ended y.jobs top up ended in
      let ended_top : HaveEnded top = subst HaveEnded (sym high) ended in
      let low : top ≡ jobs = poor_ended jobs top below ended_top in
      let ended_low : HaveEnded jobs = subst HaveEnded low ended_top in
      let there : jobs ≡ v.jobs = ended_jobs (with_jobs y jobs) v headways ahead ended_low in
      works v shown (subst HaveEnded there ended_low)

  module _ (law : WritesAreDetermined) (begins : OneInstructionBegins) (replies : CallsHaveOneReply) where
    stuck_turn : (z m : World) (c : ℕ) (answer : Turn) → IsWorld z → IsLikeStuck z → TakesTurn z c answer m → NoneRanOut m.jobs → IsLikeStuck m
    stuck_turn z m c answer world (jobs, top, up, below, covered) progress none =
        let p = with_jobs z jobs in
        let r = comes P (Richly P) stays leads p c covered in
        let p' = r.1 in
        let v = r.3.0 in
        let there = r.3.2 in
        let none_v : NoneRanOut v.jobs = none_poor v.jobs there.0 there.1 (none_out (with_jobs v there.0) there.2) in
        let none_p : NoneRanOut p'.jobs = none_before p' v r.3.1 r.3.4 none_v in
        let e = enriched P p' r.3 in
        let a = rich_turn p top c r.0 p' below r.2 none_p in
        let b = rich_turn z top c answer m up progress none in
        let one = one_turn law begins replies (with_jobs z top) c r.0 answer (with_jobs p' a.0) (with_jobs m b.0) (rich_world z top up world) a.1 b.1 in
        let same : with_jobs p' a.0 ≡ with_jobs m b.0 = one.worlds in
        let tops : a.0 ≡ b.0 = ap (λ (x : World). x.jobs) same in
        let j = rich_join p'.jobs a.0 e.0 a.2 e.1 in (
          e.0,
          j.0,
          rich_again m.jobs b.0 j.0 b.2 (subst (λ (ts : List Task). AsRich ts j.0) tops j.1),
          j.2,
          subst (IsCoveredBy P) (ap (λ (x : World). with_jobs x e.0) same) e.2,
        )

    never : (cs : List ℕ) (z y : World) → IsWorld z → IsLikeStuck z → RunsFreely z cs y → HaveEnded y.jobs → NoneRanOut y.jobs → ⊥
    never [] z y world like (jobs, rich, same) ended none =
        never_ended (with_jobs z jobs) (given_more z jobs rich like) (subst (λ (x : World). HaveEnded x.jobs) same ended)
    never (c ∷ cs) z y world like (jobs, answer, m, rich, progress, runs) ended none =
        let here = rich_world z jobs rich world in
        let next = (one_turn law begins replies (with_jobs z jobs) c answer answer m m here progress progress).world in
        never cs m y next (stuck_turn (with_jobs z jobs) m c answer here (given_more z jobs rich like) progress (freely_none cs m y runs none)) runs ended none

    pub are_hung : (w z : World) (schedule : List ℕ) → IsFresh w → RunsSchedule w schedule z → Richly P z → IsHung z
    are_hung w z schedule fresh runs (jobs, rich, shown) (cs, y, freely, ended, none) =
        let world = world_after law begins replies schedule w z (fresh_world law begins replies w fresh) runs in
        never cs z y world (jobs, jobs, rich, all_same jobs, true_is_covered P (with_jobs z jobs) shown) freely ended none

-- ---- one schedule, with steps that are given and without
module _ (law : WritesAreDetermined) (begins : OneInstructionBegins) (replies : CallsHaveOneReply) where
  agree : (cs : List ℕ) (w z y : World) (jobs : List Task) → IsWorld w → AsRich w.jobs jobs → RunsSchedule w cs z → NoneRanOut z.jobs →
      RunsFreely (with_jobs w jobs) cs y → AsRich z.jobs y.jobs × (with_jobs z y.jobs ≡ y)
  agree [] w z y jobs world rich runs none (more, richer, same) =
      let P : World → Type 0 = λ x. AsRich x.jobs y.jobs × (with_jobs x y.jobs ≡ y) in
      let jobs_are : y.jobs ≡ more = ap (λ (x : World). x.jobs) same in
      subst P (sym runs) (
        subst (λ (ts : List Task). AsRich w.jobs ts) (sym jobs_are) (rich_again w.jobs jobs more rich richer),
        ap (λ (ts : List Task). with_jobs w ts) jobs_are ∙ sym same,
      )
  agree (c ∷ cs) w z y jobs world rich (answer, m, progress, runs) none (more, other, m', richer, progress', runs') =
      let up = rich_again w.jobs jobs more rich richer in
      let t = rich_turn w more c answer m up progress (none_ran_before cs m z runs none) in
      let one = one_turn law begins replies (with_jobs w more) c answer other (with_jobs m t.0) m' (rich_world w more up world) t.1 progress' in
      let next = (one_turn law begins replies w c answer answer m m world progress progress).world in
      agree cs m z y t.0 next t.2 runs none (subst (λ (x : World). RunsFreely x cs y) (sym one.worlds) runs')

pub free_runs_agree : WritesAreDetermined → OneInstructionBegins → CallsHaveOneReply → FreeRunsAgree
free_runs_agree law begins replies w z y schedule fresh runs none freely =
    agree law begins replies schedule w z y w.jobs (fresh_world law begins replies w fresh) (all_same w.jobs) runs none freely
