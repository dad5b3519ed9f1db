-- Schedules that are tried with the budgets that jobs have.
use Rattle.std.proofs.Common.{◌≡◌, ◌∙◌, ℕ, suc, ◌+◌, Bool, true, false, List, [], ◌∷◌, Some, inl, inr, refl, sym, ap, subst}
use Rattle.std.specs.Prelude.{slice_get}
use Rattle.bpf_cpu.specs.declared.outcome.Outcome.{Outcome}
use Rattle.bpf_cpu.specs.Task.{Task, InHand, Ended}
use Rattle.bpf_machine.specs.declared.machine.Turn.{Turn}
use Rattle.bpf_machine.specs.Patient.{IsRicher, AsRich, NoneRanOut}
use Rattle.bpf_machine.specs.Rounds.{HaveEnded}
use Rattle.bpf_machine.specs.Schedule.{World}
use Rattle.bpf_x86.specs.Laws.{Counts}
use Rattle.bpf_x86.specs.Machine.{X86, Move, TurnOf, RunsMoves, drained}
use Rattle.bpf_buffering.specs.Search.{BufferedState, ShowsX86, MovesTo}
use Rattle.bpf_buffering.specs.Buffering.{TurnsTo}
use Rattle.bpf_buffering.specs.Album.{IsShownAt, HaveEndedAt}
use Rattle.bpf_flushes.specs.Moves.{MakesTo}
use Rattle.bpf_flushes.proofs.Joining.{all_run}
use Rattle.bpf_buffering.specs.Alike.{with_x86_jobs}
use Rattle.bpf_patience.specs.Patience.{FreeMovesAgree}
use Rattle.bpf_explore.specs.Private.Replays.{SomeRanOut}
use Rattle.bpf_reorderings.specs.Private.Trail.{LeadsBy}
use Rattle.bpf_reorderings.specs.Private.Searching.{BeginsAt, IsTried}
use Rattle.bpf_reorderings.specs.Private.Answers.{CanRunOut}

pub turn_moves : (old new : BufferedState) (c : ℕ) (answer : Turn) → TurnsTo old c answer new → MovesTo old (TurnOf c) new
turn_moves old new c answer turns x shows = let r = turns x shows in (r.0, (answer, r.1), r.2)

-- ---- the same jobs, but for steps that are left
same_end : (old new : Task) (end : Outcome) → IsRicher old new → new.stage ≡ Ended end → new ≡ old
same_end old new end (inl e) is = e
same_end old new end (inr (state, left, more, at, e)) is =
    let no : InHand state (left + more) ≡ Ended end = sym (ap (λ (t : Task). t.stage) e) ∙ is in cc

same_ends : (xs ys : List Task) → AsRich xs ys → HaveEnded ys → ys ≡ xs
same_ends [] [] rich all = refl
same_ends [] (y ∷ ys) rich all = absurd rich
same_ends (x ∷ xs) [] rich all = absurd rich
same_ends (x ∷ xs) (y ∷ ys) (here, rest) all =
    let end = all 0 y refl in
    let one : y ≡ x = same_end x y end.0 here end.1 in
    let more : ys ≡ xs = same_ends xs ys rest (λ j t at. all (suc j) t at) in
    cc

-- ---- a schedule from the first machine
module _ (kept : List BufferedState) (restored m : BufferedState) (moves : List Move) (at : slice_get kept 0 ≡ Some restored)
    (makes : MakesTo restored moves m) where
  pub tried : IsTried kept moves m
  tried w (fresh, (one, there, shows)) =
      let two : Some one ≡ Some restored = sym there ∙ at in
      let same : one ≡ restored = cc in
      makes (drained w) (subst (λ (n : BufferedState). ShowsX86 n (drained w)) same shows)

  pub can_run_out : SomeRanOut m.machine.jobs → CanRunOut kept
  can_run_out some w begins =
      let r = tried w begins in
      let run = all_run moves (drained w) r.0 r.1 in
      (run.0, r.0, run.1, subst SomeRanOut (sym r.2.world.jobs) some)

-- ---- the way to a kept machine, by these moves
module _ (kept : List BufferedState) (moves : List Move) (place : ℕ) where
  abbrev pub LeadsWithin : Bool → Type 0
  LeadsWithin patient = (w : World) → BeginsAt kept w
      → (z : X86) × RunsMoves (drained w) moves z × Counts patient z.world.jobs × IsShownAt kept place z

  -- of a search that isn't patient
  pub leads_plain : LeadsBy false kept 0 moves place → LeadsWithin false
  leads_plain leads w begins = let r = leads (drained w) begins.1 in (r.0, r.1, tt, r.2)

  -- of one that is, where they use no budget up
  pub leads_tried : FreeMovesAgree → (m : BufferedState) → LeadsBy true kept 0 moves place → IsTried kept moves m → NoneRanOut m.machine.jobs →
      HaveEndedAt kept place → LeadsWithin true
  leads_tried law m leads tries none over w begins =
      let t = tries w begins in
      let none_there : NoneRanOut t.0.world.jobs = subst NoneRanOut (sym t.2.world.jobs) none in
      let f = leads (drained w) begins.1 in
      let a = law w moves t.0 f.0 begins.0 t.1 none_there f.1 in
      let ended : HaveEnded f.0.world.jobs = subst HaveEnded (sym f.2.2.world.jobs) (over f.2.0 f.2.1) in
      let jobs : f.0.world.jobs ≡ t.0.world.jobs = same_ends t.0.world.jobs f.0.world.jobs a.1 ended in
      let same : f.0 ≡ t.0 = sym a.2 ∙ ap (with_x86_jobs t.0) jobs in
      (t.0, a.0, none_there, subst (IsShownAt kept place) same f.2)
