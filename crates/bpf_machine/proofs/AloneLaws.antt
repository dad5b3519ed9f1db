-- Turns of the one CPU that has work are rounds.
use Rattle.std.proofs.Common.{◌≡◌, ◌≢◌, ℕ, zero, suc, ◌<◌, ◌≤◌, List, [], ◌∷◌, ◌++◌, Option, Some, None, inl, inr, refl, sym, ap, subst, ◌∙◌, arith}
use Rattle.std.specs.Prelude.{slice_get, map}
use Rattle.std.proofs.lemmas.Bool.{cases_order}
use Rattle.bpf_base.proofs.Lists.{slice_get-set_known, slice_get-set_other, set_twice}
use Rattle.bpf_shared.proofs.Puts.{equal_or_not}
use Rattle.bpf_shared.specs.declared.events.Event.{Event}
use Rattle.bpf_shared.specs.declared.events.Event.TheVariants.{End}
use Rattle.bpf_shared.specs.declared.events.Entry.{Entry}
use Rattle.bpf_shared.specs.Shape.{Shape}
use Rattle.bpf_shared.specs.Store.{Plain}
use Rattle.bpf_shared.specs.Choice.{PlainlyAllowed}
use Rattle.bpf_shared.specs.History.{PlainlyLegal, entry}
use Rattle.bpf_loader.specs.Loaded.{Loaded}
use Rattle.bpf_cpu.specs.declared.cpu.Cpu.{Cpu}
use Rattle.bpf_cpu.specs.declared.outcome.Outcome.{Outcome}
use Rattle.bpf_cpu.specs.declared.outcome.Progress.TheVariants.{On, Done}
use Rattle.bpf_machine.specs.declared.machine.Turn.{Turn}
use Rattle.bpf_machine.specs.declared.machine.Turn.TheVariants as turn
use Rattle.bpf_cpu.specs.Step.{Step, MakesSteps}
use Rattle.bpf_cpu.specs.Task.{Stage, Task, Waiting, InHand, Ended}
use Rattle.bpf_machine.specs.Hands.{IsAt, IsFree, NoneWaits, with_stage}
use Rattle.bpf_machine.specs.Schedule.{World, Advances, Lists, Settles, GoesOn, TakesTurn, RunsSchedule}
use Rattle.bpf_machine.proofs.ListLaws.{with_end, lists_jobs}
use Rattle.bpf_machine.specs.Rounds.{below, RunsRound, RunsRounds}
use Rattle.bpf_machine.specs.Private.Turns.{IsAlone, Lasts}
use Rattle.bpf_machine.proofs.OwnEvents.{RunsWithin, legal_shape}
use Rattle.bpf_machine.proofs.TurnLaws.{begun_at, runs_more}

-- ---- CPUs without work stay so, whatever another CPU's job leads to
abbrev pub IsIdle : List Task → ℕ → Type 0
IsIdle jobs d = IsFree jobs d × NoneWaits jobs d

module _ (jobs : List Task) (c j : ℕ) (task : Task) (stage : Stage) (listed : slice_get jobs j ≡ Some task) (of : task.cpu ≡ c) where
  pub keeps_at : (d k : ℕ) (other : Task) (now : Stage) → d ≢ c → IsAt (with_stage jobs j task stage) d k other now → IsAt jobs d k other now
  keeps_at d k other now ne at = elim (equal_or_not k j) [
    | inl e ↦
        let P : ℕ → Type 0 = λ k. slice_get (with_stage jobs j task stage) k ≡ Some other in
        let both : Some (record task { stage = stage }) ≡ Some other = sym
        (slice_get-set_known jobs j (record task { stage = stage }) task listed) ∙ subst P e at.listed in
        let same : record task { stage = stage } ≡ other = cc in
        absurd (ne (sym at.of ∙ ap (λ (t : Task). t.cpu) (sym same) ∙ of))
    | inr other_job ↦ record { listed = sym (slice_get-set_other jobs j k (record task { stage = stage }) other_job) ∙ at.listed; of = at.of; at = at.at }
  ]

  pub stays_idle : (d : ℕ) → d ≢ c → IsIdle jobs d → IsIdle (with_stage jobs j task stage) d
  stays_idle d ne idle = (
    λ k other state left at. idle.0 k other state left (keeps_at d k other (InHand state left) ne at),
    λ k other input at. idle.1 k other input (keeps_at d k other (Waiting input) ne at),
  )

  pub stays_alone : IsAlone jobs c → IsAlone (with_stage jobs j task stage) c
  stays_alone alone d ne = stays_idle d ne (alone d ne)

goes_idle : (w : World) (c j d : ℕ) (task : Task) (old : Cpu) (left : ℕ) (answer : Turn) (z : World) → slice_get w.jobs j ≡ Some task → task.cpu ≡ c
    → GoesOn w c j task old left answer z → d ≢ c → IsIdle w.jobs d → IsIdle z.jobs d
goes_idle w c j d task old left answer z listed of g ne idle = settle g.1 g.7
  where
    settle : (end : Option Outcome) → Settles (record w { store = g.2 }) c j task g.3 g.4 end answer z → IsIdle z.jobs d
    settle None s =
        let P : List Task → Type 0 = λ ts. IsIdle ts d in
        subst P (sym (ap (λ (x : World). x.jobs) s.1)) (stays_idle w.jobs c j task (InHand g.3 g.4) listed of d ne idle)
    settle (Some end) s =
        let P : List Task → Type 0 = λ ts. IsIdle ts d in
        subst P (sym (lists_jobs (with_end w j task end s.0) c z s.3)) (stays_idle w.jobs c j task (Ended end) listed of d ne idle)

pub turn_idles : (w : World) (c d : ℕ) (answer : Turn) (z : World) → TakesTurn w c answer z → d ≢ c → IsIdle w.jobs d → IsIdle z.jobs d
turn_idles w c d answer z (inl a) ne idle = goes_idle w c a.0 d a.1 a.2 a.3 answer z a.4.listed a.4.of a.5 ne idle
turn_idles w c d answer z (inr (inl (free, a))) ne idle = goes_idle (record w { store = a.3 }) c a.0 d a.1 _ _ answer z a.4.listed a.4.of a.7 ne idle
turn_idles w c d answer z (inr (inr a)) ne idle =
    let P : List Task → Type 0 = λ ts. IsIdle ts d in
    subst P (sym (ap (λ (x : World). x.jobs) a.3)) idle

-- ---- a turn of the one CPU that has work is a round
module _ (w : World) (c : ℕ) (answer : Turn) (z : World) (progress : TakesTurn w c answer z) (alone : IsAlone w.jobs c) (still : IsAlone z.jobs c) where
  round_to : (n : ℕ) → (n ≤ c → RunsSchedule w (below n) w) × (c < n → RunsSchedule w (below n) z)
  round_to zero = (λ l. refl, λ l. absurd (omega arith))
  round_to (suc n) =
      let r = round_to n in (
        λ l.
            let ne : n ≢ c = λ e. absurd (omega arith) in
            runs_more w (below n) n w turn.Idle w (r.0 (omega arith)) (inr (inr ((alone n ne).0, (alone n ne).1, refl, refl))),
        λ l. elim (cases_order n c) [
          | inl e ↦
              let P : ℕ → Type 0 = λ k. TakesTurn w k answer z in
              runs_more w (below n) n w answer z (r.0 (omega arith)) (subst P (sym e) progress)
          | inr rest ↦ elim rest [
            | inl less ↦ absurd (omega arith)
            | inr past ↦
                let ne : n ≢ c = λ e. absurd (omega arith) in
                runs_more w (below n) n z turn.Idle z (r.1 past) (inr (inr ((still n ne).0, (still n ne).1, refl, refl)))
          ]
        ],
      )

  pub round_alone : c < w.store.shape.cpus → RunsRound w z
  round_alone inside = (round_to w.store.shape.cpus).1 inside

rounds_before : (n : ℕ) (w m z : World) → RunsRound w m → RunsRounds n m z → RunsRounds (suc n) w z
rounds_before zero w m z first rest = (w, refl, subst (λ (x : World). RunsRound w x) (sym rest) first)
rounds_before (suc n) w m z first rest = (rest.0, rounds_before n w m rest.0 first rest.1, rest.2)

-- ---- until its job ends
advances_shape : (program : Loaded) (c : ℕ) (s : Plain) (old : Cpu) (n : ℕ) (end : Option Outcome) (t : Plain) (new : Cpu) (left : ℕ) →
    RunsWithin s → Advances program c s old n end t new left → (t.shape ≡ s.shape) × RunsWithin t
advances_shape program c s old zero end t new left within a = (ap (λ (x : Plain). x.shape) a.1, subst RunsWithin (sym a.1) within)
advances_shape program c s old (suc n) end t new left within a = legal_shape s t (map (entry c) a.0) within a.3

module _ (c j : ℕ) (program : Loaded) (end : Outcome) (t q : Plain) (allowed : PlainlyAllowed t c End q) where
  pub rounds_left : (k : ℕ) (w z : World) (task : Task) (state : Cpu) (left : ℕ) → RunsWithin w.store → c < w.store.shape.cpus → IsAlone w.jobs c
      → slice_get w.programs task.program ≡ Some program → IsAt w.jobs c j task (InHand state left) → Lasts program c k w.store state left end t
      → Lists (with_end w j task end q) c z → RunsRounds (suc k) w z
  rounds_left zero w z task state left within inside alone loaded at lasts lists =
      let progress : TakesTurn w c (turn.Ended j end) z = inl (
        j,
        task,
        state,
        left,
        at,
        (program, Some end, t, lasts.0, lasts.1, loaded, lasts.2, (q, allowed, refl, lists)),
      ) in
      let P : List Task → Type 0 = λ ts. IsAlone ts c in
      let still = subst P (sym (lists_jobs (with_end w j task end q) c z lists)) (stays_alone w.jobs c j task (Ended end) at.listed at.of alone) in
      (w, refl, round_alone w c (turn.Ended j end) z progress alone still inside)
  rounds_left (suc k) w z task state left within inside alone loaded at lasts lists =
      let m = lasts.0 in
      let now : Stage = InHand lasts.1 lasts.2 in
      let y : World = record w { store = m; jobs = with_stage w.jobs j task now } in
      let progress : TakesTurn w c turn.Ran y = inl (j, task, state, left, at, (program, None, m, lasts.1, lasts.2, loaded, lasts.3, (refl, refl))) in
      let still : IsAlone y.jobs c = stays_alone w.jobs c j task now at.listed at.of alone in
      let kept = advances_shape program c w.store state left None m lasts.1 lasts.2 within lasts.3 in
      let there : c < y.store.shape.cpus = subst (λ (h : Shape). c < h.cpus) (sym kept.0) inside in
      let same = set_twice w.jobs j (record task { stage = now }) (record task { stage = Ended end }) in
      let listing = subst (λ (ts : List Task). Lists (record w { store = q; jobs = ts }) c z) (sym same) lists in
      let rest = rounds_left k y z (record task { stage = now }) lasts.1 lasts.2 kept.1 there still loaded
      (begun_at w.jobs c j task (InHand state left) now at) lasts.4 listing in
      rounds_before (suc k) w y z (round_alone w c turn.Ran y progress alone still inside) rest

-- ---- steps that are made in one loop are turns
legal_parts : (s t : Plain) (xs ys : List Entry) → PlainlyLegal s (xs ++ ys) t → (m : Plain) × PlainlyLegal s xs m × PlainlyLegal m ys t
legal_parts s t [] ys legal = (s, refl, legal)
legal_parts s t (x ∷ xs) ys legal = let r = legal_parts legal.0 t xs ys legal.2 in (r.0, (legal.0, legal.1, r.1), r.2)

map_entries : (c : ℕ) (xs ys : List Event) → map (entry c) (xs ++ ys) ≡ map (entry c) xs ++ map (entry c) ys
map_entries c [] ys = refl
map_entries c (x ∷ xs) ys = ap (λ (es : List Entry). entry c x ∷ es) (map_entries c xs ys)

pub lasts : (program : Loaded) (shape : Shape) (c n : ℕ) (old : Cpu) (events : List Event) (end : Outcome) (new : Cpu) (s t : Plain) →
    RunsWithin s → s.shape ≡ shape
    → MakesSteps shape program n old events end new → PlainlyLegal s (map (entry c) events) t → (k : ℕ) × Lasts program c k s old n end t
lasts program shape c zero old events end new s t within same steps legal =
    let none : s ≡ t = subst (λ (es : List Event). PlainlyLegal s (map (entry c) es) t) steps.0 legal in
    (0, (old, 0, (ap Some steps.1, sym none, refl, refl)))
lasts program shape c (suc n) old events end new s t within same (inl step) legal =
    let P : Shape → Type 0 = λ h. Step h program old events (Done end) new in
    (0, (new, n, (events, Done end, subst P (sym same) step, legal, refl, refl)))
lasts program shape c (suc n) old events end new s t within same (inr (first, rest, mid, parts, step, steps)) legal =
    let P : Shape → Type 0 = λ h. Step h program old first On mid in
    let here = subst P (sym same) step in
    let both = subst (λ (es : List Entry). PlainlyLegal s es t) (ap (map (entry c)) parts ∙ map_entries c first rest) legal in
    let split = legal_parts s t (map (entry c) first) (map (entry c) rest) both in
    goes_on n split.0 split.1 split.2 here steps (λ m inside shape_same steps legal. lasts program shape c n mid rest end new m t inside shape_same steps legal)
  where
    goes_on : (n : ℕ) (m : Plain) → PlainlyLegal s (map (entry c) first) m → PlainlyLegal m (map (entry c) rest) t → Step s.shape program
        old first On mid → MakesSteps shape program n mid rest end new
        → ((m : Plain) → RunsWithin m → m.shape ≡ shape → MakesSteps shape program n mid rest end new → PlainlyLegal m (map (entry c) rest)
        t → (k : ℕ) × Lasts program c k m mid n end t)
        → (k : ℕ) × Lasts program c k s old (suc n) end t
    goes_on zero m before after here steps again =
        let none : m ≡ t = subst (λ (es : List Event). PlainlyLegal m (map (entry c) es) t) steps.0 after in
        (0, (mid, 0, (first, On, here, subst (λ (x : Plain). PlainlyLegal s (map (entry c) first) x) none before, ap Some steps.1, refl)))
    goes_on (suc n) m before after here steps again =
        let kept = legal_shape s m (map (entry c) first) within before in
        let shape_same : m.shape ≡ shape = kept.0 ∙ same in
        let rest_lasts = again m kept.1 shape_same steps after in
        (suc rest_lasts.0, (m, mid, suc n, (first, On, here, before, refl, refl), rest_lasts.1))
