-- Machines that are ahead of their rounds: each turn of the rounds, and each turn that is made ahead.
use Rattle.std.proofs.Common.{◌≡◌, ◌≢◌, ◌∙◌, ℕ, zero, suc, List, Option, Some, None, inl, inr, refl, sym, ap, subst}
use Rattle.std.specs.Prelude.{slice_get, slice_set}
use Rattle.bpf_base.proofs.Lists.{slice_get-set_known, slice_get-set_other}
use Rattle.bpf_shared.proofs.Puts.{equal_or_not}
use Rattle.bpf_loader.specs.Loaded.{Loaded}
use Rattle.bpf_cpu.specs.declared.cpu.Cpu.{Cpu}
use Rattle.bpf_cpu.specs.declared.input.Input.{Input}
use Rattle.bpf_cpu.specs.declared.outcome.Outcome.{Outcome}
use Rattle.bpf_machine.specs.declared.machine.Turn.{Turn}
use Rattle.bpf_machine.specs.declared.machine.Turn.TheVariants as turn
use Rattle.bpf_machine.specs.declared.machine.ahead.Headway.{Headway}
use Rattle.bpf_machine.specs.declared.machine.ahead.Headway.TheVariants.{Idle, Turns}
use Rattle.bpf_cpu.specs.Task.{Stage, Task, Waiting, InHand, Ended}
use Rattle.bpf_machine.specs.Hands.{IsAt, IsFree, NoneWaits, NoneWaitsBelow, SomeWaits, with_stage}
use Rattle.bpf_machine.specs.Schedule.{World, Advances, Settles, GoesOn, TakesTurn}
use Rattle.bpf_machine.specs.Work.{HasInHand}
use Rattle.bpf_machine.specs.Headways.{TakesQuietTurns, IsOnlyOne, Precedes, BothPrecede, FitsHeadway, with_jobs}
use Rattle.bpf_machine.proofs.ListLaws.{with_end, lists_jobs, lists_programs, lists_along}
use Rattle.bpf_machine.proofs.AloneLaws.{keeps_at}

-- ---- the jobs of one CPU are not another's
abbrev pub SameJobs : List Task → List Task → ℕ → Type 0
SameJobs jobs news d = (k : ℕ) (other : Task) (now : Stage) → (IsAt news d k other now → IsAt jobs d k other now) ×
    (IsAt jobs d k other now → IsAt news d k other now)

same_jobs : (jobs : List Task) (d : ℕ) → SameJobs jobs jobs d
same_jobs jobs d k other now = (λ at. at, λ at. at)

pub set_others : (jobs : List Task) (c j : ℕ) (task : Task) (stage : Stage) → slice_get jobs j ≡ Some task → task.cpu ≡ c → (d : ℕ) → d ≢ c
    → SameJobs jobs (with_stage jobs j task stage) d
set_others jobs c j task stage listed of d ne k other now = (
  λ at. keeps_at jobs c j task stage listed of d k other now ne at,
  λ at. elim (equal_or_not k j) [
    | inl e ↦
        let two : Some task ≡ Some other = sym listed ∙ subst (λ (n : ℕ). slice_get jobs n ≡ Some other) e at.listed in
        let same : task ≡ other = cc in
        absurd (ne (sym at.of ∙ ap (λ (t : Task). t.cpu) (sym same) ∙ of))
    | inr apart ↦ record { listed = slice_get-set_other jobs j k (record task { stage = stage }) apart ∙ at.listed; of = at.of; at = at.at }
  ],
)

goes_others : (w : World) (c j d : ℕ) (task : Task) (old : Cpu) (left : ℕ) (answer : Turn) (z : World) → slice_get w.jobs j ≡ Some task → task.cpu ≡ c
    → GoesOn w c j task old left answer z → d ≢ c → SameJobs w.jobs z.jobs d
goes_others w c j d task old left answer z listed of g ne = settle g.1 g.7
  where
    settle : (end : Option Outcome) → Settles (record w { store = g.2 }) c j task g.3 g.4 end answer z → SameJobs w.jobs z.jobs d
    settle None s =
        subst (λ (ts : List Task). SameJobs w.jobs ts d) (sym (ap (λ (x : World). x.jobs) s.1)) (set_others w.jobs c j task (InHand g.3 g.4) listed of d ne)
    settle (Some end) s =
        subst (λ (ts : List Task). SameJobs w.jobs ts d) (sym (lists_jobs (with_end w j task end s.0) c z s.3))
        (set_others w.jobs c j task (Ended end) listed of d ne)

pub turn_others : (w : World) (c d : ℕ) (answer : Turn) (z : World) → TakesTurn w c answer z → d ≢ c → SameJobs w.jobs z.jobs d
turn_others w c d answer z (inl a) ne = goes_others w c a.0 d a.1 a.2 a.3 answer z a.4.listed a.4.of a.5 ne
turn_others w c d answer z (inr (inl (free, a))) ne = goes_others (record w { store = a.3 }) c a.0 d a.1 _ _ answer z a.4.listed a.4.of a.7 ne
turn_others w c d answer z (inr (inr a)) ne =
    subst (λ (ts : List Task). SameJobs w.jobs ts d) (sym (ap (λ (x : World). x.jobs) a.3)) (same_jobs w.jobs d)

pub fits_kept : (jobs news : List Task) (d : ℕ) → SameJobs jobs news d → (h : Headway) → FitsHeadway jobs d h → FitsHeadway news d h
fits_kept jobs news d same Idle fits = (
  λ j task state left at. fits.0 j task state left ((same j task (InHand state left)).0 at),
  λ j task input at. fits.1 j task input ((same j task (Waiting input)).0 at),
)
fits_kept jobs news d same (Turns zero) fits = λ free none.
    fits (λ j task state left at. free j task state left ((same j task (InHand state left)).1 at))
    (λ j task input at. none j task input ((same j task (Waiting input)).1 at))
fits_kept jobs news d same (Turns (suc n)) fits =
    let has = fits.1 in (
      fits.0,
      (has.0, has.1, has.2, (same fits.0 has.0 (InHand has.1 has.2)).1 has.3),
      λ k there. fits.2 k (there.0, there.1, there.2, (same k there.0 (InHand there.1 there.2)).0 there.3),
    )

-- ---- a job in the rounds, and ahead of them
-- quiet turns in which nothing is done
pub no_turns : (program : Loaded) (c n : ℕ) (old : Cpu) (left : ℕ) (new : Cpu) (rest : ℕ) → n ≡ 0 → TakesQuietTurns program c n old left new
    rest → (new ≡ old) × (rest ≡ left)
no_turns program c zero old left new rest e made = made
no_turns program c (suc n) old left new rest e made = cc

module _ (programs : List Loaded) (turns : ℕ → ℕ) where
  pub same_cpu : (n : ℕ) (old new : Task) → Precedes programs n old new → new.cpu ≡ old.cpu
  same_cpu n old new (inl a) = ap (λ (t : Task). t.cpu) a.0
  same_cpu n old new (inr a) = ap (λ (t : Task). t.cpu) a.7

  pub not_ahead : (n : ℕ) (old new : Task) → n ≡ 0 → Precedes programs n old new → new ≡ old
  not_ahead n old new e (inl a) = a.0
  not_ahead n old new e (inr (program, state, left, later, rest, loaded, at, is, made)) =
      let none = no_turns program old.cpu n state left later rest e made in
      let stage : InHand later rest ≡ old.stage = rw (none.0, none.1) (sym at) in
      is ∙ ap (λ (s : Stage). record old { stage = s }) stage

  module _ (olds news : List Task) (each : (j : ℕ) → BothPrecede programs turns (slice_get olds j) (slice_get news j)) where
    pub behind : (j : ℕ) (new : Task) → slice_get news j ≡ Some new → (old : Task) × (slice_get olds j ≡ Some old) × Precedes programs (turns old.cpu) old new
    behind j new at = go (slice_get olds j) refl
      where
        go : (o : Option Task) → slice_get olds j ≡ o → (old : Task) × (slice_get olds j ≡ Some old) × Precedes programs (turns old.cpu) old new
        go None e = absurd (subst (λ (o : Option Task). BothPrecede programs turns None o) at
            (subst (λ (o : Option Task). BothPrecede programs turns o (slice_get news j)) e (each j)))
        go (Some old) e = (
          old,
          e,
          subst (λ (o : Option Task). BothPrecede programs turns (Some old) o) at
              (subst (λ (o : Option Task). BothPrecede programs turns o (slice_get news j)) e (each j)),
        )

    pub before : (j : ℕ) (old : Task) → slice_get olds j ≡ Some old → (new : Task) × (slice_get news j ≡ Some new) × Precedes programs (turns old.cpu) old new
    before j old at = go (slice_get news j) refl
      where
        go : (o : Option Task) → slice_get news j ≡ o → (new : Task) × (slice_get news j ≡ Some new) × Precedes programs (turns old.cpu) old new
        go None e = absurd (subst (λ (o : Option Task). BothPrecede programs turns (Some old) o) e
            (subst (λ (o : Option Task). BothPrecede programs turns o (slice_get news j)) at (each j)))
        go (Some new) e = (
          new,
          e,
          subst (λ (o : Option Task). BothPrecede programs turns (Some old) o) e
              (subst (λ (o : Option Task). BothPrecede programs turns o (slice_get news j)) at (each j)),
        )

    pub waits_behind : (c j : ℕ) (task : Task) (input : Input) → IsAt news c j task (Waiting input) → IsAt olds c j task (Waiting input)
    waits_behind c j task input at = let b = behind j task at.listed in go b.0 b.1 b.2
      where
        go : (old : Task) → slice_get olds j ≡ Some old → Precedes programs (turns old.cpu) old task → IsAt olds c j task (Waiting input)
        go old there (inl a) = record { listed = there ∙ ap Some (sym a.0); of = at.of; at = at.at }
        go old there (inr a) = let no : Waiting input ≡ InHand a.3 a.4 = sym at.at ∙ ap (λ (t : Task). t.stage) a.7 in cc

    hand_now : (c j : ℕ) (task : Task) (state : Cpu) (left : ℕ) → IsAt olds c j task (InHand state left) → HasInHand news c j
    hand_now c j task state left at = let b = before j task at.listed in go b.0 b.1 b.2
      where
        go : (new : Task) → slice_get news j ≡ Some new → Precedes programs (turns task.cpu) task new → HasInHand news c j
        go new there (inl a) = (task, state, left, record { listed = there ∙ ap Some a.0; of = at.of; at = at.at })
        go new there (inr a) = (new, a.3, a.4, record { listed = there; of = ap (λ (t : Task). t.cpu) a.7 ∙ at.of; at = ap (λ (t : Task). t.stage) a.7 })

    waits_now : (c j : ℕ) (task : Task) (input : Input) → IsAt olds c j task (Waiting input) → IsAt news c j task (Waiting input)
    waits_now c j task input at = let b = before j task at.listed in go b.0 b.1 b.2
      where
        go : (new : Task) → slice_get news j ≡ Some new → Precedes programs (turns task.cpu) task new → IsAt news c j task (Waiting input)
        go new there (inl a) = record { listed = there ∙ ap Some a.0; of = at.of; at = at.at }
        go new there (inr a) = let no : Waiting input ≡ InHand a.1 a.2 = sym at.at ∙ a.6 in cc

    pub free_behind : (c : ℕ) → IsFree news c → IsFree olds c
    free_behind c free j task state left at = let h = hand_now c j task state left at in free j h.0 h.1 h.2 h.3

    pub none_behind : (c : ℕ) → NoneWaits news c → NoneWaits olds c
    none_behind c none j task input at = none j task input (waits_now c j task input at)

    none_below_behind : (c j : ℕ) → NoneWaitsBelow news c j → NoneWaitsBelow olds c j
    none_below_behind c j none k task input below at = none k task input below (waits_now c k task input at)

    pub at_behind : (c j : ℕ) (task : Task) (stage : Stage) → turns c ≡ 0 → IsAt news c j task stage → IsAt olds c j task stage
    at_behind c j task stage zero_there at =
        let b = behind j task at.listed in
        let of : b.0.cpu ≡ c = sym (same_cpu (turns b.0.cpu) b.0 task b.2) ∙ at.of in
        let same : task ≡ b.0 = not_ahead (turns b.0.cpu) b.0 task (ap turns of ∙ zero_there) b.2 in
        record { listed = b.1 ∙ ap Some (sym same); of = at.of; at = at.at }

    -- one job of each is replaced
    pub set_both : (j : ℕ) (old old' new new' : Task) → slice_get olds j ≡ Some old → slice_get news j ≡ Some new → Precedes programs (turns old'.cpu) old' new'
        → (k : ℕ) → BothPrecede programs turns (slice_get (slice_set olds j old') k) (slice_get (slice_set news j new') k)
    set_both j old old' new new' at there precedes k = elim (equal_or_not k j) [
      | inl e ↦
          let both = subst (λ (o : Option Task). BothPrecede programs turns o (slice_get (slice_set news j new') j))
          (sym (slice_get-set_known olds j old' old at))
          (subst (λ (o : Option Task). BothPrecede programs turns (Some old') o) (sym (slice_get-set_known news j new' new there)) precedes) in
          subst (λ (n : ℕ). BothPrecede programs turns (slice_get (slice_set olds j old') n) (slice_get (slice_set news j new') n)) (sym e) both
      | inr apart ↦
          subst (λ (o : Option Task). BothPrecede programs turns o (slice_get (slice_set news j new') k)) (sym (slice_get-set_other olds j k old' apart))
          (subst (λ (o : Option Task). BothPrecede programs turns (slice_get olds k) o) (sym (slice_get-set_other news j k new' apart)) (each k))
    ]

-- the same numbers of turns
pub same_turns : (programs : List Loaded) (f g : ℕ → ℕ) → ((c : ℕ) → f c ≡ g c) → (o p : Option Task) → BothPrecede programs f o p → BothPrecede programs g o p
same_turns programs f g same None None both = tt
same_turns programs f g same None (Some new) both = both
same_turns programs f g same (Some old) None both = both
same_turns programs f g same (Some old) (Some new) both = subst (λ (n : ℕ). Precedes programs n old new) (same old.cpu) both

-- ---- a turn that is made now is one of the rounds
module _ (turns : ℕ → ℕ) (c : ℕ) (none : turns c ≡ 0) where
  abbrev Each : List Task → World → Type 0
  Each jobs w = (j : ℕ) → BothPrecede w.programs turns (slice_get jobs j) (slice_get w.jobs j)

  goes_behind : (w : World) (jobs : List Task) (j : ℕ) (task : Task) (old : Cpu) (left : ℕ) (answer : Turn) (z : World) → Each jobs w →
      slice_get w.jobs j ≡ Some task → slice_get jobs j ≡ Some task → task.cpu ≡ c
      → GoesOn w c j task old left answer z → (later : List Task) × GoesOn (with_jobs w jobs) c j task old left answer (with_jobs z later) × Each later z
  goes_behind w jobs j task old left answer z each listed there of g = settle g.1 g.6 g.7
    where
      nothing : (task' : Task) → task'.cpu ≡ task.cpu → Precedes w.programs (turns task'.cpu) task' task'
      nothing task' e = inl (refl, λ state left at. ap turns (e ∙ of) ∙ none)

      settle : (end : Option Outcome) → Advances g.0 c w.store old left end g.2 g.3 g.4 → Settles (record w { store = g.2 }) c j task g.3 g.4 end answer z
          → (later : List Task) × GoesOn (with_jobs w jobs) c j task old left answer (with_jobs z later) × Each later z
      settle None a s =
          let stage = InHand g.3 g.4 in
          let later = with_stage jobs j task stage in (
            later,
            (g.0, None, g.2, g.3, g.4, g.5, a, (s.0, ap (λ (x : World). with_jobs x later) s.1)),
            subst (λ (x : World). Each later x) (sym s.1) (set_both w.programs turns jobs w.jobs each j task (record task { stage = stage })
                task (record task { stage = stage }) there listed (nothing (record task { stage = stage }) refl)),
          )
      settle (Some end) a s =
          let stage = Ended end in
          let later = with_stage jobs j task stage in
          let m : World = with_end w j task end s.0 in
          let both : Each later m = set_both w.programs turns jobs w.jobs each j task (record task { stage = stage }) task
          (record task { stage = stage }) there listed (nothing (record task { stage = stage }) refl) in
          let some : SomeWaits m.jobs c → SomeWaits later c = λ h. (h.0, h.1, h.2, waits_behind w.programs turns later m.jobs both c h.0 h.1 h.2 h.3) in
          let P : List Loaded → Type 0 = λ ps. (k : ℕ) → BothPrecede ps turns (slice_get later k) (slice_get z.jobs k) in
          let Q : List Task → Type 0 = λ ts. (k : ℕ) → BothPrecede w.programs turns (slice_get later k) (slice_get ts k) in (
            later,
            (g.0, Some end, g.2, g.3, g.4, g.5, a, (s.0, s.1, s.2, lists_along m c z later some (none_behind w.programs turns later m.jobs both c) s.3)),
            subst P (sym (lists_programs m c z s.3)) (subst Q (sym (lists_jobs m c z s.3)) both),
          )

  pub turn_behind : (w : World) (jobs : List Task) (answer : Turn) (z : World) → Each jobs w → TakesTurn w c answer z → (later : List Task)
      × TakesTurn (with_jobs w jobs) c answer (with_jobs z later) × Each later z
  turn_behind w jobs answer z each (inl (j, task, state, left, at, g)) =
      let there = at_behind w.programs turns jobs w.jobs each c j task (InHand state left) none at in
      let r = goes_behind w jobs j task state left answer z each at.listed there.listed at.of g in
      (r.0, inl (j, task, state, left, there, r.1), r.2)
  turn_behind w jobs answer z each (inr (inl (free, a))) =
      let at = a.4 in
      let there = waits_behind w.programs turns jobs w.jobs each c a.0 a.1 a.2 at in
      let r = goes_behind (record w { store = a.3 }) jobs a.0 a.1 _ _ answer z each at.listed there.listed at.of a.7 in (
        r.0,
        inr (inl (
          free_behind w.programs turns jobs w.jobs each c free,
          (a.0, a.1, a.2, a.3, there, none_below_behind w.programs turns jobs w.jobs each c a.0 a.5, a.6, r.1),
        )),
        r.2,
      )
  turn_behind w jobs answer z each (inr (inr (free, waits, idle, same))) = (
    jobs,
    inr (inr (
      free_behind w.programs turns jobs w.jobs each c free,
      none_behind w.programs turns jobs w.jobs each c waits,
      idle,
      ap
          (λ (x : World). with_jobs x jobs) same,
    )),
    subst (λ (x : World). Each jobs x) (sym same) each,
  )

-- a CPU without work makes a turn of the rounds
pub idle_behind : (turns : ℕ → ℕ) (c : ℕ) (w : World) (jobs : List Task) →
    ((j : ℕ) → BothPrecede w.programs turns (slice_get jobs j) (slice_get w.jobs j)) → IsFree w.jobs c → NoneWaits w.jobs c
    → TakesTurn (with_jobs w jobs) c turn.Idle (with_jobs w jobs)
idle_behind turns c w jobs each free waits = inr (inr (
  free_behind w.programs turns jobs w.jobs each c free,
  none_behind w.programs turns
      jobs w.jobs each c waits,
  refl,
  refl,
))

-- ---- one job alone is ahead more, or less
module _ (programs : List Loaded) (f g : ℕ → ℕ) (c j : ℕ) (others : (d : ℕ) → d ≢ c → f d ≡ g d) where
  -- a job of the CPU that isn't in hand; those of others
  pub kept_other : (news : List Task) (k : ℕ) → k ≢ j → IsOnlyOne news c j → (o p : Option Task) → slice_get news k ≡ p → BothPrecede
      programs f o p → BothPrecede programs g o p
  kept_other news k apart one None None at both = tt
  kept_other news k apart one None (Some new) at both = both
  kept_other news k apart one (Some old) None at both = both
  kept_other news k apart one (Some old) (Some new) at both = elim (equal_or_not old.cpu c) [
    | inl e ↦ own e both
    | inr other ↦ subst (λ (n : ℕ). Precedes programs n old new) (others old.cpu other) both
  ]
    where
      own : old.cpu ≡ c → Precedes programs (f old.cpu) old new → Precedes programs (g old.cpu) old new
      own of (inl a) = inl (
        a.0,
        λ state left in_hand. absurd (apart (one k (
          new,
          state,
          left,
          record
              { listed = at; of = ap (λ (t : Task). t.cpu) a.0 ∙ of; at = ap (λ (t : Task). t.stage) a.0 ∙ in_hand },
        ))),
      )
      own of (inr a) = absurd (apart (one k (new, a.3, a.4, record { listed = at; of = ap (λ (t : Task). t.cpu) a.7 ∙ of; at = ap (λ (t : Task). t.stage) a.7 })))

-- ---- a turn that was made ahead comes
module _ (f g : ℕ → ℕ) (c n : ℕ) (w : World) (jobs : List Task) (each : (j : ℕ) → BothPrecede w.programs f (slice_get jobs j)
    (slice_get w.jobs j)) (many : f c ≡ suc n) (less : g c ≡ n) (others : (d : ℕ) → d ≢ c → f d ≡ g d) where
  pub turn_comes : (j : ℕ) → HasInHand w.jobs c j → IsOnlyOne w.jobs c j
      → (later : List Task) × TakesTurn (with_jobs w jobs) c turn.Ran (with_jobs w later) ×
      ((k : ℕ) → BothPrecede w.programs g (slice_get later k) (slice_get w.jobs k))
  turn_comes j (new, state, left, at) one =
      let b = behind w.programs f jobs w.jobs each j new at.listed in go b.0 b.1 (sym (same_cpu w.programs f (f b.0.cpu) b.0 new b.2) ∙ at.of) b.2
    where
      go : (old : Task) → slice_get jobs j ≡ Some old → old.cpu ≡ c → Precedes w.programs (f old.cpu) old new
          → (later : List Task) × TakesTurn (with_jobs w jobs) c turn.Ran (with_jobs w later) ×
          ((k : ℕ) → BothPrecede w.programs g (slice_get later k) (slice_get w.jobs k))
      go old there of (inl a) =
          let no : 0 ≡ suc n = sym (a.1 state left (ap (λ (t : Task). t.stage) (sym a.0) ∙ at.at)) ∙ (ap f of ∙ many) in cc
      go old there of (inr (program, first, before, last, rest, loaded, was, is, made)) =
          let made' : TakesQuietTurns program c (suc n) first before last rest =
          subst (λ (d : ℕ). TakesQuietTurns program d (suc n) first before last rest)
          of (subst (λ (i : ℕ). TakesQuietTurns program old.cpu i first before last rest) (ap f of ∙ many) made) in
          let now : Stage = InHand made'.0 made'.1 in
          let old' : Task = record old { stage = now } in
          let here : IsAt jobs c j old (InHand first before) = record { listed = there; of = of; at = was } in
          let left_over : TakesQuietTurns program old'.cpu (g old'.cpu) made'.0 made'.1 last rest =
          subst (λ (i : ℕ). TakesQuietTurns program old.cpu i made'.0 made'.1 last rest) (sym (ap g of ∙ less))
          (subst (λ (d : ℕ). TakesQuietTurns program d n made'.0 made'.1 last rest) (sym of) made'.3) in
          let precedes : Precedes w.programs (g old'.cpu) old' new = inr (program, made'.0, made'.1, last, rest, loaded, refl, is, left_over) in (
            with_stage jobs j old now,
            inl (j, old, first, before, here, (program, None, w.store, made'.0, made'.1, loaded, made'.2 w.store, (refl, refl))),
            λ k. elim (equal_or_not k j) [
              | inl e ↦
                  let both = subst (λ (o : Option Task). BothPrecede w.programs g o (slice_get w.jobs j)) (sym (slice_get-set_known jobs j old' old there))
                  (subst (λ (o : Option Task). BothPrecede w.programs g (Some old') o) (sym at.listed) precedes) in
                  subst (λ (i : ℕ). BothPrecede w.programs g (slice_get (slice_set jobs j old') i) (slice_get w.jobs i)) (sym e) both
              | inr apart ↦
                  subst (λ (o : Option Task). BothPrecede w.programs g o (slice_get w.jobs k)) (sym (slice_get-set_other jobs j k old' apart))
                  (kept_other w.programs f g c j others w.jobs k apart one (slice_get jobs k) (slice_get w.jobs k) refl (each k))
            ],
          )

-- ---- turns are made ahead
module _ (f g : ℕ → ℕ) (c : ℕ) (w : World) (jobs : List Task) (each : (j : ℕ) → BothPrecede w.programs f (slice_get jobs j)
    (slice_get w.jobs j)) (none : f c ≡ 0) (others : (d : ℕ) → d ≢ c → f d ≡ g d) where
  pub goes_ahead : (j : ℕ) (task : Task) (state : Cpu) (left : ℕ) (program : Loaded) (later : Cpu) (rest : ℕ) → IsAt w.jobs c j task
      (InHand state left) → slice_get w.programs task.program ≡ Some program
      → TakesQuietTurns program c (g c) state left later rest → IsOnlyOne (with_stage w.jobs j task (InHand later rest)) c j
      → (k : ℕ) → BothPrecede w.programs g (slice_get jobs k) (slice_get (with_stage w.jobs j task (InHand later rest)) k)
  goes_ahead j task state left program later rest at loaded made one k =
      let new : Task = record task { stage = InHand later rest } in
      let there = at_behind w.programs f jobs w.jobs each c j task (InHand state left) none at in
      let made' : TakesQuietTurns program task.cpu (g task.cpu) state left later rest = subst
      (λ (d : ℕ). TakesQuietTurns program d (g d) state left later rest) (sym at.of) made in
      let precedes : Precedes w.programs (g task.cpu) task new = inr (program, state, left, later, rest, loaded, at.at, refl, made') in
      elim (equal_or_not k j) [
        | inl e ↦
            let both = subst (λ (o : Option Task). BothPrecede w.programs g o (slice_get (slice_set w.jobs j new) j)) (sym there.listed)
            (subst (λ (o : Option Task). BothPrecede w.programs g (Some task) o) (sym (slice_get-set_known w.jobs j new task at.listed)) precedes) in
            subst (λ (i : ℕ). BothPrecede w.programs g (slice_get jobs i) (slice_get (slice_set w.jobs j new) i)) (sym e) both
        | inr apart ↦
            let other = slice_get-set_other w.jobs j k new apart in
            subst (λ (o : Option Task). BothPrecede w.programs g (slice_get jobs k) o) (sym other)
            (kept_other w.programs f g c j others (slice_set w.jobs j new) k apart one (slice_get jobs k) (slice_get w.jobs k) other (each k))
      ]
