-- A CPU with a waiting store has a job in hand; so nothing waits where all jobs have ended.
use Rattle.std.proofs.Common.{◌≡◌, ◌≢◌, ℕ, zero, suc, List, [], ◌∷◌, ◌++◌, Option, Some, None, ◌⊎◌, inl, inr, refl, sym, ap, subst, ◌∙◌}
use Rattle.std.specs.Prelude.{slice_get}
use Rattle.bpf_base.proofs.Lists.{slice_get-set_known, slice_get-set_other}
use Rattle.bpf_shared.specs.declared.events.Event.{Event}
use Rattle.bpf_shared.specs.declared.events.Event.TheVariants.{Begin, Lookup, Update, Load, Store}
use Rattle.bpf_shared.specs.declared.events.MapAnswer.TheVariants.{Invalid}
use Rattle.bpf_shared.proofs.Puts.{equal_or_not, put-same, put-other}
use Rattle.bpf_loader.specs.Loaded.{Loaded}
use Rattle.bpf_cpu.specs.declared.cpu.Cpu.{Cpu}
use Rattle.bpf_cpu.specs.declared.outcome.Outcome.{Outcome}
use Rattle.bpf_cpu.specs.State.{start}
use Rattle.bpf_cpu.specs.Task.{Stage, Task, Waiting, InHand, Ended}
use Rattle.bpf_machine.specs.declared.machine.Turn.{Turn}
use Rattle.bpf_machine.specs.Hands.{IsAt, with_stage}
use Rattle.bpf_machine.specs.Schedule.{World}
use Rattle.bpf_machine.specs.Work.{HasInHand}
use Rattle.bpf_machine.proofs.ListLaws.{lists_jobs}
use Rattle.bpf_x86.specs.Buffers.{Buffered, Drains, AsksMemory, Calls, CallsAll}
use Rattle.bpf_x86.specs.Machine.{X86, buffered, with_buffered, Advances, Settled, GoesOn, TakesTurn, Move, TurnOf, FlushOf, Moves}
use Rattle.bpf_x86.specs.Machine.{RunsMoves, none_waits, drained}
use Rattle.bpf_buffering.specs.Search.{NothingWaitsAtLast}
use Rattle.bpf_x86.proofs.Alike.{same_functions}

-- ---- calls leave the buffers of others
drains_others : (b d : Buffered) (c k : ℕ) → k ≢ c → Drains b c d → d.buffers k ≡ b.buffers k
drains_others b d c k ne p = ap (λ (z : Buffered). z.buffers k) p.2 ∙ put-other b.buffers c k [] ne

asks_others : (b t : Buffered) (c k : ℕ) (e : Event) → AsksMemory b c e t → t.buffers k ≡ b.buffers k
asks_others b t c k e p = ap (λ (z : Buffered). z.buffers k) p.2

pub call_others : (b t : Buffered) (c k : ℕ) (e : Event) → k ≢ c → Calls b c e t → t.buffers k ≡ b.buffers k
call_others b t c k (Load a size x) ne p = ap (λ (z : Buffered). z.buffers k) p.3
call_others b t c k (Store a size x) ne p = ap (λ (z : Buffered). z.buffers k) p.4 ∙ put-other b.buffers c k (b.buffers c ++ Store a size x ∷ []) ne
call_others b t c k (Lookup m key x) ne p = asks_others b t c k (Lookup m key x) p
call_others b t c k (Update m key bytes flags Invalid) ne p = asks_others b t c k (Update m key bytes flags Invalid) p
call_others b t c k e ne p = asks_others p.0 t c k e p.2 ∙ drains_others b p.0 c k ne p.1

pub calls_others : (c k : ℕ) → k ≢ c → (es : List Event) (b t : Buffered) → CallsAll b c es t → t.buffers k ≡ b.buffers k
calls_others c k ne [] b t p = ap (λ (z : Buffered). z.buffers k) p
calls_others c k ne (e ∷ es) b t p = calls_others c k ne es p.0 t p.2 ∙ call_others b p.0 c k e ne p.1

advance_others : (program : Loaded) (c k : ℕ) → k ≢ c → (b : Buffered) (old : Cpu) (left : ℕ) (end : Option Outcome) (t : Buffered)
    (new : Cpu) (rest : ℕ) → Advances program c b old left end t new rest → t.buffers k ≡ b.buffers k
advance_others program c k ne b old zero end t new rest p = ap (λ (z : Buffered). z.buffers k) p.1
advance_others program c k ne b old (suc n) end t new rest p = calls_others c k ne p.0 b t p.3

-- ---- who has something that waits has a job in hand
abbrev Holding : X86 → ℕ → Type 0
Holding x c = (x.buffers c ≡ []) ⊎ ((j : ℕ) × HasInHand x.world.jobs c j)

-- another CPU's job is another
still_at : (jobs : List Task) (c d j k : ℕ) (task t : Task) (was stage now : Stage) → d ≢ c → IsAt jobs c j task was → IsAt jobs d k t now →
    IsAt (with_stage jobs j task stage) d k t now
still_at jobs c d j k task t was stage now ne at there = record {
  listed = slice_get-set_other jobs j k (record task { stage = stage }) apart ∙ there.listed;
  of = there.of;
  at = there.at;
}
  where
    apart : k ≢ j
    apart same =
        let both : Some t ≡ Some task = sym there.listed ∙ ap (slice_get jobs) same ∙ at.listed in
        let one : t ≡ task = cc in
        ne (sym there.of ∙ ap (λ (x : Task). x.cpu) one ∙ at.of)

module _ (x : X86) (c j : ℕ) (task : Task) (was : Stage) (old : Cpu) (left : ℕ) (answer : Turn) (z : X86)
    (at : IsAt x.world.jobs c j task was) (goes : GoesOn x c j task old left answer z) where
  moved_on : (d : ℕ) (stage : Stage) → d ≢ c → z.world.jobs ≡ with_stage x.world.jobs j task stage → z.buffers d ≡ x.buffers d → Holding x d → Holding z d
  moved_on d stage ne jobs same (inl none) = inl (same ∙ none)
  moved_on d stage ne jobs same (inr (k, (t, state, rest, there))) =
      inr (
        k,
        (
          t,
          state,
          rest,
          subst (λ (ts : List Task). IsAt ts d k t (InHand state rest)) (sym jobs)
              (still_at x.world.jobs c d j k task t was stage (InHand state rest) ne at there),
        ),
      )

  holding_on : ((d : ℕ) → Holding x d) → (d : ℕ) → Holding z d
  holding_on held d = settle goes.1 goes.6 goes.7
    where
      settle : (end : Option Outcome) → Advances goes.0 c (buffered x) old left end goes.2 goes.3 goes.4 → Settled (with_buffered x goes.2)
          c j task goes.3 goes.4 end answer z → Holding z d
      settle None advances settled = elim (equal_or_not d c) [
        | inl same ↦
            (let now : Task = record task { stage = InHand goes.3 goes.4 } in
            let listed : slice_get z.world.jobs j ≡ Some now = ap (λ (w : World). slice_get w.jobs j) settled.0.1 ∙ slice_get-set_known
            x.world.jobs j now task at.listed in
            inr (j, (now, goes.3, goes.4, record { listed = listed; of = at.of ∙ sym same; at = refl })))
        | inr ne ↦
            moved_on d (InHand goes.3 goes.4) ne (ap (λ (w : World). w.jobs) settled.0.1)
            (ap (λ (f : ℕ → List Event). f d) settled.1 ∙ advance_others goes.0 c d ne (buffered x) old left None goes.2 goes.3 goes.4 advances) (held d)
      ]
      settle (Some end) advances settled = elim (equal_or_not d c) [
        | inl same ↦ inl (ap (λ (f : ℕ → List Event). f d) settled.3 ∙ ap (λ (b : Buffered). b.buffers d) settled.1.2 ∙ put-same goes.2.buffers c d [] same)
        | inr ne ↦
            moved_on d (Ended end) ne (lists_jobs _ c z.world settled.2.3)
            (ap (λ (f : ℕ → List Event). f d) settled.3 ∙ drains_others goes.2 settled.0 c d ne settled.1 ∙ advance_others goes.0 c d ne
            (buffered x) old left (Some end) goes.2 goes.3 goes.4 advances) (held d)
      ]

turn_holding : (x : X86) (c : ℕ) (answer : Turn) (z : X86) → TakesTurn x c answer z → ((d : ℕ) → Holding x d) → (d : ℕ) → Holding z d
turn_holding x c answer z (inl (j, task, state, left, at, goes)) held = holding_on x c j task (InHand state left) state left answer z at goes held
turn_holding x c answer z (inr (inl (free, (j, task, input, b, at, lowest, begun, goes)))) held =
    holding_on (with_buffered x b) c j task (Waiting input) (start c input) task.budget answer z at goes (λ d. elim (equal_or_not d c) [
      | inl same ↦ inl (ap b.buffers same ∙ ap (λ (y : Buffered). y.buffers c) begun.2.2 ∙ ap (λ (y : Buffered). y.buffers c) begun.1.2 ∙
          put-same x.buffers c c [] refl)
      | inr ne ↦ elim (held d) [ inl none ↦ inl (call_others (buffered x) b c d Begin ne begun ∙ none) | inr hand ↦ inr hand ]
    ])
turn_holding x c answer z (inr (inr (free, none, said, same))) held = subst (λ (y : X86). (d : ℕ) → Holding y d) (sym same) held

move_holding : (x : X86) (move : Move) (z : X86) → Moves x move z → ((d : ℕ) → Holding x d) → (d : ℕ) → Holding z d
move_holding x (TurnOf c) z (answer, taken) held d = turn_holding x c answer z taken held d
move_holding x (FlushOf c) z (b, flushes, is) held d = subst (λ (y : X86). Holding y d) (sym is) (from (held d))
  where
    from : Holding x d → Holding (with_buffered x b) d
    from (inr hand) = inr hand
    from (inl none) = elim (equal_or_not d c) [
      | inl same ↦ (let no : flushes.0 ∷ flushes.1 ≡ [] = sym flushes.3 ∙ ap x.buffers (sym same) ∙ none in absurd cc)
      | inr ne ↦ inl (ap (λ (y : Buffered). y.buffers d) flushes.5 ∙ put-other x.buffers c d flushes.1 ne ∙ none)
    ]

all_holding : (moves : List Move) (x z : X86) → RunsMoves x moves z → ((d : ℕ) → Holding x d) → (d : ℕ) → Holding z d
all_holding [] x z runs held = subst (λ (y : X86). (d : ℕ) → Holding y d) (sym runs) held
all_holding (move ∷ moves) x z runs held = all_holding moves runs.0 z runs.2 (move_holding x move runs.0 runs.1 held)

pub nothing_waits_at_last : NothingWaitsAtLast
nothing_waits_at_last w moves z runs ended = ap (λ (f : ℕ → List Event). record { world = z.world; buffers = f })
    (same_functions z.buffers none_waits (λ c. empty c (all_holding moves (drained w) z runs (λ d. inl refl) c)))
  where
    empty : (c : ℕ) → Holding z c → z.buffers c ≡ []
    empty c (inl none) = none
    empty c (inr (j, (task, state, left, at))) =
        let end = ended j task at.listed in
        let no : InHand state left ≡ Ended end.0 = sym at.at ∙ end.1 in
        absurd cc
