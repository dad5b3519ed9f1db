-- Any schedule is spelled by `step` commands, and scripts make turns alone.
use Rattle.std.proofs.Common.{◌≡◌, ℕ, zero, suc, ◌+◌, ◌<◌, List, [], ◌∷◌, ◌++◌, get_or, append_assoc, append-nil, Option, Some, None, ◌⊎◌}
use Rattle.std.proofs.Common.{inl, inr, refl, sym, ap, subst, ◌∙◌, arith}
use Rattle.std.specs.Prelude.{All, Ok, Err, codes, map, nat_lt, replicate, slice_get, true}
use Rattle.std.specs.Fmt.{decimal, digits}
use Rattle.std.proofs.lemmas.Bool.{cases_lt, ltb-true, and_parts}
use Rattle.std.proofs.lemmas.List.Elements.{All-append, All-nil, All-replicate}
use Rattle.bpf_shared.proofs.Puts.{equal_or_not}
use Rattle.bpf_shared.specs.declared.events.Event.TheVariants.{Begin, End}
use Rattle.bpf_shared.specs.declared.events.Entry.{Entry}
use Rattle.bpf_shared.specs.Shape.{Shape}
use Rattle.bpf_shared.specs.Store.{Plain}
use Rattle.bpf_shared.specs.Choice.{PlainlyAllowed}
use Rattle.bpf_shared.specs.History.{PlainlyLegal}
use Rattle.bpf_shared.proofs.Leaving.{event_shape, history_shape}
use Rattle.bpf_lines.specs.Lines.{fields_of}
use Rattle.bpf_lines.specs.Words.{written_number}
use Rattle.bpf_loader.specs.Loaded.{Loaded}
use Rattle.bpf_cpu.specs.declared.cpu.Cpu.{Cpu}
use Rattle.bpf_cpu.specs.declared.input.Input.{Input}
use Rattle.bpf_machine.specs.declared.machine.Turn.{Turn}
use Rattle.bpf_cpu.specs.declared.outcome.Outcome.{Outcome}
use Rattle.bpf_cpu.specs.Task.{Stage, Task, Waiting, InHand, Ended}
use Rattle.bpf_machine.specs.Schedule.{World, Advances, Settles, GoesOn, TakesTurn, unrolled}
use Rattle.bpf_machine.proofs.ListLaws.{with_end, lists_store}
use Rattle.bpf_debug.specs.Command.{Step, order_of}
use Rattle.bpf_debug.specs.Answer.{IsWhere, ended_text, in_hand_line, waiting_line, idle_line}
use Rattle.bpf_debug.specs.Session.{Scene, IsCpu, IsCourse, Obeys, are_cpus, behind}
use Rattle.bpf_debug.specs.Script.{Answer, AnswersLine, RunsScript}
use Rattle.bpf_debug.specs.Laws.{step_line, BeginningsComeFirst, StepsSpellSchedules, SchedulesAreSteps, ScriptsMakeTurns}
use Rattle.bpf_debug.proofs.ManyTurns.{all_runs}
use Rattle.bpf_debug.proofs.SessionLaws.{follows_on}

-- ---- turns leave the shape of the store
legal_shape : (s t : Plain) (log : List Entry) → PlainlyLegal s log t → t.shape ≡ s.shape
legal_shape = history_shape PlainlyAllowed (λ s t c e a. a.0)

advances_shape : (program : Loaded) (c : ℕ) (s t : Plain) (old new : Cpu) (n left : ℕ) (end : Option Outcome) → Advances program c s old n
    end t new left → t.shape ≡ s.shape
advances_shape program c s t old new zero left end a = ap (λ (p : Plain). p.shape) a.1
advances_shape program c s t old new (suc n) left end a = legal_shape s t _ a.3

settles_shape : (w z : World) (c j : ℕ) (task : Task) (new : Cpu) (left : ℕ) (end : Option Outcome) (answer : Turn) → Settles w c j task new
    left end answer z → z.store.shape ≡ w.store.shape
settles_shape w z c j task new left None answer a = ap (λ (x : World). x.store.shape) a.1
settles_shape w z c j task new left (Some end) answer a = ap (λ (s : Plain). s.shape) (lists_store (with_end w j task end a.0) c z a.3) ∙
    event_shape w.store a.0 c End a.1.0

goes_shape : (w z : World) (c j : ℕ) (task : Task) (old : Cpu) (left : ℕ) (answer : Turn) → GoesOn w c j task old left answer z → z.store.shape ≡ w.store.shape
goes_shape w z c j task old left answer g =
    settles_shape (record w { store = g.2 }) z c j task g.3 g.4 g.1 answer g.7
    ∙ advances_shape g.0 c w.store g.2 old g.3 left g.4 g.1 g.6

turn_shape : (w z : World) (c : ℕ) (answer : Turn) → TakesTurn w c answer z → z.store.shape ≡ w.store.shape
turn_shape w z c answer (inl t) = goes_shape w z c t.0 t.1 t.2 t.3 answer t.5
turn_shape w z c answer (inr (inl (free, t))) =
    goes_shape (record w { store = t.3 }) z c t.0 t.1 _ _ answer t.7 ∙ event_shape w.store t.3 c Begin t.6.0
turn_shape w z c answer (inr (inr t)) = ap (λ (x : World). x.store.shape) t.3

-- ---- each CPU is somewhere
abbrev Lowest : (Task → Type 0) → List Task → Type 0
Lowest P jobs = (j : ℕ) × (task : Task) × (slice_get jobs j ≡ Some task) × P task × ((k : ℕ) (t : Task) → k < j → slice_get jobs k ≡ Some t → P t → ⊥)

abbrev NoTask : (Task → Type 0) → List Task → Type 0
NoTask P jobs = (k : ℕ) (t : Task) → slice_get jobs k ≡ Some t → P t → ⊥

lowest : (P : Task → Type 0) → ((t : Task) → P t ⊎ (P t → ⊥)) → (jobs : List Task) → Lowest P jobs ⊎ NoTask P jobs
lowest P test [] = inr (λ k t at p. cc)
lowest P test (u ∷ us) = elim (test u) [
  | inl here ↦ inl (0, u, refl, here, λ k t less at p. absurd (omega arith))
  | inr out ↦ elim (lowest P test us) [
    | inl found ↦ inl (suc found.0, found.1, found.2, found.3, λ k t less at p. before found.0 found.4 out k t less at p)
    | inr none ↦ inr (λ k t at p. never none out k t at p)
  ]
]
  where
    other : (P u → ⊥) → (t : Task) → Some u ≡ Some t → P t → ⊥
    other out t at p = let same : t ≡ u = cc in out (subst P same p)

    before : (j : ℕ) → ((k : ℕ) (t : Task) → k < j → slice_get us k ≡ Some t → P t → ⊥) → (P u → ⊥) → (k : ℕ) (t : Task) → k < suc j →
        slice_get (u ∷ us) k ≡ Some t → P t → ⊥
    before j low out zero t less at p = other out t at p
    before j low out (suc k) t less at p = low k t (omega arith) at p

    never : NoTask P us → (P u → ⊥) → (k : ℕ) (t : Task) → slice_get (u ∷ us) k ≡ Some t → P t → ⊥
    never none out zero t at p = other out t at p
    never none out (suc k) t at p = none k t at p

module _ (c : ℕ) where
  abbrev Hands : Task → Type 0
  Hands t = (t.cpu ≡ c) × ((state : Cpu) × (left : ℕ) × (t.stage ≡ InHand state left))

  abbrev Waits : Task → Type 0
  Waits t = (t.cpu ≡ c) × ((input : Input) × (t.stage ≡ Waiting input))

  hands_stage : (s : Stage) → ((state : Cpu) × (left : ℕ) × (s ≡ InHand state left)) ⊎ (((state : Cpu) × (left : ℕ) × (s ≡ InHand state left)) → ⊥)
  hands_stage (InHand state left) = inl (state, left, refl)
  hands_stage (Waiting input) = inr (λ h. let no : Waiting input ≡ InHand h.0 h.1 = h.2 in cc)
  hands_stage (Ended end) = inr (λ h. let no : Ended end ≡ InHand h.0 h.1 = h.2 in cc)

  waits_stage : (s : Stage) → ((input : Input) × (s ≡ Waiting input)) ⊎ (((input : Input) × (s ≡ Waiting input)) → ⊥)
  waits_stage (Waiting input) = inl (input, refl)
  waits_stage (InHand state left) = inr (λ h. let no : InHand state left ≡ Waiting h.0 = h.1 in cc)
  waits_stage (Ended end) = inr (λ h. let no : Ended end ≡ Waiting h.0 = h.1 in cc)

  hands_or_not : (t : Task) → Hands t ⊎ (Hands t → ⊥)
  hands_or_not t = elim (equal_or_not t.cpu c) [
    | inl own ↦ elim (hands_stage t.stage) [ inl has ↦ inl (own, has) | inr out ↦ inr (λ h. out h.1) ]
    | inr ne ↦ inr (λ h. ne h.0)
  ]

  waits_or_not : (t : Task) → Waits t ⊎ (Waits t → ⊥)
  waits_or_not t = elim (equal_or_not t.cpu c) [
    | inl own ↦ elim (waits_stage t.stage) [ inl has ↦ inl (own, has) | inr out ↦ inr (λ h. out h.1) ]
    | inr ne ↦ inr (λ h. ne h.0)
  ]

  stands : (jobs : List Task) → (text : List ℕ) × IsWhere jobs c text
  stands jobs = elim (lowest Hands hands_or_not jobs) [
    | inl h ↦ (
      in_hand_line c h.0 h.3.1.0,
      inl (h.0, h.1, h.3.1.0, h.3.1.1, record { listed = h.2; of = h.3.0; at = h.3.1.2 }, refl),
    )
    | inr free ↦ elim (lowest Waits waits_or_not jobs) [
      | inl w ↦ (
        waiting_line c w.0,
        inr (inl (
          w.0,
          (
            λ j task state left at. free j task at.listed (at.of, (state, left, at.at)),
            (w.1, w.3.1.0, record { listed = w.2; of = w.3.0; at = w.3.1.1 }),
            λ k task input less at. w.4 k task less at.listed (at.of, (input, at.at)),
          ),
          refl,
        )),
      )
      | inr none ↦ (
        idle_line c,
        inr (inr (
          λ j task state left at. free j task at.listed (at.of, (state, left, at.at)),
          λ j task input at. none j task at.listed (at.of, (input, at.at)),
          refl,
        )),
      )
    ]
  ]

-- ---- the line of a turn
abbrev IsSpelled : ℕ → Type 0
IsSpelled c = (fields_of (step_line c) ≡ codes "step" ∷ decimal c ∷ []) × (order_of (codes "step" ∷ decimal c ∷ []) ≡ Some (Step (Some c)))

one_more : (n : ℕ) → IsSpelled n → ((c : ℕ) → c < n → IsSpelled c) → (c : ℕ) → c < n + 1 → IsSpelled c
one_more n last before c less = elim (cases_lt c n) [
  | inl below ↦ before c below
  | inr past ↦ (let same : n ≡ c = omega arith in subst IsSpelled same last)
]

few : (c : ℕ) → c < 8 → IsSpelled c
unfolding digits written_number
few = one_more 7 (refl, refl) (one_more 6 (refl, refl) (one_more 5 (refl, refl) (one_more 4 (refl, refl)
    (one_more 3 (refl, refl) (one_more 2 (refl, refl) (one_more 1 (refl, refl) (one_more 0 (refl, refl) (λ c less. absurd (omega arith)))))))))

spelled : (c : ℕ) → c < 16 → IsSpelled c
unfolding digits written_number
spelled = one_more 15 (refl, refl) (one_more 14 (refl, refl) (one_more 13 (refl, refl) (one_more 12 (refl, refl)
    (one_more 11 (refl, refl) (one_more 10 (refl, refl) (one_more 9 (refl, refl) (one_more 8 (refl, refl) few)))))))

-- a turn is what its line does
step_done : (x : Scene) (c : ℕ) (answer : Turn) (m : World) → c < 16 → IsCpu x c → TakesTurn x.world c answer m
    → (text : List ℕ) × AnswersLine x (step_line c) (Ok text) (behind x (c ∷ []) m)
step_done x c answer m small has takes =
    let place = stands c m.jobs in
    let text : List ℕ = ended_text c answer ++ place.0 in
    let y : Scene = behind x (c ∷ []) m in
    let is = spelled c small in
    let does : Obeys x (codes "step" ∷ decimal c ∷ []) text y = (Step (Some c), is.1, (has, (answer, m, place.0, takes, place.1, refl, refl))) in
    (text, subst (λ (fs : List (List ℕ)). Obeys x fs text y) (sym is.0) does)

-- no turn more, and a turn before others
behind_none : (x : Scene) (z : World) → z ≡ x.world → behind x [] z ≡ x
behind_none x z is = ap (λ (w : World). behind x [] w) is ∙ ap (λ (turns : List ℕ). record x { turns = turns }) (append-nil x.turns)

behind_both : (x : Scene) (a b : List ℕ) (m z : World) → behind (behind x a m) b z ≡ behind x (a ++ b) z
behind_both x a b m z = ap (λ (turns : List ℕ). record x { world = z; turns = turns }) (append_assoc x.turns a b)

pub steps_spell_schedules : StepsSpellSchedules
steps_spell_schedules x [] z few each runs = ([], behind_none x z runs)
steps_spell_schedules x (c ∷ cs) z few each runs =
    let has : IsCpu x c = each 0 c (omega arith) in
    let shape = turn_shape x.world runs.1 c runs.0 runs.2 in
    let m : Scene = behind x (c ∷ []) runs.1 in
    let P : Shape → ℕ → Type 0 = λ h d. d < h.cpus in
    let one = step_done x c runs.0 runs.1 (omega (arith, has)) has runs.2 in
    let rest = steps_spell_schedules m cs z (omega (arith, ap (λ (h : Shape). h.cpus) shape))
    (λ k d inside. subst (λ (h : Shape). P h (get_or cs k d)) (sym shape) (each (suc k) d (omega arith))) runs.3 in
    let all : RunsScript m (map step_line cs) rest.0 (behind x (c ∷ cs) z) = subst (λ (y : Scene). RunsScript m (map step_line cs) rest.0 y)
    (behind_both x (c ∷ []) cs runs.1 z) rest.1 in
    (Ok one.0 ∷ rest.0, (m, one.1, all))

-- ---- a schedule in run lengths
of_cpus : (x : Scene) (runs : List (ℕ × ℕ)) → are_cpus x.world.store.shape.cpus runs ≡ true → All (IsCpu x) (unrolled runs)
of_cpus x [] each = All-nil (IsCpu x)
of_cpus x (run ∷ runs) each =
    let both = and_parts (nat_lt run.0 x.world.store.shape.cpus) (are_cpus x.world.store.shape.cpus runs) each in
    All-append (IsCpu x) (replicate run.1 run.0) (unrolled runs)
    (All-replicate (IsCpu x) run.1 run.0 (ltb-true run.0 x.world.store.shape.cpus both.0)) (of_cpus x runs both.1)

pub schedules_are_steps : SchedulesAreSteps
schedules_are_steps x y runs text few done =
    let steps = done.1 in
    let spelled_out = steps_spell_schedules x (unrolled runs) steps.0 few (of_cpus x runs done.0) (all_runs x.world runs steps.1 steps.0 steps.3) in
    (spelled_out.0, subst (λ (s : Scene). RunsScript x (map step_line (unrolled runs)) spelled_out.0 s) (sym steps.6) spelled_out.1)

-- ---- the turns of a script
line_course : (x y : Scene) (fields : List (List ℕ)) (text : List ℕ) → Obeys x fields text y → IsCourse x → IsCourse y × (y.first ≡ x.first)
line_course x y [] text o course = (subst IsCourse (sym o.1) course, ap (λ (z : Scene). z.first) o.1)
line_course x y (f ∷ fs) text o course = follows_on x o.0 text y o.2 course

answer_course : (x y : Scene) (line : List ℕ) (answer : Answer) → AnswersLine x line answer y → IsCourse x → IsCourse y × (y.first ≡ x.first)
answer_course x y line (Ok text) a course = line_course x y (fields_of line) text a course
answer_course x y line (Err e) a course = (subst IsCourse (sym a.1) course, ap (λ (z : Scene). z.first) a.1)

pub scripts_make_turns : ScriptsMakeTurns
scripts_make_turns x y [] [] runs course = (subst IsCourse (sym runs) course, ap (λ (z : Scene). z.first) runs)
scripts_make_turns x y [] (answer ∷ answers) runs course = absurd runs
scripts_make_turns x y (line ∷ lines) [] runs course = absurd runs
scripts_make_turns x y (line ∷ lines) (answer ∷ answers) runs course =
    let one = answer_course x runs.0 line answer runs.1 course in
    let rest = scripts_make_turns runs.0 y lines answers runs.2 one.0 in
    (rest.0, rest.1 ∙ one.1)

-- ---- the beginning of a script
pub beginnings_come_first : BeginningsComeFirst
beginnings_come_first x y [] more answers runs = (x, [], answers, refl, refl, runs)
beginnings_come_first x y (line ∷ lines) more [] runs = absurd runs
beginnings_come_first x y (line ∷ lines) more (answer ∷ answers) runs =
    let rest = beginnings_come_first runs.0 y lines more answers runs.2 in
    (rest.0, answer ∷ rest.1, rest.2, ap (λ (all : List Answer). answer ∷ all) rest.3, (runs.0, runs.1, rest.4), rest.5)
