-- What a turn's parts do.
use Rattle.std.proofs.Common.{◌≡◌, ℕ, Bool, true, false, List, Option, Some, refl, sym, ap, subst, ◌∙◌}
use Rattle.std.specs.Prelude.{Vec, slice_get, slice_set, slice_index_or}
use Rattle.std.specs.declared.alloc.Global.{Global}
use Rattle.bpf_shared.specs.declared.events.Event.{Event}
use Rattle.bpf_shared.specs.declared.events.Event.TheVariants.{Begin}
use Rattle.bpf_shared.specs.declared.events.Span.{Span}
use Rattle.bpf_shared.specs.Store.{Plain, put}
use Rattle.bpf_shared.specs.Passage.{Calls as Called, held_without}
use Rattle.bpf_shared.proofs.Puts.{put-same, put-other}
use Rattle.bpf_plain.specs.PlainStore.{Contents, StandsFor, shape_of, is_running, held_spans}
use Rattle.bpf_loader.specs.Loaded.{Loaded}
use Rattle.bpf_loader.specs.Places.{IsStart}
use Rattle.bpf_helpers.specs.Held.{AreHeld}
use Rattle.bpf_cpu.specs.declared.cpu.Cpu.{Cpu}
use Rattle.bpf_cpu.specs.declared.input.Input.{Input}
use Rattle.bpf_cpu.specs.declared.outcome.Outcome.{Outcome}
use Rattle.bpf_cpu.specs.State.{start}
use Rattle.bpf_cpu.specs.Step.{IsReady}
use Rattle.bpf_cpu.specs.Task.{Stage, Task, Waiting, InHand}
use Rattle.bpf_cpu.proofs.HeldLaws.{nothing_held, others_without}
use Rattle.bpf_machine.specs.Kept.{kept_stage}
use Rattle.bpf_machine.specs.Hands.{IsAt}
use Rattle.bpf_machine.specs.Parts.{FitsHand}
use Rattle.bpf_machine.proofs.BeginLaws.{ready_to_start}
use Rattle.bpf_x86.specs.Buffers.{Calls}
use Rattle.bpf_buffering.specs.Search.{buffer_at, alone}
use Rattle.bpf_buffering.specs.declared.waiting.Stored.{Stored}
use Rattle.bpf_buffering.specs.declared.jobs.Listed.{Listed}
use Rattle.bpf_buffering.specs.Waiting.{WaitingContents, PassesWaiting, serves_one, buffer_of}
use Rattle.bpf_buffering.specs.Jobs.{in_hand}
use Rattle.bpf_buffering.specs.Going.{GoesAlone, GoesOver, LeavesOthers}
use Rattle.bpf_buffering.specs.Buffering.{events_of_all, state_of, IsBuffering, Proceeds, Begins}
use Rattle.bpf_buffering.proofs.Advancing.{call_alone}
use Rattle.bpf_buffering.proofs.Placing.{shown, stage_was, cpu_is, buffer_is, tasks_now, events_now}

module _ (w : WaitingContents) (programs : List Loaded) (jobs : List Listed) (buffers : List (Vec Stored Global))
    (board : IsBuffering w programs jobs buffers) (c j : ℕ) (e : Listed) (listed : slice_get jobs j ≡ Some e) (program : Loaded)
    (fetched : slice_get programs e.program ≡ Some program)
    (v : Vec Stored Global) (read : v ≡ slice_index_or buffers c v) (h : WaitingContents)
    (taken : h ≡ record w { waiting = v.items; cpu = c }) (u : Vec Stored Global) (u_is : u.items ≡ w.waiting)
    (k : WaitingContents) (cpu_same : k.cpu ≡ h.cpu) (others : LeavesOthers h.cpu h.store k.store) (e' : Listed)
    (same : e' ≡ record e { stage = e'.stage }) (x : Vec Stored Global) (again : x ≡ slice_index_or (slice_set buffers c u) c x)
    (z : WaitingContents) (given : z ≡ record k { waiting = x.items; cpu = c }) (y : Vec Stored Global) (y_is : y.items ≡ k.waiting) where
  kept_first : z.lost ≡ false → k.lost ≡ false
  kept_first kept = ap (λ (a : WaitingContents). a.lost) (sym given) ∙ kept

  shows_now : (t : Plain) → StandsFor k.store t → StandsFor z.store t
  shows_now t shows = subst (λ (p : Contents). StandsFor p t) (ap (λ (a : WaitingContents). a.store) (sym given)) shows

  shows_first : (s : Plain) → StandsFor w.store s → StandsFor h.store s
  shows_first s shows = subst (λ (p : Contents). StandsFor p s) (ap (λ (a : WaitingContents). a.store) (sym taken)) shows

  pub proceeds_now : z.lost ≡ false → (end : Option Outcome) → GoesOver program h (kept_stage e.stage) end k (kept_stage e'.stage) →
      Proceeds (state_of w programs jobs buffers) c j end (state_of z programs (slice_set jobs j e') (slice_set (slice_set buffers c u) c y))
  proceeds_now kept end goes task state left at =
      let r = goes (kept_first kept) in (
        program,
        kept_stage e'.stage,
        buffer_of k,
        ap (λ (t : Task). slice_get programs t.program) (sym (shown w programs jobs buffers board c j task (InHand state left) at e listed)) ∙ fetched,
        refl,
        tasks_now w programs jobs buffers board c j task (InHand state left) at e listed v read h taken u u_is k cpu_same others e' same x again z given y y_is,
        refl,
        refl,
        events_now w programs jobs buffers board c j task (InHand state left) at e listed v read h taken u u_is k cpu_same others e' same x
            again z given y y_is,
        λ s so shows.
            (let t = r.1 s so (shows_first s shows) in
            let cpu : h.cpu ≡ c = cpu_is w programs jobs buffers board c j task (InHand state left) at e listed v read h taken u u_is in
            let waits : buffer_of h ≡ buffer_at (events_of_all buffers) c = buffer_is w programs jobs buffers board c j task
            (InHand state left) at e listed v read h taken u u_is in
            let stage : kept_stage e.stage ≡ InHand state left = stage_was w programs jobs buffers board c j task (InHand state left) at e listed in
            let one : GoesAlone program c s (buffer_of h) (kept_stage e.stage) end t.0 (buffer_of k) (kept_stage e'.stage) =
            subst (λ (n : ℕ). GoesAlone program n s (buffer_of h) (kept_stage e.stage) end t.0 (buffer_of k) (kept_stage e'.stage)) cpu t.3 in
            let two : GoesAlone program c s (buffer_at (events_of_all buffers) c) (kept_stage e.stage) end t.0 (buffer_of k) (kept_stage e'.stage) =
            subst (λ (es : List Event). GoesAlone program c s es (kept_stage e.stage) end t.0 (buffer_of k) (kept_stage e'.stage)) waits one in
            let three : GoesAlone program c s (buffer_at (events_of_all buffers) c) (InHand state left) end t.0 (buffer_of k) (kept_stage e'.stage) =
            subst (λ (g : Stage). GoesAlone program c s (buffer_at (events_of_all buffers) c) g end t.0 (buffer_of k) (kept_stage e'.stage)) stage two in
            (t.0, t.1, shows_now t.0 t.2, three)),
      )

  -- ---- a job that begins
  module _ (task : Task) (input : Input) (at : IsAt (state_of w programs jobs buffers).machine.jobs c j task (Waiting input))
      (started : (i : Input) → kept_stage e.stage ≡ Waiting i → kept_stage e'.stage ≡ InHand (start e.cpu i) e.budget) where
    pub stage_now : kept_stage e'.stage ≡ InHand (start c input) task.budget
    stage_now =
        started input (stage_was w programs jobs buffers board c j task (Waiting input) at e listed)
        ∙ ap (λ (t : Task). InHand (start t.cpu input) t.budget) (shown w programs jobs buffers board c j task (Waiting input) at e listed)
        ∙ ap (λ (n : ℕ). InHand (start n input) task.budget) at.of

    pub begins_now : z.lost ≡ false → serves_one h c ≡ true → Called (PassesWaiting h k) (serves_one h) c Begin → serves_one k ≡ serves_one h
        → Begins (state_of w programs jobs buffers) c j (state_of z programs (slice_set jobs j e') (slice_set (slice_set buffers c u) c y))
    begins_now kept served call serves =
        let cpu : h.cpu ≡ c = cpu_is w programs jobs buffers board c j task (Waiting input) at e listed v read h taken u u_is in
        let r = call_alone h k c Begin (sym cpu) served call serves (kept_first kept) in
        let waits : buffer_of h ≡ buffer_at (events_of_all buffers) c = buffer_is w programs jobs buffers board c j task (Waiting input) at
        e listed v read h taken u u_is in (
          task,
          input,
          buffer_of k,
          at,
          refl,
          tasks_now w programs jobs buffers board c j task (Waiting input) at e listed v read h taken u u_is k cpu_same others e' same x
              again z given y y_is ∙ ap (λ (g : Stage). slice_set (state_of w programs jobs buffers).machine.jobs j
              (record task { stage = g })) stage_now,
          refl,
          events_now w programs jobs buffers board c j task (Waiting input) at e listed v read h taken u u_is k cpu_same others e' same x again z given y y_is,
          λ s so shows.
              (let t = r.1 s so (shows_first s shows) in
              let one : Calls (alone s c (buffer_of h)) c Begin (alone t.0 c (buffer_of k)) = subst
              (λ (n : ℕ). Calls (alone s n (buffer_of h)) n Begin (alone t.0 n (buffer_of k))) cpu t.3 in
              (t.0, t.1, shows_now t.0 t.2, subst (λ (es : List Event). Calls (alone s c es) c Begin (alone t.0 c (buffer_of k))) waits one)),
        )

    -- it fits
    pub begun_fits : IsStart program.instructions 0 → (is_running k.store ≡ put (is_running h.store) c true) → (jobs' : List Listed)
        (buffers' : List (Vec Stored Global)) → (new : Cpu) (rest : ℕ) → kept_stage e'.stage ≡ InHand new rest
        → FitsHand (state_of z programs jobs' buffers').machine c (record task { stage = kept_stage e'.stage }) new
    begun_fits starts running jobs' buffers' new rest is =
        let two : InHand (start c input) task.budget ≡ InHand new rest = sym stage_now ∙ is in
        let one : start c input ≡ new = cc in
        let store : z.store ≡ k.store = ap (λ (a : WaitingContents). a.store) given in
        record {
          number = ap (λ (s : Cpu). s.number) (sym one);
          program = program;
          loaded = ap (λ (t : Task). slice_get programs t.program) (sym (shown w programs jobs buffers board c j task (Waiting input) at e listed)) ∙ fetched;
          ready = subst (λ (s : Cpu). IsReady program s) one (ready_to_start program c input starts);
          held = subst (λ (s : Cpu). AreHeld (held_spans z.store c) s.held) one (nothing_held (held_spans z.store c) (start c input) input refl);
          runs = ap (λ (s : Contents). is_running s c) store ∙ ap (λ (f : ℕ → Bool). f c) running ∙ put-same (is_running h.store) c c true refl;
        }

    pub begun_not_idle : in_hand (kept_stage e'.stage) ≡ false → is_running z.store c ≡ false
    begun_not_idle not = let no : true ≡ false = sym (ap in_hand stage_now) ∙ not in cc

-- what a begin leaves
pub begin_leaves : (h k : WaitingContents) (c : ℕ) → h.cpu ≡ c → Called (PassesWaiting h k) (serves_one h) c Begin → shape_of k.store ≡
    shape_of h.store → is_running k.store ≡ put (is_running h.store) c true → held_spans k.store ≡ held_without (held_spans h.store) c
    → LeavesOthers h.cpu h.store k.store
begin_leaves h k c cpu call shape running held = record {
  shape = shape;
  serves = call.passage.2.serves;
  runs = λ d ne. ap (λ (f : ℕ → Bool). f d) running ∙ put-other (is_running h.store) c d true (λ q. ne (q ∙ sym cpu));
  held = λ d ne. ap (λ (f : ℕ → Span → Bool). f d) held ∙ others_without (held_spans h.store) c d (λ q. ne (q ∙ sym cpu));
}
