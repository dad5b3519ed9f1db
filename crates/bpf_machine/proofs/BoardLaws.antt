-- What a machine keeps of its jobs and CPUs, and what that shows.
use Rattle.std.proofs.Common.{◌≡◌, ◌≢◌, ℕ, ◌<◌, ◌≤◌, Bool, List, Some, is_some, inl, inr, length, refl, sym, ap, subst, ◌∙◌, arith}
use Rattle.std.specs.Prelude.{slice_get, slice_set}
use Rattle.std.proofs.lemmas.List.{length-set, get_or-set_same, get_or-set_other}
use Rattle.bpf_shared.proofs.Puts.{equal_or_not}
use Rattle.bpf_shared.specs.declared.events.Span.{Span}
use Rattle.bpf_loader.specs.Loaded.{Loaded}
use Rattle.bpf_machine.specs.declared.machine.lane.Listed.{Listed}
use Rattle.bpf_machine.specs.declared.machine.lane.Phase.{Phase}
use Rattle.bpf_machine.specs.declared.machine.lane.Phase.TheVariants as phase
use Rattle.bpf_machine.specs.declared.machine.lane.Hand.{Hand}
use Rattle.bpf_machine.specs.declared.machine.lane.Lane.{Lane}
use Rattle.bpf_helpers.specs.Held.{AreHeld}
use Rattle.bpf_cpu.specs.Input.{IsShort}
use Rattle.bpf_cpu.specs.declared.input.Input.{Input}
use Rattle.bpf_cpu.specs.Task.{Stage, Task}
use Rattle.bpf_machine.specs.Hands.{with_stage}
use Rattle.bpf_machine.specs.Private.Lanes.{lane_of, no_lane, stage_of, task_of, tasks_of, FitsLane, IsListed, IsHand, IsLane, IsBoard}
use Rattle.bpf_base.proofs.Lists.{slice_get-set_known, slice_get-set_other, map-set_changed}

-- ---- one job and its CPU's lane are changed
module _ (serves serves' running running' : ℕ → Bool) (reach reach' : ℕ → Span → Bool) (programs : List Loaded) (jobs : List Listed)
    (lanes : List Lane) (c j : ℕ) (e e' : Listed) (l l' : Lane)
    (board : IsBoard serves running reach programs jobs lanes)
    (listed : slice_get jobs j ≡ Some e) (of : e.cpu ≡ c) (was : lane_of lanes c ≡ l)
    (cpu : e'.cpu ≡ e.cpu) (program : e'.program ≡ e.program) (budget : e'.budget ≡ e.budget)
    -- no other job of the CPU is in hand
    (alone : (h : Hand) → l.hand ≡ Some h → h.job ≡ j)
    -- of the CPU's other jobs the same wait
    (moves : (k : ℕ) (x : Listed) → k ≢ j → slice_get jobs k ≡ Some x → x.cpu ≡ c → (l.next ≤ k → l'.next ≤ k) × (k < l.next → k < l'.next)) where
  within : c < length lanes
  within = subst (λ (n : ℕ). n < length lanes) of (board.each_job j e listed).within

  lane_here : lane_of (slice_set lanes c l') c ≡ l'
  lane_here = get_or-set_same lanes c l' no_lane within

  lane_elsewhere : (d : ℕ) → d ≢ c → lane_of (slice_set lanes c l') d ≡ lane_of lanes d
  lane_elsewhere d ne = get_or-set_other lanes c d l' no_lane ne

  not_in_hand : (k : ℕ) → k ≢ j → (h : Hand) → l.hand ≡ Some h → h.job ≡ k → ⊥
  not_in_hand k ne h held is = ne (sym is ∙ alone h held)

  fits_still : (k : ℕ) (x : Listed) (p : Phase) → k ≢ j → slice_get jobs k ≡ Some x → x.cpu ≡ c → FitsLane l k p → FitsLane l' k p
  fits_still k x (phase.Waiting input) ne at own fits = (moves k x ne at own).0 fits
  fits_still k x phase.InHand ne at own fits = absurd (not_in_hand k ne fits.1.0 fits.1.1 fits.1.2)
  fits_still k x (phase.Ended outcome) ne at own fits = (moves k x ne at own).1 fits

  stage_still : (k : ℕ) (p : Phase) → k ≢ j → FitsLane l k p → stage_of l'.hand p ≡ stage_of l.hand p
  stage_still k (phase.Waiting input) ne fits = refl
  stage_still k phase.InHand ne fits = absurd (not_in_hand k ne fits.1.0 fits.1.1 fits.1.2)
  stage_still k (phase.Ended outcome) ne fits = refl

  -- what another job shows stays
  task_still : (k : ℕ) (x : Listed) → k ≢ j → slice_get jobs k ≡ Some x → task_of (slice_set lanes c l') x ≡ task_of lanes x
  task_still k x ne at = elim (equal_or_not x.cpu c) [
    | inl own ↦
        let here : lane_of (slice_set lanes c l') x.cpu ≡ l' = ap (λ (d : ℕ). lane_of (slice_set lanes c l') d) own ∙ lane_here in
        let before : lane_of lanes x.cpu ≡ l = ap (λ (d : ℕ). lane_of lanes d) own ∙ was in
        let fits : FitsLane l k x.phase = subst (λ (y : Lane). FitsLane y k x.phase) before (board.each_job k x at).fits in
        let same : stage_of (lane_of (slice_set lanes c l') x.cpu).hand x.phase ≡ stage_of (lane_of lanes x.cpu).hand x.phase =
        ap (λ (y : Lane). stage_of y.hand x.phase) here ∙ (stage_still k x.phase ne fits ∙ ap (λ (y : Lane). stage_of y.hand x.phase) (sym before))
        in
        ap (λ (s : Stage). record { cpu = x.cpu; program = x.program; budget = x.budget; stage = s }) same
    | inr other ↦ ap (λ (y : Lane). record { cpu = x.cpu; program = x.program; budget = x.budget; stage = stage_of y.hand x.phase })
        (lane_elsewhere x.cpu other)
  ]

  task_here : task_of (slice_set lanes c l') e' ≡ record (task_of lanes e) { stage = stage_of l'.hand e'.phase }
  task_here =
      let at : lane_of (slice_set lanes c l') e'.cpu ≡ l' = ap (λ (d : ℕ). lane_of (slice_set lanes c l') d) (cpu ∙ of) ∙ lane_here in
      ap (λ (y : Lane). record { cpu = e'.cpu; program = e'.program; budget = e'.budget; stage = stage_of y.hand e'.phase }) at
      ∙ (ap (λ (n : ℕ). record { cpu = n; program = e'.program; budget = e'.budget; stage = stage_of l'.hand e'.phase }) cpu
      ∙ (ap (λ (n : ℕ). record { cpu = e.cpu; program = n; budget = e'.budget; stage = stage_of l'.hand e'.phase }) program
      ∙ ap (λ (n : ℕ). record { cpu = e.cpu; program = e.program; budget = n; stage = stage_of l'.hand e'.phase }) budget))

  pub tasks_changed : tasks_of (slice_set lanes c l') (slice_set jobs j e') ≡ with_stage (tasks_of lanes jobs) j (task_of lanes e) (stage_of l'.hand e'.phase)
  tasks_changed =
      map-set_changed (task_of lanes) (task_of (slice_set lanes c l')) jobs j e' task_still
      ∙ ap (λ (t : Task). slice_set (tasks_of lanes jobs) j t) task_here

  -- ---- it is kept
  module _ (serves_same : serves' ≡ serves) (elsewhere : (d : ℕ) → d ≢ c → running' d ≡ running d) (runs : running' c ≡ is_some l'.hand)
      (unreached : (d : ℕ) → d ≢ c → reach' d ≡ reach d) (held : (h : Hand) → l'.hand ≡ Some h → AreHeld (reach' c) h.cpu.held)
      (fits : FitsLane l' j e'.phase) (short : (v : Input) → e'.phase ≡ phase.Waiting v → IsShort v)
      (hand : (h : Hand) → l'.hand ≡ Some h → IsHand programs (slice_set jobs j e') c h)
      (next : (x : Listed) → slice_get jobs l'.next ≡ Some x → x.cpu ≡ c) (inside : l'.next ≤ length jobs) where
    listed_here : IsListed serves' programs (slice_set lanes c l') j e'
    listed_here =
        let old = board.each_job j e listed in
        let at : lane_of (slice_set lanes c l') e'.cpu ≡ l' = ap (λ (d : ℕ). lane_of (slice_set lanes c l') d) (cpu ∙ of) ∙ lane_here in
        record {
          program = subst (λ (n : ℕ). n < length programs) (sym program) old.program;
          served = ap (λ (f : ℕ → Bool). f e'.cpu) serves_same ∙ (ap (λ (n : ℕ). serves n) cpu ∙ old.served);
          within = (let below : e'.cpu < length lanes = subst (λ (n : ℕ). n < length lanes) (sym cpu) old.within in subst
              (λ (n : ℕ). e'.cpu < n) (sym (length-set lanes c l')) below);
          fits = subst (λ (y : Lane). FitsLane y j e'.phase) (sym at) fits;
          short = short;
        }

    listed_still : (k : ℕ) (x : Listed) → k ≢ j → slice_get jobs k ≡ Some x → IsListed serves' programs (slice_set lanes c l') k x
    listed_still k x ne at =
        let old = board.each_job k x at in
        let same : FitsLane (lane_of (slice_set lanes c l') x.cpu) k x.phase = elim (equal_or_not x.cpu c) [
          | inl own ↦
              let here : lane_of (slice_set lanes c l') x.cpu ≡ l' = ap (λ (d : ℕ). lane_of (slice_set lanes c l') d) own ∙ lane_here in
              let before : lane_of lanes x.cpu ≡ l = ap (λ (d : ℕ). lane_of lanes d) own ∙ was in
              subst (λ (y : Lane). FitsLane y k x.phase) (sym here)
              (fits_still k x x.phase ne at own (subst (λ (y : Lane). FitsLane y k x.phase) before old.fits))
          | inr other ↦ subst (λ (y : Lane). FitsLane y k x.phase) (sym (lane_elsewhere x.cpu other)) old.fits
        ] in
        record {
          program = old.program;
          served = ap (λ (f : ℕ → Bool). f x.cpu) serves_same ∙ old.served;
          within = subst (λ (n : ℕ). x.cpu < n) (sym (length-set lanes c l')) old.within;
          fits = same;
          short = old.short;
        }

    each_job : (k : ℕ) (x : Listed) → slice_get (slice_set jobs j e') k ≡ Some x → IsListed serves' programs (slice_set lanes c l') k x
    each_job k x at = elim (equal_or_not k j) [
      | inl here ↦
          let put : slice_get (slice_set jobs j e') k ≡ Some e' = ap (λ (n : ℕ). slice_get (slice_set jobs j e') n) here ∙
          slice_get-set_known jobs j e' e listed in
          let is : x ≡ e' = cc in
          let P : ℕ → Listed → Type 0 = λ n y. IsListed serves' programs (slice_set lanes c l') n y in
          subst (λ (n : ℕ). P n x) (sym here) (subst (λ (y : Listed). P j y) (sym is) listed_here)
      | inr ne ↦ listed_still k x ne (sym (slice_get-set_other jobs j k e' ne) ∙ at)
    ]

    hand_still : (d : ℕ) (h : Hand) → d ≢ c → IsHand programs jobs d h → IsHand programs (slice_set jobs j e') d h
    hand_still d h ne is = record {
      job = is.job;
      of = is.of;
      in_hand = is.in_hand;
      number = is.number;
      program = is.program;
      loaded = is.loaded;
      ready = is.ready;
      listed = slice_get-set_other jobs j h.job e' (λ q.
          let at : slice_get jobs j ≡ Some is.job = ap (λ (n : ℕ). slice_get jobs n) (sym q) ∙ is.listed in
          let same : is.job ≡ e = cc in
          ne (sym is.of ∙ (ap (λ (y : Listed). y.cpu) same ∙ of))) ∙ is.listed;
    }

    -- a place holds a job of the same CPU as before
    cpu_still : (d n : ℕ) → ((x : Listed) → slice_get jobs n ≡ Some x → x.cpu ≡ d) → (x : Listed) → slice_get (slice_set jobs j e') n ≡ Some x → x.cpu ≡ d
    cpu_still d n old x at = elim (equal_or_not n j) [
      | inl here ↦
          let put : slice_get (slice_set jobs j e') n ≡ Some e' = ap (λ (k : ℕ). slice_get (slice_set jobs j e') k) here ∙
          slice_get-set_known jobs j e' e listed in
          let is : x ≡ e' = cc in
          ap (λ (y : Listed). y.cpu) is ∙ (cpu ∙ old e (ap (λ (k : ℕ). slice_get jobs k) here ∙ listed))
      | inr ne ↦ old x (sym (slice_get-set_other jobs j n e' ne) ∙ at)
    ]

    each_lane : (d : ℕ) → d < length (slice_set lanes c l') → IsLane running' reach' programs (slice_set jobs j e') d (lane_of (slice_set lanes c l') d)
    each_lane d below = elim (equal_or_not d c) [
      | inl here ↦
          let P : ℕ → Lane → Type 0 = λ n y. IsLane running' reach' programs (slice_set jobs j e') n y in
          let new : P c l' = record {
            runs = runs;
            hand = hand;
            held = held;
            next = cpu_still c l'.next next;
            within = subst
                (λ (n : ℕ). l'.next ≤ n) (sym (length-set jobs j e')) inside;
          } in
          subst (λ (n : ℕ). P n (lane_of (slice_set lanes c l') n)) (sym here) (subst (λ (y : Lane). P c y) (sym lane_here) new)
      | inr ne ↦
          let old = board.each_lane d (subst (λ (n : ℕ). d < n) (length-set lanes c l') below) in
          let new : IsLane running' reach' programs (slice_set jobs j e') d (lane_of lanes d) = record {
            runs = elsewhere d ne ∙ old.runs;
            hand = λ h at. hand_still d h ne (old.hand h at);
            held = λ h at. subst (λ (f : Span → Bool). AreHeld f h.cpu.held) (sym (unreached d ne)) (old.held h at);
            next = cpu_still d (lane_of lanes d).next old.next;
            within = subst (λ (n : ℕ). (lane_of lanes d).next ≤ n) (sym (length-set jobs j e')) old.within;
          } in
          subst (λ (y : Lane). IsLane running' reach' programs (slice_set jobs j e') d y) (sym (lane_elsewhere d ne)) new
    ]

    pub board_changed : IsBoard serves' running' reach' programs (slice_set jobs j e') (slice_set lanes c l')
    board_changed = record {
      each_job = each_job;
      each_lane = each_lane;
      idle = λ d above.
          let beyond : length lanes ≤ d = subst (λ (n : ℕ). n ≤ d) (length-set lanes c l') above in
          let ne : d ≢ c = (λ q. let at : d ≡ c = q in let own = within in absurd (omega arith)) in
          elsewhere d ne ∙ board.idle d beyond;
    }
