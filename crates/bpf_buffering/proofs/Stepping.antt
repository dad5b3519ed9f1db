-- A job in hand makes a step, and stays in hand or ends.
use Rattle.std.proofs.Common.{◌≡◌, ◌≢◌, ℕ, Bool, true, false, ◌==◌, ◌&&◌, Option, sym, ap, subst, ◌∙◌, eq-eqb}
use Rattle.bpf_shared.specs.declared.events.Span.{Span}
use Rattle.bpf_shared.specs.declared.events.Event.TheVariants.{End}
use Rattle.bpf_shared.specs.Store.{put}
use Rattle.bpf_shared.specs.Passage.{Calls as Called, held_without}
use Rattle.bpf_shared.proofs.Puts.{put-same, put-other}
use Rattle.bpf_plain.specs.PlainStore.{shape_of, has_cpu, is_running, held_spans}
use Rattle.bpf_loader.specs.Loaded.{Loaded}
use Rattle.bpf_helpers.specs.Held.{AreHeld, KeepsRun}
use Rattle.bpf_cpu.specs.declared.cpu.Cpu.{Cpu}
use Rattle.bpf_cpu.specs.declared.outcome.Outcome.{Outcome}
use Rattle.bpf_cpu.specs.Step.{IsReady}
use Rattle.bpf_cpu.specs.Task.{Stage, Waiting, InHand, Ended}
use Rattle.bpf_cpu.proofs.HeldLaws.{others_without}
use Rattle.bpf_machine.specs.declared.machine.parts.KeptStage.{KeptStage}
use Rattle.bpf_machine.specs.declared.machine.parts.KeptStage.TheVariants as kept
use Rattle.bpf_machine.specs.Kept.{kept_stage}
use Rattle.bpf_buffering.specs.Waiting.{WaitingContents, PassesWaiting, serves_one}
use Rattle.bpf_buffering.specs.Going.{AdvancesOver, CanGoOn, LeavesOthers}
use Rattle.bpf_buffering.proofs.Advancing.{over_cpu}

pub kept_in_hand : (s : KeptStage) (state : Cpu) (left : ℕ) → kept_stage s ≡ InHand state left → s ≡ kept.InHand state left
kept_in_hand (kept.Waiting input) state left e = let no : Waiting input ≡ InHand state left = e in cc
kept_in_hand (kept.InHand old n) state left e = let two : InHand old n ≡ InHand state left = e in cc
kept_in_hand (kept.Ended end) state left e = let no : Ended end ≡ InHand state left = e in cc

pub serves_its : (h : WaitingContents) (c : ℕ) → c ≡ h.cpu → has_cpu h.store h.cpu ≡ true → serves_one h c ≡ true
serves_its h c e served =
    ap (λ (b : Bool). b && has_cpu h.store c) (eq-eqb c h.cpu e) ∙ ap (has_cpu h.store) e ∙ served

abbrev pub Keeps : ℕ → WaitingContents → WaitingContents → Type 0
Keeps c h k = KeepsRun {S = WaitingContents} (λ w. shape_of w.store) (λ w. is_running w.store) (λ w. held_spans w.store) c h k

-- ---- before the step
pub record HandFits (program : Loaded) (h : WaitingContents) (state : Cpu) : Type 0 where
  pub number : state.number ≡ h.cpu
  pub ready : IsReady program state
  pub serves : serves_one h state.number ≡ true
  pub runs : is_running h.store state.number ≡ true
  pub held : AreHeld (held_spans h.store state.number) state.held

pub hand_fits : (program : Loaded) (h : WaitingContents) (s : KeptStage) (state : Cpu) (left : ℕ) → CanGoOn program h (kept_stage s) → s ≡
    kept.InHand state left → HandFits program h state
hand_fits program h s state left can is =
    let two : InHand can.state can.left ≡ InHand state left = sym can.at ∙ ap kept_stage is in
    let one : can.state ≡ state = cc in
    let number : state.number ≡ h.cpu = ap (λ (x : Cpu). x.number) (sym one) ∙ can.number in
    record {
      number = number;
      ready = subst (λ (x : Cpu). IsReady program x) one can.ready;
      serves = serves_its h state.number number can.served;
      runs = ap (is_running h.store) number ∙ can.runs;
      held = subst (λ (n : ℕ). AreHeld (held_spans h.store n) state.held) (sym number)
          (subst (λ (x : Cpu). AreHeld (held_spans h.store h.cpu) x.held) one can.held);
    }

-- ---- after it
module _ (program : Loaded) (h k : WaitingContents) (old new : Cpu) (left rest : ℕ) (end : Option Outcome) (fits : HandFits program h old)
    (over : AdvancesOver program h old left end k new rest) (number : new.number ≡ old.number) (keeps : Keeps old.number h k) where
  cpu : k.cpu ≡ h.cpu
  cpu = (over_cpu program h k old new left rest end over).cpu

  serving : has_cpu k.store ≡ has_cpu h.store
  serving = (over_cpu program h k old new left rest end over).serves

  served_before : has_cpu h.store h.cpu ≡ true
  served_before = ap (has_cpu h.store) (sym fits.number) ∙ served (old.number == h.cpu) (has_cpu h.store old.number) fits.serves
    where
      served : (a b : Bool) → (a && b) ≡ true → b ≡ true
      served true b e = e
      served false b e = let no : false ≡ true = e in cc

  pub cpu_stays : k.cpu ≡ h.cpu
  cpu_stays = cpu

  pub number_now : new.number ≡ k.cpu
  number_now = number ∙ fits.number ∙ sym cpu

  pub served_now : has_cpu k.store k.cpu ≡ true
  served_now = ap (λ (f : ℕ → Bool). f k.cpu) serving ∙ ap (has_cpu h.store) cpu ∙ served_before

  pub serves_now : serves_one k new.number ≡ true
  serves_now = serves_its k new.number number_now served_now

  pub runs_now : is_running k.store new.number ≡ true
  runs_now = ap (λ (f : ℕ → Bool). f new.number) keeps.runs ∙ ap (is_running h.store) number ∙ fits.runs

  pub step_leaves : LeavesOthers h.cpu h.store k.store
  step_leaves = record {
    shape = keeps.shape;
    serves = serving;
    runs = λ d ne. ap (λ (f : ℕ → Bool). f d) keeps.runs;
    held = λ d ne. keeps.others d (λ q. ne (q ∙ fits.number));
  }

  -- it stays in hand
  pub stays_fit : (s : Stage) → s ≡ InHand new rest → IsReady program new → AreHeld (held_spans k.store old.number) new.held → CanGoOn program k s
  stays_fit s is ready held = record {
    state = new;
    left = rest;
    at = is;
    number = number_now;
    ready = ready;
    held = subst (λ (n : ℕ). AreHeld (held_spans k.store n) new.held) (fits.number ∙ sym cpu) held;
    runs = ap (is_running k.store) (sym number_now) ∙ runs_now;
    served = served_now;
  }

  -- it has ended
  module _ (z : WaitingContents) (call : Called (PassesWaiting k z) (serves_one k) new.number End)
      (running : is_running z.store ≡ put (is_running k.store) new.number false)
      (held : held_spans z.store ≡ held_without (held_spans k.store) new.number)
      (shape : shape_of z.store ≡ shape_of k.store) where
    pub cpu_last : z.cpu ≡ h.cpu
    cpu_last = call.passage.2.cpu ∙ cpu

    pub off_now : is_running z.store z.cpu ≡ false
    off_now = ap (λ (f : ℕ → Bool). f z.cpu) running ∙ put-same (is_running k.store) new.number z.cpu false (call.passage.2.cpu ∙ sym number_now)

    pub end_leaves : LeavesOthers h.cpu h.store z.store
    end_leaves = record {
      shape = shape ∙ keeps.shape;
      serves = call.passage.2.serves ∙ serving;
      runs = λ d ne. ap (λ (f : ℕ → Bool). f d) running ∙ put-other (is_running k.store) new.number d false (other d ne) ∙ ap
          (λ (f : ℕ → Bool). f d) keeps.runs;
      held = λ d ne. ap (λ (f : ℕ → Span → Bool). f d) held ∙ others_without (held_spans k.store) new.number d (other d ne) ∙ keeps.others d
          (λ q. ne (q ∙ fits.number));
    }
      where
        other : (d : ℕ) → d ≢ h.cpu → d ≢ new.number
        other d ne q = ne (q ∙ number ∙ fits.number)
