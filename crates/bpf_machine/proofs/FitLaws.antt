-- Store, programs and jobs fit each other where each job does, and each two do.
use Rattle.std.proofs.Common.{◌≡◌, ◌∙◌, ℕ, ◌<◌, true, false, List, [], Some, inl, inr, length, refl, sym, ap, subst, arith}
use Rattle.std.specs.Prelude.{slice_get, slice_index_or}
use Rattle.std.proofs.lemmas.Bool.{cases_lt}
use Rattle.std.proofs.lemmas.Option.{slice_get_within, slice_get-get_or}
use Rattle.bpf_shared.proofs.Puts.{true_or_false}
use Rattle.bpf_plain.specs.PlainStore.{Contents, is_running}
use Rattle.bpf_loader.specs.Loaded.{Loaded}
use Rattle.bpf_cpu.specs.declared.cpu.Cpu.{Cpu}
use Rattle.bpf_cpu.specs.Step.{IsReady}
use Rattle.bpf_cpu.specs.Task.{Stage, Task, Waiting, InHand, Ended}
use Rattle.bpf_machine.specs.Hands.{IsAt}
use Rattle.bpf_machine.specs.Work.{HasInHand}
use Rattle.bpf_machine.specs.Machine.{MachineState}
use Rattle.bpf_machine.specs.Parts.{FitsHand, CanStand, chosen, chosen_at, made_of}
use Rattle.bpf_machine.specs.Private.Parts.{in_hand, waits}
use Rattle.bpf_machine.specs.Private.Standing.{FitsState, FitsStage, FitsAlone, Follows, StandSo}
use Rattle.bpf_machine.proofs.PartLaws.{chosen_is, chosen_count, waiting_or_not}

hand_or_not : (s : Stage) → in_hand s ≡ true → (state : Cpu) × (left : ℕ) × (s ≡ InHand state left)
hand_or_not (Waiting input) is = cc
hand_or_not (InHand state left) is = (state, left, refl)
hand_or_not (Ended outcome) is = cc

abbrev no_program : Loaded
no_program = record { instructions = []; named = record { maps = 0; arrays = 0 } }

module _ (store : Contents) (programs : List Loaded) (parts : List Task) (numbers : List ℕ) where
  abbrev m : MachineState
  m = made_of store programs parts numbers

  abbrev part : ℕ → Task
  part = chosen_at parts numbers

  listed : (j : ℕ) (task : Task) → slice_get (chosen parts numbers) j ≡ Some task → (j < length numbers) × (part j ≡ task)
  listed j task is =
      let within = slice_get_within (chosen parts numbers) j task is in
      let count = chosen_count parts numbers in
      let l : j < length numbers = omega (arith, within, count) in
      let same : Some (part j) ≡ Some task = sym (chosen_is parts numbers j l) ∙ is in
      (l, cc)

  at_hand : (c k : ℕ) → k < length numbers → (part k).cpu ≡ c → in_hand (part k).stage ≡ true → HasInHand (chosen parts numbers) c k
  at_hand c k l of is = let h = hand_or_not (part k).stage is in (part k, h.0, h.1, record { listed = chosen_is parts numbers k l; of = of; at = h.2 })

  module _ (so : StandSo store programs parts numbers) where
    alone : (j : ℕ) (task : Task) → slice_get (chosen parts numbers) j ≡ Some task → FitsAlone store programs task
    alone j task is = let l = listed j task is in subst (FitsAlone store programs) l.1 (so.alone j l.0)

    stage_at : (c j : ℕ) (task : Task) (stage : Stage) → IsAt (chosen parts numbers) c j task stage → FitsStage store programs task stage
    stage_at c j task stage at = subst (FitsStage store programs task) at.at (alone j task at.listed).stage

    goes_on : (c j : ℕ) (task : Task) (state : Cpu) (left : ℕ) → IsAt (chosen parts numbers) c j task (InHand state left) → FitsHand m c task state
    goes_on c j task state left at =
        let fits : FitsState store programs task state = stage_at c j task (InHand state left) at in
        let program = slice_index_or programs task.program no_program in
        let there : slice_get programs task.program ≡ Some program = slice_get-get_or programs task.program no_program (alone j task at.listed).loaded in
        record {
          number = fits.number ∙ at.of;
          program = program;
          loaded = there;
          ready = fits.ready program there;
          held = subst (λ (n : ℕ). Rattle.bpf_helpers.specs.Held.AreHeld (Rattle.bpf_plain.specs.PlainStore.held_spans store n) state.held) at.of fits.held;
          runs = subst (λ (n : ℕ). is_running store n ≡ true) at.of fits.runs;
        }

    -- two jobs of one CPU that are in hand are one
    none_behind : (c j k : ℕ) → j < k → HasInHand (chosen parts numbers) c j → HasInHand (chosen parts numbers) c k → ⊥
    none_behind c j k less (task, state, left, at) (later, other, more, too) =
        let l = listed j task at.listed in
        let r = listed k later too.listed in
        let follow = subst (Follows task) r.1 (subst (λ (t : Task). Follows t (part k)) l.1 (so.follow j k less r.0)) in
        let no : in_hand later.stage ≡ false = follow.one (at.of ∙ sym too.of) (ap in_hand at.at) in
        let there : in_hand later.stage ≡ true = ap in_hand too.at in
        let clash : true ≡ false = sym there ∙ no in
        cc

    pub stand_up : CanStand m
    stand_up = record {
      served = λ j task is. (alone j task is).served;
      loaded = λ j task is. (alone j task is).loaded;
      short = λ c j task input at. stage_at c j task (Waiting input) at;
      hand = goes_on;
      one = λ c j k a b. elim (cases_lt j k) [
        | inl less ↦ absurd (none_behind c j k less a b)
        | inr past ↦ elim (cases_lt k j) [
          | inl more ↦ absurd (none_behind c k j more b a)
          | inr same ↦ omega arith
        ]
      ];
      idle = λ c free. so.idle c (λ k l of. elim (true_or_false (in_hand (part k).stage)) [
        | inl busy ↦ let h = at_hand c k l of busy in absurd (free k h.0 h.1 h.2 h.3)
        | inr free ↦ free
      ]);
      order = λ c j k task later input at less is of.
          (let l = listed j task at.listed in
          let r = listed k later is in
          let follow = subst (Follows task) r.1 (subst (λ (t : Task). Follows t (part k)) l.1 (so.follow j k less r.0)) in
          waiting_or_not later.stage (follow.order (at.of ∙ sym of) (ap waits at.at)));
    }

  module _ (stands : CanStand m) where
    fits_stage : (k : ℕ) → k < length numbers → (stage : Stage) → (part k).stage ≡ stage → FitsStage store programs (part k) stage
    fits_stage k l (Waiting input) is = stands.short (part k).cpu k (part k) input (record { listed = chosen_is parts numbers k l; of = refl; at = is })
    fits_stage k l (InHand state left) is =
        let hand = stands.hand (part k).cpu k (part k) state left (record { listed = chosen_is parts numbers k l; of = refl; at = is }) in
        record {
          number = hand.number;
          ready = λ program there.
              (let same : Some hand.program ≡ Some program = sym hand.loaded ∙ there in let e : hand.program ≡ program = cc in subst
              (λ (p : Loaded). IsReady p state) e hand.ready);
          held = hand.held;
          runs = hand.runs;
        }
    fits_stage k l (Ended outcome) is = tt

    pub stand_down : StandSo store programs parts numbers
    stand_down = record {
      alone = λ k l. record {
        served = stands.served k (part k) (chosen_is parts numbers k l);
        loaded = stands.loaded k (part k) (chosen_is parts numbers k l);
        stage = fits_stage k l (part k).stage refl;
      };
      follow = λ j k less l. record {
        one = λ same is. elim (true_or_false (in_hand (part k).stage)) [
          | inl busy ↦
              let e : j ≡ k = stands.one (part j).cpu j k (at_hand (part j).cpu j (omega arith) refl is) (at_hand (part j).cpu k l (sym same) busy) in
              absurd (omega arith)
          | inr free ↦ free
        ];
        order = λ same is.
            (let w = waiting_or_not (part j).stage is in
            let before : j < length numbers = omega arith in
            let more = stands.order (part j).cpu j k (part j) (part k) w.0
            (record { listed = chosen_is parts numbers j before; of = refl; at = w.1 }) less (chosen_is parts numbers k l) (sym same) in
            ap waits more.1);
      };
      idle = λ c none. stands.idle c (λ j task state left at.
          (let l = listed j task at.listed in
          let no : in_hand (part j).stage ≡ false = none j l.0 (ap (λ (t : Task). t.cpu) l.1 ∙ at.of) in
          let there : in_hand (part j).stage ≡ true = ap (λ (t : Task). in_hand t.stage) l.1 ∙ ap in_hand at.at in
          let clash : true ≡ false = sym there ∙ no in
          cc));
    }
