-- Stages of jobs, and what they are saved as.
use Rattle.std.proofs.Common.{◌≡◌, ℕ, List, [], ◌∷◌, ◌++◌, length, get_or, refl, sym, ap, ◌∙◌, arith, append_assoc}
use Rattle.std.specs.Prelude.{All}
use Rattle.std.proofs.lemmas.List.Elements.{All-nil, All-cons}
use Rattle.bpf_mem.specs.Saved.{IsWord, words_saved}
use Rattle.bpf_mem.proofs.WordLemmas.{words_prefix}
use Rattle.bpf_helpers.specs.Saved.{MayBeHeld}
use Rattle.bpf_cpu.specs.declared.cpu.Cpu.{Cpu}
use Rattle.bpf_cpu.specs.declared.input.Input.{Input}
use Rattle.bpf_cpu.specs.declared.outcome.Outcome.{Outcome}
use Rattle.bpf_cpu.specs.Saved.{IsSavableState, cpu_saved, outcome_saved}
use Rattle.bpf_cpu.specs.Task.{Stage, Waiting, InHand, Ended}
use Rattle.bpf_cpu.proofs.SavedStates.{cpus_told}
use Rattle.bpf_cpu.proofs.SavedEnds.{outcomes_told}
use Rattle.bpf_machine.specs.Saved.{stage_saved, HoldsWhatMayBe, IsOfJob, IsSavableStage}

-- what comes first
first : (a b : ℕ) (l m : List ℕ) → a ∷ l ≡ b ∷ m → a ≡ b
first a b l m e = ap (λ (k : List ℕ). get_or k 0 0) e

behind : (a b : ℕ) (l m : List ℕ) → a ∷ l ≡ b ∷ m → l ≡ m
behind a b l m e = cc

one_word : (l : List ℕ) → length l ≡ 1 → l ≡ get_or l 0 0 ∷ []
one_word [] e = absurd (omega arith)
one_word (a ∷ []) e = refl
one_word (a ∷ b ∷ l) e = absurd (omega arith)

one_fits : (x : ℕ) → IsWord x → All IsWord (x ∷ [])
one_fits x h = All-cons IsWord x [] h (All-nil IsWord)

-- ---- a job in hand
on : (state : Cpu) (left : ℕ) (more : List ℕ) → stage_saved (InHand state left) ++ more ≡ 1 ∷ (words_saved 0 (left ∷ []) ++ (cpu_saved state ++ more))
on state left more = ap (λ (l : List ℕ). 1 ∷ l) (append_assoc (words_saved 0 (left ∷ [])) (cpu_saved state) more)

pub hand_read : (bytes rest last words : List ℕ) (state : Cpu) → length words ≡ 1 → bytes ≡ words_saved 0 words ++ rest → rest ≡ cpu_saved state ++ last
    → 1 ∷ bytes ≡ stage_saved (InHand state (get_or words 0 0)) ++ last
hand_read bytes rest last words state size read e =
    ap (λ (l : List ℕ). 1 ∷ l) (read ∙ (ap (λ (l : List ℕ). words_saved 0 words ++ l) e ∙ ap
    (λ (l : List ℕ). words_saved 0 l ++ (cpu_saved state ++ last)) (one_word words size))) ∙ sym (on state (get_or words 0 0) last)

module _ (cpu : ℕ) (input : Input) (bytes : List ℕ) (state : Cpu) (left : ℕ) (more : List ℕ)
    (is : IsSavableStage cpu input (InHand state left)) (may : HoldsWhatMayBe (InHand state left))
    (e : 1 ∷ bytes ≡ stage_saved (InHand state left) ++ more) where
  rest_is : bytes ≡ words_saved 0 (left ∷ []) ++ (cpu_saved state ++ more)
  rest_is = behind 1 1 bytes (words_saved 0 (left ∷ []) ++ (cpu_saved state ++ more)) (e ∙ on state left more)

  pub hand_no_word : ((others rest : List ℕ) → length others ≡ 1 → All IsWord others → bytes ≡ words_saved 0 others ++ rest → ⊥) → ⊥
  hand_no_word none = none (left ∷ []) (cpu_saved state ++ more) refl (one_fits left is.0) rest_is

  pub hand_no_state : (words rest : List ℕ) → length words ≡ 1 → All IsWord words → bytes ≡ words_saved 0 words ++ rest
      → ((other : Cpu) (later : List ℕ) → IsSavableState other → MayBeHeld other.held → IsOfJob cpu input other → rest ≡ cpu_saved other ++ later → ⊥) → ⊥
  hand_no_state words rest size fit read none =
      let same = words_prefix 0 words (left ∷ []) rest (cpu_saved state ++ more) size fit (one_fits left is.0) (sym read ∙ rest_is) in
      none state more is.2 may is.1 same.1

-- ---- equal bytes are those of equal stages
pub stages_told : (cpu : ℕ) (input : Input) (x y : Stage) (rest more : List ℕ) → IsSavableStage cpu input x → IsSavableStage cpu input y →
    stage_saved x ++ rest ≡ stage_saved y ++ more → (x ≡ y) × (rest ≡ more)
stages_told cpu input (Waiting a) (Waiting b) rest more h k e = (ap (λ (i : Input). Waiting i) (h ∙ sym k), behind 0 0 rest more e)
stages_told cpu input (Waiting a) (InHand s l) rest more h k e =
    let n = first 0 1 rest (words_saved 0 (l ∷ []) ++ (cpu_saved s ++ more)) (e ∙ on s l more) in absurd (omega arith)
stages_told cpu input (Waiting a) (Ended o) rest more h k e = let n = first 0 2 rest (outcome_saved o ++ more) e in absurd (omega arith)
stages_told cpu input (InHand s l) (Waiting b) rest more h k e =
    let n = first 1 0 (words_saved 0 (l ∷ []) ++ (cpu_saved s ++ rest)) more (sym (on s l rest) ∙ e) in absurd (omega arith)
stages_told cpu input (InHand s l) (InHand t m) rest more h k e =
    let is = behind 1 1 (words_saved 0 (l ∷ []) ++ (cpu_saved s ++ rest)) (words_saved 0 (m ∷ []) ++ (cpu_saved t ++ more))
    (sym (on s l rest) ∙ (e ∙ on t m more)) in
    let a = words_prefix 0 (l ∷ []) (m ∷ []) (cpu_saved s ++ rest) (cpu_saved t ++ more) refl (one_fits l h.0) (one_fits m k.0) is in
    let left : l ≡ m = first l m [] [] a.0 in
    let b = cpus_told s t rest more h.2 k.2 (h.1.0 ∙ sym k.1.0, h.1.1 ∙ sym k.1.1, h.1.2 ∙ sym k.1.2, h.1.3 ∙ sym k.1.3) a.1 in
    (ap (λ (c : Cpu). InHand c l) b.0 ∙ ap (λ (n : ℕ). InHand t n) left, b.1)
stages_told cpu input (InHand s l) (Ended o) rest more h k e =
    let n = first 1 2 (words_saved 0 (l ∷ []) ++ (cpu_saved s ++ rest)) (outcome_saved o ++ more) (sym (on s l rest) ∙ e) in absurd (omega arith)
stages_told cpu input (Ended o) (Waiting b) rest more h k e = let n = first 2 0 (outcome_saved o ++ rest) more e in absurd (omega arith)
stages_told cpu input (Ended o) (InHand t m) rest more h k e =
    let n = first 2 1 (outcome_saved o ++ rest) (words_saved 0 (m ∷ []) ++ (cpu_saved t ++ more)) (e ∙ on t m more) in absurd (omega arith)
stages_told cpu input (Ended o) (Ended p) rest more h k e =
    let same = outcomes_told o p rest more h k (behind 2 2 (outcome_saved o ++ rest) (outcome_saved p ++ more) e) in
    (ap (λ (x : Outcome). Ended x) same.0, same.1)
