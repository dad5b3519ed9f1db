-- One job more of those that a CPU has run.
use Rattle.std.proofs.Common.{◌≡◌, ℕ, ◌+◌, List, [], ◌∷◌, ◌++◌, refl, ap, sym, subst, ◌∙◌, append_assoc, get_or, drop, arith}
use Rattle.bpf_shared.specs.Shape.{Shape}
use Rattle.std.proofs.lemmas.List.{append-nil, get_or-drop}
use Rattle.bpf_shared.specs.declared.events.Event.{Event}
use Rattle.bpf_loader.specs.Loaded.{Loaded}
use Rattle.bpf_cpu.specs.declared.cpu.Cpu.{Cpu}
use Rattle.bpf_cpu.specs.State.{start}
use Rattle.bpf_sched.specs.declared.assignment.Assignment.{Assignment}
use Rattle.bpf_sched.specs.Working.{IsNew, Runs, RunsAll}

module _ {T : Type 0} (moves : T → T → List Event → Type 0) (worn : T → Type 0) (shape : Shape) (programs : List Loaded) where
  pub one_more : (x y z : T) (olds news : List Assignment) (old new : Assignment) (events mine : List Event)
      → RunsAll moves worn shape programs x olds news events y → Runs moves worn shape programs y old new mine z
      → RunsAll moves worn shape programs x (olds ++ old ∷ []) (news ++ new ∷ []) (events ++ mine) z
  one_more x y z [] [] old new events mine all run = (
    z,
    mine,
    [],
    ap (λ (es : List Event). es ++ mine) all.0 ∙ sym (append-nil mine),
    subst
        (λ (w : T). Runs moves worn shape programs w old new mine z) all.1 run,
    (refl, refl),
  )
  one_more x y z [] (n ∷ news) old new events mine all run = absurd all
  one_more x y z (o ∷ olds) [] old new events mine all run = absurd all
  one_more x y z (o ∷ olds) (n ∷ news) old new events mine (w, first, rest, cut, here, all) run = (
    w,
    first,
    rest ++ mine,
    ap (λ (es : List Event). es ++ mine) cut ∙ append_assoc first rest mine,
    here,
    one_more w y z olds news old
        new rest mine all run,
  )

pub number_is : (cpu n : ℕ) (a : Assignment) → IsNew cpu n a → a.cpu.number ≡ cpu
number_is cpu n a new = ap (λ (s : Cpu). s.number) new.fresh

-- a new job is one of the CPU that its state names
pub own_number : (cpu n : ℕ) (a : Assignment) → IsNew cpu n a → IsNew a.cpu.number n a
own_number cpu n a new = record {
  input = new.input;
  fresh = new.fresh ∙ ap (λ (k : ℕ). start k new.input) (sym (number_is cpu n a new));
  program = new.program;
}

-- what wasn't run yet is as it was
pub still_there : (olds news : List Assignment) (k : ℕ) (d : Assignment) → drop k news ≡ drop k olds → get_or news k d ≡ get_or olds k d
still_there olds news k d rest =
    let here : k + 0 ≡ k = omega arith in
    subst (λ (n : ℕ). get_or news n d ≡ get_or olds n d) here (sym (get_or-drop k news 0 d) ∙
    (ap (λ (l : List Assignment). get_or l 0 d) rest ∙ get_or-drop k olds 0 d))
