-- In a patient search each job in hand of a kept machine has its whole budget left.
use Rattle.std.proofs.Common.{◌≡◌, ◌∙◌, ℕ, List, [], ◌∷◌, ◌++◌, Some, inl, inr, length, refl, sym, ap, subst, length-append, arith}
use Rattle.std.specs.Prelude.{slice_get}
use Rattle.std.proofs.lemmas.Bool.{cases_lt}
use Rattle.std.proofs.lemmas.Option.{slice_get_within}
use Rattle.bpf_base.proofs.Lists.{slice_get-front}
use Rattle.bpf_cpu.specs.Task.{Task, Waiting, InHand}
use Rattle.bpf_machine.specs.Cover.{TurnsAhead}
use Rattle.bpf_machine.specs.Headways.{with_jobs}
use Rattle.bpf_machine.specs.Laws.{IsFresh}
use Rattle.bpf_machine.specs.Machine.{MachineState, Shows}
use Rattle.bpf_machine.specs.Patient.{IsRefilled, AreRefilled}
use Rattle.bpf_machine.specs.Schedule.{World}
use Rattle.bpf_machine.proofs.RefillLaws.{turn_whole}
use Rattle.bpf_explore.specs.Album.{IsShownAt, HaveWholeBudgets}
use Rattle.bpf_explore.specs.Private.Album.{AddsOne}
use Rattle.bpf_explore.proofs.RichLaws.{refilled_shows}

at_last : (old : List MachineState) (one : MachineState) → slice_get (old ++ one ∷ []) (length old) ≡ Some one
at_last [] one = refl
at_last (x ∷ xs) one = at_last xs one

one_machine : (kept : List MachineState) (i : ℕ) (m n : MachineState) → slice_get kept i ≡ Some m → slice_get kept i ≡ Some n → m ≡ n
one_machine kept i m n at there = let two : Some m ≡ Some n = sym at ∙ there in cc

-- the first, in which all jobs wait
pub first_whole : (kept : List MachineState) → length kept ≡ 1 → HaveWholeBudgets kept
first_whole kept count w fresh (first, at, shows) i m there c j task state left hand =
    let inside = slice_get_within kept i m there in
    let none : i ≡ 0 = omega arith in
    let one = one_machine kept 0 first m at (subst (λ (k : ℕ). slice_get kept k ≡ Some m) none there) in
    let jobs : w.jobs ≡ m.jobs = shows.jobs ∙ ap (λ (x : MachineState). x.jobs) one in
    let waits = fresh.waits j task (ap (λ (ts : List Task). slice_get ts j) jobs ∙ hand.listed) in
    let no : InHand state left ≡ Waiting waits.0 = sym hand.at ∙ waits.1 in
    cc

-- one more, to which a turn led
pub more_whole : (old new : List MachineState) (restored after refilled : MachineState) (place cpu made : ℕ) →
    ((w : World) → IsShownAt old 0 w → (z : World) × IsShownAt old place z) → slice_get old place ≡ Some restored
    → ((w : World) → Shows restored w → (z : World) × Shows after z) → TurnsAhead restored cpu made after → IsRefilled after cpu refilled →
    AddsOne old refilled new → HaveWholeBudgets old → HaveWholeBudgets new
more_whole old new restored after refilled place cpu made led at turns ahead refills (inl same) whole = subst HaveWholeBudgets (sym same) whole
more_whole old new restored after refilled place cpu made led at turns ahead refills (inr (one, same, shows)) whole = subst HaveWholeBudgets (sym same) both
  where
    begins : (w : World) → IsShownAt (old ++ one ∷ []) 0 w → IsShownAt old 0 w
    begins w (m, there, shown) =
        let inside = slice_get_within old place restored at in
        (m, sym (slice_get-front old (one ∷ []) 0 (omega arith)) ∙ there, shown)

    last : (w : World) → IsFresh w → IsShownAt old 0 w → AreRefilled one.jobs
    last w fresh first =
        let z = led w first in
        let shown : IsShownAt old place z.0 = z.1 in
        let m = one_machine old place shown.0 restored shown.1 at in
        let here : Shows restored z.0 = subst (λ (x : MachineState). Shows x z.0) m shown.2 in
        let all = turn_whole restored after refilled cpu made z.0 here (whole w fresh first place restored at) ahead refills in
        let y = turns z.0 here in
        let r = refilled_shows after refilled cpu refills y.0 y.1 in
        let now = shows (with_jobs y.0 r.0) r.2 in
        let jobs : refilled.jobs ≡ one.jobs = sym r.2.jobs ∙ now.jobs in
        subst AreRefilled jobs all

    both : HaveWholeBudgets (old ++ one ∷ [])
    both w fresh first i m there = elim (cases_lt i (length old)) [
      | inl below ↦ whole w fresh (begins w first) i m (sym (slice_get-front old (one ∷ []) i below) ∙ there)
      | inr past ↦
          let size = length-append old (one ∷ []) in
          let inside = slice_get_within (old ++ one ∷ []) i m there in
          let end : length old ≡ i = omega arith in
          let is = one_machine (old ++ one ∷ []) i one m (subst (λ (k : ℕ). slice_get (old ++ one ∷ []) k ≡ Some one) end (at_last old one)) there in
          subst (λ (x : MachineState). AreRefilled x.jobs) is (last w fresh (begins w first))
    ]
