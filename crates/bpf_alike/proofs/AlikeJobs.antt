-- Jobs that are alike are the same CPUs', wait alike and end alike.
use Rattle.std.proofs.Common.{◌≡◌, ◌∙◌, ℕ, zero, suc, List, [], ◌∷◌, Some, None, inl, inr, refl, sym, ap, subst}
use Rattle.std.specs.Prelude.{slice_get, slice_set}
use Rattle.bpf_loader.specs.Loaded.{Loaded}
use Rattle.bpf_cpu.specs.declared.cpu.Cpu.{Cpu}
use Rattle.bpf_cpu.specs.declared.input.Input.{Input}
use Rattle.bpf_cpu.specs.declared.outcome.Outcome.{Outcome}
use Rattle.bpf_cpu.specs.Task.{Stage, Task, Waiting, InHand, Ended}
use Rattle.bpf_live.specs.Laws.{AlikeIsAnEquivalence}
use Rattle.bpf_machine.specs.Hands.{IsAt, IsFree, NoneWaits, NoneWaitsBelow}
use Rattle.bpf_machine.specs.Rounds.{HaveEnded}
use Rattle.bpf_alike.specs.Worlds.{AllAlike, AreLike, IsAlike}
use Rattle.bpf_alike.proofs.Like.{like_again, like_back, like_same}

module _ (equal : AlikeIsAnEquivalence) (programs : List Loaded) where
  abbrev Alike : Task → Task → Type 0
  Alike = IsAlike programs

  abbrev All : List Task → List Task → Type 0
  All = AllAlike programs

  pub all_same : (jobs : List Task) → All jobs jobs
  all_same [] = tt
  all_same (job ∷ jobs) = (inl refl, all_same jobs)

  -- a job in hand: the state of the other, which is alike
  abbrev pub OtherHand : Task → Task → Cpu → ℕ → Type 0
  OtherHand old new state left = (other : Cpu) × (new ≡ record old { stage = InHand other left })
      × ((program : Loaded) → slice_get programs old.program ≡ Some program → AreLike program state other)

  pub alike_hand : (old new : Task) (state : Cpu) (left : ℕ) → Alike old new → old.stage ≡ InHand state left → OtherHand old new state left
  alike_hand old new state left (inl same) at =
      (state, same ∙ ap (λ (s : Stage). record old { stage = s }) at, λ program loaded. like_same program state)
  alike_hand old new state left (inr (program, was, rest, other, loaded, there, is, alike)) at =
      let both : InHand was rest ≡ InHand state left = sym there ∙ at in
      let states : was ≡ state = cc in
      let lefts : rest ≡ left = cc in (
        other,
        is ∙ ap (λ (n : ℕ). record old { stage = InHand other n }) lefts,
        λ p at_p.
            let programs_same : Some program ≡ Some p = sym loaded ∙ at_p in
            let one : program ≡ p = cc in
            subst (λ (x : Cpu). AreLike p x other) states (subst (λ (x : Loaded). AreLike x was other) one alike),
      )

  -- from the other side
  pub hand_back : (old new : Task) (state : Cpu) (left : ℕ) → Alike old new → new.stage ≡ InHand state left → (was : Cpu) × (old.stage ≡ InHand was left)
  hand_back old new state left (inl same) at = (state, ap (λ (t : Task). t.stage) (sym same) ∙ at)
  hand_back old new state left (inr (program, was, rest, other, loaded, there, is, alike)) at =
      let both : InHand other rest ≡ InHand state left = ap (λ (t : Task). t.stage) (sym is) ∙ at in
      let lefts : rest ≡ left = cc in
      (was, there ∙ ap (InHand was) lefts)

  pub alike_cpu : (old new : Task) → Alike old new → new.cpu ≡ old.cpu
  alike_cpu old new (inl same) = ap (λ (t : Task). t.cpu) same
  alike_cpu old new (inr a) = ap (λ (t : Task). t.cpu) a.6

  alike_wait : (old new : Task) (input : Input) → Alike old new → new.stage ≡ Waiting input → new ≡ old
  alike_wait old new input (inl same) at = same
  alike_wait old new input (inr a) at = let no : InHand a.3 a.2 ≡ Waiting input = ap (λ (t : Task). t.stage) (sym a.6) ∙ at in cc

  wait_alike : (old new : Task) (input : Input) → Alike old new → old.stage ≡ Waiting input → new ≡ old
  wait_alike old new input (inl same) at = same
  wait_alike old new input (inr a) at = let no : InHand a.1 a.2 ≡ Waiting input = sym a.5 ∙ at in cc

  pub end_alike : (old new : Task) (end : Outcome) → Alike old new → old.stage ≡ Ended end → new ≡ old
  end_alike old new end (inl same) at = same
  end_alike old new end (inr a) at = let no : InHand a.1 a.2 ≡ Ended end = sym a.5 ∙ at in cc

  pub alike_at : (xs ys : List Task) (j : ℕ) (x : Task) → All xs ys → slice_get xs j ≡ Some x → (y : Task) × (slice_get ys j ≡ Some y) × Alike x y
  alike_at [] ys j x all at = let no : None ≡ Some x = at in cc
  alike_at (a ∷ xs) [] j x all at = absurd all
  alike_at (a ∷ xs) (b ∷ ys) zero x all at = let same : a ≡ x = cc in (b, refl, subst (λ (t : Task). Alike t b) same all.0)
  alike_at (a ∷ xs) (b ∷ ys) (suc j) x all at = alike_at xs ys j x all.1 at

  alike_from : (xs ys : List Task) (j : ℕ) (y : Task) → All xs ys → slice_get ys j ≡ Some y → (x : Task) × (slice_get xs j ≡ Some x) × Alike x y
  alike_from xs [] j y all at = let no : None ≡ Some y = at in cc
  alike_from [] (b ∷ ys) j y all at = absurd all
  alike_from (a ∷ xs) (b ∷ ys) zero y all at = let same : b ≡ y = cc in (a, refl, subst (λ (t : Task). Alike a t) same all.0)
  alike_from (a ∷ xs) (b ∷ ys) (suc j) y all at = alike_from xs ys j y all.1 at

  pub alike_set : (xs ys : List Task) (j : ℕ) (x y : Task) → All xs ys → Alike x y → All (slice_set xs j x) (slice_set ys j y)
  alike_set [] [] j x y all one = tt
  alike_set [] (b ∷ ys) j x y all one = absurd all
  alike_set (a ∷ xs) [] j x y all one = absurd all
  alike_set (a ∷ xs) (b ∷ ys) zero x y all one = (one, all.1)
  alike_set (a ∷ xs) (b ∷ ys) (suc j) x y all one = (all.0, alike_set xs ys j x y all.1 one)

  -- where all have ended, they are the same
  pub alike_ended : (xs ys : List Task) → All xs ys → HaveEnded xs → ys ≡ xs
  alike_ended [] [] all ended = refl
  alike_ended [] (y ∷ ys) all ended = absurd all
  alike_ended (x ∷ xs) [] all ended = absurd all
  alike_ended (x ∷ xs) (y ∷ ys) all ended =
      let end = ended 0 x refl in
      ap (λ (t : Task). t ∷ ys) (end_alike x y end.0 all.0 end.1) ∙ ap (λ (ts : List Task). x ∷ ts)
      (alike_ended xs ys all.1 (λ j task at. ended (suc j) task at))

  -- ---- jobs that are alike
  module _ (olds news : List Task) (all : All olds news) where
    pub at_back : (c j : ℕ) (task : Task) (state : Cpu) (left : ℕ) → IsAt news c j task (InHand state left)
        → (old : Task) × (was : Cpu) × IsAt olds c j old (InHand was left)
    at_back c j task state left at =
        let b = alike_from olds news j task all at.listed in
        let h = hand_back b.0 task state left b.2 at.at in
        (b.0, h.0, record { listed = b.1; of = sym (alike_cpu b.0 task b.2) ∙ at.of; at = h.1 })

    wait_back : (c j : ℕ) (task : Task) (input : Input) → IsAt news c j task (Waiting input) → IsAt olds c j task (Waiting input)
    wait_back c j task input at =
        let b = alike_from olds news j task all at.listed in
        record { listed = b.1 ∙ ap Some (sym (alike_wait b.0 task input b.2 at.at)); of = at.of; at = at.at }

    pub wait_now : (c j : ℕ) (task : Task) (input : Input) → IsAt olds c j task (Waiting input) → IsAt news c j task (Waiting input)
    wait_now c j task input at =
        let b = alike_at olds news j task all at.listed in
        record { listed = b.1 ∙ ap Some (wait_alike task b.0 input b.2 at.at); of = at.of; at = at.at }

    pub free_alike : (c : ℕ) → IsFree olds c → IsFree news c
    free_alike c free j task state left at = let b = at_back c j task state left at in free j b.0 b.1 left b.2

    pub waits_alike : (c : ℕ) → NoneWaits olds c → NoneWaits news c
    waits_alike c none j task input at = none j task input (wait_back c j task input at)

    pub below_alike : (c j : ℕ) → NoneWaitsBelow olds c j → NoneWaitsBelow news c j
    below_alike c j none k task input below at = none k task input below (wait_back c k task input at)

-- ---- to be alike is symmetric and transitive
module _ (equal : AlikeIsAnEquivalence) (programs : List Loaded) where
  one_back : (x y : Task) → IsAlike programs x y → IsAlike programs y x
  one_back x y (inl same) = inl (sym same)
  one_back x y (inr (program, state, left, other, loaded, there, is, alike)) =
      let whole : x ≡ record x { stage = InHand state left } = ap (λ (s : Stage). record x { stage = s }) there in
      inr (
        program,
        other,
        left,
        state,
        ap (λ (t : Task). slice_get programs t.program) is ∙ loaded,
        ap (λ (t : Task). t.stage) is,
        whole ∙ ap (λ (t : Task). record t { stage = InHand state left }) (sym is),
        subst (λ (t : Task). AreLike program other state) (sym is) (like_back program equal state other alike),
      )

  pub all_back : (xs ys : List Task) → AllAlike programs xs ys → AllAlike programs ys xs
  all_back [] [] all = tt
  all_back [] (y ∷ ys) all = absurd all
  all_back (x ∷ xs) [] all = absurd all
  all_back (x ∷ xs) (y ∷ ys) all = (one_back x y all.0, all_back xs ys all.1)

  one_again : (x y z : Task) → IsAlike programs x y → IsAlike programs y z → IsAlike programs x z
  one_again x y z (inl same) more = subst (λ (t : Task). IsAlike programs t z) same more
  one_again x y z (inr (program, state, left, other, loaded, there, is, alike)) more =
      let h = alike_hand equal programs y z other left more (ap (λ (t : Task). t.stage) is) in
      let here : slice_get programs y.program ≡ Some program = ap (λ (t : Task). slice_get programs t.program) is ∙ loaded in
      let onward : AreLike program other h.0 = subst (λ (t : Task). AreLike program other h.0) is (h.2 program here) in
      inr (
        program,
        state,
        left,
        h.0,
        loaded,
        there,
        h.1 ∙ ap (λ (t : Task). record t { stage = InHand h.0 left }) is,
        like_again program state other h.0 alike onward,
      )

  pub all_again : (xs ys zs : List Task) → AllAlike programs xs ys → AllAlike programs ys zs → AllAlike programs xs zs
  all_again [] [] [] a b = tt
  all_again [] [] (z ∷ zs) a b = absurd b
  all_again [] (y ∷ ys) zs a b = absurd a
  all_again (x ∷ xs) [] zs a b = absurd a
  all_again (x ∷ xs) (y ∷ ys) [] a b = absurd b
  all_again (x ∷ xs) (y ∷ ys) (z ∷ zs) a b = (one_again x y z a.0 b.0, all_again xs ys zs a.1 b.1)
